-- `entry::put::put_value` meets its contract: a text's length and bytes, or a number. Assumes nothing.
use mathlib.Core.Path.{◌≡◌, sym, ap, ◌∙◌}
use mathlib.Core.Bool.{true, false}
use lib.ListN.{take, set}
use Rattle.lists.specs.Lists.{over}
use Rattle.lists.specs.Numbers.{number}
use Rattle.value.specs.Codec.{is_text, size_of}
use Rattle.value.proofs.CodecLaws.{size_le}
use Rattle.entry.specs.Table.{type_at}
use Rattle.entry.specs.Put.{contents}
use Rattle.entry.proofs.PutLaws.{put_text, put_fixed}
use native.Mathlib.Omega.{arith}
use Rattle.entry.proofs.put.put_value.Goals as goal
use Rattle.entry.proofs.put.put_value.Goals.{Then-is_text, Else-is_text}

texted : (c : Then-is_text) → is_text (type_at c.args.slots.now c.args.p) ≡ true
texted c = rw c.value_type-t.ensures at (sym c.is_text.ensures ∙ c.if-is_text.true)

untexted : (c : Else-is_text) → is_text (type_at c.args.slots.now c.args.p) ≡ false
untexted c = rw c.value_type-t.ensures at (sym c.is_text.ensures ∙ c.if-is_text.false)

pub lay-requires : goal.lay-requires
lay-requires c = omega (arith, c.start-start.ensures, c.requires.text (texted (goal.at.lay-requires c).Then-is_text))

pub number-requires : goal.number-requires
number-requires c =
    let s = c.size_of-n.ensures ∙ ap size_of c.value_type-t.ensures in
    (omega (arith, c.size_of-n.ensures, size_le c.value_type-t.result), omega (arith, s, c.requires.fixed (untexted (goal.at.number-requires c).Else-is_text)))

pub returns-then-is_text : goal.returns-then-is_text
returns-then-is_text c =
    let a = c.args in
    ap (contents _) (c.lay.ensures ∙ ap (λ n. over a.bytes.now n a.«data».now) c.start-start.ensures) ∙ sym (put_text a.slots.now (contents a.words.now a.bytes.now) a.p a.«data».now (texted (goal.at.returns-then-is_text c).Then-is_text))

pub returns-else-is_text : goal.returns-else-is_text
returns-else-is_text c =
    let a = c.args in
    let n = c.size_of-n.ensures ∙ ap size_of c.value_type-t.ensures in
    ap (λ w. contents (set a.words.now a.p w) a.bytes.now) (c.number.ensures ∙ ap (λ k. number (take k a.«data».now)) n)
    ∙ sym (put_fixed a.slots.now (contents a.words.now a.bytes.now) a.p a.«data».now (untexted (goal.at.returns-else-is_text c).Else-is_text))
