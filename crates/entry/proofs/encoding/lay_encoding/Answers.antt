-- `entry::encoding::lay_encoding` meets its contract: a string's bytes, or a number's. Assumes nothing.
use mathlib.Core.Path.{◌≡◌, sym, ap, ◌∙◌}
use mathlib.Core.Bool.{true, false}
use Prim.Native.Nat.{◌+◌, ◌-◌, ◌≤◌}
use lib.ListN.{length, take, drop, get_or}
use Rattle.lists.specs.Lists.{over}
use Rattle.lists.specs.Numbers.{bytes_of}
use Rattle.lists.proofs.NumberLaws.{length-bytes_of}
use Rattle.value.specs.Codec.{is_text, size_of}
use Rattle.entry.specs.Table.{type_at}
use Rattle.entry.specs.Encode.{encoding_in}
use Rattle.entry.proofs.EncodeLaws.{laid_text, laid_fixed}
use native.Mathlib.Omega.{arith}
use Rattle.entry.proofs.encoding.lay_encoding.Goals as goal
use Rattle.entry.proofs.encoding.lay_encoding.Goals.{After-start-start, After-size_of-n}

texted : (c : After-start-start) → is_text (type_at c.args.slots.now c.args.p) ≡ true
texted c = rw c.value_type-t.ensures at (sym c.is_text.ensures ∙ c.if-is_text.true)

untexted : (c : After-size_of-n) → is_text (type_at c.args.slots.now c.args.p) ≡ false
untexted c = rw c.value_type-t.ensures at (sym c.is_text.ensures ∙ c.if-is_text.false)

-- the string lies within the bytes
inside : (c : After-start-start) → c.start-start.result + get_or c.args.words.now c.args.p 0 ≤ length c.args.bytes.now
inside c = omega (arith, c.start-start.ensures, c.requires.text (texted c))

string : (c : After-start-start) → let a = c.args in
    let w = get_or a.words.now a.p 0 in
    take ((c.start-start.result + w) - c.start-start.result) (drop c.start-start.result a.bytes.now) ≡ encoding_in a.slots.now a.words.now a.bytes.now a.p
string c =
    let a = c.args in
    let w = get_or a.words.now a.p 0 in
    laid_text a.slots.now a.words.now a.bytes.now a.p c.start-start.result ((c.start-start.result + w) - c.start-start.result) (texted c) c.start-start.ensures (omega arith)

number : (c : After-size_of-n) → let a = c.args in bytes_of c.size_of-n.result (get_or a.words.now a.p 0) ≡ encoding_in a.slots.now a.words.now a.bytes.now a.p
number c =
    let a = c.args in
    laid_fixed a.slots.now a.words.now a.bytes.now a.p c.size_of-n.result (untexted c) (c.size_of-n.ensures ∙ ap size_of c.value_type-t.ensures)

pub overflow_add-end : goal.overflow_add-end
overflow_add-end c = omega (arith, inside (goal.at.overflow_add-end c).After-start-start)

pub slice_bounds-lay-end : goal.slice_bounds-lay-end
slice_bounds-lay-end c = omega (arith, inside (goal.at.slice_bounds-lay-end c).After-start-start)

pub lay-requires : goal.lay-requires
lay-requires c = omega (arith, ap length (string (goal.at.lay-requires c).After-start-start), c.requires.room)

pub put_number-requires : goal.put_number-requires
put_number-requires c =
    let n = (goal.at.put_number-requires c).After-size_of-n in
    omega (arith, ap length (number n), length-bytes_of n.size_of-n.result (get_or c.args.words.now c.args.p 0), c.requires.room)

pub returns-then-is_text : goal.returns-then-is_text
returns-then-is_text c = c.lay.ensures ∙ ap (over c.args.out.now c.args.at) (string (goal.at.returns-then-is_text c).After-start-start)

pub returns-else-is_text : goal.returns-else-is_text
returns-else-is_text c = c.put_number.ensures ∙ ap (over c.args.out.now c.args.at) (number (goal.at.returns-else-is_text c).After-size_of-n)
