-- `restoring::acting::put_default` meets its contract: its word, and the bytes of a string. Assumes nothing.
use mathlib.Core.Path.{sym, ap, ap₂, ◌∙◌}
use Prim.Native.Nat.{◌+◌}
use lib.ListN.{get_or}
use lib.Seq.{slice}
use Rattle.lists.specs.Lists.{over}
use Rattle.entry.specs.Put.{contents}
use Rattle.restoring.proofs.CopyLaws.{copied_text, copied_fixed}
use Rattle.restoring.proofs.acting.put_default.Goals as goal

pub returns-then-is_text-clause-held : goal.returns-then-is_text-clause-held
returns-then-is_text-clause-held c =
    let w = get_or c.args.words.now c.args.q 0 in
    let x = rw c.value_type-t.ensures at (sym c.is_text.ensures ∙ c.if-is_text.true) in
    ap (contents _) (c.move_down.ensures ∙ ap₂ (λ x y. over c.args.bytes.now x (slice y (y + w) c.args.bytes.now)) c.start-to.ensures c.start-from.ensures)
    ∙ copied_text c.args.slots.now c.args.words.now c.args.bytes.now c.args.p c.args.q c.requires x

pub returns-else-is_text-clause-held : goal.returns-else-is_text-clause-held
returns-else-is_text-clause-held c =
    copied_fixed c.args.slots.now c.args.words.now c.args.bytes.now c.args.p c.args.q c.requires (rw c.value_type-t.ensures at (sym c.is_text.ensures ∙ c.if-is_text.false))
