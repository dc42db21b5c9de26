-- `entry::lookup::find` meets its contract: the row that halving ends at has the index, or none has. Assumes nothing.
use mathlib.Core.Path.{sym, ◌∙◌}
use Rattle.entry.proofs.FindLaws.{lower_found, lower_none}
use native.Mathlib.Omega.{arith}
use Rattle.entry.proofs.lookup.find.Goals as goal

pub returns-then-number_of-r : goal.returns-then-number_of-r
returns-then-number_of-r c =
    sym (lower_none c.args.objects.now c.args.index _ c.lower-r.ensures (λ h. absurd (omega (arith, h, c.if-number_of-r.true, c.number_of.ensures))) c.requires.rises)

pub returns-then-index-x : goal.returns-then-index-x
returns-then-index-x c =
    sym (lower_none c.args.objects.now c.args.index _ c.lower-r.ensures (λ h q. c.if-index-x.true (c.index.ensures ∙ q)) c.requires.rises)

pub returns : goal.returns
returns c =
    sym (lower_found c.args.objects.now c.args.index _ c.lower-r.ensures (omega (arith, c.if-number_of-r.false, c.number_of.ensures)) (sym c.index.ensures ∙ c.if-index-x.false))
