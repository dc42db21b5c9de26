-- `od::reading::read_judged` meets its contract. Assumes nothing.
use mathlib.Core.Path.{sym, ◌∙◌}
use Rattle.entry.proofs.ValueLaws.{rows_of}
use Rattle.od.specs.Read.{read_of}
use Rattle.od.proofs.reading.read_judged.Goals as goal

pub find-requires : goal.find-requires
find-requires c = rows_of _ c.d.invariant

pub returns-in_default : goal.returns-in_default
unfolding read_of
returns-in_default c = rw (sym c.d.view_is) (simp (c.d.invariant, sym c.find.ensures ∙ c.in_default.is))
