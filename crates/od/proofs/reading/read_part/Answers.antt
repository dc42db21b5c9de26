-- `od::reading::read_part` meets its contract. Assumes nothing.
use mathlib.Core.Path.{sym, ◌∙◌}
use Rattle.od.specs.Read.{read_of}
use Rattle.od.proofs.reading.read_part.Goals as goal

pub returns-then-not-well_formed : goal.returns-then-not-well_formed
unfolding read_of
returns-then-not-well_formed c = simp (sym c.well_formed-2.ensures ∙ c.if-not-well_formed.true)
