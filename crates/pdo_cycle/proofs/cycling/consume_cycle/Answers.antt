-- `pdo_cycle::cycling::consume_cycle` meets its contract: the dictionary is judged, then the call is made. Assumes nothing.
use mathlib.Core.Path.{sym, ◌∙◌}
use Rattle.pdo_cycle.specs.Cycle.{cycle_of}
use Rattle.pdo_cycle.proofs.cycling.consume_cycle.Goals as goal

pub returns-then-not-well_formed : goal.returns-then-not-well_formed
unfolding cycle_of
returns-then-not-well_formed c = simp (sym c.well_formed-2.ensures ∙ c.if-not-well_formed.true)
