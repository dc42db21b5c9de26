-- `restoring::restore::restore_power_on_values` meets its contract: what is not well formed is refused, and the rest is the judged call's. Assumes nothing.
use mathlib.Core.Path.{sym, ◌∙◌}
use Rattle.restoring.specs.Restore.{restore_of}
use Rattle.restoring.proofs.restore.restore_power_on_values.Goals as goal

pub returns-then-not-well_formed : goal.returns-then-not-well_formed
unfolding restore_of
returns-then-not-well_formed c = simp (sym c.well_formed-2.ensures ∙ c.if-not-well_formed.true)
