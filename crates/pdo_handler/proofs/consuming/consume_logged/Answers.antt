-- `pdo_handler::consuming::consume_logged` meets its contract: the dictionary is judged, then the call is made. Assumes nothing.
use mathlib.Core.Path.{sym, ◌∙◌}
use Rattle.pdo_handler.specs.Consume.{consume_of}
use Rattle.pdo_handler.proofs.consuming.consume_logged.Goals as goal

pub returns-then-not-well_formed : goal.returns-then-not-well_formed
unfolding consume_of
returns-then-not-well_formed c = simp (sym c.well_formed-2.ensures ∙ c.if-not-well_formed.true)
