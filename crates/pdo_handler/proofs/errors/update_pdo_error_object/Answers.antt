-- `pdo_handler::errors::update_pdo_error_object` meets its contract: the dictionary is judged, then the call is made. Assumes nothing.
use mathlib.Core.Path.{sym, ◌∙◌}
use Rattle.pdo_handler.specs.Errors.{update_of}
use Rattle.pdo_handler.proofs.errors.update_pdo_error_object.Goals as goal

pub returns-then-not-well_formed : goal.returns-then-not-well_formed
unfolding update_of
returns-then-not-well_formed c = simp (sym c.well_formed-2.ensures ∙ c.if-not-well_formed.true)

pub update_pdo_error_object_judged-requires : goal.update_pdo_error_object_judged-requires
update_pdo_error_object_judged-requires c = sym c.well_formed-2.ensures ∙ c.if-not-well_formed.false
