-- `pdo_handler::errors::update_pdo_error_object_judged` meets its contract: the bit is set. Assumes nothing.
use Rattle.std.specs.Prelude.{Ok}
use mathlib.Core.Path.{sym, ap, ◌∙◌}
use Rattle.pdo_handler.specs.Errors.{after_update, update_of}
use Rattle.pdo_handler.proofs.errors.update_pdo_error_object_judged.Goals as goal

pub returns : goal.returns
unfolding update_of
returns c =
    ap (after_update (Ok tt)) c.set_bit.ensures ∙ sym (simp c.requires)
