-- `event::records::may_have` meets its contract: the same tests. Assumes nothing.
use mathlib.Core.Path.{refl}
use Rattle.event.specs.Record.{may_have}
use Rattle.event.proofs.records.may_have.Goals as goal

pub returns : goal.returns
unfolding may_have
returns c = refl
