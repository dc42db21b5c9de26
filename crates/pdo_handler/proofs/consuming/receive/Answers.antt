-- `pdo_handler::consuming::receive` meets its contract: nothing happens where the payload is not ready. Assumes nothing.
use mathlib.Core.Path.{sym, ap, ◌∙◌}
use Rattle.pdo_step.specs.Receiving.{held_in}
use Rattle.pdo_run.specs.Run.{framed, finished}
use Rattle.pdo_handler.specs.Consume.{received_by}
use Rattle.pdo_run.proofs.RunLaws.{finished_none}
use Rattle.pdo_handler.proofs.consuming.receive.Goals as goal

pub returns-then-not-ready-clause-left : goal.returns-then-not-ready-clause-left
returns-then-not-ready-clause-left c =
    let a = c.args in
    let k = held_in a.d.now in
    sym (finished_none a.log.now 0 k)
    ∙ ap (λ r. finished (received_by (framed a.d.now a.payload.now) k a.payload.now.version r) a.log.now 0) (sym c.if-not-ready.true)
