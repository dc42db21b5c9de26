-- `pdo_handler::consuming::consume_logged_judged` meets its contract: each way out is a case of the definition. Assumes nothing.
use mathlib.Core.Path.{sym, ap, ◌∙◌}
use lib.ListN.{length}
use native.Mathlib.Omega.{arith}
use borrow.Author.Tests.{lt-ltb, le-ltb}
use Rattle.pdo_handler.specs.Consume.{consume_done, consume_of}
use Rattle.pdo_handler.proofs.consuming.consume_logged_judged.Goals as goal

pub returns-then-room-lt254-clause-left : goal.returns-then-room-lt254-clause-left
unfolding consume_of
returns-then-room-lt254-clause-left c = simp (c.args.d.now.judged, lt-ltb c.args.room 254 (omega arith))

pub returns-then-payload-gt1490-clause-left : goal.returns-then-payload-gt1490-clause-left
unfolding consume_of
returns-then-payload-gt1490-clause-left c = simp (c.args.d.now.judged, le-ltb c.args.room 254 (omega arith), lt-ltb 1490 (length c.args.payload.now) (omega arith))

pub receive-requires : goal.receive-requires
receive-requires c = c.requires (omega arith)

pub returns-clause-left : goal.returns-clause-left
unfolding consume_of
returns-clause-left c =
    ap consume_done c.receive.ensures.left
    ∙ sym (simp (c.args.d.now.judged, le-ltb c.args.room 254 (omega arith), le-ltb 1490 (length c.args.payload.now) (omega arith)))
