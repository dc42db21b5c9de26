-- `events::records::fill` meets its contract: the records so far are those that the log's numbers say. Assumes nothing.
use native.Mathlib.Omega.{arith}
use Rattle.events.proofs.RecordLaws.{stored_more}
use Rattle.events.proofs.records.fill.Goals as goal

pub loop-i-preserved : goal.loop-i-preserved
loop-i-preserved c =
    let a = c.args in
    rw (c.loop-i.invariant, c.record_of.ensures) (stored_more a.log.now a.events.now c.loop-i.i (omega arith) (omega arith))
