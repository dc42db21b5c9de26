-- `tables::tally::run` is safe and ends. Assumes nothing.
use Rattle.std.proofs.Common.{length}
use Rattle.tables.proofs.tally.run.Given as goal

abbrev pub decreases-loop-kind : goal.decreases-loop-kind
decreases-loop-kind l = length l.rest
