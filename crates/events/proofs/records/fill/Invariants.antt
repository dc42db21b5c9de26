-- `events::records::fill` meets its contract: the records so far are those that the log's numbers say. Assumes nothing.
use mathlib.Core.Path.{◌≡◌}
use mathlib.Core.List.{◌++◌}
use lib.ListN.{drop}
use Rattle.events.specs.Receive.{records_of}
use Rattle.events.proofs.records.fill.Given as goal

abbrev pub invariant-loop-i : goal.invariant-loop-i
invariant-loop-i l = l.events ≡ records_of l.i l.log ++ drop l.i l.initial.events
