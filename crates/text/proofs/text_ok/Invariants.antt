-- what was passed does not change the answer
use Rattle.std.proofs.Common.{◌-◌, length}
use Rattle.text.specs.Machine.{Skipped}
use Rattle.text.proofs.text_ok.Given as goal

abbrev pub invariant-loop-i : goal.invariant-loop-i
invariant-loop-i l = Skipped l.s 0 l.i

abbrev pub decreases-loop-i : goal.decreases-loop-i
decreases-loop-i l = length l.s - l.i
