-- each byte that was passed is one character
use Rattle.std.proofs.Common.{◌-◌, length}
use Rattle.text.specs.Machine.{Skipped}
use Rattle.text.proofs.ascii.Given as goal

abbrev pub invariant-loop-i : goal.invariant-loop-i
invariant-loop-i l = Skipped l.s l.from l.i

abbrev pub decreases-loop-i : goal.decreases-loop-i
decreases-loop-i l = length l.s - l.i
