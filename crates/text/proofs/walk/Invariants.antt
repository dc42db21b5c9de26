-- `text::walk` meets its contract. The loop's invariant: the answer from here, in this state, is the answer from the start. Assumes nothing.
use Prim.Native.Nat.{◌≤◌, ◌<◌, ◌-◌}
use mathlib.Core.Path.{◌≡◌}
use mathlib.Core.List.{[]}
use lib.ListN.{length, drop}
use Rattle.text.specs.Machine.{judge_at}
use Rattle.text.specs.Tables.{asks}
use Rattle.text.proofs.walk.Given as goal

abbrev pub invariant-loop-i : goal.invariant-loop-i
invariant-loop-i l =
    (l.i ≤ length l.s) × (l.q < 8) × (judge_at l.i (asks l.q) (drop l.i l.s) ≡ judge_at l.from [] (drop l.from l.s))

abbrev pub decreases-loop-i : goal.decreases-loop-i
decreases-loop-i l = length l.s - l.i
