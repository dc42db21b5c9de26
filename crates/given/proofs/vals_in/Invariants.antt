-- `given::vals_in` meets its contract. The loop's invariant: what is judged from here on is what is judged of all. Assumes nothing.
use mathlib.Core.Path.{◌≡◌}
use Prim.Native.Nat.{◌≤◌, ◌-◌, ◌+◌, ◌*◌}
use lib.ListN.{length}
use Rattle.given.specs.Given.{vals_in}
use Rattle.given.proofs.vals_in.Given as goal

abbrev pub invariant-loop-j : goal.invariant-loop-j
invariant-loop-j l =
    (l.t ≤ length l.encodings)
    × (l.size ≤ 32 + 1490 * l.j)
    × (vals_in l.vals l.encodings l.count l.u 0 0 l.g ≡ vals_in l.vals l.encodings l.count (l.u - l.j) l.j l.t l.size)
