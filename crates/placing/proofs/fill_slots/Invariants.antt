-- `placing::fill_slots` meets its contract. The loop's invariant: what is still to be laid, laid from here on, gives the same. Assumes nothing.
use mathlib.Core.Path.{◌≡◌}
use Prim.Native.Nat.{◌-◌, ◌+◌, ◌*◌}
use Rattle.lists.specs.Lists.{over}
use Rattle.given.specs.Given.{rooms_in, slots_in}
use Rattle.placing.proofs.fill_slots.Given as goal

abbrev pub invariant-loop-j : goal.invariant-loop-j
invariant-loop-j l =
    (l.start + rooms_in l.vals (l.u - l.j) l.j ≡ l.b + rooms_in l.vals l.u 0)
    × (over l.initial.slots (3 * l.v) (slots_in l.vals l.u 0 l.b) ≡ over l.slots (3 * (l.v + l.j)) (slots_in l.vals (l.u - l.j) l.j l.start))
