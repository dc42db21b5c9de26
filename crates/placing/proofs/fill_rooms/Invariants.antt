-- `placing::fill_rooms` meets its contract. The loop's invariant: what is still to be laid, laid from here on, gives the same. Assumes nothing.
use mathlib.Core.Path.{◌≡◌}
use Prim.Native.Nat.{◌-◌, ◌+◌}
use Rattle.lists.specs.Lists.{over}
use Rattle.entry.specs.Model.{rooms}
use Rattle.given.specs.Given.{given, rooms_in, lengths_in, count_in}
use Rattle.placing.proofs.fill_rooms.Given as goal

abbrev pub invariant-loop-j : goal.invariant-loop-j
invariant-loop-j l =
    (l.p + rooms_in l.vals (count_in l.vals - l.j) l.j ≡ l.at + rooms_in l.vals (count_in l.vals) 0)
    × (l.t + lengths_in l.vals (count_in l.vals - l.j) l.j ≡ lengths_in l.vals (count_in l.vals) 0)
    × (over l.initial.bytes l.at (rooms (given l.vals l.encodings (count_in l.vals) 0 0)) ≡ over l.bytes l.p (rooms (given l.vals l.encodings (count_in l.vals - l.j) l.j l.t)))
