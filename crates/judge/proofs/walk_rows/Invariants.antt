-- `judge::walk_rows` meets its contract. The loop's invariant: the walk over all rows gives what the walk from here gives. Assumes nothing.
use mathlib.Core.Path.{◌≡◌}
use Prim.Native.Nat.{◌≤◌, ◌-◌}
use Rattle.entry.specs.Table.{dict, number_of, values_of, used_of}
use Rattle.entry.specs.Judge.{rows_from}
use Rattle.judge.proofs.walk_rows.Given as goal

abbrev pub invariant-loop-i : goal.invariant-loop-i
invariant-loop-i l =
    (l.v ≤ values_of l.objects)
    × (l.b ≤ used_of l.objects)
    × (rows_from (dict l.objects l.slots l.words l.bytes) (number_of l.objects) 0 0 0 0 ≡ rows_from (dict l.objects l.slots l.words l.bytes) (number_of l.objects - l.i) l.i l.v l.b l.low)
