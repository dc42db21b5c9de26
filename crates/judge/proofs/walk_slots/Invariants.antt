-- `judge::walk_slots` meets its contract. The loop's invariant: the walk over all slots as elements' gives what the walk from here gives.
-- Assumes nothing.
use mathlib.Core.Path.{◌≡◌}
use Prim.Native.Nat.{◌≤◌, ◌-◌, ◌+◌}
use Rattle.entry.specs.Table.{dict, used_of}
use Rattle.judge.proofs.SlotLaws.{plain_from}
use Rattle.judge.proofs.walk_slots.Given as goal

abbrev pub invariant-loop-p : goal.invariant-loop-p
invariant-loop-p l =
    (l.b ≤ used_of l.objects)
    × (plain_from (dict l.objects l.slots l.words l.bytes) l.k l.«from» l.start ≡ plain_from (dict l.objects l.slots l.words l.bytes) (l.«from» + l.k - l.p) l.p l.b)
