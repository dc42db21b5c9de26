-- `image::heads_ok` meets its contract. The loop's invariant: what the test says from here on is what it says of all records.
-- Assumes nothing.
use mathlib.Core.Path.{◌≡◌}
use Prim.Native.Nat.{◌+◌, ◌*◌, ◌≤◌}
use Rattle.image.specs.Readable.{heads_ok}
use Rattle.image.proofs.ReadLaws.{onward}
use Rattle.image.proofs.heads_ok.Given as goal

abbrev pub invariant-loop-k : goal.invariant-loop-k
invariant-loop-k l =
    (l.sum ≤ 16384) × (heads_ok l.s l.count 2 (2 + 8 * l.count) 0 0 ≡ onward l.s l.count (2 + 8 * l.count) l.k l.sum l.low)
