-- `entry::lookup::lower` meets its contract: rows before the part that is left are below, and rows behind it are not. Assumes nothing.
use Prim.Native.Nat.{ℕ, ◌-◌, ◌<◌, ◌≤◌}
use Rattle.entry.specs.Table.{number_of, index_at}
use Rattle.entry.proofs.lookup.lower.Given as goal

abbrev pub invariant-loop-low : goal.invariant-loop-low
invariant-loop-low l =
    (l.low ≤ l.high)
    × (l.high ≤ number_of l.objects)
    × ((i : ℕ) → i < l.low → index_at l.objects i < l.x)
    × ((i : ℕ) → l.high ≤ i → i < number_of l.objects → l.x ≤ index_at l.objects i)

abbrev pub decreases-loop-low : goal.decreases-loop-low
decreases-loop-low l = l.high - l.low
