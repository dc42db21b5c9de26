use Rattle.std.proofs.Common.{ℕ, ◌≡◌, ◌+◌, ◌-◌, ◌*◌, ◌≤◌, ◌<◌, get_or}
use Rattle.lists.specs.Lists.{grown}
use Rattle.lists.proofs.grow.Given as goal

-- what is still to grow is as it was, and gives the same from here on
abbrev pub invariant-loop-j : goal.invariant-loop-j
invariant-loop-j l =
    ((i : ℕ) → i < l.n → l.j ≤ i → get_or l.s (l.at + l.d * i) 0 ≡ get_or l.initial.s (l.at + l.d * i) 0)
    × (grown l.d l.x l.n l.at l.initial.s ≡ grown l.d l.x (l.n - l.j) (l.at + l.d * l.j) l.s)
