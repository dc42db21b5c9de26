use Rattle.std.proofs.Common.{◌≡◌, ◌-◌, ◌*◌, ◌^◌, ◌<◌, take, drop}
use Rattle.lists.specs.Numbers.{number}
use Rattle.lists.proofs.each.Given as goal

-- the sum is the number of the bytes from i on, and fits in them
abbrev pub invariant-loop-i : goal.invariant-loop-i
invariant-loop-i l = (l.sum ≡ number (drop l.i (take l.n (drop l.at l.s)))) × (l.sum < 2 ^ (8 * (l.n - l.i)))
