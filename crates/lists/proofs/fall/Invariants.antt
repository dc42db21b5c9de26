use Rattle.std.proofs.Common.{◌≡◌, ◌+◌, ◌-◌, ◌*◌}
use Rattle.lists.specs.Lists.{fallen}
use Rattle.lists.proofs.fall.Given as goal

-- what is still to fall, from here on, gives the same
abbrev pub invariant-loop-j : goal.invariant-loop-j
invariant-loop-j l = fallen l.d l.x l.n l.at l.initial.s ≡ fallen l.d l.x (l.n - l.j) (l.at + l.d * l.j) l.s
