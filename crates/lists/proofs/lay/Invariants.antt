-- `lists::lay` meets its contract. The loop's invariant: what was passed is laid. Assumes nothing.
use Rattle.std.proofs.Common.{◌≡◌, take}
use Rattle.lists.specs.Lists.{over}
use Rattle.lists.proofs.lay.Given as goal

abbrev pub invariant-loop-j : goal.invariant-loop-j
invariant-loop-j g l = l.s ≡ over l.initial.s l.at (take l.j l.src)
