use Rattle.std.proofs.Common.{◌≡◌, ◌-◌}
use Rattle.lists.specs.Lists.{over}
use Rattle.lists.specs.Numbers.{bytes_of}
use Rattle.lists.proofs.put_number.Given as goal

-- laying the rest of x from here on gives what laying x at the start does
abbrev pub invariant-loop-b : goal.invariant-loop-b
invariant-loop-b l = over l.b-items l.b-index (bytes_of (l.n - l.b-index) l.rest) ≡ over l.initial.b-items 0 (bytes_of l.n l.x)
