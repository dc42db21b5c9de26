-- `channel::checking::first_fault` meets its contract: the first fault from here on is the first of all. Assumes nothing.
use mathlib.Core.Path.{◌≡◌}
use lib.ListN.{drop}
use Rattle.channel.specs.Check.{fault_from}
use Rattle.channel.proofs.checking.first_fault.Given as goal

abbrev pub invariant-loop-j : goal.invariant-loop-j
invariant-loop-j l = fault_from l.d.objects l.d.slots l.first (drop l.j l.list) l.j l.last ≡ fault_from l.d.objects l.d.slots l.first l.list 0 l.last
