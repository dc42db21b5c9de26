-- `names::first_named` meets its contract. The loop's invariant: the walk over all rows finds what the walk from here finds. Assumes nothing.
use mathlib.Core.Path.{◌≡◌}
use Prim.Native.Nat.{◌-◌}
use Rattle.entry.specs.Table.{number_of}
use Rattle.names.specs.Names.{name_from}
use Rattle.names.proofs.first_named.Given as goal

abbrev pub invariant-loop-i : goal.invariant-loop-i
invariant-loop-i l = name_from l.d l.name (number_of l.d.objects) 0 ≡ name_from l.d l.name (number_of l.d.objects - l.i) l.i
