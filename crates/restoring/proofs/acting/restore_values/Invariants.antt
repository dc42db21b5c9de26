-- `restoring::acting::restore_values`: what the values from here on make of the dictionary as it is now is what all make of it as it was. Assumes nothing.
use mathlib.Core.Path.{◌≡◌}
use Prim.Native.Nat.{◌-◌}
use Rattle.lists.specs.Numbers.{Bytes}
use Rattle.restoring.specs.Restore.{values_restored}
use Rattle.restoring.specs.Restoring.{dict_of, Same}
use Rattle.restoring.proofs.RestoreLaws.{On}
use Rattle.restoring.proofs.acting.restore_values.Given as goal

abbrev pub invariant-loop-k : goal.invariant-loop-k
invariant-loop-k l =
    let d = dict_of l.d in
    (l.stored ≡ l.fn.stored)
    × Same l.initial.d l.d
    × On d l.fn.stored l.i (l.count - l.k) l.k
    × (values_restored d l.fn.stored l.i (l.count - l.k) l.k ≡ values_restored (dict_of l.initial.d) l.fn.stored l.i l.count 0)
    × Bytes l.fn.stored
