-- `restoring::acting::restore_rows`: what the rows from here on make of the dictionary as it is now is what all make of it as it was. Assumes nothing.
use mathlib.Core.Path.{◌≡◌}
use Prim.Native.Nat.{◌-◌, ◌≤◌}
use Rattle.lists.specs.Numbers.{Bytes}
use Rattle.entry.specs.Table.{number_of}
use Rattle.restoring.specs.Restore.{rows_restored}
use Rattle.restoring.specs.Restoring.{dict_of, Same}
use Rattle.restoring.proofs.RestoreLaws.{OnRows}
use Rattle.restoring.proofs.acting.restore_rows.Given as goal

abbrev pub invariant-loop-i : goal.invariant-loop-i
invariant-loop-i l =
    let d = dict_of l.d in
    let n = number_of l.initial.d.objects.now in
    (l.i ≤ n)
    × (l.stored ≡ l.fn.stored)
    × Same l.initial.d l.d
    × OnRows d l.fn.stored l.first l.last (n - l.i) l.i
    × (rows_restored d l.fn.stored l.first l.last (n - l.i) l.i ≡ rows_restored (dict_of l.initial.d) l.fn.stored l.first l.last n 0)
    × Bytes l.fn.stored
