-- `fitting::rooms::rows_fit`: whether all rows fit is whether those from here on do. Assumes nothing.
use mathlib.Core.Path.{◌≡◌}
use Prim.Native.Nat.{◌-◌, ◌≤◌}
use Rattle.entry.specs.Table.{number_of}
use Rattle.fitting.specs.Fit.{rows_fit}
use Rattle.fitting.proofs.rooms.rows_fit.Given as goal

abbrev pub invariant-loop-i : goal.invariant-loop-i
invariant-loop-i l =
    (l.i ≤ number_of l.d.objects)
    × (l.stored ≡ l.fn.stored)
    × (rows_fit l.d l.fn.stored l.first l.last (number_of l.d.objects - l.i) l.i ≡ rows_fit l.d l.fn.stored l.first l.last (number_of l.d.objects) 0)
