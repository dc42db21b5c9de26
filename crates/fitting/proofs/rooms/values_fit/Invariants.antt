-- `fitting::rooms::values_fit`: whether all values fit is whether those from here on do. Assumes nothing.
use mathlib.Core.Path.{◌≡◌}
use Prim.Native.Nat.{◌-◌}
use Rattle.fitting.specs.Fit.{values_fit}
use Rattle.fitting.proofs.rooms.values_fit.Given as goal

abbrev pub invariant-loop-k : goal.invariant-loop-k
invariant-loop-k l =
    (l.stored ≡ l.fn.stored) × (values_fit l.d l.fn.stored l.i (l.count - l.k) l.k ≡ values_fit l.d l.fn.stored l.i l.count 0)
