-- `fitting::rooms::values_fit` meets its contract: whether all values fit is whether those from here on do. Assumes nothing.
use mathlib.Core.Path.{◌≡◌, sym, ap, ◌∙◌}
use mathlib.Core.Bool.{Bool, true, false, ◌&&◌}
use mathlib.Core.List.{List}
use Prim.Native.Nat.{ℕ, ◌+◌, ◌-◌, ◌<◌}
use Rattle.entry.specs.Table.{Dict, count_at}
use Rattle.entry.proofs.ValueLaws.{row_lies}
use Rattle.fitting.specs.Fit.{slot_in, chosen_at, fits_room, values_fit}
use Rattle.fitting.proofs.WalkLaws.{fit_step, fit_end}
use native.Mathlib.Omega.{arith}
use Rattle.fitting.proofs.rooms.values_fit.Goals as goal

counted : (d e : Dict) (s : List ℕ) (i n : ℕ) → d ≡ e → n ≡ count_at d.objects i → values_fit e s i n 0 ≡ values_fit e s i (count_at e.objects i) 0
counted d e s i n q h = ap (λ m. values_fit e s i m 0) (h ∙ ap (λ (m : Dict). count_at m.objects i) q)

-- the whole, as this value and those behind it
module _ (d : Dict) (s : List ℕ) (i n k : ℕ) (h : k < n) (e : values_fit d s i (n - k) k ≡ values_fit d s i n 0) (b : Bool) (q : b ≡ fits_room d s (slot_in d.objects i k) (chosen_at d s i k)) where
  sofar : values_fit d s i n 0 ≡ (b && values_fit d s i (n - (k + 1)) (k + 1))
  sofar = rw q (sym e ∙ fit_step d s i n k h)

  fails : b ≡ false → false ≡ values_fit d s i n 0
  fails z = sym (sofar ∙ rw z)

  goes-on : b ≡ true → values_fit d s i (n - (k + 1)) (k + 1) ≡ values_fit d s i n 0
  goes-on z = sym (sofar ∙ rw z)

pub invariant_of-count : goal.invariant_of-count
invariant_of-count c =
    let r = row_lies _ c.d.invariant c.args.i (rw (sym c.d.view_is) at c.requires) in
    (r.small, r.inside)

pub returns-then-not-value_fits-clause-fits : goal.returns-then-not-value_fits-clause-fits
returns-then-not-value_fits-clause-fits c =
    fails c.args.d.now c.args.stored.now c.args.i c.count-count.result c.loop-k.k c.loop-k-test.true c.loop-k.invariant.1 _ (rw c.loop-k.invariant.0 at c.value_fits.ensures.fits) c.if-not-value_fits.true
    ∙ counted _ _ c.args.stored.now c.args.i _ c.d.view_is c.count-count.ensures

pub loop-k-preserved : goal.loop-k-preserved
loop-k-preserved c =
    (c.value_fits.ensures.image ∙ c.loop-k.invariant.0, goes-on c.args.d.now c.args.stored.now c.args.i c.count-count.result c.loop-k.k c.loop-k-test.true c.loop-k.invariant.1 _ (rw c.loop-k.invariant.0 at c.value_fits.ensures.fits) c.if-not-value_fits.false)

pub returns-clause-fits : goal.returns-clause-fits
returns-clause-fits c =
    sym (fit_end c.args.d.now c.args.stored.now c.args.i c.count-count.result c.loop-k.k (omega arith))
    ∙ c.loop-k.invariant.1
    ∙ counted _ _ c.args.stored.now c.args.i _ c.d.view_is c.count-count.ensures
