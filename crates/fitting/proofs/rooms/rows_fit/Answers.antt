-- `fitting::rooms::rows_fit` meets its contract: whether all rows fit is whether those from here on do. Assumes nothing.
use mathlib.Core.Path.{◌≡◌, refl, sym, ap, subst, ◌∙◌}
use mathlib.Core.Bool.{Bool, true, false, not, ◌&&◌, ◌||◌}
use mathlib.Core.List.{List}
use Prim.Native.Nat.{ℕ, ◌+◌, ◌-◌, ◌≤◌, ◌<◌}
use Rattle.entry.specs.Table.{Dict, number_of, index_at, count_at}
use Rattle.entry.proofs.ValueLaws.{rows_of, row_lies}
use Rattle.fitting.specs.Fit.{values_fit, restorable, rows_fit}
use Rattle.fitting.proofs.WalkLaws.{rows_fit_step, rows_fit_from, rows_fit_end, in_range_lem}
use Rattle.image.specs.Ranges.{Spans}
use Rattle.std.specs.declared.ops.Range.{Range}
use native.Mathlib.Omega.{arith}
use Rattle.fitting.proofs.rooms.rows_fit.Goals as goal
use Rattle.fitting.proofs.rooms.rows_fit.Goals.{then-restorable+else-not-values_fit, else-restorable}

module _ (d : Dict) (s : List ℕ) (first last : ℕ) (r : Range ℕ) (c : Spans d.objects first last r) (i : ℕ) (lo : r.start ≤ i) (hi : i < r.end)
    (e : rows_fit d s first last (number_of d.objects - i) i ≡ rows_fit d s first last (number_of d.objects) 0)
    (x : ℕ) (ix : x ≡ index_at d.objects i) (b : Bool) (q : b ≡ restorable x) where
  -- the whole, as this row and those behind it
  sofar : rows_fit d s first last (number_of d.objects) 0 ≡ ((not b || values_fit d s i (count_at d.objects i) 0) && rows_fit d s first last (number_of d.objects - (i + 1)) (i + 1))
  sofar =
      rw (in_range_lem c i b lo hi (q ∙ ap restorable ix)) (sym e ∙ rows_fit_step d s first last (number_of d.objects) i (omega (arith, c.high.within)))

  fails : b ≡ true → (f : Bool) → f ≡ values_fit d s i (count_at d.objects i) 0 → f ≡ false → false ≡ rows_fit d s first last (number_of d.objects) 0
  fails z f h g = sym (sofar ∙ rw (z, sym h ∙ g))

  goes-on : (not b || values_fit d s i (count_at d.objects i) 0) ≡ true → rows_fit d s first last (number_of d.objects - (i + 1)) (i + 1) ≡ rows_fit d s first last (number_of d.objects) 0
  goes-on z = sym (sofar ∙ rw z)

passes : (b v f : Bool) → b ≡ true → f ≡ v → f ≡ true → (not b || v) ≡ true
passes b v f e h g = rw (e, sym h ∙ g)

skips : (b v : Bool) → b ≡ false → (not b || v) ≡ true
skips b v e = rw e

seen : {d e : Dict} → d ≡ e → {first last : ℕ} {r : Range ℕ} → Spans d.objects first last r → Spans e.objects first last r
seen q {first} {last} {r} = subst (λ (m : Dict). Spans m.objects first last r) q

pub rows_in-rows-requires : goal.rows_in-rows-requires
rows_in-rows-requires c = rows_of _ c.d.invariant

pub loop-i-init : goal.loop-i-init
loop-i-init c =
    let r = seen c.d.view_is c.rows_in-rows.ensures in
    (r.low.within, refl, sym (rows_fit_from c.args.d.now c.args.stored.now c.args.first c.args.last r))

pub invariant_of-index : goal.invariant_of-index
invariant_of-index c =
    let r = row_lies _ c.d.invariant c.loop-i.i (omega (arith, c.loop-i-test.true, c.rows_in-rows.ensures.high.within)) in
    (r.small, r.inside)

pub returns-then-not-values_fit-clause-fits : goal.returns-then-not-values_fit-clause-fits
returns-then-not-values_fit-clause-fits c =
    let x = c.index.ensures ∙ ap (λ (m : Dict). index_at m.objects c.loop-i.i) c.d.view_is in
    fails c.args.d.now c.args.stored.now c.args.first c.args.last _ (seen c.d.view_is c.rows_in-rows.ensures) c.loop-i.i c.loop-i.auto.i c.loop-i-test.true c.loop-i.invariant.2 _ x _ c.restorable.ensures c.if-restorable.true _ (rw c.loop-i.invariant.1 at c.values_fit.ensures.fits) c.if-not-values_fit.true

pub loop-i-preserved : goal.loop-i-preserved
loop-i-preserved c =
    let d = c.args.d.now in
    let r = seen c.d.view_is c.rows_in-rows.ensures in
    let x = c.index.ensures ∙ ap (λ (m : Dict). index_at m.objects c.loop-i.i) c.d.view_is in
    let same : c.if-restorable.stored ≡ c.args.stored.now = elim c.if-restorable.branch [
      | then-restorable+else-not-values_fit w ↦ w.stored-is ∙ w.values_fit.ensures.image ∙ c.loop-i.invariant.1
      | else-restorable w ↦ w.stored-is ∙ c.loop-i.invariant.1
    ] in
    let fine : (not c.restorable.result || values_fit d c.args.stored.now c.loop-i.i (count_at d.objects c.loop-i.i) 0) ≡ true = elim c.if-restorable.branch [
      | then-restorable+else-not-values_fit w ↦ passes c.restorable.result _ _ w.if-restorable.true (rw c.loop-i.invariant.1 at w.values_fit.ensures.fits) w.if-not-values_fit.false
      | else-restorable w ↦ skips c.restorable.result _ w.if-restorable.false
    ] in
    (omega (arith, c.loop-i-test.true, r.high.within), same, goes-on d c.args.stored.now c.args.first c.args.last _ r c.loop-i.i c.loop-i.auto.i c.loop-i-test.true c.loop-i.invariant.2 _ x _ c.restorable.ensures fine)

pub returns-clause-fits : goal.returns-clause-fits
returns-clause-fits c =
    sym (rows_fit_end c.args.d.now c.args.stored.now c.args.first c.args.last (seen c.d.view_is c.rows_in-rows.ensures) c.loop-i.i (omega arith) c.loop-i.invariant.0) ∙ c.loop-i.invariant.2
