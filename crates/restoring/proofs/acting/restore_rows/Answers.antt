-- `restoring::acting::restore_rows` meets its contract: what the rows from here on make of the dictionary as it is now is what all make of it as it was. Assumes nothing.
use mathlib.Core.Path.{◌≡◌, refl, sym, ap, ◌∙◌, subst}
use mathlib.Core.Bool.{Bool, true, false, cond}
use mathlib.Core.List.{List}
use Prim.Native.Nat.{ℕ, ◌-◌, ◌≤◌, ◌<◌}
use Rattle.lists.specs.Numbers.{Bytes}
use Rattle.entry.specs.Table.{Dict, number_of, index_at, count_at}
use Rattle.entry.proofs.ValueLaws.{rows_of, row_lies}
use Rattle.image.specs.Ranges.{Spans}
use Rattle.std.specs.declared.ops.Range.{Range}
use Rattle.fitting.specs.Fit.{restorable, in_range}
use Rattle.fitting.proofs.WalkLaws.{rows_fit_from, in_range_lem}
use Rattle.restoring.specs.Restore.{values_restored}
use Rattle.restoring.specs.declared.restoring.Restoring.{Restoring}
use Rattle.restoring.specs.Restoring.{dict_of, Same}
use Rattle.restoring.proofs.RestoringLaws.{same_self, same_on}
use Rattle.restoring.proofs.RestoreLaws.{OnRows, row_restored}
use Rattle.restoring.proofs.WalkLaws.{row_of, row_on, row_put, rows_put_from, rows_put_end}
use native.Mathlib.Omega.{arith}
use Rattle.restoring.proofs.acting.restore_rows.Goals as goal
use Rattle.restoring.proofs.acting.restore_rows.Goals.{then-restorable, else-restorable}

listed : {objects : List ℕ} {first last : ℕ} {r : Range ℕ} → Spans objects first last r → (i : ℕ) → r.start ≤ i → i < r.end → (x : ℕ) (b : Bool) → x ≡ index_at objects i → b ≡ restorable x → b ≡ in_range first last (index_at objects i)
listed c i lo hi x b e q = in_range_lem c i b lo hi (q ∙ ap restorable e)

-- the rows are those before
spans : {d m : Restoring} {first last : ℕ} {r : Range ℕ} → Same d m → Spans d.objects.now first last r → Spans m.objects.now first last r
spans {first = x} {last = y} {r = r} s c = subst (λ l. Spans l x y r) (sym s.objects) c

-- the row's turn, or not
module _ (d : Dict) (s : List ℕ) (first last i : ℕ) (b : Bool) (q : b ≡ in_range first last (index_at d.objects i)) where
  put : b ≡ true → (x : Dict) → x ≡ values_restored d s i (count_at d.objects i) 0 → x ≡ row_restored d s first last i
  put e x h = h ∙ ap (λ b. cond b (values_restored d s i (count_at d.objects i) 0) d) (sym e ∙ q)

  stays : b ≡ false → d ≡ row_restored d s first last i
  stays e = ap (λ b. cond b (values_restored d s i (count_at d.objects i) 0) d) (sym e ∙ q)

pub rows_in-rows-requires : goal.rows_in-rows-requires
rows_in-rows-requires c = rows_of (dict_of c.args.d.now) c.args.d.now.judged

pub loop-i-init : goal.loop-i-init
loop-i-init c =
    let d = dict_of c.args.d.now in
    let r = c.rows_in-rows.ensures in
    let on : OnRows d c.args.stored.now c.args.first c.args.last (number_of c.args.d.now.objects.now - c.rows_in-rows.result.start) c.rows_in-rows.result.start =
    record {
      well = c.args.d.now.judged;
      bytes = c.args.d.now.sane;
      all = omega (arith, r.low.within);
      fits = sym (rows_fit_from d c.args.stored.now c.args.first c.args.last r) ∙ c.requires;
    } in
    (r.low.within, refl, same_self, on, sym (rows_put_from d c.args.stored.now c.args.first c.args.last r), rw (← c.stored.view_is) c.stored.invariant.2)

pub invariant_of-index : goal.invariant_of-index
invariant_of-index c =
    let l = c.loop-i in
    let r = row_lies (dict_of l.d) l.d.judged l.i (omega (arith, c.loop-i-test.true, (spans l.invariant.2 c.rows_in-rows.ensures).high.within)) in
    (r.small, r.inside)

pub restore_values-requires-clause-i_bound : goal.restore_values-requires-clause-i_bound
restore_values-requires-clause-i_bound c = omega (arith, c.loop-i-test.true, (spans c.loop-i.invariant.2 c.rows_in-rows.ensures).high.within)

pub restore_values-requires-clause-i_value : goal.restore_values-requires-clause-i_value
restore_values-requires-clause-i_value c =
    let a = c.args in
    let l = c.loop-i in
    let q = listed (spans l.invariant.2 c.rows_in-rows.ensures) l.i l.auto.i c.loop-i-test.true _ _ c.index.ensures c.restorable.ensures in
    rw l.invariant.1 (row_of _ a.stored.now a.first a.last (number_of a.d.now.objects.now) l.i (omega (arith, c.loop-i-test.true, c.rows_in-rows.ensures.high.within)) l.invariant.3 (sym q ∙ c.if-restorable.true)).fits

pub loop-i-preserved : goal.loop-i-preserved
loop-i-preserved c =
    let a = c.args in
    let l = c.loop-i in
    let s = a.stored.now in
    let n = number_of a.d.now.objects.now in
    let q = listed (spans l.invariant.2 c.rows_in-rows.ensures) l.i l.auto.i c.loop-i-test.true _ _ c.index.ensures c.restorable.ensures in
    let b : Bytes s = l.invariant.5 in
    let h : l.i < n = omega (arith, c.loop-i-test.true, c.rows_in-rows.ensures.high.within) in
    let held : c.if-restorable.stored ≡ s = elim c.if-restorable.branch [
      | then-restorable w ↦ w.stored-is ∙ w.restore_values.ensures.image ∙ l.invariant.1
      | else-restorable w ↦ w.stored-is ∙ l.invariant.1
    ] in
    let same : Same l.d c.if-restorable.d = elim c.if-restorable.branch [
      | then-restorable w ↦ subst (Same l.d) (sym w.d-is) w.restore_values.ensures.same
      | else-restorable w ↦ subst (Same l.d) (sym w.d-is) same_self
    ] in
    let restored : dict_of c.if-restorable.d ≡ row_restored (dict_of l.d) s a.first a.last l.i = elim c.if-restorable.branch [
      | then-restorable w ↦ ap dict_of w.d-is ∙ put (dict_of l.d) s a.first a.last l.i _ q w.if-restorable.true _ (rw l.invariant.1 at w.restore_values.ensures.held)
      | else-restorable w ↦ ap dict_of w.d-is ∙ stays (dict_of l.d) s a.first a.last l.i _ q w.if-restorable.false
    ] in (
      omega (arith, h),
      held,
      same_on l.invariant.2 same,
      row_on _ _ s a.first a.last n l.i b h l.invariant.3 restored,
      row_put _ _ s a.first a.last n l.i h restored ∙ l.invariant.4,
      b,
    )

pub returns-clause-held : goal.returns-clause-held
returns-clause-held c =
    let a = c.args in
    let l = c.loop-i in
    let m = ap number_of l.invariant.2.objects in
    sym (rw m at (rows_put_end (dict_of l.d) a.stored.now a.first a.last (spans l.invariant.2 c.rows_in-rows.ensures) l.i (omega arith) (omega (arith, l.invariant.0, m)))) ∙ l.invariant.4
