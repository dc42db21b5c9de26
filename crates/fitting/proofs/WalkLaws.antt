-- The walks that judge rows and values, one turn at a time. Assumes nothing.
use mathlib.Core.Path.{◌≡◌}
use mathlib.Core.Bool.{Bool, true, false, not, ◌&&◌, ◌||◌}
use mathlib.Core.List.{List}
use Prim.Native.Nat.{ℕ, suc, ◌+◌, ◌-◌, ◌<◌, ◌≤◌}
use native.Mathlib.Omega.{arith}
use Rattle.entry.specs.Table.{Dict, number_of, index_at, count_at}
use Rattle.image.specs.Ranges.{covers, Spans}
use Rattle.std.specs.declared.ops.Range.{Range}
use Rattle.image.proofs.RangeLaws.{row_covered, walk_from, walk_end}
use Rattle.fitting.specs.Fit.{slot_in, chosen_at, fits_room, values_fit, restorable, in_range, rows_fit}

module _ (d : Dict) (s : List ℕ) where
  pub fit_step : (i n k : ℕ) → k < n → values_fit d s i (n - k) k ≡ (fits_room d s (slot_in d.objects i k) (chosen_at d s i k) && values_fit d s i (n - (k + 1)) (k + 1))
  unfolding values_fit
  fit_step i n k h =
      let e : n - k ≡ suc (n - (k + 1)) = omega arith in
      let q : k + 1 ≡ suc k = omega arith in
      rw (e, q)

  pub fit_end : (i n k : ℕ) → n ≤ k → values_fit d s i (n - k) k ≡ true
  unfolding values_fit
  fit_end i n k h = let e : n - k ≡ 0 = omega arith in rw e

  module _ (first last : ℕ) where
    pub rows_fit_step : (n i : ℕ) → i < n → rows_fit d s first last (n - i) i ≡ ((not (in_range first last (index_at d.objects i)) || values_fit d s i (count_at d.objects i) 0) && rows_fit d s first last (n - (i + 1)) (i + 1))
    unfolding rows_fit
    rows_fit_step n i h =
        let e : n - i ≡ suc (n - (i + 1)) = omega arith in
        let q : i + 1 ≡ suc i = omega arith in
        rw (e, q)

    -- a row outside the range is not judged
    skip : (n i : ℕ) → covers first last (index_at d.objects i) ≡ false → rows_fit d s first last (suc n) i ≡ rows_fit d s first last n (suc i)
    unfolding rows_fit
    skip n i e = rw e

    -- ---- the rows of the range
    module _ {r : Range ℕ} (c : Spans d.objects first last r) where
      pub rows_fit_from : rows_fit d s first last (number_of d.objects) 0 ≡ rows_fit d s first last (number_of d.objects - r.start) r.start
      rows_fit_from = walk_from c (rows_fit d s first last) skip

      pub rows_fit_end : (i : ℕ) → r.end ≤ i → i ≤ number_of d.objects → rows_fit d s first last (number_of d.objects - i) i ≡ true
      unfolding rows_fit
      rows_fit_end i h k = walk_end c (rows_fit d s first last) skip i h k

-- which of them are restored
pub in_range_lem : {objects : List ℕ} {first last : ℕ} {r : Range ℕ} → Spans objects first last r → (i : ℕ) (b : Bool) → r.start ≤ i → i < r.end → b ≡ restorable (index_at objects i) → b ≡ in_range first last (index_at objects i)
in_range_lem c i b h k q = rw (row_covered c i h k) q
