-- The walks that put rows and values, one turn at a time. Assumes nothing.
use mathlib.Core.Path.{◌≡◌, sym}
use mathlib.Core.Bool.{true, false}
use mathlib.Core.List.{List}
use Prim.Native.Nat.{ℕ, suc, ◌+◌, ◌-◌, ◌<◌, ◌≤◌}
use native.Mathlib.Omega.{arith}
use Rattle.lists.specs.Numbers.{Bytes}
use Rattle.entry.specs.Table.{Dict, number_of, index_at, count_at}
use Rattle.image.specs.Ranges.{covers, Spans}
use Rattle.std.specs.declared.ops.Range.{Range}
use Rattle.image.proofs.RangeLaws.{walk_from, walk_end}
use Rattle.fitting.specs.Fit.{slot_in, chosen_at, fits_room, in_range}
use Rattle.restoring.specs.Restore.{values_restored, rows_restored}
use Rattle.restoring.proofs.RestoreLaws.{On, turned, first_fits, next, OnRows, row_restored, on_row_lem, next_row}

module _ (d : Dict) (s : List ℕ) where
  pub put_step : (i n k : ℕ) → k < n → values_restored d s i (n - k) k ≡ values_restored (turned d s i k) s i (n - (k + 1)) (k + 1)
  unfolding values_restored
  put_step i n k h =
      let e : n - k ≡ suc (n - (k + 1)) = omega arith in
      let q : k + 1 ≡ suc k = omega arith in
      rw (e, q)

  pub put_end : (i n k : ℕ) → n ≤ k → values_restored d s i (n - k) k ≡ d
  unfolding values_restored
  put_end i n k h = let e : n - k ≡ 0 = omega arith in rw e

  module _ (first last : ℕ) where
    pub rows_put_step : (n i : ℕ) → i < n → rows_restored d s first last (n - i) i ≡ rows_restored (row_restored d s first last i) s first last (n - (i + 1)) (i + 1)
    unfolding rows_restored
    rows_put_step n i h =
        let e : n - i ≡ suc (n - (i + 1)) = omega arith in
        let q : i + 1 ≡ suc i = omega arith in
        rw (e, q)

    -- a row outside the range stays
    skip : (n i : ℕ) → covers first last (index_at d.objects i) ≡ false → rows_restored d s first last (suc n) i ≡ rows_restored d s first last n (suc i)
    unfolding rows_restored
    skip n i e = rw e

    -- ---- the rows of the range
    module _ {r : Range ℕ} (c : Spans d.objects first last r) where
      pub rows_put_from : rows_restored d s first last (number_of d.objects) 0 ≡ rows_restored d s first last (number_of d.objects - r.start) r.start
      rows_put_from = walk_from c (rows_restored d s first last) skip

      pub rows_put_end : (i : ℕ) → r.end ≤ i → i ≤ number_of d.objects → rows_restored d s first last (number_of d.objects - i) i ≡ d
      unfolding rows_restored
      rows_put_end i h k = walk_end c (rows_restored d s first last) skip i h k

-- ---- a dictionary that has had its turn goes on
pub first_of : (d : Dict) (s : List ℕ) (i n k : ℕ) → k < n → On d s i (n - k) k → fits_room d s (slot_in d.objects i k) (chosen_at d s i k) ≡ true
first_of d s i n k h o = let e : n - k ≡ suc (n - (k + 1)) = omega arith in first_fits d s i (n - (k + 1)) k (rw e at o)

pub turn_on : (d x : Dict) (s : List ℕ) (i n k : ℕ) → Bytes s → k < n → On d s i (n - k) k → x ≡ turned d s i k → On x s i (n - (k + 1)) (k + 1)
turn_on d x s i n k b h o q =
    let e : n - k ≡ suc (n - (k + 1)) = omega arith in
    let f : k + 1 ≡ suc k = omega arith in
    rw (q, f) (next d s i (n - suc k) k b (rw (e, f) at o))

pub turn_put : (d x : Dict) (s : List ℕ) (i n k : ℕ) → k < n → x ≡ turned d s i k → values_restored x s i (n - (k + 1)) (k + 1) ≡ values_restored d s i (n - k) k
turn_put d x s i n k h q = rw q (sym (put_step d s i n k h))

pub row_of : (d : Dict) (s : List ℕ) (first last n i : ℕ) → i < n → OnRows d s first last (n - i) i → in_range first last (index_at d.objects i) ≡ true → On d s i (count_at d.objects i) 0
row_of d s first last n i h o q = let e : n - i ≡ suc (n - (i + 1)) = omega arith in on_row_lem d s first last (n - (i + 1)) i (rw e at o) q

pub row_on : (d x : Dict) (s : List ℕ) (first last n i : ℕ) → Bytes s → i < n → OnRows d s first last (n - i) i → x ≡ row_restored d s first last i → OnRows x s first last (n - (i + 1)) (i + 1)
row_on d x s first last n i b h o q =
    let e : n - i ≡ suc (n - (i + 1)) = omega arith in
    let f : i + 1 ≡ suc i = omega arith in
    rw (q, f) (next_row d s first last (n - suc i) i (rw (e, f) at o) b)

pub row_put : (d x : Dict) (s : List ℕ) (first last n i : ℕ) → i < n → x ≡ row_restored d s first last i → rows_restored x s first last (n - (i + 1)) (i + 1) ≡ rows_restored d s first last (n - i) i
row_put d x s first last n i h q = rw q (sym (rows_put_step d s first last n i h))
