-- Rows that name the same objects are well-formed together, where what each has beside these keeps the rules.
-- Assumes nothing.
use Rattle.std.specs.Prelude.{Option, Some, None}
use Prim.Native.Nat.{ℕ, zero, suc, ◌+◌, ◌-◌, ◌<◌, ◌≤◌}
use mathlib.Core.Path.{◌≡◌, refl, ◌∙◌}
use mathlib.Core.Bool.{Bool, true, false, cond, ◌&&◌}
use mathlib.Core.List.{List}
use native.Mathlib.Omega.{arith}
use lib.Dec.{eqb, leb}
use lib.ListN.{length}
use Rattle.entry.specs.Table.{Dict, dict, number_of, values_of, used_of, row_place, slot_place, index_at, kind_at, access_at, count_at, first_at, name_at, name_len_at, default_at, extra_at}
use Rattle.entry.specs.Rules.{head_ok, extra_ok}
use Rattle.entry.specs.Judge.{slot_ok, slots_from, used_at, row_ok, row_fits, and_then, rows_from, reserved, header_ok, whole_at, well_formed}
use Rattle.entry.specs.Same.{SameRows}
use Rattle.entry.proofs.SameLaws.{index_same, kind-same, access_same, count_same, first_same, name_same, name_length-same, default_same}

-- rows b for the rows a
pub record Beside (a b : List ℕ) : Type 0 where
  pub long : length b ≡ length a
  pub values : values_of b ≡ values_of a
  pub bytes : used_of b ≡ used_of a
  pub rows : SameRows b a
  pub rest : reserved b ≡ true
  pub extra : (i : ℕ) → i < number_of a → extra_ok (count_at a i) (extra_at b i) ≡ true

and_then_lem : (p : Bool) {q r : Bool} → (q ≡ true → r ≡ true) → (p && q) ≡ true → (p && r) ≡ true
and_then_lem true f e = f e
and_then_lem false f e = e

module _ (d : Dict) (b : List ℕ) (h : Beside d.objects b) where
  abbrev a : List ℕ
  a = d.objects

  abbrev e : Dict
  e = dict b d.slots d.words d.bytes

  row_beside : (i v y low : ℕ) → i < number_of a → row_ok a i v y low ≡ true → row_ok b i v y low ≡ true
  unfolding row_ok
  row_beside i v y low l q =
      let s = h.rows in
      rw (index_same s i)
      (rw (kind-same s i)
      (rw (access_same s i)
      (rw (count_same s i)
      (rw (default_same s i)
      (rw (name_length-same s i)
      (rw (first_same s i)
      (rw (name_same s i)
      (and_then_lem (leb low (index_at a i))
      (and_then_lem (head_ok (index_at a i) (kind_at a i) (access_at a i) (count_at a i) (default_at a i) (name_len_at a i))
      (and_then_lem (eqb (first_at a i) v) (and_then_lem (eqb (name_at a i) y) (λ x. h.extra i l))))
      q))))))))

  fits_beside : (i v y : ℕ) → row_fits b d.bytes i v y ≡ row_fits a d.bytes i v y
  unfolding row_fits
  fits_beside i v y =
      let s = h.rows in
      rw (count_same s i) (rw (default_same s i) (rw (name_length-same s i) (rw h.values (rw h.bytes refl))))

  slot_beside : (n p y : ℕ) → slot_ok e n p y ≡ slot_ok d n p y
  unfolding slot_ok
  slot_beside n p y = rw h.bytes refl

  slots_beside : (n k p y : ℕ) → slots_from e n k p y ≡ slots_from d n k p y
  unfolding slots_from
  slots_beside n zero p y = refl
  slots_beside n (suc k) p y = rw (slot_beside n p y) (rw (slots_beside (n - 1) k (suc p) _) refl)

  abbrev behind : Dict → ℕ → ℕ → ℕ → ℕ → Option (ℕ × ℕ)
  behind x k i v m = rows_from x k (suc i) (v + used_at a i) m (index_at a i + 1)

  abbrev slots_at : ℕ → ℕ → ℕ → Option ℕ
  slots_at i v y = slots_from d (count_at a i) (used_at a i) v (y + name_len_at a i)

  row_again : (k i v y low v' y' : ℕ) → i < number_of a → ((m : ℕ) → behind d k i v m ≡ Some (v', y') → behind e k i v m ≡ Some (v', y'))
      → rows_from d (suc k) i v y low ≡ Some (v', y') → rows_from e (suc k) i v y low ≡ Some (v', y')
  unfolding rows_from
  row_again k i v y low v' y' l again q = row (row_ok a i v y low) refl q
    where
      onward : (u : Option ℕ) → and_then u (behind d k i v) ≡ Some (v', y') → and_then u (behind e k i v) ≡ Some (v', y')
      onward (Some m) q = again m q
      onward None q = q

      fits : (p : Bool) → row_fits a d.bytes i v y ≡ p → row_ok a i v y low ≡ true → cond p (and_then (slots_at i v y) (behind d k i v)) None ≡ Some (v', y') → rows_from e (suc k) i v y low ≡ Some (v', y')
      fits true f r q =
          let s = h.rows in
          rw (row_beside i v y low l r)
          (rw (fits_beside i v y ∙ f)
          (rw (count_same s i)
          (rw (default_same s i)
          (rw (name_length-same s i)
          (rw (index_same s i) (rw (slots_beside (count_at a i) (used_at a i) v (y + name_len_at a i)) (onward (slots_at i v y) q)))))))
      fits false f r q = let z : ◌≡◌ {A = ℕ} 0 1 = cc in absurd (omega arith)

      row : (p : Bool) → row_ok a i v y low ≡ p → cond p (cond (row_fits a d.bytes i v y) (and_then (slots_at i v y) (behind d k i v)) None) None ≡ Some (v', y') → rows_from e (suc k) i v y low ≡ Some (v', y')
      row true r q = fits (row_fits a d.bytes i v y) refl r q
      row false r q = let z : ◌≡◌ {A = ℕ} 0 1 = cc in absurd (omega arith)

  rows_beside : (k i v y low v' y' : ℕ) → i + k ≤ number_of a → rows_from d k i v y low ≡ Some (v', y') → rows_from e k i v y low ≡ Some (v', y')
  unfolding rows_from
  rows_beside zero i v y low v' y' l q = q
  rows_beside (suc k) i v y low v' y' l q =
      row_again k i v y low v' y' (omega (arith, l)) (λ m. rows_beside k (suc i) (v + used_at a i) m (index_at a i + 1) v' y' (omega (arith, l))) q

  header_beside : header_ok d ≡ true → header_ok e ≡ true
  unfolding header_ok
  header_beside q =
      rw h.rows.number
      (rw h.values
      (rw h.bytes
      (rw h.long
      (and_then_lem (leb (number_of a) 1024)
      (and_then_lem (leb (row_place (number_of a)) (length a))
      (and_then_lem (leb (values_of a) 6144)
      (and_then_lem (leb (slot_place (values_of a)) (length d.slots))
      (and_then_lem (leb (values_of a) (length d.words)) (and_then_lem (leb (used_of a) 32768) (and_then_lem (leb (used_of a) (length d.bytes)) (λ x. h.rest)))))))
      q))))

  -- ---- the theorem
  pub beside_well_formed : well_formed d ≡ true → well_formed e ≡ true
  unfolding well_formed
  beside_well_formed q = go (header_ok d) refl q
    where
      whole : (w : Option (ℕ × ℕ)) → rows_from d (number_of a) 0 0 0 0 ≡ w → whole_at (values_of a) (used_of a) w ≡ true → whole_at (values_of a) (used_of a) (rows_from e (number_of a) 0 0 0 0) ≡ true
      whole (Some n) f q = rw (rows_beside (number_of a) 0 0 0 0 n.0 n.1 (omega arith) f) q
      whole None f q = let z : ◌≡◌ {A = ℕ} 0 1 = cc in absurd (omega arith)

      go : (p : Bool) → header_ok d ≡ p → cond p (whole_at (values_of a) (used_of a) (rows_from d (number_of a) 0 0 0 0)) false ≡ true → well_formed e ≡ true
      go true f q =
          rw (header_beside f) (rw h.rows.number (rw h.values (rw h.bytes (whole (rows_from d (number_of a) 0 0 0 0) refl q))))
      go false f q = let z : ◌≡◌ {A = ℕ} 0 1 = cc in absurd (omega arith)
