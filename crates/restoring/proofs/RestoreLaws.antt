-- The two walks, one turn at a time; and the result: it is well-formed, and all but the values of the range stays. Assumes nothing.
use Rattle.std.specs.Prelude.{Ok, Err}
use mathlib.Core.Path.{◌≡◌, refl, sym, ap, ◌∙◌, subst}
use mathlib.Core.Bool.{Bool, true, false, cond, ◌||◌, not}
use mathlib.Core.List.{List}
use Prim.Native.Nat.{ℕ, zero, suc, ◌+◌, ◌<◌, ◌≤◌}
use native.Mathlib.Omega.{arith}
use Rattle.lists.specs.Numbers.{Bytes}
use Rattle.entry.specs.Table.{Dict, number_of, index_at, count_at, first_at}
use Rattle.entry.specs.Judge.{well_formed}
use Rattle.entry.proofs.JudgeLaws.{and_true}
use Rattle.entry.proofs.ApartLaws.{firsts_rise}
use Rattle.fitting.specs.Fit.{slot_in, chosen_at, fits_room, values_fit, in_range, rows_fit}
use Rattle.restoring.specs.Restore.{restored_by, values_restored, rows_restored, after_restore, restore_of}
use Rattle.answers.specs.declared.Refusal.TheVariants.{TooLong}
use Rattle.restoring.proofs.OnlyLaws.{Only, only_same, only_more, only_then}
use Rattle.restoring.proofs.TurnLaws.{Kept, turn}
use Rattle.restoring.proofs.FitLaws.{values_stay, rows_stay}

-- ---- the values of a row
-- d may take what n values of row i get, from value k on
pub record On (d : Dict) (s : List ℕ) (i n k : ℕ) : Type 0 where
  pub well : well_formed d ≡ true
  pub bytes : Bytes d.bytes
  pub row : i < number_of d.objects
  pub all : k + n ≡ count_at d.objects i
  pub fits : values_fit d s i n k ≡ true

abbrev pub turned : Dict → List ℕ → ℕ → ℕ → Dict
turned d s i k = restored_by d s (slot_in d.objects i k) (chosen_at d s i k)

pub first_fits : (d : Dict) (s : List ℕ) (i n k : ℕ) → On d s i (suc n) k → fits_room d s (slot_in d.objects i k) (chosen_at d s i k) ≡ true
unfolding values_fit
first_fits d s i n k o = (and_true (fits_room d s (slot_in d.objects i k) (chosen_at d s i k)) _ o.fits).0

rest-fits : (d : Dict) (s : List ℕ) (i n k : ℕ) → On d s i (suc n) k → values_fit d s i n (suc k) ≡ true
unfolding values_fit
rest-fits d s i n k o = (and_true (fits_room d s (slot_in d.objects i k) (chosen_at d s i k)) _ o.fits).1

kept : (d : Dict) (s : List ℕ) (i n k : ℕ) → Bytes s → On d s i (suc n) k → Kept (λ q. q ≡ slot_in d.objects i k) d (turned d s i k)
kept d s i n k b o = turn d o.well s i k o.row (omega (arith, o.all)) b o.bytes (first_fits d s i n k o)

pub next : (d : Dict) (s : List ℕ) (i n k : ℕ) → Bytes s → On d s i (suc n) k → On (turned d s i k) s i n (suc k)
next d s i n k b o =
    let t = kept d s i n k b o in
    record {
      well = t.well;
      bytes = t.bytes;
      row = rw t.only.objects o.row;
      all = rw t.only.objects (omega (arith, o.all));
      fits = values_stay _ d (turned d s i k) o.well t.only s i o.row n (suc k) (omega (arith, o.all)) (λ q h e. absurd (omega arith)) ∙ rest-fits d s i n k o;
    }

-- the values of row i
abbrev pub OfRow : List ℕ → ℕ → ℕ → Type 0
OfRow objects i q = (first_at objects i ≤ q) × (q < first_at objects i + count_at objects i)

pub row_kept : (s : List ℕ) → Bytes s → (i n k : ℕ) (d : Dict) → On d s i n k → Kept (OfRow d.objects i) d (values_restored d s i n k)
unfolding values_restored
row_kept s b i zero k d o = record { well = o.well; bytes = o.bytes; only = only_same (OfRow d.objects i) d }
row_kept s b i (suc n) k d o =
    let t = kept d s i n k b o in
    let r = row_kept s b i n (suc k) (turned d s i k) (next d s i n k b o) in
    let u : Only (OfRow d.objects i) d (turned d s i k) = only_more _ (OfRow d.objects i) d (turned d s i k) (λ q e. (omega arith, omega (arith, o.all))) t.only in
    record {
      well = r.well;
      bytes = r.bytes;
      only = only_then (OfRow d.objects i) d (turned d s i k) _ u (subst (λ (l : List ℕ). Only (OfRow l i) (turned d s i k) (values_restored (turned d s i k) s i n (suc k))) t.only.objects r.only);
    }

-- ---- the rows
pub record OnRows (d : Dict) (s : List ℕ) (first last n i : ℕ) : Type 0 where
  pub well : well_formed d ≡ true
  pub bytes : Bytes d.bytes
  pub all : i + n ≡ number_of d.objects
  pub fits : rows_fit d s first last n i ≡ true

abbrev pub row_restored : Dict → List ℕ → ℕ → ℕ → ℕ → Dict
row_restored d s first last i = cond (in_range first last (index_at d.objects i)) (values_restored d s i (count_at d.objects i) 0) d

module _ (d : Dict) (s : List ℕ) (first last n i : ℕ) (o : OnRows d s first last (suc n) i) where
  abbrev x : ℕ
  x = index_at d.objects i

  row_or_not : (not (in_range first last x) || values_fit d s i (count_at d.objects i) 0) ≡ true
  unfolding rows_fit
  row_or_not = (and_true (not (in_range first last x) || values_fit d s i (count_at d.objects i) 0) _ o.fits).0

  behind : rows_fit d s first last n (suc i) ≡ true
  unfolding rows_fit
  behind = (and_true (not (in_range first last x) || values_fit d s i (count_at d.objects i) 0) _ o.fits).1

  pub on_row_lem : in_range first last x ≡ true → On d s i (count_at d.objects i) 0
  on_row_lem q = record { well = o.well; bytes = o.bytes; row = omega (arith, o.all); all = omega arith; fits = sym (ap (λ b. not b || values_fit d s i (count_at d.objects i) 0) q) ∙ row_or_not }

  row_kept_or_not : Bytes s → Kept (OfRow d.objects i) d (row_restored d s first last i)
  row_kept_or_not b = go (in_range first last x) refl
    where
      go : (a : Bool) → in_range first last x ≡ a → Kept (OfRow d.objects i) d (cond a (values_restored d s i (count_at d.objects i) 0) d)
      go true q = row_kept s b i (count_at d.objects i) 0 d (on_row_lem q)
      go false q = record { well = o.well; bytes = o.bytes; only = only_same (OfRow d.objects i) d }

  pub next_row : Bytes s → OnRows (row_restored d s first last i) s first last n (suc i)
  unfolding rows_fit
  next_row b =
      let t = row_kept_or_not b in
      record { well = t.well; bytes = t.bytes; all = rw t.only.objects (omega (arith, o.all)); fits = stay n o.all t ∙ behind }
    where
      stay : (m : ℕ) → i + suc m ≡ number_of d.objects → Kept (OfRow d.objects i) d (row_restored d s first last i) → rows_fit (row_restored d s first last i) s first last m (suc i) ≡ rows_fit d s first last m (suc i)
      stay zero l t = refl
      stay (suc m) l t =
          rows_stay (OfRow d.objects i) d (row_restored d s first last i) o.well t.only s first last (suc m) (suc i) (omega (arith, l))
          (λ q h p. absurd (omega (arith, h, p.1, firsts_rise d o.well i (suc i) (omega arith) (omega (arith, l)))))

-- the values of the objects of the range
pub record Touched (objects : List ℕ) (first last q : ℕ) : Type 0 where
  pub row : ℕ
  pub below : row < number_of objects
  pub listed : in_range first last (index_at objects row) ≡ true
  pub value : OfRow objects row q

pub rows_kept : (s : List ℕ) → Bytes s → (first last n i : ℕ) (d : Dict) → OnRows d s first last n i → Kept (Touched d.objects first last) d (rows_restored d s first last n i)
unfolding rows_restored
rows_kept s b first last zero i d o = record { well = o.well; bytes = o.bytes; only = only_same _ d }
rows_kept s b first last (suc n) i d o =
    let e = row_restored d s first last i in
    let r = rows_kept s b first last n (suc i) e (next_row d s first last n i o b) in
    let u = row_only (in_range first last (index_at d.objects i)) refl in
    record { well = r.well; bytes = r.bytes; only = only_then (Touched d.objects first last) d e _ u (subst (λ (l : List ℕ). Only (Touched l first last) e (rows_restored e s first last n (suc i))) u.objects r.only) }
  where
    row_only : (a : Bool) → in_range first last (index_at d.objects i) ≡ a → Only (Touched d.objects first last) d (cond a (values_restored d s i (count_at d.objects i) 0) d)
    row_only true q =
        only_more (OfRow d.objects i) (Touched d.objects first last) d (values_restored d s i (count_at d.objects i) 0) (λ p v. record { row = i; below = omega (arith, o.all); listed = q; value = v })
        (row_kept s b i (count_at d.objects i) 0 d (on_row_lem d s first last n i o q)).only
    row_only false q = only_same (Touched d.objects first last) d

-- ---- the theorem, whatever is answered
pub restore_keeps : (d : Dict) (s : List ℕ) (first last : ℕ) → well_formed d ≡ true → Bytes d.bytes → Bytes s → Kept (Touched d.objects first last) d (restore_of d s first last).memory
unfolding restore_of
restore_keeps d s first last e b bs = rw e (go (rows_fit d s first last (number_of d.objects) 0) refl)
  where
    go : (a : Bool) → rows_fit d s first last (number_of d.objects) 0 ≡ a → Kept (Touched d.objects first last) d (cond a (after_restore (Ok tt) (rows_restored d s first last (number_of d.objects) 0)) (after_restore (Err TooLong) d)).memory
    go true q = rows_kept s bs first last (number_of d.objects) 0 d (record { well = e; bytes = b; all = omega arith; fits = q })
    go false q = record { well = e; bytes = b; only = only_same (Touched d.objects first last) d }
