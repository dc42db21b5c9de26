-- What a save offers and what a restore puts, on rows that are alike.
-- Assumes nothing.
use Rattle.std.specs.Prelude.{Option, Some, None}
use Prim.Native.Nat.{ℕ, zero, suc}
use mathlib.Core.Path.{◌≡◌, refl, ap, ◌∙◌}
use mathlib.Core.Bool.{Bool, true, false, cond}
use mathlib.Core.List.{List}
use Rattle.entry.specs.Table.{Dict, dict, number_of, index_at, count_at}
use Rattle.image.specs.Image.{to_store, offers, recs_in, offered_from, offered_in}
use Rattle.fitting.specs.Fit.{slot_in, key_at, choice_of, chosen_at, fits_room, values_fit, in_range, rows_fit}
use Rattle.fitting.specs.Records.{record_of}
use Rattle.fitting.specs.declared.Choice.{Choice}
use Rattle.fitting.specs.declared.Choice.TheVariants.{Keep, Stored, Default}
use Rattle.restoring.specs.Restore.{restored_by, values_restored, rows_restored}
use Rattle.ranges.specs.Alike.{Alike, rowed}
use Rattle.entry.proofs.SameLaws.{index_same, kind-same, access_same, count_same, first_same, default_same}

-- ---- a save
offers-same : {a b : List ℕ} → Alike a b → (first last i : ℕ) → offers a first last i ≡ offers b first last i
unfolding offers to_store
offers-same h first last i = rw (index_same h.rows i) (rw (access_same h.rows i) (rw (count_same h.rows i) refl))

records-same : {a b : List ℕ} → Alike a b → (s w y : List ℕ) (i n k : ℕ) → recs_in (dict a s w y) i n k ≡ recs_in (dict b s w y) i n k
unfolding recs_in
records-same h s w y i zero k = refl
records-same h s w y i (suc n) k = rw (index_same h.rows i) (rw (kind-same h.rows i) (rw (first_same h.rows i) (rw (records-same h s w y i n (suc k)) refl)))

from_offered : {a b : List ℕ} → Alike a b → (s w y : List ℕ) (first last n i : ℕ) → offered_from (dict a s w y) first last n i ≡ offered_from (dict b s w y) first last n i
unfolding offered_from
from_offered h s w y first last zero i = refl
from_offered {a} {b} h s w y first last (suc n) i =
    rw (offers-same h first last i) (rw (records-same h s w y i (offers b first last i) 0) (rw (from_offered h s w y first last n (suc i)) refl))

pub offered-same : {a b : List ℕ} → Alike a b → (s w y : List ℕ) (first last : ℕ) → offered_in (dict a s w y) first last ≡ offered_in (dict b s w y) first last
offered-same {a} {b} h s w y first last =
    from_offered h s w y first last (number_of a) 0 ∙ ap (λ n. offered_from (dict b s w y) first last n 0) h.rows.number

-- ---- a restore: what is chosen, and whether it fits
choice_same : (d : Dict) (b : List ℕ) → Alike d.objects b → (i k : ℕ) (f : Option ℕ) → choice_of d i k f ≡ choice_of (rowed d b) i k f
choice_same d b h i k (Some a) = refl
choice_same d b h i k None = rw (default_same h.rows i) (rw (kind-same h.rows i) (rw (first_same h.rows i) (rw (count_same h.rows i) refl)))

chosen_same : (d : Dict) (b : List ℕ) → Alike d.objects b → (s : List ℕ) (i k : ℕ) → chosen_at d s i k ≡ chosen_at (rowed d b) s i k
unfolding chosen_at
chosen_same d b h s i k = rw (index_same h.rows i) (rw (kind-same h.rows i) (choice_same d b h i k (record_of s (key_at b i k))))

fits-same : (d : Dict) (b s : List ℕ) (p : ℕ) (c : Choice) → fits_room d s p c ≡ fits_room (rowed d b) s p c
unfolding fits_room
fits-same d b s p Keep = refl
fits-same d b s p (Stored a) = refl
fits-same d b s p (Default q) = refl

values_fit_same : (d : Dict) (b : List ℕ) → Alike d.objects b → (s : List ℕ) (i n k : ℕ) → values_fit d s i n k ≡ values_fit (rowed d b) s i n k
unfolding values_fit
values_fit_same d b h s i zero k = refl
values_fit_same d b h s i (suc n) k =
    rw (chosen_same d b h s i k)
    (rw (first_same h.rows i)
    (rw (fits-same d b s (slot_in b i k) (chosen_at (rowed d b) s i k)) (rw (values_fit_same d b h s i n (suc k)) refl)))

pub rows_fit_same : (d : Dict) (b : List ℕ) → Alike d.objects b → (s : List ℕ) (first last n i : ℕ) → rows_fit d s first last n i ≡ rows_fit (rowed d b) s first last n i
unfolding rows_fit
rows_fit_same d b h s first last zero i = refl
rows_fit_same d b h s first last (suc n) i =
    rw (index_same h.rows i)
    (rw (count_same h.rows i) (rw (values_fit_same d b h s i (count_at b i) 0) (rw (rows_fit_same d b h s first last n (suc i)) refl)))

-- ---- what it puts: the same under other rows, and never a row
pub rows_stay_by : (d : Dict) (s : List ℕ) (p : ℕ) (c : Choice) → (restored_by d s p c).objects ≡ d.objects
unfolding restored_by
rows_stay_by d s p Keep = refl
rows_stay_by d s p (Stored a) = refl
rows_stay_by d s p (Default q) = refl

restored_by_same : (d : Dict) (b s : List ℕ) (p : ℕ) (c : Choice) → rowed (restored_by d s p c) b ≡ restored_by (rowed d b) s p c
unfolding restored_by
restored_by_same d b s p Keep = refl
restored_by_same d b s p (Stored a) = refl
restored_by_same d b s p (Default q) = refl

rows_stay : (d : Dict) (s : List ℕ) (i n k : ℕ) → (values_restored d s i n k).objects ≡ d.objects
unfolding values_restored
rows_stay d s i zero k = refl
rows_stay d s i (suc n) k =
    let p = slot_in d.objects i k in
    let c = chosen_at d s i k in rows_stay (restored_by d s p c) s i n (suc k) ∙ rows_stay_by d s p c

still : (d e : Dict) (b : List ℕ) → e.objects ≡ d.objects → Alike d.objects b → Alike e.objects b
still d e b q h = rw q h

values_restored-same : (d : Dict) (b : List ℕ) → Alike d.objects b → (s : List ℕ) (i n k : ℕ) → rowed (values_restored d s i n k) b ≡ values_restored (rowed d b) s i n k
unfolding values_restored
values_restored-same d b h s i zero k = refl
values_restored-same d b h s i (suc n) k =
    let p = slot_in d.objects i k in
    let c = chosen_at d s i k in
    let e = restored_by d s p c in
    values_restored-same e b (still d e b (rows_stay_by d s p c) h) s i n (suc k)
    ∙ ap (λ x. values_restored x s i n (suc k)) (restored_by_same d b s p c ∙ step)
  where
    step : restored_by (rowed d b) s (slot_in d.objects i k) (chosen_at d s i k) ≡ restored_by (rowed d b) s (slot_in b i k) (chosen_at (rowed d b) s i k)
    step = rw (chosen_same d b h s i k) (rw (first_same h.rows i) refl)

abbrev row-restored : Dict → List ℕ → ℕ → ℕ → ℕ → Dict
row-restored d s first last i = cond (in_range first last (index_at d.objects i)) (values_restored d s i (count_at d.objects i) 0) d

row_stays : (d : Dict) (s : List ℕ) (first last i : ℕ) → (row-restored d s first last i).objects ≡ d.objects
row_stays d s first last i = go (in_range first last (index_at d.objects i))
  where
    go : (q : Bool) → (cond q (values_restored d s i (count_at d.objects i) 0) d).objects ≡ d.objects
    go true = rows_stay d s i (count_at d.objects i) 0
    go false = refl

row-restored-same : (d : Dict) (b : List ℕ) → Alike d.objects b → (s : List ℕ) (first last i : ℕ) → rowed (row-restored d s first last i) b ≡ row-restored (rowed d b) s first last i
row-restored-same d b h s first last i = go (in_range first last (index_at d.objects i)) ∙ rw (index_same h.rows i) (rw (count_same h.rows i) refl)
  where
    go : (q : Bool) → rowed (cond q (values_restored d s i (count_at d.objects i) 0) d) b ≡ cond q (values_restored (rowed d b) s i (count_at d.objects i) 0) (rowed d b)
    go true = values_restored-same d b h s i (count_at d.objects i) 0
    go false = refl

pub rows_restored-same : (d : Dict) (b : List ℕ) → Alike d.objects b → (s : List ℕ) (first last n i : ℕ)
    → rowed (rows_restored d s first last n i) b ≡ rows_restored (rowed d b) s first last n i
unfolding rows_restored
rows_restored-same d b h s first last zero i = refl
rows_restored-same d b h s first last (suc n) i =
    let e = row-restored d s first last i in
    rows_restored-same e b (still d e b (row_stays d s first last i) h) s first last n (suc i)
    ∙ ap (λ x. rows_restored x s first last n (suc i)) (row-restored-same d b h s first last i)
