-- What values and rows get, and whether it fits, does not change where other values do. Assumes nothing.
use Rattle.std.specs.Prelude.{Option, Some, None}
use mathlib.Core.Path.{◌≡◌, refl, ap, ap₂, ◌∙◌}
use mathlib.Core.Bool.{Bool, true, false, ◌&&◌, ◌||◌, not}
use mathlib.Core.List.{List}
use Prim.Native.Nat.{ℕ, zero, suc, ◌+◌, ◌<◌, ◌≤◌}
use native.Mathlib.Omega.{arith}
use lib.Dec.{eqb}
use lib.ListN.{get_or}
use borrow.Author.Tests.{eqb-true}
use Rattle.entry.specs.Table.{Dict, number_of, values_of, index_at, kind_at, count_at, first_at, default_at, type_at}
use Rattle.entry.specs.Judge.{well_formed}
use Rattle.entry.proofs.FactLaws.{row_facts}
use Rattle.entry.proofs.ApartLaws.{firsts_rise}
use Rattle.fitting.specs.Records.{record_of}
use Rattle.fitting.specs.Fit.{slot_in, default_in, key_at, has_default, choice_of, chosen_at, fits_room, values_fit, in_range, rows_fit}
use Rattle.fitting.specs.declared.Choice.{Choice}
use Rattle.fitting.specs.declared.Choice.TheVariants.{Keep, Stored, Default}
use Rattle.fitting.proofs.ChoiceLaws.{chosen_default}
use Rattle.restoring.proofs.OnlyLaws.{Only}

module _ (P : ℕ → Type 0) (d e : Dict) (w : well_formed d ≡ true) (o : Only P d e) (s : List ℕ) where
  -- a value that is not of P
  type_stays : (q : ℕ) → q < values_of d.objects → (P q → ⊥) → type_at e.slots q ≡ type_at d.slots q
  type_stays q h n = ap (λ v. v.type) (o.others q h n)

  word_stays : (q : ℕ) → q < values_of d.objects → (P q → ⊥) → get_or e.words q 0 ≡ get_or d.words q 0
  word_stays q h n = ap (λ v. v.word) (o.others q h n)

  module _ (i : ℕ) (hi : i < number_of d.objects) where
    default_stays : (k : ℕ) → k < count_at d.objects i → ((q : ℕ) → slot_in d.objects i k ≤ q → P q → ⊥) → has_default e i k ≡ has_default d i k
    default_stays k hk away = rw o.objects (go (eqb (default_at d.objects i) 1) refl)
      where
        go : (b : Bool) → eqb (default_at d.objects i) 1 ≡ b
            → (b && (eqb (kind_at d.objects i) 0 || eqb (type_at e.slots (default_in d.objects i)) (type_at e.slots (slot_in d.objects i k))))
            ≡ (b && (eqb (kind_at d.objects i) 0 || eqb (type_at d.slots (default_in d.objects i)) (type_at d.slots (slot_in d.objects i k))))
        go true q =
            let f = (row_facts d w i hi).values in
            let z = eqb-true (default_at d.objects i) 1 q in
            rw (type_stays (default_in d.objects i) (omega (arith, f, z)) (away (default_in d.objects i) (omega arith)), type_stays (slot_in d.objects i k) (omega (arith, f)) (away (slot_in d.objects i k) (omega arith)))
        go false q = refl

    chosen_stays : (k : ℕ) → k < count_at d.objects i → ((q : ℕ) → slot_in d.objects i k ≤ q → P q → ⊥) → chosen_at e s i k ≡ chosen_at d s i k
    unfolding chosen_at
    chosen_stays k hk away = ap (λ l. choice_of e i k (record_of s (key_at l i k))) o.objects ∙ go (record_of s (key_at d.objects i k))
      where
        go : (f : Option ℕ) → choice_of e i k f ≡ choice_of d i k f
        go (Some a) = refl
        go None = rw (default_stays k hk away, o.objects)

    fits_stays : (k : ℕ) → k < count_at d.objects i → ((q : ℕ) → slot_in d.objects i k ≤ q → P q → ⊥)
        → fits_room e s (slot_in d.objects i k) (chosen_at d s i k) ≡ fits_room d s (slot_in d.objects i k) (chosen_at d s i k)
    unfolding fits_room
    fits_stays k hk away = go (chosen_at d s i k) refl
      where
        go : (c : Choice) → chosen_at d s i k ≡ c → fits_room e s (slot_in d.objects i k) c ≡ fits_room d s (slot_in d.objects i k) c
        go Keep q = refl
        go (Stored a) q = rw (o.rooms (slot_in d.objects i k))
        go (Default r) q =
            let z = chosen_default d s i k r q in
            let f = (row_facts d w i hi).values in
            let h : r < values_of d.objects = omega (arith, f, z.0, z.1) in
            let n = away r (omega (arith, z.0)) in
            rw (o.rooms (slot_in d.objects i k), type_stays r h n, word_stays r h n)

    pub values_stay : (n k : ℕ) → k + n ≡ count_at d.objects i → ((q : ℕ) → slot_in d.objects i k ≤ q → P q → ⊥) → values_fit e s i n k ≡ values_fit d s i n k
    unfolding values_fit
    values_stay zero k l away = refl
    values_stay (suc n) k l away =
        let a =
        ap (λ l. fits_room e s (slot_in l i k) (chosen_at e s i k)) o.objects
        ∙ ap (fits_room e s (slot_in d.objects i k)) (chosen_stays k (omega arith) away)
        ∙ fits_stays k (omega arith) away in
        ap₂ (λ x y. x && y) a (values_stay n (suc k) (omega arith) (λ q h. away q (omega (arith, h))))

  pub rows_stay : (first last n i : ℕ) → i + n ≡ number_of d.objects → ((q : ℕ) → first_at d.objects i ≤ q → P q → ⊥) → rows_fit e s first last n i ≡ rows_fit d s first last n i
  unfolding rows_fit
  rows_stay first last zero i l away = refl
  rows_stay first last (suc n) i l away =
      ap (λ l. (not (in_range first last (index_at l i)) || values_fit e s i (count_at l i) 0) && rows_fit e s first last n (suc i)) o.objects
      ∙ ap₂ (λ x y. (not (in_range first last (index_at d.objects i)) || x) && y)
      (values_stay i (omega arith) (count_at d.objects i) 0 (omega arith) (λ q h. away q (omega (arith, h))))
      (rest n (rows_stay first last n (suc i)) (omega arith))
    where
      rest : (n : ℕ) → (suc i + n ≡ number_of d.objects → ((q : ℕ) → first_at d.objects (suc i) ≤ q → P q → ⊥) → rows_fit e s first last n (suc i) ≡ rows_fit d s first last n (suc i))
          → suc i + n ≡ number_of d.objects → rows_fit e s first last n (suc i) ≡ rows_fit d s first last n (suc i)
      rest zero ih m = refl
      rest (suc n) ih m = ih m (λ q h. away q (omega (arith, h, firsts_rise d w i (suc i) (omega arith) (omega (arith, m)))))
