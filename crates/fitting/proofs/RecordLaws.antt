-- Looking a record up along rising keys is looking it up from the first one on.
-- Assumes nothing.
use Rattle.std.specs.Prelude.{Option, Some, None}
use mathlib.Core.Path.{◌≡◌, refl, sym, ap, ◌∙◌}
use mathlib.Core.Bool.{Bool, true, false, cond}
use mathlib.Core.Logic.{◌⊎◌, inl, inr, ⊎_elim, ◌≢◌}
use mathlib.Core.List.{List}
use Prim.Native.Nat.{ℕ, zero, suc, ◌+◌, ◌-◌, ◌<◌, ◌≤◌}
use native.Mathlib.Omega.{arith}
use native.Mathlib.Decide.{dec_lt}
use borrow.Author.Tests.{lt-ltb, le-ltb, ltb-true, ltb-false, eq-eqb, ne_eqb, eqb-true}
use lib.Dec.{eqb, ltb}
use Rattle.image.specs.Readable.{key_in}
use Rattle.fitting.specs.Records.{record_place, record_from, seek_from, Cursor}

-- ---- one turn of seeking
pub seek_step : (s : List ℕ) (n j key : ℕ) → j < n → key_in s (record_place j) < key → seek_from s (n - j) j key ≡ seek_from s (n - (j + 1)) (j + 1) key
unfolding seek_from
seek_step s n j key h l =
    let a : n - j ≡ suc (n - (j + 1)) = omega arith in
    let b : j + 1 ≡ suc j = omega arith in
    rw (a, b, lt-ltb _ _ l)

pub seek_here : (s : List ℕ) (n j key : ℕ) → j < n → key ≤ key_in s (record_place j) → seek_from s (n - j) j key ≡ j
unfolding seek_from
seek_here s n j key h l =
    let a : n - j ≡ suc (n - (j + 1)) = omega arith in
    rw (a, le-ltb _ _ l)

pub seek_end : (s : List ℕ) (n j key : ℕ) → n ≤ j → seek_from s (n - j) j key ≡ j
unfolding seek_from
seek_end s n j key h = let a : n - j ≡ 0 = omega arith in rw a

first_or_later : (k j : ℕ) → k ≤ j → (j ≡ k) ⊎ (suc k ≤ j)
first_or_later k j h = go (dec_lt k j)
  where
    go : Dec (k < j) → (j ≡ k) ⊎ (suc k ≤ j)
    go (yes l) = inr (omega (arith, l))
    go (no n) = inl (omega (arith, n))

-- ---- where it ends
pub record Sought (s : List ℕ) (n k key r : ℕ) : Type 0 where
  pub up : k ≤ r
  pub within : r ≤ n + k
  pub below : (j : ℕ) → k ≤ j → j < r → key_in s (record_place j) < key
  pub first : r < n + k → key ≤ key_in s (record_place r)

pub sought : (s : List ℕ) (n k key : ℕ) → Sought s n k key (seek_from s n k key)
unfolding seek_from
sought s zero k key =
    record { up = omega arith; within = omega arith; below = λ j a b. absurd (omega arith); first = λ a. absurd (omega arith) }
sought s (suc n) k key = go (ltb (key_in s (record_place k)) key) refl (sought s n (suc k) key)
  where
    go : (b : Bool) → ltb (key_in s (record_place k)) key ≡ b → Sought s n (suc k) key (seek_from s n (suc k) key) → Sought s (suc n) k key (cond b (seek_from s n (suc k) key) k)
    go true q r =
        record {
          up = omega (arith, r.up);
          within = omega (arith, r.within);
          below = λ j a b. ⊎_elim (λ e. rw e (ltb-true _ _ q)) (λ l. r.below j l b) (first_or_later k j a);
          first = λ a. r.first (omega arith);
        }
    go false q r = record { up = omega arith; within = omega arith; below = λ j a b. absurd (omega arith); first = λ a. ltb-false _ _ q }

-- ---- the record of a key, among rising keys
pub record Rising (s : List ℕ) (n : ℕ) : Type 0 where
  pub rises : (i j : ℕ) → i < j → j < n → key_in s (record_place i) < key_in s (record_place j)

-- where no record of those from record k on has the key
pub none_from : (s : List ℕ) (n k key : ℕ) → ((j : ℕ) → k ≤ j → j < k + n → key_in s (record_place j) ≢ key) → record_from s n k key ≡ None
unfolding record_from
none_from s zero k key f = refl
none_from s (suc n) k key f =
    rw (ne_eqb _ _ (f k (omega arith) (omega arith))) (none_from s n (suc k) key (λ j a b. f j (omega arith) (omega arith)))

-- and where record r is the first that has it
pub one_from : (s : List ℕ) (n k key r : ℕ) → k ≤ r → r < k + n → ((j : ℕ) → k ≤ j → j < r → key_in s (record_place j) ≢ key) → key_in s (record_place r) ≡ key → record_from s n k key ≡ Some (record_place r)
unfolding record_from
one_from s zero k key r a b f e = absurd (omega arith)
one_from s (suc n) k key r a b f e = go (first_or_later k r a) (λ l. one_from s n (suc k) key r l (omega arith) (λ j c d. f j (omega (arith, c)) d) e)
  where
    go : (r ≡ k) ⊎ (suc k ≤ r) → (suc k ≤ r → record_from s n (suc k) key ≡ Some (record_place r)) → cond (eqb (key_in s (record_place k)) key) (Some (record_place k)) (record_from s n (suc k) key) ≡ Some (record_place r)
    go (inl q) ih = let z : eqb (key_in s (record_place k)) key ≡ true = eq-eqb _ _ (ap (λ m. key_in s (record_place m)) (sym q) ∙ e) in rw z (ap (λ m. Some (record_place m)) (sym q))
    go (inr l) ih = let z : eqb (key_in s (record_place k)) key ≡ false = ne_eqb _ _ (f k (omega arith) (omega (arith, l))) in rw z (ih l)

-- the record where a cursor stops is the one, or there is none
abbrev pub stopped : List ℕ → ℕ → ℕ → ℕ → Option ℕ
stopped s n r key = cond (ltb r n) (cond (eqb (key_in s (record_place r)) key) (Some (record_place r)) None) None

pub lookup : (s : List ℕ) (n k key : ℕ) → Rising s n → Cursor s n k key → record_from s n 0 key ≡ stopped s n (seek_from s (n - k) k key) key
lookup s n k key u c = within (ltb (seek_from s (n - k) k key) n) refl
  where
    below : (j : ℕ) → j < seek_from s (n - k) k key → key_in s (record_place j) < key
    below j l = go (dec_lt j k)
      where
        go : Dec (j < k) → key_in s (record_place j) < key
        go (yes m) = c.below j m
        go (no m) = (sought s (n - k) k key).below j (omega (arith, m)) l

    above : seek_from s (n - k) k key < n → (j : ℕ) → seek_from s (n - k) k key < j → j < n → key < key_in s (record_place j)
    above h j a b =
        let f = (sought s (n - k) k key).first (omega (arith, h, c.here)) in
        omega (arith, f, u.rises (seek_from s (n - k) k key) j a b)

    here : seek_from s (n - k) k key < n → (b : Bool) → eqb (key_in s (record_place (seek_from s (n - k) k key))) key ≡ b → record_from s n 0 key ≡ cond b (Some (record_place (seek_from s (n - k) k key))) None
    here h true q = one_from s n 0 key (seek_from s (n - k) k key) (omega arith) (omega (arith, h)) (λ j a b e. absurd (omega (arith, below j b, e))) (eqb-true _ _ q)
    here h false q = none_from s n 0 key (λ j a b e. other j b e (dec_lt j (seek_from s (n - k) k key)))
      where
        other : (j : ℕ) → j < 0 + n → key_in s (record_place j) ≡ key → Dec (j < seek_from s (n - k) k key) → ⊥
        other j b e (yes m) = absurd (omega (arith, below j m, e))
        other j b e (no m) = later (first_or_later (seek_from s (n - k) k key) j (omega (arith, m)))
          where
            later : (j ≡ seek_from s (n - k) k key) ⊎ (suc (seek_from s (n - k) k key) ≤ j) → ⊥
            later (inl w) = let z : true ≡ false = sym (eq-eqb _ _ (ap (λ m. key_in s (record_place m)) (sym w) ∙ e)) ∙ q in let y : ◌≡◌ {A = ℕ} 0 1 = cc in absurd (omega arith)
            later (inr w) = absurd (omega (arith, above h j (omega (arith, w)) (omega (arith, b)), e))

    within : (b : Bool) → ltb (seek_from s (n - k) k key) n ≡ b → record_from s n 0 key ≡ cond b (cond (eqb (key_in s (record_place (seek_from s (n - k) k key))) key) (Some (record_place (seek_from s (n - k) k key))) None) None
    within true q = here (ltb-true _ _ q) (eqb (key_in s (record_place (seek_from s (n - k) k key))) key) refl
    within false q = none_from s n 0 key (λ j a b e. absurd (omega (arith, below j (omega (arith, b, ltb-false (seek_from s (n - k) k key) n q)), e)))
