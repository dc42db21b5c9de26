-- What a choice comes from. Assumes nothing.
use Rattle.std.specs.Prelude.{Option, Some, None}
use mathlib.Core.Path.{◌≡◌, refl, ap, ◌∙◌}
use mathlib.Core.Bool.{Bool, true, false, cond, ◌||◌, not}
use mathlib.Core.List.{List}
use Prim.Native.Nat.{ℕ, zero, suc, ◌+◌, ◌<◌, ◌≤◌}
use native.Mathlib.Omega.{arith}
use borrow.Author.Tests.{eqb-true, leb-true}
use lib.Dec.{eqb, leb}
use lib.ListN.{length}
use Rattle.lists.proofs.NumberLaws.{part_length}
use Rattle.value.specs.Codec.{exact}
use Rattle.entry.specs.Table.{Dict, default_at}
use Rattle.image.specs.Readable.{field, key_in, type_in, start_in, size_at, readable}
use Rattle.fitting.specs.Records.{records, record_place, record_from, record_of, body_in, Body}
use Rattle.fitting.specs.Fit.{default_in, key_at, has_default, choice_of, chosen_at}
use Rattle.fitting.specs.declared.Choice.TheVariants.{Keep, Stored, Default}
use Rattle.fitting.proofs.RisingLaws.{image, lies}
use Rattle.entry.proofs.JudgeLaws.{and_true}

-- ---- a record that is found is one of the image's
record Among (n a : ℕ) : Type 0 where
  number : ℕ
  below : number < n
  place : a ≡ record_place number

among : (s : List ℕ) (n k key a : ℕ) → record_from s n k key ≡ Some a → Among (k + n) a
unfolding record_from
among s zero k key a e = let z : ◌≡◌ {A = ℕ} 0 1 = cc in absurd (omega arith)
among s (suc n) k key a e = go (eqb (key_in s (record_place k)) key) e (among s n (suc k) key a)
  where
    go : (b : Bool) → cond b (Some (record_place k)) (record_from s n (suc k) key) ≡ Some a → (record_from s n (suc k) key ≡ Some a → Among (suc k + n) a) → Among (k + suc n) a
    go true q ih = record { number = k; below = omega arith; place = cc }
    go false q ih = let r = ih q in record { number = r.number; below = omega (arith, r.below); place = r.place }

-- ---- what a readable image says of it
pub record StoredAt (s : List ℕ) (a : ℕ) : Type 0 where
  pub body : Body s a
  pub value : exact (type_in s a) (body_in s a) ≡ true
  pub long : length (body_in s a) ≡ size_at s a

counted : (s : List ℕ) (j : ℕ) → j < records s → records s ≡ field s 0 2
counted s j h = go (readable s) h
  where
    go : (b : Bool) → j < cond b (field s 0 2) 0 → cond b (field s 0 2) 0 ≡ field s 0 2
    go true l = refl
    go false l = absurd (omega arith)

stored_at : (s : List ℕ) (a : ℕ) → Among (records s) a → StoredAt s a
stored_at s a m = go a m.place
  where
    go : (b : ℕ) → b ≡ record_place m.number → StoredAt s b
    go b q =
        let h = (image s).held m.number m.below in
        let l = lies s m.number m.below in
        let c = counted s m.number m.below in
        rw q (record {
          body = record { head = l.inside; few = omega (arith, l.few, c); small = h.small; within = h.within };
          value = h.exact;
          long = part_length s (record_place (field s 0 2) + start_in s (record_place m.number)) (size_at s (record_place m.number)) h.within;
        })

-- ---- the three choices
no-stored : (b : Bool) (q a : ℕ) → cond b (Default q) Keep ≡ Stored a → ⊥
no-stored true q a e = let z : ◌≡◌ {A = ℕ} 0 1 = cc in absurd (omega arith)
no-stored false q a e = let z : ◌≡◌ {A = ℕ} 0 1 = cc in absurd (omega arith)

by_default : (b : Bool) (q p : ℕ) → cond b (Default q) Keep ≡ Default p → (b ≡ true) × (p ≡ q)
by_default true q p e = (refl, (cc))
by_default false q p e = let z : ◌≡◌ {A = ℕ} 0 1 = cc in absurd (omega arith)

module _ (d : Dict) (s : List ℕ) (i k : ℕ) where
  pub chosen_stored : (a : ℕ) → chosen_at d s i k ≡ Stored a → StoredAt s a
  unfolding chosen_at
  chosen_stored a e = go (record_of s (key_at d.objects i k)) refl e
    where
      go : (f : Option ℕ) → record_of s (key_at d.objects i k) ≡ f → choice_of d i k f ≡ Stored a → StoredAt s a
      go (Some b) q h =
          let z : b ≡ a = cc in
          let m = among s (records s) 0 (key_at d.objects i k) a (q ∙ ap Some z) in
          stored_at s a (record { number = m.number; below = omega (arith, m.below); place = m.place })
      go None q h = absurd (no-stored (has_default d i k) (default_in d.objects i) a h)

  pub chosen_default : (q : ℕ) → chosen_at d s i k ≡ Default q → (q ≡ default_in d.objects i) × (default_at d.objects i ≡ 1)
  unfolding chosen_at
  chosen_default q e = go (record_of s (key_at d.objects i k)) e
    where
      go : (f : Option ℕ) → choice_of d i k f ≡ Default q → (q ≡ default_in d.objects i) × (default_at d.objects i ≡ 1)
      go (Some b) h = let z : ◌≡◌ {A = ℕ} 0 1 = cc in absurd (omega arith)
      go None h =
          let b = by_default (has_default d i k) (default_in d.objects i) q h in
          (b.1, eqb-true (default_at d.objects i) 1 (and_true (eqb (default_at d.objects i) 1) _ b.0).0)

-- a string within its room
pub room_if : (b : Bool) (x y : ℕ) → (not b || leb x y) ≡ true → b ≡ true → x ≤ y
room_if true x y e q = leb-true x y e
room_if false x y e q = let z : ◌≡◌ {A = ℕ} 0 1 = cc in absurd (omega arith)
