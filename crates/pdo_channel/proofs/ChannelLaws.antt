-- Rows that rise, looked at near their place; and the scan over the channels. Assumes nothing.
use Rattle.std.specs.Prelude.{Some, None, Result, Ok, Err}
use mathlib.Core.Path.{◌≡◌, refl, sym, ap, ◌∙◌}
use mathlib.Core.Bool.{Bool, true, false, cond}
use mathlib.Core.List.{List}
use Prim.Native.Nat.{ℕ, zero, suc, ◌+◌, ◌-◌, ◌*◌, ◌<◌, ◌≤◌}
use native.Mathlib.Omega.{arith}
use native.Mathlib.Decide.{dec_lt}
use borrow.Author.Tests.{eqb-true, ltb-true}
use lib.Dec.{eqb}
use lib.ListN.{length, get_or}
use Rattle.value.specs.Codec.{is_text, size_of, fits_type}
use Rattle.entry.specs.Table.{Dict, number_of, index_at, type_at}
use Rattle.entry.specs.Find.{Rows, find_row, place_of}
use Rattle.entry.specs.Judge.{well_formed}
use Rattle.entry.specs.declared.Place.{Place}
use Rattle.entry.specs.declared.Place.TheVariants.{Count, Value}
use Rattle.entry.specs.declared.Missing.{Missing}
use Rattle.entry.proofs.ValueLaws.{ValueFacts, element_of_lem, element_facts}
use Rattle.entry.proofs.FindLaws.{find_at, find_none, found_row}
use Rattle.pdo_channel.specs.Channel.{u8_in, u8_at, matches_in, comm_index, channel_from}

-- where row i lies
pub record Lies (objects : List ℕ) (i : ℕ) : Type 0 where
  pub small : i < 1024
  pub inside : 12 * i + 24 ≤ length objects

pub lies : (objects : List ℕ) → Rows objects → (i : ℕ) → i < number_of objects → Lies objects i
lies objects s i h = record { small = omega (arith, s.few); inside = omega (arith, s.long) }

-- ---- a row that has the index, or none
module _ (objects : List ℕ) (s : Rows objects) (x r : ℕ) where
  pub row_is : r < number_of objects → index_at objects r ≡ x → find_row objects x ≡ Some r
  row_is h e = find_at objects x r (number_of objects) 0 (omega arith) (omega arith) e (λ j l q. absurd (omega (arith, s.rises j r l h, e, q)))

  pub no_row : r ≤ number_of objects → (0 < r → index_at objects (r - 1) < x) → (r < number_of objects → x < index_at objects r) → find_row objects x ≡ None
  no_row h a b = find_none objects x (number_of objects) 0 (λ j l k q. absurd (other j (omega (arith, k)) q (dec_lt j r)))
    where
      same_or : (i j : ℕ) → i ≤ j → j < number_of objects → index_at objects i ≤ index_at objects j
      same_or i j l k = go (dec_lt i j)
        where
          go : Dec (i < j) → index_at objects i ≤ index_at objects j
          go (yes m) = omega (arith, s.rises i j m k)
          go (no m) = let q : i ≡ j = omega (arith, l, m) in rw q (omega arith)

      other : (j : ℕ) → j < number_of objects → index_at objects j ≡ x → Dec (j < r) → ⊥
      other j k q (yes l) = absurd (omega (arith, q, a (omega (arith, l)), same_or j (r - 1) (omega (arith, l)) (omega (arith, h, l))))
      other j k q (no l) = absurd (omega (arith, q, b (omega (arith, l, k)), same_or r j (omega (arith, l)) k))

pub row_below : (objects : List ℕ) (x i : ℕ) → find_row objects x ≡ Some i → i < number_of objects
row_below objects x i q = omega (arith, (found_row objects x (number_of objects) 0 i q).below)

-- ---- the scan, one channel at a time
module _ (d : Dict) (sender : ℕ) where
  pub channel_here : (n i : ℕ) → i < n → matches_in sender (u8_at d (comm_index i) 1) ≡ true → channel_from d sender (n - i) i ≡ Some i
  unfolding channel_from
  channel_here n i h e = let q : n - i ≡ suc (n - (i + 1)) = omega arith in rw (q, e)

  pub channel_next : (n i : ℕ) → i < n → matches_in sender (u8_at d (comm_index i) 1) ≡ false → channel_from d sender (n - i) i ≡ channel_from d sender (n - (i + 1)) (i + 1)
  unfolding channel_from
  channel_next n i h e =
      let q : n - i ≡ suc (n - (i + 1)) = omega arith in
      let p : i + 1 ≡ suc i = omega arith in
      rw (q, e, p)

  pub channel_end : (n i : ℕ) → n ≤ i → channel_from d sender (n - i) i ≡ None
  unfolding channel_from
  channel_end n i h = let q : n - i ≡ 0 = omega arith in rw q

  -- a channel that matches is one of those that were looked at
  pub channel_below : (n i j : ℕ) → channel_from d sender n i ≡ Some j → j < i + n
  unfolding channel_from
  channel_below zero i j e = let z : ◌≡◌ {A = ℕ} 0 1 = cc in absurd (omega arith)
  channel_below (suc n) i j e = go (matches_in sender (u8_at d (comm_index i) 1)) e (channel_below n (suc i) j)
    where
      go : (b : Bool) → cond b (Some i) (channel_from d sender n (suc i)) ≡ Some j → (channel_from d sender n (suc i) ≡ Some j → j < suc i + n) → j < i + suc n
      go true q ih = let z : i ≡ j = cc in omega arith
      go false q ih = omega (arith, ih q)

-- ---- the U8 of a well-formed dictionary is a byte
byte : (w : ℕ) → fits_type 5 w ≡ true → w < 256
unfolding size_of
byte w h = ltb-true w 256 h

pub value_byte : (d : Dict) (p : ℕ) → ValueFacts d p → type_at d.slots p ≡ 5 → get_or d.words p 0 < 256
value_byte d p f s = byte (get_or d.words p 0) (sym (ap (λ t. fits_type t (get_or d.words p 0)) s) ∙ f.fixed (ap is_text s))

pub u8_small : (d : Dict) → well_formed d ≡ true → (x sub v : ℕ) → u8_at d x sub ≡ Some v → v < 256
u8_small d e x sub v q = go (place_of d.objects x sub) refl q
  where
    value : (p : ℕ) → place_of d.objects x sub ≡ Ok (Value p) → (b : Bool) → eqb (type_at d.slots p) 5 ≡ b → cond b (Some (get_or d.words p 0)) None ≡ Some v → v < 256
    value p f true t r =
        let w : get_or d.words p 0 ≡ v = cc in
        omega (arith, w, value_byte d p (element_facts d e (element_of_lem d e x sub p f)) (eqb-true _ _ t))
    value p f false t r = let z : ◌≡◌ {A = ℕ} 0 1 = cc in absurd (omega arith)

    go : (f : Result Place Missing) → place_of d.objects x sub ≡ f → u8_in d f ≡ Some v → v < 256
    go (Err m) f r = let z : ◌≡◌ {A = ℕ} 0 1 = cc in absurd (omega arith)
    go (Ok (Count n)) f r = let z : ◌≡◌ {A = ℕ} 0 1 = cc in absurd (omega arith)
    go (Ok (Value p)) f r = value p f (eqb (type_at d.slots p) 5) refl r
