-- What a restore leaves as it is. Assumes nothing.
use mathlib.Core.Path.{◌≡◌, refl, ◌∙◌}
use mathlib.Core.Bool.{true}
use mathlib.Core.Logic.{inl, inr, ◌≢◌}
use mathlib.Core.List.{List}
use Prim.Native.Nat.{ℕ, ◌+◌, ◌*◌, ◌<◌, ◌≤◌}
use native.Mathlib.Omega.{arith}
use native.Mathlib.Decide.{dec_lt}
use lib.ListN.{length, take, drop, get_or}
use lib.Seq.{get_or-set_other}
use Rattle.entry.specs.Table.{Dict, number_of, values_of, name_at, name_len_at, type_at, start_at, room_at, val_at}
use Rattle.entry.specs.Put.{put_as}
use Rattle.entry.specs.Judge.{well_formed}
use Rattle.entry.proofs.ApartLaws.{Apart, apart, name_apart}
use Rattle.entry.proofs.ChangeLaws.{part_stays}
use Rattle.entry.proofs.ValueLaws.{every_value}

-- e is d but for the types, words and rooms' bytes of the values of P
pub record Only (P : ℕ → Type 0) (d e : Dict) : Type 0 where
  pub objects : e.objects ≡ d.objects
  pub starts : (q : ℕ) → start_at e.slots q ≡ start_at d.slots q
  pub rooms : (q : ℕ) → room_at e.slots q ≡ room_at d.slots q
  pub others : (q : ℕ) → q < values_of d.objects → (P q → ⊥) → val_at e q ≡ val_at d q
  pub names : (i : ℕ) → i < number_of d.objects → take (name_len_at d.objects i) (drop (name_at d.objects i) e.bytes) ≡ take (name_len_at d.objects i) (drop (name_at d.objects i) d.bytes)

pub only_same : (P : ℕ → Type 0) (d : Dict) → Only P d d
only_same P d = record { objects = refl; starts = λ q. refl; rooms = λ q. refl; others = λ q h n. refl; names = λ i h. refl }

pub only_more : (P Q : ℕ → Type 0) (d e : Dict) → ((q : ℕ) → P q → Q q) → Only P d e → Only Q d e
only_more P Q d e w o =
    record { objects = o.objects; starts = o.starts; rooms = o.rooms; others = λ q h n. o.others q h (λ p. n (w q p)); names = o.names }

pub only_then : (P : ℕ → Type 0) (d e f : Dict) → Only P d e → Only P e f → Only P d f
only_then P d e f o u =
    record {
      objects = u.objects ∙ o.objects;
      starts = λ q. u.starts q ∙ o.starts q;
      rooms = λ q. u.rooms q ∙ o.rooms q;
      others = λ q h n. u.others q (rw o.objects h) n ∙ o.others q h n;
      names = λ i h. rw o.objects at (u.names i (rw o.objects h)) ∙ o.names i h;
    }

-- ---- a put of whatever type
pub only_put : (d : Dict) → well_formed d ≡ true → (p t w : ℕ) (r : List ℕ) → p < values_of d.objects → length r ≡ room_at d.slots p → Only (λ q. q ≡ p) d (put_as p t w r d)
only_put d e p t w r h l =
    record {
      objects = refl;
      starts = λ q. start q;
      rooms = λ q. room q;
      others = λ q k n. other q k n;
      names = λ i k. part_stays d.bytes (start_at d.slots p) r (name_at d.objects i) (name_len_at d.objects i) (rw (← l) at (name_apart d e i p k h)) inside;
    }
  where
    inside : start_at d.slots p ≤ length d.bytes
    inside = let f = every_value d e p h in omega (arith, f.within, f.bytes)

    start : (q : ℕ) → start_at (put_as p t w r d).slots q ≡ start_at d.slots q
    start q = get_or-set_other d.slots (3 * p) (3 * q + 1) t 0 (λ z. absurd (omega (arith, z)))

    room : (q : ℕ) → room_at (put_as p t w r d).slots q ≡ room_at d.slots q
    room q = get_or-set_other d.slots (3 * p) (3 * q + 2) t 0 (λ z. absurd (omega (arith, z)))

    away : (q : ℕ) → q < values_of d.objects → q ≢ p → Apart (start_at d.slots q) (room_at d.slots q) (start_at d.slots p) (length r)
    away q k n = go (dec_lt q p)
      where
        go : Dec (q < p) → Apart (start_at d.slots q) (room_at d.slots q) (start_at d.slots p) (length r)
        go (yes m) = inl (apart d e q p m h)
        go (no m) = inr (omega (arith, l, apart d e p q (omega (arith, m, n)) k))

    other : (q : ℕ) → q < values_of d.objects → q ≢ p → val_at (put_as p t w r d) q ≡ val_at d q
    other q k n =
        let a : type_at (put_as p t w r d).slots q ≡ type_at d.slots q = get_or-set_other d.slots (3 * p) (3 * q) t 0 (λ z. n (omega (arith, z))) in
        let b : get_or (put_as p t w r d).words q 0 ≡ get_or d.words q 0 = get_or-set_other d.words p q w 0 n in
        let c = part_stays d.bytes (start_at d.slots p) r (start_at d.slots q) (room_at d.slots q) (away q k n) inside in
        rw (a, b, start q, room q, c)
