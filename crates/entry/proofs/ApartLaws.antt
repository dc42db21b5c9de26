-- Where the names and the rooms of a well-formed dictionary lie: each behind those before it, so that no two meet. Indices rise, and every
-- value is one of a row's.
-- Assumes nothing.
use Rattle.std.specs.Prelude.{Some}
use Rattle.std.proofs.lemmas.Option.{some_pair_parts}
use mathlib.Core.Path.{◌≡◌}
use mathlib.Core.Bool.{true}
use mathlib.Core.Logic.{◌⊎◌, inl, inr}
use Prim.Native.Nat.{ℕ, zero, suc, ◌+◌, ◌-◌, ◌<◌, ◌≤◌}
use native.Mathlib.Nat.{add-zero, zero-add}
use native.Mathlib.Omega.{arith}
use native.Mathlib.Decide.{dec_lt}
use borrow.Author.Tests.{eqb-true, leb-true}
use Rattle.entry.specs.Table.{Dict, number_of, values_of, used_of, index_at, count_at, first_at, name_at, name_len_at, start_at, room_at}
use Rattle.entry.specs.Judge.{slot_ok, slots_from, used_at, row_ok, row_fits, rows_from, header_ok, well_formed}
use Rattle.entry.proofs.JudgeLaws.{and_true, by_judge, by_slot, by_row, row_ok_lem}

-- a part of the bytes that lies from b up to e
pub record Between (b e start size : ℕ) : Type 0 where
  pub low : b ≤ start
  pub high : start + size ≤ e

-- two parts that don't meet
abbrev pub Apart : ℕ → ℕ → ℕ → ℕ → Type 0
Apart a n b m = (a + n ≤ b) ⊎ (b + m ≤ a)

-- ---- the rooms of one row
record SlotStep (d : Dict) (n k p b e : ℕ) : Type 0 where
  start : start_at d.slots p ≡ b
  next : slots_from d (n - 1) k (suc p) (b + room_at d.slots p) ≡ Some e

slot_step : (d : Dict) (n k p b : ℕ) {e : ℕ} → slots_from d n (suc k) p b ≡ Some e → SlotStep d n k p b e
unfolding slots_from slot_ok
slot_step d n k p b q =
    let z = by_slot (slot_ok d n p b) (slots_from d (n - 1) k (suc p) (b + room_at d.slots p)) q in
    record { start = eqb-true (start_at d.slots p) b (and_true _ _ z.0).0; next = z.1 }

slots_low : (d : Dict) (n k p b : ℕ) {e : ℕ} → slots_from d n k p b ≡ Some e → b ≤ e
unfolding slots_from
slots_low d n zero p b {e} q = let l : b ≡ e = cc in omega arith
slots_low d n (suc k) p b q =
    let s = slot_step d n k p b q in
    omega (arith, slots_low d (n - 1) k (suc p) (b + room_at d.slots p) s.next)

slots_between : (d : Dict) (n k p b : ℕ) {e : ℕ} → slots_from d n k p b ≡ Some e → (j : ℕ) → j < k → Between b e (start_at d.slots (p + j)) (room_at d.slots (p + j))
slots_between d n zero p b q j l = absurd (omega arith)
slots_between d n (suc k) p b q zero l =
    let s = slot_step d n k p b q in
    let h = slots_low d (n - 1) k (suc p) (b + room_at d.slots p) s.next in
    rw add-zero (record { low = omega (arith, s.start); high = omega (arith, s.start, h) })
slots_between d n (suc k) p b q (suc j) l =
    let s = slot_step d n k p b q in
    let f : p + suc j ≡ suc p + j = omega arith in
    let t = slots_between d (n - 1) k (suc p) (b + room_at d.slots p) s.next j (omega arith) in
    rw f (record { low = omega (arith, t.low); high = t.high })

slots_rise : (d : Dict) (n k p b : ℕ) {e : ℕ} → slots_from d n k p b ≡ Some e → (j m : ℕ) → j < m → m < k → start_at d.slots (p + j) + room_at d.slots (p + j) ≤ start_at d.slots (p + m)
slots_rise d n zero p b q j m l h = absurd (omega arith)
slots_rise d n (suc k) p b q j zero l h = absurd (omega arith)
slots_rise d n (suc k) p b q zero (suc m) l h =
    let s = slot_step d n k p b q in
    let f : p + suc m ≡ suc p + m = omega arith in
    let t = slots_between d (n - 1) k (suc p) (b + room_at d.slots p) s.next m (omega arith) in
    rw (add-zero, f) (omega (arith, t.low, s.start))
slots_rise d n (suc k) p b q (suc j) (suc m) l h =
    let s = slot_step d n k p b q in
    let f : p + suc j ≡ suc p + j = omega arith in
    let g : p + suc m ≡ suc p + m = omega arith in
    rw (f, g) (slots_rise d (n - 1) k (suc p) (b + room_at d.slots p) s.next j m (omega arith) (omega arith))

-- ---- all rows
record RowStep (d : Dict) (k i v b low v' b' : ℕ) : Type 0 where
  upto : ℕ
  rises : low ≤ index_at d.objects i
  first : first_at d.objects i ≡ v
  name : name_at d.objects i ≡ b
  slots : slots_from d (count_at d.objects i) (used_at d.objects i) v (b + name_len_at d.objects i) ≡ Some upto
  next : rows_from d k (suc i) (v + used_at d.objects i) upto (index_at d.objects i + 1) ≡ Some (v', b')

row_step : (d : Dict) (k i v b low : ℕ) {v' b' : ℕ} → rows_from d (suc k) i v b low ≡ Some (v', b') → RowStep d k i v b low v' b'
unfolding rows_from
row_step d k i v b low {v'} {b'} q =
    let x = by_row (row_ok d.objects i v b low) (row_fits d.objects d.bytes i v b) (slots_from d (count_at d.objects i) (used_at d.objects i) v (b + name_len_at d.objects i)) _ v' b' q in
    let r = row_ok_lem d i v b low x.1 in
    record { upto = x.0; rises = leb-true low (index_at d.objects i) r.rises; first = r.first; name = r.name; slots = x.3; next = x.4 }

rows_none : (d : Dict) (i v b low : ℕ) {v' b' : ℕ} → rows_from d 0 i v b low ≡ Some (v', b') → (v ≡ v') × (b ≡ b')
unfolding rows_from
rows_none d i v b low q = some_pair_parts _ _ _ _ q

rows_low : (d : Dict) (k i v b low : ℕ) {v' b' : ℕ} → rows_from d k i v b low ≡ Some (v', b') → b ≤ b'
rows_low d zero i v b low q = omega (arith, (rows_none d i v b low q).1)
rows_low d (suc k) i v b low q =
    let s = row_step d k i v b low q in
    let h = slots_low d (count_at d.objects i) (used_at d.objects i) v (b + name_len_at d.objects i) s.slots in
    omega (arith, h, rows_low d k (suc i) (v + used_at d.objects i) s.upto (index_at d.objects i + 1) s.next)

-- a value of row i, among the rooms of that row
here : (d : Dict) (n k v b : ℕ) {e : ℕ} → slots_from d n k v b ≡ Some e → (p : ℕ) → v ≤ p → p < v + k → Between b e (start_at d.slots p) (room_at d.slots p)
here d n k v b q p l h = let f : v + (p - v) ≡ p = omega arith in rw f at (slots_between d n k v b q (p - v) (omega arith))

rooms-between : (d : Dict) (k i v b low : ℕ) {v' b' : ℕ} → rows_from d k i v b low ≡ Some (v', b') → (p : ℕ) → v ≤ p → p < v' → Between b b' (start_at d.slots p) (room_at d.slots p)
rooms-between d zero i v b low q p l h = absurd (omega (arith, (rows_none d i v b low q).0))
rooms-between d (suc k) i v b low {v'} {b'} q p l h =
    let s = row_step d k i v b low q in
    go s (λ g. rooms-between d k (suc i) (v + used_at d.objects i) s.upto (index_at d.objects i + 1) s.next p g h) (dec_lt p (v + used_at d.objects i))
  where
    go : (s : RowStep d k i v b low v' b') → (v + used_at d.objects i ≤ p → Between s.upto b' (start_at d.slots p) (room_at d.slots p)) → Dec (p < v + used_at d.objects i) → Between b b' (start_at d.slots p) (room_at d.slots p)
    go s ih (yes g) =
        let t = here d (count_at d.objects i) (used_at d.objects i) v (b + name_len_at d.objects i) s.slots p l g in
        let m = rows_low d k (suc i) (v + used_at d.objects i) s.upto (index_at d.objects i + 1) s.next in
        record { low = omega (arith, t.low); high = omega (arith, t.high, m) }
    go s ih (no g) =
        let t = ih (omega arith) in
        let m = slots_low d (count_at d.objects i) (used_at d.objects i) v (b + name_len_at d.objects i) s.slots in
        record { low = omega (arith, t.low, m); high = t.high }

rooms_rise : (d : Dict) (k i v b low : ℕ) {v' b' : ℕ} → rows_from d k i v b low ≡ Some (v', b') → (p q : ℕ) → v ≤ p → p < q → q < v' → start_at d.slots p + room_at d.slots p ≤ start_at d.slots q
rooms_rise d zero i v b low w p q l m h = absurd (omega (arith, (rows_none d i v b low w).0))
rooms_rise d (suc k) i v b low {v'} {b'} w p q l m h =
    let s = row_step d k i v b low w in
    go s (λ g. rooms_rise d k (suc i) (v + used_at d.objects i) s.upto (index_at d.objects i + 1) s.next p q g m h) (dec_lt p (v + used_at d.objects i)) (dec_lt q (v + used_at d.objects i))
  where
    go : (s : RowStep d k i v b low v' b') → (v + used_at d.objects i ≤ p → start_at d.slots p + room_at d.slots p ≤ start_at d.slots q) → Dec (p < v + used_at d.objects i) → Dec (q < v + used_at d.objects i) → start_at d.slots p + room_at d.slots p ≤ start_at d.slots q
    go s ih x (yes g) =
        let e : v + (p - v) ≡ p = omega arith in
        let f : v + (q - v) ≡ q = omega arith in
        rw (e, f) at (slots_rise d (count_at d.objects i) (used_at d.objects i) v (b + name_len_at d.objects i) s.slots (p - v) (q - v) (omega arith) (omega arith))
    go s ih (yes g) (no f) =
        let t = here d (count_at d.objects i) (used_at d.objects i) v (b + name_len_at d.objects i) s.slots p l g in
        let u = rooms-between d k (suc i) (v + used_at d.objects i) s.upto (index_at d.objects i + 1) s.next q (omega arith) h in
        omega (arith, t.high, u.low)
    go s ih (no g) (no f) = ih (omega arith)

names_between : (d : Dict) (k i v b low : ℕ) {v' b' : ℕ} → rows_from d k i v b low ≡ Some (v', b') → (j : ℕ) → j < k → Between b b' (name_at d.objects (i + j)) (name_len_at d.objects (i + j))
names_between d zero i v b low q j h = absurd (omega arith)
names_between d (suc k) i v b low q zero h =
    let s = row_step d k i v b low q in
    let m = slots_low d (count_at d.objects i) (used_at d.objects i) v (b + name_len_at d.objects i) s.slots in
    let n = rows_low d k (suc i) (v + used_at d.objects i) s.upto (index_at d.objects i + 1) s.next in
    rw add-zero (record { low = omega (arith, s.name); high = omega (arith, s.name, m, n) })
names_between d (suc k) i v b low q (suc j) h =
    let s = row_step d k i v b low q in
    let f : i + suc j ≡ suc i + j = omega arith in
    let m = slots_low d (count_at d.objects i) (used_at d.objects i) v (b + name_len_at d.objects i) s.slots in
    let t = names_between d k (suc i) (v + used_at d.objects i) s.upto (index_at d.objects i + 1) s.next j (omega arith) in
    rw f (record { low = omega (arith, t.low, m); high = t.high })

name_room : (d : Dict) (k i v b low : ℕ) {v' b' : ℕ} → rows_from d k i v b low ≡ Some (v', b') → (j p : ℕ) → j < k → v ≤ p → p < v'
    → Apart (name_at d.objects (i + j)) (name_len_at d.objects (i + j)) (start_at d.slots p) (room_at d.slots p)
name_room d zero i v b low q j p h l m = absurd (omega arith)
name_room d (suc k) i v b low {v'} {b'} q j p h l m =
    let s = row_step d k i v b low q in
    go j h s (λ r f g. name_room d k (suc i) (v + used_at d.objects i) s.upto (index_at d.objects i + 1) s.next r p f g m) (dec_lt p (v + used_at d.objects i))
  where
    go : (j : ℕ) → j < suc k → (s : RowStep d k i v b low v' b') → ((r : ℕ) → r < k → v + used_at d.objects i ≤ p → Apart (name_at d.objects (suc i + r)) (name_len_at d.objects (suc i + r)) (start_at d.slots p) (room_at d.slots p))
        → Dec (p < v + used_at d.objects i) → Apart (name_at d.objects (i + j)) (name_len_at d.objects (i + j)) (start_at d.slots p) (room_at d.slots p)
    go zero x s ih (yes g) =
        let t = here d (count_at d.objects i) (used_at d.objects i) v (b + name_len_at d.objects i) s.slots p l g in
        rw add-zero (inl (omega (arith, t.low, s.name)))
    go zero x s ih (no g) =
        let n = slots_low d (count_at d.objects i) (used_at d.objects i) v (b + name_len_at d.objects i) s.slots in
        let t = rooms-between d k (suc i) (v + used_at d.objects i) s.upto (index_at d.objects i + 1) s.next p (omega arith) m in
        rw add-zero (inl (omega (arith, t.low, s.name, n)))
    go (suc j) x s ih (yes g) =
        let f : i + suc j ≡ suc i + j = omega arith in
        let t = here d (count_at d.objects i) (used_at d.objects i) v (b + name_len_at d.objects i) s.slots p l g in
        let n = names_between d k (suc i) (v + used_at d.objects i) s.upto (index_at d.objects i + 1) s.next j (omega arith) in
        rw f (inr (omega (arith, t.high, n.low)))
    go (suc j) x s ih (no g) = let f : i + suc j ≡ suc i + j = omega arith in rw f (ih j (omega arith) (omega arith))

index_low : (d : Dict) (k i v b low : ℕ) {v' b' : ℕ} → rows_from d k i v b low ≡ Some (v', b') → (j : ℕ) → j < k → low ≤ index_at d.objects (i + j)
index_low d zero i v b low q j h = absurd (omega arith)
index_low d (suc k) i v b low q zero h = rw add-zero (row_step d k i v b low q).rises
index_low d (suc k) i v b low q (suc j) h =
    let s = row_step d k i v b low q in
    let f : i + suc j ≡ suc i + j = omega arith in
    rw f (omega (arith, s.rises, index_low d k (suc i) (v + used_at d.objects i) s.upto (index_at d.objects i + 1) s.next j (omega arith)))

index_rise : (d : Dict) (k i v b low : ℕ) {v' b' : ℕ} → rows_from d k i v b low ≡ Some (v', b') → (j m : ℕ) → j < m → m < k → index_at d.objects (i + j) < index_at d.objects (i + m)
index_rise d zero i v b low q j m l h = absurd (omega arith)
index_rise d (suc k) i v b low q j zero l h = absurd (omega arith)
index_rise d (suc k) i v b low q zero (suc m) l h =
    let s = row_step d k i v b low q in
    let f : i + suc m ≡ suc i + m = omega arith in
    rw (add-zero, f) (omega (arith, index_low d k (suc i) (v + used_at d.objects i) s.upto (index_at d.objects i + 1) s.next m (omega arith)))
index_rise d (suc k) i v b low q (suc j) (suc m) l h =
    let s = row_step d k i v b low q in
    let f : i + suc j ≡ suc i + j = omega arith in
    let g : i + suc m ≡ suc i + m = omega arith in
    rw (f, g) (index_rise d k (suc i) (v + used_at d.objects i) s.upto (index_at d.objects i + 1) s.next j m (omega arith) (omega arith))

first_low : (d : Dict) (k i v b low : ℕ) {v' b' : ℕ} → rows_from d k i v b low ≡ Some (v', b') → (j : ℕ) → j < k → v ≤ first_at d.objects (i + j)
first_low d zero i v b low q j h = absurd (omega arith)
first_low d (suc k) i v b low q zero h = rw add-zero (omega (arith, (row_step d k i v b low q).first))
first_low d (suc k) i v b low q (suc j) h =
    let s = row_step d k i v b low q in
    let f : i + suc j ≡ suc i + j = omega arith in
    rw f (omega (arith, first_low d k (suc i) (v + used_at d.objects i) s.upto (index_at d.objects i + 1) s.next j (omega arith)))

first_rise : (d : Dict) (k i v b low : ℕ) {v' b' : ℕ} → rows_from d k i v b low ≡ Some (v', b') → (j m : ℕ) → j < m → m < k → first_at d.objects (i + j) + used_at d.objects (i + j) ≤ first_at d.objects (i + m)
first_rise d zero i v b low q j m l h = absurd (omega arith)
first_rise d (suc k) i v b low q j zero l h = absurd (omega arith)
first_rise d (suc k) i v b low q zero (suc m) l h =
    let s = row_step d k i v b low q in
    let f : i + suc m ≡ suc i + m = omega arith in
    rw (add-zero, f) (omega (arith, s.first, first_low d k (suc i) (v + used_at d.objects i) s.upto (index_at d.objects i + 1) s.next m (omega arith)))
first_rise d (suc k) i v b low q (suc j) (suc m) l h =
    let s = row_step d k i v b low q in
    let f : i + suc j ≡ suc i + j = omega arith in
    let g : i + suc m ≡ suc i + m = omega arith in
    rw (f, g) (first_rise d k (suc i) (v + used_at d.objects i) s.upto (index_at d.objects i + 1) s.next j m (omega arith) (omega arith))

-- the row that a value belongs to, as an element or as the default
pub record Owner (d : Dict) (n p : ℕ) : Type 0 where
  pub row : ℕ
  pub k : ℕ
  pub below : row < n
  pub inside : k < used_at d.objects row
  pub place : p ≡ first_at d.objects row + k

owner : (d : Dict) (k i v b low : ℕ) {v' b' : ℕ} → rows_from d k i v b low ≡ Some (v', b') → (p : ℕ) → v ≤ p → p < v' → Owner d (i + k) p
owner d zero i v b low q p l h = absurd (omega (arith, (rows_none d i v b low q).0))
owner d (suc k) i v b low {v'} {b'} q p l h =
    let s = row_step d k i v b low q in
    go s (λ g. owner d k (suc i) (v + used_at d.objects i) s.upto (index_at d.objects i + 1) s.next p g h) (dec_lt p (v + used_at d.objects i))
  where
    go : RowStep d k i v b low v' b' → (v + used_at d.objects i ≤ p → Owner d (suc i + k) p) → Dec (p < v + used_at d.objects i) → Owner d (i + suc k) p
    go s ih (yes g) = record { row = i; k = p - v; below = omega arith; inside = omega arith; place = omega (arith, s.first) }
    go s ih (no g) =
        let t = ih (omega arith) in
        record { row = t.row; k = t.k; below = omega (arith, t.below); inside = t.inside; place = t.place }

-- ---- of a well-formed dictionary
walked : (d : Dict) → well_formed d ≡ true → rows_from d (number_of d.objects) 0 0 0 0 ≡ Some (values_of d.objects, used_of d.objects)
unfolding well_formed
walked d e =
    (by_judge (header_ok d) (values_of d.objects) (used_of d.objects) (rows_from d (number_of d.objects) 0 0 0 0) e).1

module _ (d : Dict) (e : well_formed d ≡ true) where
  pub within : (p : ℕ) → p < values_of d.objects → start_at d.slots p + room_at d.slots p ≤ used_of d.objects
  within p h = (rooms-between d (number_of d.objects) 0 0 0 0 (walked d e) p (omega arith) h).high

  -- rooms lie apart
  pub apart : (p q : ℕ) → p < q → q < values_of d.objects → start_at d.slots p + room_at d.slots p ≤ start_at d.slots q
  apart p q l h = rooms_rise d (number_of d.objects) 0 0 0 0 (walked d e) p q (omega arith) l h

  -- and so do a name and a room
  pub name_apart : (i p : ℕ) → i < number_of d.objects → p < values_of d.objects → Apart (name_at d.objects i) (name_len_at d.objects i) (start_at d.slots p) (room_at d.slots p)
  name_apart i p l h =
      rw zero-add at (name_room d (number_of d.objects) 0 0 0 0 (walked d e) i p l (omega arith) h)

  -- indices rise, so that no two rows have the same
  pub rising : (i j : ℕ) → i < j → j < number_of d.objects → index_at d.objects i < index_at d.objects j
  rising i j l h =
      rw (zero-add, zero-add) at (index_rise d (number_of d.objects) 0 0 0 0 (walked d e) i j l h)

  pub owned : (p : ℕ) → p < values_of d.objects → Owner d (number_of d.objects) p
  owned p h = rw zero-add at (owner d (number_of d.objects) 0 0 0 0 (walked d e) p (omega arith) h)

  -- the values of a row lie before those of the next
  pub firsts_rise : (i j : ℕ) → i < j → j < number_of d.objects → first_at d.objects i + used_at d.objects i ≤ first_at d.objects j
  firsts_rise i j l h =
      rw (zero-add, zero-add) at (first_rise d (number_of d.objects) 0 0 0 0 (walked d e) i j l h)
