-- The keys of a readable image rise. Assumes nothing.
use mathlib.Core.Path.{◌≡◌, refl}
use mathlib.Core.Bool.{Bool, true, false}
use mathlib.Core.Logic.{◌⊎◌, inl, inr, ⊎_elim}
use mathlib.Core.List.{List}
use Prim.Native.Nat.{ℕ, zero, suc, ◌+◌, ◌-◌, ◌*◌, ◌<◌, ◌≤◌}
use native.Mathlib.Omega.{arith}
use native.Mathlib.Decide.{dec_lt}
use lib.Dec.{leb}
use lib.ListN.{length, take, drop}
use borrow.Author.Tests.{leb-true}
use Rattle.entry.proofs.JudgeLaws.{and_true}
use Rattle.value.specs.Codec.{exact}
use Rattle.image.specs.Readable.{field, key_in, type_in, start_in, size_at, placed, heads_ok, readable}
use Rattle.image.proofs.ReadLaws.{placed_true}
use Rattle.fitting.specs.Records.{record_place, records, record_of, seek_from, Cursor}
use Rattle.fitting.proofs.RecordLaws.{Rising, sought, stopped, lookup}

-- of n records from place a on, the one at j is not below low, and they rise
heads_low : (s : List ℕ) (n a b sum low : ℕ) → heads_ok s n a b sum low ≡ true → (j : ℕ) → j < n → low ≤ key_in s (a + 8 * j)
unfolding heads_ok
heads_low s zero a b sum low e j h = absurd (omega arith)
heads_low s (suc n) a b sum low e zero h =
    let x = and_true (placed s a b sum low) _ e in
    let q : a + 8 * 0 ≡ a = omega arith in
    rw q (placed_true s a b sum low x.0).rises
heads_low s (suc n) a b sum low e (suc j) h =
    let x = and_true (placed s a b sum low) _ e in
    let y = and_true (exact (type_in s a) (take (size_at s a) (drop (b + sum) s))) _ x.1 in
    let q : a + 8 * suc j ≡ a + 8 + 8 * j = omega arith in
    rw q (omega (arith, (placed_true s a b sum low x.0).rises, heads_low s n (a + 8) b (sum + size_at s a) (key_in s a + 1) y.1 j (omega arith)))

heads_rise : (s : List ℕ) (n a b sum low : ℕ) → heads_ok s n a b sum low ≡ true → (i j : ℕ) → i < j → j < n → key_in s (a + 8 * i) < key_in s (a + 8 * j)
unfolding heads_ok
heads_rise s zero a b sum low e i j l h = absurd (omega arith)
heads_rise s (suc n) a b sum low e i zero l h = absurd (omega arith)
heads_rise s (suc n) a b sum low e zero (suc j) l h =
    let x = and_true (placed s a b sum low) _ e in
    let y = and_true (exact (type_in s a) (take (size_at s a) (drop (b + sum) s))) _ x.1 in
    let q : a + 8 * suc j ≡ a + 8 + 8 * j = omega arith in
    let p : a + 8 * 0 ≡ a = omega arith in
    rw (q, p) (omega (arith, heads_low s n (a + 8) b (sum + size_at s a) (key_in s a + 1) y.1 j (omega arith)))
heads_rise s (suc n) a b sum low e (suc i) (suc j) l h =
    let x = and_true (placed s a b sum low) _ e in
    let y = and_true (exact (type_in s a) (take (size_at s a) (drop (b + sum) s))) _ x.1 in
    let q : a + 8 * suc j ≡ a + 8 + 8 * j = omega arith in
    let p : a + 8 * suc i ≡ a + 8 + 8 * i = omega arith in
    rw (q, p) (heads_rise s n (a + 8) b (sum + size_at s a) (key_in s a + 1) y.1 i j (omega arith) (omega arith))

-- each of them is in its place, and its body is just a value of its type
pub record Held (s : List ℕ) (b a : ℕ) : Type 0 where
  pub small : start_in s a + size_at s a ≤ 16384
  pub within : b + start_in s a + size_at s a ≤ length s
  pub exact : exact (type_in s a) (take (size_at s a) (drop (b + start_in s a) s)) ≡ true

heads-held : (s : List ℕ) (n a b sum low : ℕ) → heads_ok s n a b sum low ≡ true → (j : ℕ) → j < n → Held s b (a + 8 * j)
unfolding heads_ok
heads-held s zero a b sum low e j h = absurd (omega arith)
heads-held s (suc n) a b sum low e zero h =
    let x = and_true (placed s a b sum low) _ e in
    let y = and_true (exact (type_in s a) (take (size_at s a) (drop (b + sum) s))) _ x.1 in
    let p = placed_true s a b sum low x.0 in
    let q : a + 8 * 0 ≡ a = omega arith in
    rw q (record { small = omega (arith, p.start, p.small); within = omega (arith, p.start, p.within); exact = rw p.start y.0 })
heads-held s (suc n) a b sum low e (suc j) h =
    let x = and_true (placed s a b sum low) _ e in
    let y = and_true (exact (type_in s a) (take (size_at s a) (drop (b + sum) s))) _ x.1 in
    let q : a + 8 * suc j ≡ a + 8 + 8 * j = omega arith in
    rw q (heads-held s n (a + 8) b (sum + size_at s a) (key_in s a + 1) y.1 j (omega arith))

-- what a readable image says of its records
pub record Image (s : List ℕ) : Type 0 where
  pub few : records s ≤ 2048
  pub long : records s ≡ 0 ⊎ (record_place (records s) ≤ length s)
  pub rising : Rising s (records s)
  pub held : (k : ℕ) → k < records s → Held s (record_place (field s 0 2)) (record_place k)

pub image : (s : List ℕ) → Image s
unfolding readable
image s = go (readable s) refl
  where
    go : (b : Bool) → readable s ≡ b → Image s
    go false q =
        let z : records s ≡ 0 = rw q in
        record { few = omega (arith, z); long = inl z; rising = record { rises = λ i j l h. absurd (omega (arith, z, h)) }; held = λ k h. absurd (omega (arith, z, h)) }
    go true q =
        let r = field s 0 2 in
        let z : records s ≡ r = rw q in
        let x = and_true (leb 2 (length s)) _ q in
        let y = and_true (leb r 2048) _ x.1 in
        let v = and_true (leb (2 + 8 * r) (length s)) _ y.1 in
        record {
          few = omega (arith, z, leb-true r 2048 y.0);
          long = inr (omega (arith, z, leb-true (2 + 8 * r) (length s) v.0));
          rising = record { rises = λ i j l h. heads_rise s r 2 (2 + 8 * r) 0 0 v.1 i j l (omega (arith, z, h)) };
          held = λ k h. heads-held s r 2 (2 + 8 * r) 0 0 v.1 k (omega (arith, z, h));
        }

-- where a record lies
pub record Lies (s : List ℕ) (j : ℕ) : Type 0 where
  pub few : records s ≤ 2048
  pub inside : record_place j + 8 ≤ length s

pub lies : (s : List ℕ) (j : ℕ) → j < records s → Lies s j
lies s j h = record { few = (image s).few; inside = ⊎_elim (λ z. absurd (omega (arith, z))) (λ l. omega (arith, l)) (image s).long }

pub readable_long : (s : List ℕ) → readable s ≡ true → 2 ≤ length s
unfolding readable
readable_long s q = leb-true 2 (length s) (and_true (leb 2 (length s)) _ q).0

-- ---- from where to seek, and where that ends
pub cursor_first : (s : List ℕ) (n key : ℕ) → Cursor s n 0 key
cursor_first s n key = record { here = omega arith; below = λ j h. absurd (omega arith) }

pub cursor_near : (s : List ℕ) (n k key : ℕ) → n ≡ records s → 0 < k → k ≤ n → key_in s (record_place (k - 1)) < key → Cursor s n k key
cursor_near s n k key e l h b = record { here = h; below = λ j i. go j i (dec_lt j (k - 1)) }
  where
    go : (j : ℕ) → j < k → Dec (j < k - 1) → key_in s (record_place j) < key
    go j i (yes m) = omega (arith, b, (image s).rising.rises j (k - 1) m (omega (arith, e)))
    go j i (no m) = let q : j ≡ k - 1 = omega arith in rw q b

pub sought_within : (s : List ℕ) (n k key : ℕ) → k ≤ n → seek_from s (n - k) k key ≤ n
sought_within s n k key h = omega (arith, (sought s (n - k) k key).within)

pub looked_up : (s : List ℕ) (n k key r : ℕ) → n ≡ records s → Cursor s n k key → r ≡ seek_from s (n - k) k key → record_of s key ≡ stopped s n r key
looked_up s n k key r e c q = rw (← e, q) (lookup s n k key (rw e (image s).rising) c)
