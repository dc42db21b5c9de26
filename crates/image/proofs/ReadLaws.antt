-- The readable test, one record at a time.
-- Assumes nothing.
use mathlib.Core.Path.{◌≡◌, ◌∙◌}
use mathlib.Core.Bool.{Bool, true, false, ◌&&◌}
use mathlib.Core.List.{List}
use Prim.Native.Nat.{ℕ, suc, ◌+◌, ◌-◌, ◌*◌, ◌≤◌, ◌<◌}
use native.Mathlib.Omega.{arith}
use borrow.Author.Tests.{eqb-true, leb-true, le-leb, lt-leb}
use lib.Dec.{eqb, leb}
use lib.ListN.{length, take, drop}
use Rattle.lists.specs.Numbers.{Bytes}
use Rattle.lists.proofs.NumberLaws.{part_lt}
use Rattle.value.specs.Codec.{exact}
use Rattle.entry.proofs.JudgeLaws.{and_true}
use Rattle.entry.proofs.WalkLaws.{and_false}
use Rattle.image.specs.Readable.{field, key_in, type_in, start_in, size_at, placed, heads_ok, readable}

pub key_lt : (s : List ℕ) (a : ℕ) → Bytes s → a + 8 ≤ length s → key_in s a < 16777216
key_lt s a h l = omega (arith, part_lt s a 2 (omega arith) h, part_lt s (a + 2) 1 (omega arith) h)

-- ---- a record in its place
pub record Placed (s : List ℕ) (a b sum low : ℕ) : Type 0 where
  pub rises : low ≤ key_in s a
  pub start : start_in s a ≡ sum
  pub small : sum + size_at s a ≤ 16384
  pub within : b + (sum + size_at s a) ≤ length s

pub placed_true : (s : List ℕ) (a b sum low : ℕ) → placed s a b sum low ≡ true → Placed s a b sum low
unfolding placed
placed_true s a b sum low e =
    let p = and_true (leb low (key_in s a)) _ e in
    let r = and_true (eqb (start_in s a) sum) _ p.1 in
    let t = and_true (leb (sum + size_at s a) 16384) _ r.1 in
    record { rises = leb-true _ _ p.0; start = eqb-true _ _ r.0; small = leb-true _ _ t.0; within = leb-true _ _ t.1 }

-- ---- the walk
module _ (s : List ℕ) (n b : ℕ) where
  -- from record k of n on
  abbrev pub onward : ℕ → ℕ → ℕ → Bool
  onward k sum low = heads_ok s (n - k) (2 + 8 * k) b sum low

  pub onward-step : (k sum low : ℕ) → k < n
      → onward k sum low ≡ (placed s (2 + 8 * k) b sum low && (exact (type_in s (2 + 8 * k)) (take (size_at s (2 + 8 * k)) (drop (b + sum) s)) && onward (k + 1) (sum + size_at s (2 + 8 * k)) (key_in s (2 + 8 * k) + 1)))
  unfolding heads_ok
  onward-step k sum low h =
      let e : n - k ≡ suc (n - (k + 1)) = omega arith in
      let f : 2 + 8 * (k + 1) ≡ 2 + 8 * k + 8 = omega arith in
      rw (e, f)

  pub onward_end : (k sum low : ℕ) → n ≤ k → onward k sum low ≡ true
  unfolding heads_ok
  onward_end k sum low h = let e : n - k ≡ 0 = omega arith in rw e

  pub not_placed : (k sum low : ℕ) → k < n → placed s (2 + 8 * k) b sum low ≡ false → onward k sum low ≡ false
  not_placed k sum low h e = onward-step k sum low h ∙ rw e

  pub not_exact : (k sum low : ℕ) → k < n → exact (type_in s (2 + 8 * k)) (take (size_at s (2 + 8 * k)) (drop (b + sum) s)) ≡ false → onward k sum low ≡ false
  not_exact k sum low h e = onward-step k sum low h ∙ rw e (and_false (placed s (2 + 8 * k) b sum low))

  pub onward_more : (k sum low : ℕ) → k < n → placed s (2 + 8 * k) b sum low ≡ true → exact (type_in s (2 + 8 * k)) (take (size_at s (2 + 8 * k)) (drop (b + sum) s)) ≡ true
      → onward k sum low ≡ onward (k + 1) (sum + size_at s (2 + 8 * k)) (key_in s (2 + 8 * k) + 1)
  onward_more k sum low h e f = onward-step k sum low h ∙ rw (e, f)

-- ---- the count
module _ (s : List ℕ) where
  pub no_count : length s < 2 → readable s ≡ false
  unfolding readable
  no_count h = rw (lt-leb 2 (length s) h)

  pub many : 2048 < field s 0 2 → readable s ≡ false
  unfolding readable
  many h = rw (lt-leb (field s 0 2) 2048 h) (and_false (leb 2 (length s)))

  pub short : length s < 2 + 8 * field s 0 2 → readable s ≡ false
  unfolding readable
  short h = rw (lt-leb (2 + 8 * field s 0 2) (length s) h, and_false (leb (field s 0 2) 2048)) (and_false (leb 2 (length s)))

  pub counted : field s 0 2 ≤ 2048 → 2 + 8 * field s 0 2 ≤ length s → readable s ≡ heads_ok s (field s 0 2) 2 (2 + 8 * field s 0 2) 0 0
  unfolding readable
  counted h l =
      let m : 2 ≤ length s = omega arith in
      rw (le-leb 2 (length s) m, le-leb (field s 0 2) 2048 h, le-leb (2 + 8 * field s 0 2) (length s) l)
