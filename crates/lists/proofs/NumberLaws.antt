-- Laws on little-endian numbers, once over the width.
-- Assumes nothing.
use mathlib.Core.Path.{◌≡◌, refl, sym, ap, ◌∙◌}
use mathlib.Core.List.{List, [], ◌∷◌, ◌++◌}
use Prim.Native.Nat.{ℕ, zero, suc, ◌+◌, ◌-◌, ◌*◌, ◌/◌, ◌%◌, ◌^◌, ◌<◌, ◌≤◌}
use native.Mathlib.Nat.{add_comm, zero-add, suc-add, mul_assoc, mul_left_comm, le_of_suc-le-suc, not-suc-le-zero, mod-eq_of_lt, div-eq_of_lt, add-mul-div_right, add-mul-mod_self_right}
use native.Mathlib.Numerals.{add-one}
use native.Mathlib.Omega.{arith}
use native.Mathlib.Decide.{dec_lt}
use lib.ListN.{length, take, drop, get_or, set, length-drop, drop_of_length-le}
use lib.Seq.{drop-cons, length-take-le, get_or-take, get_or-drop, get_or-set_same, get_or-set_other}
use lib.Pow.{pow-add, pow_mono, pow_pos, mod-pow-add, shr-shr}
use Rattle.std.proofs.Common.{pow-suc}
use Rattle.std.specs.Array.{IsWholeChunk}
use Rattle.std.specs.Int.{w16, w32, w64, byte_worth, sum_through, from_le_bytes}
use Rattle.lists.specs.Lists.{over}
use Rattle.lists.specs.Numbers.{number, bytes_of, bits, Bytes}
use Rattle.lists.proofs.ListLaws.{over_first, over_none, get_or-over-below, get_or-over-inside, get_or-over_above}

-- ---- one byte more
pub pow_suc : (k : ℕ) → 2 ^ (8 * suc k) ≡ 256 * 2 ^ (8 * k)
pow_suc k = let e : 8 * suc k ≡ 8 * k + 8 = omega arith in let p = pow-add 2 (8 * k) 8 in rw e (omega arith)

-- ---- bounds
pub number_lt : (s : List ℕ) → Bytes s → number s < 2 ^ (8 * length s)
unfolding number
number_lt [] h = omega arith
number_lt (b ∷ s) h = rw (pow_suc (length s)) (omega (arith, number_lt s (λ i. h (suc i)), h 0))

pub length-bytes_of : (n x : ℕ) → length (bytes_of n x) ≡ n
unfolding bytes_of
length-bytes_of zero x = refl
length-bytes_of (suc n) x = ap suc (length-bytes_of n (x / 256))

pub bytes_bytes_of : (n x : ℕ) → Bytes (bytes_of n x)
unfolding bytes_of
bytes_bytes_of zero x i = omega arith
bytes_bytes_of (suc n) x zero = omega arith
bytes_bytes_of (suc n) x (suc i) = bytes_bytes_of n (x / 256) i

pub bytes_take : (n : ℕ) (s : List ℕ) → Bytes s → Bytes (take n s)
bytes_take zero s h i = omega arith
bytes_take (suc n) [] h i = h i
bytes_take (suc n) (b ∷ s) h zero = h 0
bytes_take (suc n) (b ∷ s) h (suc i) = bytes_take n s (λ j. h (suc j)) i

pub bytes_drop : (a : ℕ) (s : List ℕ) → Bytes s → Bytes (drop a s)
bytes_drop a s h i = rw (get_or-drop a s i 0) (h (a + i))

pub bytes_over : (xs : List ℕ) (a : ℕ) (ys : List ℕ) → a ≤ length xs → Bytes xs → Bytes ys → Bytes (over xs a ys)
bytes_over xs a ys l bx by i = go (dec_lt i a) (dec_lt i (a + length ys))
  where
    go : Dec (i < a) → Dec (i < a + length ys) → get_or (over xs a ys) i 0 < 256
    go (yes h) k = rw (get_or-over-below xs a ys i h l) (bx i)
    go (no h) (yes k) =
        let e : a + (i - a) ≡ i = omega (arith, h) in
        let z : get_or (over xs a ys) (a + (i - a)) 0 < 256 = rw (get_or-over-inside xs a ys (i - a) (omega (arith, h, k)) l) (by (i - a)) in
        rw e at z
    go (no h) (no k) = rw (get_or-over_above xs a ys i (omega (arith, k)) l) (bx i)

pub bytes_set : (s : List ℕ) (k v : ℕ) → Bytes s → k < length s → v < 256 → Bytes (set s k v)
bytes_set s k v b l h i = go (dec_lt i k) (dec_lt k i)
  where
    go : Dec (i < k) → Dec (k < i) → get_or (set s k v) i 0 < 256
    go (yes x) y = rw (get_or-set_other s k i v 0 (λ e. absurd (omega (arith, x, e)))) (b i)
    go (no x) (yes y) = rw (get_or-set_other s k i v 0 (λ e. absurd (omega (arith, y, e)))) (b i)
    go (no x) (no y) = let e : i ≡ k = omega (arith, x, y) in rw (e, get_or-set_same s k v 0 l) h

-- element by element, of a list that is written out
abbrev pub Each : List ℕ → Type 0
Each [] = Unit {0}
Each (b ∷ s) = (b < 256) × Each s

pub bytes_each : (s : List ℕ) → Each s → Bytes s
bytes_each [] h i = omega arith
bytes_each (b ∷ s) h zero = h.0
bytes_each (b ∷ s) h (suc i) = bytes_each s h.1 i

-- ---- both round trips
pub number-bytes_of : (n x : ℕ) → x < 2 ^ (8 * n) → number (bytes_of n x) ≡ x
unfolding number bytes_of
number-bytes_of zero x h = omega arith
number-bytes_of (suc n) x h =
    let l : x / 256 < 2 ^ (8 * n) = omega (arith, pow_suc n) in
    let e = number-bytes_of n (x / 256) l in
    omega arith

pub bytes_of-number : (s : List ℕ) → Bytes s → bytes_of (length s) (number s) ≡ s
unfolding number bytes_of
bytes_of-number [] h = refl
bytes_of-number (b ∷ s) h =
    let l : b < 256 = h 0 in
    let m : (b + 256 * number s) % 256 ≡ b = omega arith in
    let d : (b + 256 * number s) / 256 ≡ number s = omega arith in
    rw (m, d) (ap (λ t. b ∷ t) (bytes_of-number s (λ i. h (suc i))))

-- ---- two parts
pub number_append : (s t : List ℕ) → number (s ++ t) ≡ number s + 2 ^ (8 * length s) * number t
unfolding number
number_append [] t = omega arith
number_append (b ∷ s) t =
    let e = number_append s t in
    let m : 256 * 2 ^ (8 * length s) * number t ≡ 256 * (2 ^ (8 * length s) * number t) = mul_assoc 256 (2 ^ (8 * length s)) (number t) in
    rw (pow_suc (length s)) (omega arith)

-- of a part: its first byte, and two parts one behind the other
pub read_one : (s : List ℕ) (at : ℕ) → at < length s → number (take 1 (drop at s)) ≡ get_or s at 0
unfolding number
read_one s at h = rw (drop-cons s at 0 h) (omega arith)

pub bytes_of-append : (m n x : ℕ) → bytes_of (m + n) x ≡ bytes_of m x ++ bytes_of n (x / 2 ^ (8 * m))
unfolding bytes_of
bytes_of-append zero n x = let e : x / 1 ≡ x = omega arith in rw (zero-add, e)
bytes_of-append (suc m) n x =
    let d : x / 256 / 2 ^ (8 * m) ≡ x / 2 ^ (8 * suc m) = shr-shr x 8 (8 * m) ∙ ap (λ k. x / 2 ^ k) (omega arith) in
    rw suc-add (ap (λ l. x % 256 ∷ l) (bytes_of-append m n (x / 256) ∙ ap (λ k. bytes_of m (x / 256) ++ bytes_of n k) d))

-- a number below, and one above it
pub bytes_of_two : (m n x y : ℕ) → x < 2 ^ (8 * m) → bytes_of (m + n) (x + y * 2 ^ (8 * m)) ≡ bytes_of m x ++ bytes_of n y
unfolding bytes_of
bytes_of_two zero n x y h = let e : x + y * 1 ≡ y = omega arith in rw (zero-add, e)
bytes_of_two (suc m) n x y h =
    let p : 2 ^ (8 * suc m) ≡ 256 * 2 ^ (8 * m) = pow_suc m in
    let q : y * 2 ^ (8 * suc m) ≡ 256 * (y * 2 ^ (8 * m)) = rw p (mul_left_comm y 256 (2 ^ (8 * m))) in
    let l : (x + y * 2 ^ (8 * suc m)) % 256 ≡ x % 256 = omega arith in
    let u : (x + y * 2 ^ (8 * suc m)) / 256 ≡ x / 256 + y * 2 ^ (8 * m) = omega arith in
    rw (suc-add, l, u) (ap (λ s. x % 256 ∷ s) (bytes_of_two m n (x / 256) y (omega arith)))

-- ---- a part of a number's bits
-- the a low bits, and n bits from bit a on, make the n + a low bits
pub bits_more : (a n x : ℕ) {lo : ℕ} → lo ≡ x % 2 ^ a → lo + bits a n x * 2 ^ a ≡ x % 2 ^ (n + a)
bits_more a n x {lo} e = add_comm lo (bits a n x * 2 ^ a) ∙ ap (λ l. bits a n x * 2 ^ a + l) e ∙ sym (mod-pow-add x n a)

-- and each of two such parts is read off what they make
pub bits_two : (a n : ℕ) {lo hi : ℕ} → lo < 2 ^ a → hi < 2 ^ n → ((lo + hi * 2 ^ a) % 2 ^ a ≡ lo) × (bits a n (lo + hi * 2 ^ a) ≡ hi)
bits_two a n {lo} {hi} l h =
    let d : (lo + hi * 2 ^ a) / 2 ^ a ≡ hi = add-mul-div_right lo hi (pow_pos a) ∙ ap (λ q. q + hi) (div-eq_of_lt l) ∙ zero-add hi in
    (add-mul-mod_self_right lo hi (2 ^ a) ∙ mod-eq_of_lt l, rw d (mod-eq_of_lt h))

-- the bits of byte i are byte i
pub bits-number : (s : List ℕ) → Bytes s → (i : ℕ) → i < length s → bits (8 * i) 8 (number s) ≡ get_or s i 0
unfolding number
bits-number [] h i l = absurd (not-suc-le-zero l)
bits-number (b ∷ s) h zero l = let k : b < 256 = h 0 in omega arith
bits-number (b ∷ s) h (suc i) l =
    let k : b < 256 = h 0 in
    let d : (b + 256 * number s) / 256 ≡ number s = omega arith in
    let e : (b + 256 * number s) / 2 ^ (8 * suc i) ≡ number s / 2 ^ (8 * i) =
    ap (λ m. (b + 256 * number s) / 2 ^ m) (omega arith) ∙ sym (shr-shr (b + 256 * number s) 8 (8 * i)) ∙ ap (λ y. y / 2 ^ (8 * i)) d in
    rw e (bits-number s (λ i. h (suc i)) i (le_of_suc-le-suc l))

-- ---- reading n bytes from place a on, from the last one down
module _ (s : List ℕ) (a n : ℕ) (h : a + n ≤ length s) where
  pub part_length : length (take n (drop a s)) ≡ n
  part_length = length-take-le n (drop a s) (simp length-drop (omega arith))

  pub part_lt : Bytes s → number (take n (drop a s)) < 2 ^ (8 * n)
  part_lt b = rw part_length at (number_lt (take n (drop a s)) (bytes_take n (drop a s) (bytes_drop a s b)))

  pub read_none : 0 ≡ number (drop n (take n (drop a s)))
  unfolding number
  read_none = let l : length (take n (drop a s)) ≤ n = omega (arith, part_length) in rw (drop_of_length-le (take n (drop a s)) l)

  pub read_more : (i sum b : ℕ) → 0 < i → i ≤ n → sum ≡ number (drop i (take n (drop a s))) → b ≡ get_or s (a + (i - 1)) 0 → sum * 256 + b ≡ number (drop (i - 1) (take n (drop a s)))
  unfolding number
  read_more i sum b z l e q =
      let f = take n (drop a s) in
      let k : suc (i - 1) ≡ i = omega arith in
      let g : get_or f (i - 1) 0 ≡ get_or s (a + (i - 1)) 0 = get_or-take n (drop a s) (i - 1) 0 (omega arith) ∙ get_or-drop a s (i - 1) 0 in
      let d : number (drop (i - 1) f) ≡ get_or f (i - 1) 0 + 256 * number (drop i f) =
      ap number (drop-cons f (i - 1) 0 (omega (arith, part_length))) ∙ ap (λ j. get_or f (i - 1) 0 + 256 * number (drop j f)) k in
      omega arith

-- what is read so far fits, with the next byte too
pub read_fits : (n i sum b : ℕ) → 0 < i → i ≤ n → sum < 2 ^ (8 * (n - i)) → b < 256 → sum * 256 + b < 2 ^ (8 * (n - (i - 1)))
read_fits n i sum b z l h g = let e : n - (i - 1) ≡ suc (n - i) = omega arith in rw (e, pow_suc (n - i)) (omega arith)

pub read_fits64 : (n i sum b : ℕ) → 0 < i → i ≤ n → n ≤ 8 → sum < 2 ^ (8 * (n - i)) → b < 256 → sum * 256 + b < 2 ^ 64
read_fits64 n i sum b z l m h g =
    let w : 2 ^ (8 * (n - (i - 1))) ≤ 2 ^ 64 = pow_mono {i = 8 * (n - (i - 1))} {j = 64} (omega arith) in
    omega (arith, read_fits n i sum b z l h g)

-- ---- writing n bytes over the first n, from the first one up
pub put_more : (xs : List ℕ) (n j x : ℕ) → j < n → n ≤ length xs → over xs j (bytes_of (n - j) x) ≡ over (set xs j (x % 256)) (j + 1) (bytes_of (n - (j + 1)) (x / 256))
unfolding bytes_of
put_more xs n j x h l =
    let e : n - j ≡ suc (n - (j + 1)) = omega arith in
    rw (e, add-one) (over_first xs j (x % 256) (bytes_of (n - suc j) (x / 256)) (omega arith))

pub put_all : (xs : List ℕ) (a n x : ℕ) → n ≡ 0 → over xs a (bytes_of n x) ≡ xs
unfolding bytes_of
put_all xs a n x e = rw e (over_none xs a)

-- ---- read as `from_le_bytes` sums its bytes
sum_more : (b : ℕ) (t : List ℕ) (k : ℕ) → sum_through (λ i. byte_worth i (get_or (b ∷ t) i 0)) (suc k) ≡ b + 256 * sum_through (λ i. byte_worth i (get_or t i 0)) k
sum_more b t zero = omega arith
sum_more b t (suc k) =
    let x = get_or t (suc k) 0 in
    let m : x * (256 * 256 ^ suc k) ≡ 256 * (x * 256 ^ suc k) = mul_left_comm x 256 (256 ^ suc k) in
    let e : 256 ^ suc (suc k) ≡ 256 * 256 ^ suc k = omega (arith, pow-suc 256 (suc k)) in
    rw e (omega (arith, sum_more b t k, m))

pub sum_number : (k : ℕ) (s : List ℕ) → length s ≡ suc k → sum_through (λ i. byte_worth i (get_or s i 0)) k ≡ number s
unfolding number
sum_number k [] h = absurd (omega (arith, h))
sum_number zero (b ∷ []) h = omega arith
sum_number zero (b ∷ (_ ∷ _)) h = absurd (omega (arith, h))
sum_number (suc k) (b ∷ t) h = sum_more b t k ∙ ap (λ n. b + 256 * n) (sum_number k t (omega (arith, h)))

read_chunk : (s bytes : List ℕ) (at k : ℕ) → at + suc k ≤ length s → IsWholeChunk (take (at + suc k - at) (drop at s)) bytes (suc k) → sum_through (λ i. byte_worth i (get_or bytes i 0)) k ≡ number (take (suc k) (drop at s))
read_chunk s bytes at k h w =
    let n : at + suc k - at ≡ suc k = omega arith in
    let e : bytes ≡ take (suc k) (drop at s) = w.same ∙ ap (λ m. take m (drop at s)) n in
    rw e (sum_number k (take (suc k) (drop at s)) (length-take-le (suc k) (drop at s) (simp length-drop (omega arith))))

pub read_2 : (s bytes : List ℕ) (at r : ℕ) → IsWholeChunk (take (at + 2 - at) (drop at s)) bytes 2 → at + 2 ≤ length s → r ≡ from_le_bytes w16 bytes → r ≡ number (take 2 (drop at s))
read_2 s bytes at r w h e = e ∙ read_chunk s bytes at 1 h w

pub read_4 : (s bytes : List ℕ) (at r : ℕ) → IsWholeChunk (take (at + 4 - at) (drop at s)) bytes 4 → at + 4 ≤ length s → r ≡ from_le_bytes w32 bytes → r ≡ number (take 4 (drop at s))
read_4 s bytes at r w h e = e ∙ read_chunk s bytes at 3 h w

pub read_8 : (s bytes : List ℕ) (at r : ℕ) → IsWholeChunk (take (at + 8 - at) (drop at s)) bytes 8 → at + 8 ≤ length s → r ≡ from_le_bytes w64 bytes → r ≡ number (take 8 (drop at s))
read_8 s bytes at r w h e = e ∙ read_chunk s bytes at 7 h w
