-- Where the high bits of a number's bytes are not set, its bytes are ASCII; ASCII may be skipped, and is text.
-- Assumes nothing.
use Rattle.std.specs.Prelude.{Some, Ok, Err}
use Prim.Native.Nat.{ℕ, zero, suc, ◌+◌, ◌-◌, ◌*◌, ◌/◌, ◌^◌, ◌≤◌, ◌<◌, zero-le, suc-le-suc}
use mathlib.Core.Path.{◌≡◌, refl, sym, ap, subst, ◌∙◌}
use mathlib.Core.Bool.{Bool, true, false, ◌||◌, not}
use mathlib.Core.List.{List, [], ◌∷◌}
use native.Mathlib.Nat.{add-zero, le_refl}
use native.Mathlib.Omega.{arith}
use native.Mathlib.Decide.{dec_lt}
use borrow.Author.Tests.{ltb-true, le-leb, eqb-true}
use Rattle.std.proofs.lemmas.List.Sums.{prefix_len-le-length}
use lib.Dec.{T, eqb, leb, ltb, leb→le}
use Rattle.std.specs.Int.{w64, from_le_bytes}
use Rattle.std.specs.List.{fold, prefix_len}
use Rattle.std.specs.Simd.{first_chunks}
use lib.ListN.{length, take, drop, get_or, length-drop}
use lib.Seq.{drop-drop, length-take-le, get_or-take, get_or-drop}
use lib.Bits.{bit_and, bit_or, and_block, or_add_and, and_le_l, and_le_r}
use Rattle.lists.specs.Tests.{below, below_at}
use Rattle.lists.specs.Numbers.{number, Bytes}
use Rattle.lists.proofs.NumberLaws.{bytes_take, bytes_drop, sum_number}
use Rattle.text.specs.Machine.{step, onward, judge_at, judge, Skipped}
use Rattle.text.proofs.Laws.{more}

-- ---- the high bit of each byte
abbrev highs : ℕ → ℕ
highs zero = 0
highs (suc n) = 128 + 256 * highs n

-- of one byte, which antt computes
low_byte : (b : ℕ) → b < 256 → bit_and b 128 ≡ 0 → b ≤ 127
unfolding below
low_byte b h e = go (eqb (bit_and b 128) 0) (ap (λ x. eqb x 0) e) (below_at 256 (λ k. not (eqb (bit_and k 128) 0) || leb k 127) tt b h)
  where
    go : (t : Bool) → t ≡ true → T (not t || leb b 127) → b ≤ 127
    go true q z = leb→le b 127 z
    go false q z = absurd (subst T (sym q) tt)

-- of the lowest byte of a number, and of the others
low_first : (b x m : ℕ) → b < 256 → bit_and (b + 256 * x) (128 + 256 * m) ≡ 0 → (b ≤ 127) × (bit_and x m ≡ 0)
low_first b x m h e =
    let p : x * 2 ^ 8 + b ≡ b + 256 * x = omega arith in
    let q : m * 2 ^ 8 + 128 ≡ 128 + 256 * m = omega arith in
    let z = and_block 8 x m b 128 h (omega arith) in
    let w : bit_and x m * 2 ^ 8 + bit_and b 128 ≡ 0 = sym z ∙ ap (λ y. bit_and y (m * 2 ^ 8 + 128)) p ∙ ap (bit_and (b + 256 * x)) q ∙ e in
    (low_byte b h (omega arith), omega arith)

low_each : (t : List ℕ) → Bytes t → bit_and (number t) (highs (length t)) ≡ 0 → (k : ℕ) → k < length t → get_or t k 0 ≤ 127
unfolding number
low_each [] h e k l = absurd (omega arith)
low_each (b ∷ t) h e zero l = (low_first b (number t) (highs (length t)) (h 0) e).0
low_each (b ∷ t) h e (suc k) l = low_each t (λ i. h (suc i)) (low_first b (number t) (highs (length t)) (h 0) e).1 k (omega arith)

-- of n bytes from i on
pub low_part : (s : List ℕ) (i n w m : ℕ) → highs n ≡ m → Bytes s → i + n ≤ length s → w ≡ number (take n (drop i s)) → eqb (bit_and w m) 0 ≡ true
    → (k : ℕ) → i ≤ k → k < i + n → get_or s k 0 ≤ 127
low_part s i n w m o h l r e k a z =
    let x : length (take n (drop i s)) ≡ n = length-take-le n (drop i s) (rw length-drop (omega arith)) in
    let q : i + (k - i) ≡ k = omega arith in
    let d : k - i < n = omega arith in
    let p : get_or (take n (drop i s)) (k - i) 0 ≡ get_or s k 0 = rw (get_or-take, get_or-drop, q) in
    subst (λ y. y ≤ 127) p
    (low_each (take n (drop i s)) (bytes_take n (drop i s) (bytes_drop i s h)) (rw (x, ← r, o) (eqb-true (bit_and w m) 0 e)) (k - i) (omega arith))

pub low_eight : (s : List ℕ) (i w : ℕ) (b : Bool) → Bytes s → i + 8 ≤ length s → w ≡ number (take 8 (drop i s)) → b ≡ eqb (bit_and w 0x8080808080808080) 0 → b ≡ true
    → (k : ℕ) → i ≤ k → k < i + 8 → get_or s k 0 ≤ 127
low_eight s i w b h l e r t = low_part s i 8 w 0x8080808080808080 refl h l e (sym r ∙ t)

-- of a part whose bytes were joined by `|`
or_low : (a b n : ℕ) → bit_or a b ≤ n → (a ≤ n) × (b ≤ n)
or_low a b n h = (omega (arith, or_add_and a b, and_le_r a b), omega (arith, or_add_and a b, and_le_l a b))

low_all : (t : List ℕ) (a : ℕ) → fold bit_or a t ≤ 127 → (a ≤ 127) × ((k : ℕ) → k < length t → get_or t k 0 ≤ 127)
low_all [] a h = (h, λ k l. absurd (omega arith))
low_all (b ∷ t) a h =
    let r = low_all t (bit_or a b) h in
    let o = or_low a b 127 r.0 in
    (o.0, elim [ zero ↦ λ l. o.1 | suc k ↦ λ l. r.1 k (omega arith) ])

pub low_within : (s : List ℕ) → ltb (fold bit_or 0 s) 128 ≡ true → (k : ℕ) → k < length s → get_or s k 0 ≤ 127
low_within s e = (low_all s 0 (omega (arith, ltb-true _ _ e))).1

-- two parts that meet or overlap
pub low_join : (s : List ℕ) (a b c d : ℕ) → c ≤ b → ((k : ℕ) → a ≤ k → k < b → get_or s k 0 ≤ 127) → ((k : ℕ) → c ≤ k → k < d → get_or s k 0 ≤ 127)
    → (k : ℕ) → a ≤ k → k < d → get_or s k 0 ≤ 127
low_join s a b c d m f g k l z = go (dec_lt k b)
  where
    go : Dec (k < b) → get_or s k 0 ≤ 127
    go (yes y) = f k l y
    go (no y) = g k (omega arith) z

-- ---- ASCII may be skipped, and is text
pub skip_low : (s : List ℕ) (a n : ℕ) → a + n ≤ length s → ((k : ℕ) → a ≤ k → k < a + n → get_or s k 0 ≤ 127) → Skipped s a (a + n)
skip_low s a zero l h = rw (add-zero a) (record { on = le_refl _; inside = omega arith; same = refl })
skip_low s a (suc n) l h = more s a (a + n) (a + suc n) (skip_low s a n (omega arith) (λ k x y. h k x (omega arith))) (omega arith) (omega arith) (h (a + n) (omega arith) (omega arith))

-- of the blocks of eight from i on, as many as are ASCII
abbrev pub low_block : List ℕ → Bool
low_block b = eqb (bit_and (from_le_bytes w64 b) 0x8080808080808080) 0

-- a block's number is that of its place
read_block : (s : List ℕ) (i : ℕ) → i + 8 ≤ length s → from_le_bytes w64 (take 8 (drop i s)) ≡ number (take 8 (drop i s))
read_block s i l = sum_number 7 (take 8 (drop i s)) (length-take-le 8 (drop i s) (rw length-drop (omega arith)))

block_low : (s : List ℕ) (i : ℕ) → Bytes s → i + 8 ≤ length s → low_block (take 8 (drop i s)) ≡ true → (k : ℕ) → i ≤ k → k < i + 8 → get_or s k 0 ≤ 127
block_low s i h l e = low_part s i 8 (from_le_bytes w64 (take 8 (drop i s))) 0x8080808080808080 refl h l (read_block s i l) e

blocks_low : (n : ℕ) (s : List ℕ) (i : ℕ) → Bytes s → i + 8 * n ≤ length s → (k : ℕ) → i ≤ k → k < i + 8 * prefix_len low_block (first_chunks 8 n (drop i s)) → get_or s k 0 ≤ 127
blocks_low zero s i h l k a z = absurd (omega (arith, a, z))
blocks_low (suc n) s i h l k a z = go (λ m j. blocks_low n s (i + 8) h m k j) (low_block (take 8 (drop i s))) refl (dec_lt k (i + 8))
  where
    rests : ℕ
    rests = prefix_len low_block (first_chunks 8 n (drop 8 (drop i s)))

    go : (i + 8 + 8 * n ≤ length s → i + 8 ≤ k → k < i + 8 + 8 * prefix_len low_block (first_chunks 8 n (drop (i + 8) s)) → get_or s k 0 ≤ 127)
        → (b : Bool) → low_block (take 8 (drop i s)) ≡ b → Dec (k < i + 8) → get_or s k 0 ≤ 127
    go later false e d = absurd (omega (arith, a, rw e at z))
    go later true e (yes d) = block_low s i h (omega arith) e k a d
    go later true e (no d) =
        let y : k < i + 8 * (1 + rests) = rw e at z in
        later (omega arith) (omega (arith, d)) (omega (arith, rw (drop-drop 8 i s) at y))

chunks_many : (n : ℕ) (s : List ℕ) → length (first_chunks 8 n s) ≡ n
chunks_many zero s = refl
chunks_many (suc n) s = ap suc (chunks_many n (drop 8 s))

pub blocks_pass : (s : List ℕ) (i r : ℕ) → Bytes s → i ≤ length s → r ≡ prefix_len low_block (first_chunks 8 (length (drop i s) / 8) (drop i s)) → Skipped s i (i + 8 * r)
blocks_pass s i r h l e =
    let n = length (drop i s) / 8 in
    let d : length (drop i s) ≡ length s - i = length-drop i s in
    let few : r ≤ n = omega (arith, e, prefix_len-le-length low_block (first_chunks 8 n (drop i s)), chunks_many n (drop i s)) in
    skip_low s i (8 * r) (omega (arith, few, d)) (λ k a z. blocks_low n s i h (omega (arith, d)) k a (rw e at z))

good_each : (t : List ℕ) → ((k : ℕ) → k < length t → get_or t k 0 ≤ 127) → (j : ℕ) → judge_at j [] t ≡ Ok tt
unfolding judge_at
good_each [] h j = refl
good_each (b ∷ t) h j =
    let a : b ≤ 127 = h 0 (omega arith) in
    let e : step [] b ≡ Some [] = simp (le-leb 0 b zero-le, le-leb b 127 a) in
    ap (onward (Err j) (λ ts. judge_at (j + 1) ts t)) e ∙ good_each t (λ k l. h (suc k) (suc-le-suc l)) (j + 1)

pub low_good : (s : List ℕ) → ((k : ℕ) → k < length s → get_or s k 0 ≤ 127) → judge s ≡ Ok tt
low_good s h = good_each s h 0
