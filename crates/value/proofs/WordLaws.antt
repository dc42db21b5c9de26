-- A value and its word say the same, both ways.
-- Assumes nothing.
use mathlib.Core.Path.{◌≡◌, refl, sym, ap, ◌∙◌}
use mathlib.Core.Bool.{Bool, true, false, cond}
use mathlib.Core.List.{List, [], ◌∷◌}
use Prim.Native.Nat.{ℕ, zero, suc, ◌+◌, ◌*◌, ◌%◌, ◌^◌, ◌<◌, ◌≤◌}
use native.Mathlib.Nat.{add-zero, zero-add, add-suc, suc-add, mod-lt, mod-eq_of_lt, le_of_suc-le-suc, not-suc-le-zero}
use native.Mathlib.Omega.{arith}
use native.Mathlib.Decide.{dec_lt}
use lib.Dec.{eqb, eqb→eq}
use lib.ListN.{length, get_or, get_or-eq_default}
use lib.Pow.{pow_pos}
use Rattle.lists.specs.Numbers.{bits}
use Rattle.lists.specs.Tests.{below, below_at}
use Rattle.lists.proofs.NumberLaws.{bits_more, bits_two}
use Rattle.value.specs.declared.ObjectValue.{ObjectValue}
use Rattle.value.specs.declared.ObjectValue.TheVariants.{Boolean, Integer8, Integer16, Integer32, Integer64, Unsigned8, Unsigned16, Unsigned32, Unsigned64, Real32, Real64, VisibleString, OctetString, UnicodeString, Domain, TimeOfDay, TimeDifference, NetTime, RelativeTime, MacAddress, IpAddress}
use Rattle.value.specs.Meaning.{readings, reading, ip_address, type_of, word_of}
use Rattle.value.specs.Range.{InRange}
use Rattle.value.specs.Codec.{size_of, is_text}
use Rattle.value.proofs.ByteLaws.{mac_back, ip_back}
use Rattle.value.proofs.IntegerLaws.{mag_integer, twos-integer, integer-twos}

-- ---- the rows of a table
-- what holds of each row of a list, counted from n on, and of what stands behind the last row
infixr 5 ◌⨾◌
data Rows (P : ℕ → ObjectValue → Type 0) (d : ObjectValue) : ℕ → List ObjectValue → Type 0 where
  last : {n : ℕ} → P n d → Rows P d n []
  ◌⨾◌ : {n : ℕ} {v : ObjectValue} {l : List ObjectValue} → P n v → Rows P d (suc n) l → Rows P d n (v ∷ l)

rows_at : (P : ℕ → ObjectValue → Type 0) {d : ObjectValue} {n : ℕ} {l : List ObjectValue} → Rows P d n l → (i : ℕ) → i ≤ length l → P (n + i) (get_or l i d)
rows_at P (last p) zero h = rw add-zero p
rows_at P (last p) (suc i) h = absurd (not-suc-le-zero h)
rows_at P (p ⨾ r) zero h = rw add-zero p
rows_at P (p ⨾ r) (suc i) h = rw (add-suc, ← suc-add) (rows_at P r i (le_of_suc-le-suc h))

-- so it holds of what each of the 21 types says
of_reading : (P : ℕ → ObjectValue → Type 0) (x : ℕ) → Rows P (IpAddress (ip_address x)) 0 (readings x) → (t : ℕ) → t ≤ 20 → P t (reading t x)
unfolding readings
of_reading P x r t h = rw zero-add at (rows_at P r t h)

-- ---- of a type and a word: the value's type, its range, its word
pub type_reading : (t x : ℕ) → t ≤ 20 → type_of (reading t x) ≡ t
unfolding readings type_of below
type_reading t x h = eqb→eq _ _ (below_at 21 (λ k. eqb (type_of (reading k x)) k) tt t (omega arith))

pub in_range-reading : (t x : ℕ) → t ≤ 20 → x < 2 ^ 64 → InRange (reading t x)
unfolding readings InRange
in_range-reading t x k h =
    of_reading (λ t v. InRange v) x
    (omega arith
    ⨾ mag_integer (2 ^ 7) x (omega arith)
    ⨾ mag_integer (2 ^ 15) x (omega arith)
    ⨾ mag_integer (2 ^ 31) x (omega arith)
    ⨾ mag_integer (2 ^ 63) x (omega arith)
    ⨾ omega arith ⨾ omega arith ⨾ omega arith ⨾ omega arith ⨾ omega arith ⨾ omega arith
    ⨾ h ⨾ h ⨾ h ⨾ h
    ⨾ (omega arith, omega arith)
    ⨾ (omega arith, omega arith)
    ⨾ (omega arith, omega arith)
    ⨾ omega arith
    ⨾ (omega arith, omega arith, omega arith, omega arith, omega arith, omega arith)
    ⨾ last (omega arith, omega arith, omega arith, omega arith))
    t k

-- of a fixed type the low bytes of x are read, as many as it has
word_cut : (t x : ℕ) → t ≤ 20 → word_of (reading t x) ≡ cond (is_text t) x (x % 2 ^ (8 * size_of t))
unfolding readings word_of size_of
word_cut t x k =
    of_reading (λ t v. word_of v ≡ cond (is_text t) x (x % 2 ^ (8 * size_of t))) x
    (refl
    ⨾ twos-integer (2 ^ 7) x (omega arith)
    ⨾ twos-integer (2 ^ 15) x (omega arith)
    ⨾ twos-integer (2 ^ 31) x (omega arith)
    ⨾ twos-integer (2 ^ 63) x (omega arith)
    ⨾ refl ⨾ refl ⨾ refl ⨾ refl ⨾ refl ⨾ refl
    ⨾ refl ⨾ refl ⨾ refl ⨾ refl
    ⨾ bits_more 32 16 x refl
    ⨾ bits_more 32 16 x refl
    ⨾ bits_more 32 32 x refl
    ⨾ refl
    ⨾ bits_more 40 8 x (bits_more 32 8 x four)
    ⨾ last four)
    t k
  where
    four : x % 2 ^ 8 + bits 8 8 x * 2 ^ 8 + bits 16 8 x * 2 ^ 16 + bits 24 8 x * 2 ^ 24 ≡ x % 2 ^ 32
    four = bits_more 24 8 x (bits_more 16 8 x (bits_more 8 8 x refl))

pub word-reading : (t x : ℕ) → t ≤ 20 → (is_text t ≡ false → x < 2 ^ (8 * size_of t)) → word_of (reading t x) ≡ x
word-reading t x k h = word_cut t x k ∙ uncut (is_text t) h
  where
    uncut : (b : Bool) → (b ≡ false → x < 2 ^ (8 * size_of t)) → cond b x (x % 2 ^ (8 * size_of t)) ≡ x
    uncut true l = refl
    uncut false l = mod-eq_of_lt (l refl)

-- ---- of a value: it is read back, its type, its word
pub reading-word : (v : ObjectValue) → InRange v → reading (type_of v) (word_of v) ≡ v
unfolding readings type_of word_of InRange
reading-word (Boolean v) h = ap Boolean (mod-eq_of_lt h)
reading-word (Integer8 z) h = ap Integer8 (integer-twos (2 ^ 7) z h)
reading-word (Integer16 z) h = ap Integer16 (integer-twos (2 ^ 15) z h)
reading-word (Integer32 z) h = ap Integer32 (integer-twos (2 ^ 31) z h)
reading-word (Integer64 z) h = ap Integer64 (integer-twos (2 ^ 63) z h)
reading-word (Unsigned8 v) h = ap Unsigned8 (mod-eq_of_lt h)
reading-word (Unsigned16 v) h = ap Unsigned16 (mod-eq_of_lt h)
reading-word (Unsigned32 v) h = ap Unsigned32 (mod-eq_of_lt h)
reading-word (Unsigned64 v) h = ap Unsigned64 (mod-eq_of_lt h)
reading-word (Real32 v) h = ap Real32 (mod-eq_of_lt h)
reading-word (Real64 v) h = ap Real64 (mod-eq_of_lt h)
reading-word (VisibleString n) h = refl
reading-word (OctetString n) h = refl
reading-word (UnicodeString n) h = refl
reading-word (Domain n) h = refl
reading-word (TimeOfDay v) h = let e = bits_two 32 16 h.0 h.1 in rw (e.0, e.1)
reading-word (TimeDifference v) h = let e = bits_two 32 16 h.0 h.1 in rw (e.0, e.1)
reading-word (NetTime v) h = let e = bits_two 32 32 h.0 h.1 in rw (e.0, e.1)
reading-word (RelativeTime v) h = rw (mod-eq_of_lt h)
reading-word (MacAddress a) h = ap MacAddress (mac_back a h)
reading-word (IpAddress a) h = ap IpAddress (ip_back a h)

-- its type is one of the 21: a number above them says an address, whose type is 20
pub type_le : (v : ObjectValue) → InRange v → type_of v ≤ 20
unfolding readings type_of
type_le v h = go (dec_lt 20 (type_of v))
  where
    go : Dec (20 < type_of v) → type_of v ≤ 20
    go (yes l) =
        let e : reading (type_of v) (word_of v) ≡ IpAddress (ip_address (word_of v)) = get_or-eq_default (readings (word_of v)) _ {n = type_of v} (omega arith) in
        omega (arith, ap type_of (sym (reading-word v h) ∙ e))
    go (no l) = omega arith

pub word_lt : (v : ObjectValue) → InRange v → is_text (type_of v) ≡ false → word_of v < 2 ^ (8 * size_of (type_of v))
word_lt v h k =
    let e : word_of v ≡ word_of v % 2 ^ (8 * size_of (type_of v)) = sym (ap word_of (reading-word v h)) ∙ word_cut (type_of v) (word_of v) (type_le v h) ∙ rw k in
    rw e (mod-lt (word_of v) (pow_pos (8 * size_of (type_of v))))
