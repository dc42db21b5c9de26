-- Two's complement, once over the width: half is half the number of a width's patterns.
-- Assumes nothing.
use mathlib.Core.Path.{◌≡◌, refl, sym, ap, ◌∙◌}
use mathlib.Core.Bool.{true, false}
use Prim.Native.Nat.{ℕ, zero, suc, ◌+◌, ◌-◌, ◌*◌, ◌/◌, ◌%◌, ◌^◌, ◌<◌, ◌≤◌, zero-le}
use native.Mathlib.Nat.{zero-add, add-zero, zero-mul, one-mul, mod-lt, mod-eq_of_lt, mod-eq-sub-mod, div-eq_of_lt, div-eq-sub-div, two-mul}
use native.Mathlib.Omega.{arith}
use borrow.Author.Tests.{lt-ltb, le-leb}
use lib.Dec.{T, leb}
use lib.IntN.{ℤ, pos, negsuc, nat_abs, ◌-ℤ◌}
use lib.Signed.{mag, le_z, non_neg}
use lib.Arith.{mod-mul}
use mir.Syntax.{Width}
use mir.Val.{to_z, of_z, bits, hbits, SFits}
use mir.Facts.{to_z-of_z}
use native.Mathlib.Decide.{ℕ_discrete}
use Rattle.value.specs.Meaning.{integer, twos}

-- ---- a number's bits, read
minus_one : (k : ℕ) → negsuc 0 -ℤ pos k ≡ negsuc k
minus_one zero = refl
minus_one (suc k) = rw zero-add

-- a number below half, as it is
pub integer_low : (half x : ℕ) → x / half % 2 ≡ 0 → integer half x ≡ pos (x % half)
integer_low half x e = rw (e, zero-mul, add-zero)

minus_half : (a h : ℕ) → a ≤ h → pos a -ℤ pos (suc h) ≡ negsuc (h - a)
minus_half a h l =
    let e : suc h - suc a ≡ h - a = omega arith in
    rw (lt-ltb a (suc h) (omega arith), e)

pub integer_high : (half x : ℕ) → 0 < half → (x / half % 2 ≡ 0 → ⊥) → integer half x ≡ negsuc (half - 1 - x % half)
integer_high half x p n =
    let e : x / half % 2 ≡ 1 = omega arith in
    let s : half ≡ suc (half - 1) = omega arith in
    let l = mod-lt x p in
    rw (e, one-mul) (ap (λ h. pos (x % half) -ℤ pos h) s ∙ minus_half (x % half) (half - 1) (omega arith))

-- an integer of a width lies within its half
pub mag_integer : (half x : ℕ) → 0 < half → mag (integer half x) < half
mag_integer half x p = go (ℕ_discrete (x / half % 2) 0)
  where
    go : Dec (x / half % 2 ≡ 0) → mag (integer half x) < half
    go (yes e) = rw (integer_low half x e) (mod-lt x p)
    go (no n) = rw (integer_high half x p n) (omega arith)

-- within the width's patterns: the lower half as it is, the upper half less all of them
pub integer-below : (half x : ℕ) → x < half → integer half x ≡ pos x
integer-below half x h =
    let d : x / half % 2 ≡ 0 = ap (λ q. q % 2) (div-eq_of_lt h) in
    integer_low half x d ∙ ap pos (mod-eq_of_lt h)

pub integer_above : (half x : ℕ) → half ≤ x → x < half + half → integer half x ≡ negsuc (half + half - suc x)
integer_above half x h l =
    let p : 0 < half = omega arith in
    let y : x - half < half = omega arith in
    let d : x / half ≡ 1 = div-eq-sub-div p h ∙ ap (λ q. q + 1) (div-eq_of_lt y) in
    let m : x % half ≡ x - half = mod-eq-sub-mod h ∙ mod-eq_of_lt y in
    let n : x / half % 2 ≡ 0 → ⊥ = λ e. omega arith in
    integer_high half x p n ∙ ap negsuc (omega arith)

-- ---- both ways
-- of a longer number the bits of the width are read, and no others
pub twos-integer : (half x : ℕ) → 0 < half → twos half (integer half x) ≡ x % (half + half)
twos-integer half x p = go (ℕ_discrete (x / half % 2) 0)
  where
    parts : x % (half + half) ≡ x / half % 2 * half + x % half
    parts = ap (λ n. x % n) (sym (two-mul half)) ∙ mod-mul x (omega arith) p

    go : Dec (x / half % 2 ≡ 0) → twos half (integer half x) ≡ x % (half + half)
    go (yes e) = rw (integer_low half x e, parts, e) (omega arith)
    go (no n) =
        let e : x / half % 2 ≡ 1 = omega arith in
        let l = mod-lt x p in
        rw (integer_high half x p n, parts, e) (omega arith)

pub integer-twos : (half : ℕ) (z : ℤ) → mag z < half → integer half (twos half z) ≡ z
integer-twos half (pos k) h = integer-below half k h
integer-twos half (negsuc k) h = integer_above half (half + half - suc k) (omega arith) (omega arith) ∙ ap negsuc (omega arith)

-- the library's cast of the width's bits reads that integer
pub cast_integer : (w : Width) (half x n : ℕ) (z : ℤ) → half ≡ 2 ^ hbits w → half + half ≡ 2 ^ bits w → 0 < half → n ≡ x % (half + half) → z ≡ to_z w n → to_z w (of_z w z) ≡ integer half x
cast_integer w half x n z e b p m q =
    let i = integer half x in
    let f : SFits w i = record { sfits = rw (← e) (mag_integer half x p) } in
    let r : z ≡ i = q ∙ ap (to_z w) (m ∙ sym (twos-integer half x p) ∙ sym (of_z-twos i)) ∙ to_z-of_z f in
    rw r (to_z-of_z f)
  where
    of_z-twos : (i : ℤ) → of_z w i ≡ twos half i
    of_z-twos (pos k) = refl
    of_z-twos (negsuc k) = ap (λ n. n - suc k) (sym b)

-- ---- the number of an integer's bits, by its sign
never : (k : ℕ) → leb 0 k ≡ false → ⊥
never k e = let z : ◌≡◌ {A = ℕ} 0 1 = cc (le-leb 0 k zero-le) in omega arith

pub twos_low : (half : ℕ) (z : ℤ) → le_z (pos 0) z ≡ true → T (non_neg z) × (nat_abs z ≡ twos half z)
twos_low half (pos k) e = (tt, refl)
twos_low half (negsuc k) e = let n : ◌≡◌ {A = ℕ} 0 1 = cc in absurd (omega arith)

pub twos_high : (half : ℕ) (z : ℤ) → le_z (pos 0) z ≡ false → mag z < half → half + (half - 1 - mag z) ≡ twos half z
twos_high half (pos k) e h = absurd (never k e)
twos_high half (negsuc k) e h = omega arith
