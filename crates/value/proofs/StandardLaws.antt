-- The port's parts of a time are DS 301's, with the reserved bits above the milliseconds; a UnicodeString of an even count is its units. Assumes nothing.
use mathlib.Core.Path.{◌≡◌, refl, ap, ◌∙◌}
use mathlib.Core.List.{List, [], ◌∷◌}
use Prim.Native.Nat.{ℕ, suc, ◌+◌, ◌*◌, ◌/◌, ◌%◌, ◌^◌, ◌<◌}
use native.Mathlib.Nat.{mod-eq_of_lt, add-mul-mod_self_left}
use native.Mathlib.Omega.{arith}
use lib.ListN.{length}
use Rattle.lists.specs.Numbers.{bytes_of, Bytes}
use Rattle.value.specs.Meaning.{time_of_day, time_difference}
use Rattle.value.specs.Standard.{standard_time, units_of, unit_bytes}

-- ---- TIME_OF_DAY, TIME_DIFFERENCE
split : (x : ℕ) → x % 2 ^ 32 ≡ x / 2 ^ 0 % 2 ^ 28 + 2 ^ 28 * (x / 2 ^ 28 % 2 ^ 4)
split x = omega arith

pub time_of_day_parts : (x : ℕ) → ((time_of_day x).ms ≡ (standard_time x).ms + 2 ^ 28 * (standard_time x).reserved) × ((time_of_day x).days ≡ (standard_time x).days)
time_of_day_parts x = (split x, refl)

pub time_difference_parts : (x : ℕ) → ((time_difference x).ms ≡ (standard_time x).ms + 2 ^ 28 * (standard_time x).reserved) × ((time_difference x).days ≡ (standard_time x).days)
time_difference_parts x = (split x, refl)

-- ---- UNICODE_STRING: "16-bit units, so an even number of bytes"
pub units_count : (s : List ℕ) → length s % 2 ≡ 0 → length s ≡ 2 * length (units_of s)
unfolding units_of
units_count [] e = refl
units_count (a ∷ []) e = absurd (omega (arith, e))
units_count (a ∷ b ∷ s) e = omega (arith, units_count s (omega (arith, e)))

pub units_bytes : (s : List ℕ) → Bytes s → length s % 2 ≡ 0 → unit_bytes (units_of s) ≡ s
unfolding units_of unit_bytes bytes_of
units_bytes [] h e = refl
units_bytes (a ∷ []) h e = absurd (omega (arith, e))
units_bytes (a ∷ b ∷ s) h e =
    let low : a < 256 = h 0 in
    let high : b < 256 = h 1 in
    let l : (a + 256 * b) % 256 ≡ a = add-mul-mod_self_left a 256 b ∙ mod-eq_of_lt low in
    let q : (a + 256 * b) / 256 ≡ b = omega (arith, low) in
    let m : b % 256 ≡ b = mod-eq_of_lt high in
    rw (l, q, m) (ap (λ t. a ∷ b ∷ t) (units_bytes s (λ i. h (suc (suc i))) (omega (arith, e))))
