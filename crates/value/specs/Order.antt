-- The integers that words of the types 1..8 mean, and their order: RULES.md R5.13.
-- Assumes nothing.
use Rattle.std.specs.Prelude.{ℕ, ◌-◌, ◌*◌, ◌^◌, Bool, cond, leb, ℤ, pos}
use Rattle.std.specs.Int.Signed.{le_z}
use Rattle.value.specs.Codec.{size_of}
use Rattle.value.specs.Meaning.{integer}

-- the first word of an Integer type that means a number below 0
abbrev pub half_of : ℕ → ℕ
half_of t = 2 ^ (8 * size_of t - 1)

-- Integer8 to Integer64 in two's complement, Unsigned8 to Unsigned64 as they are
unfoldable pub integer_of : ℕ → ℕ → ℤ
integer_of t w = cond (leb t 4) (integer (half_of t) w) (pos w)

abbrev pub ordered : ℕ → ℕ → ℕ → Bool
ordered t a b = le_z (integer_of t a) (integer_of t b)
