-- DS 301's own parts of the types of which the Rust has others (Meaning.antt): TIME_OF_DAY, TIME_DIFFERENCE and UNICODE_STRING. RULES.md R3.1.
-- Assumes nothing.
use Rattle.std.specs.Prelude.{ℕ, ◌+◌, ◌*◌, List, [], ◌∷◌, ◌++◌}
use Rattle.lists.specs.Numbers.{bytes_of, bits}

-- 28 bits of milliseconds, 4 reserved bits, 16 bits of days, over the number of a value's bytes
pub record Time : Type 0 where
  pub ms : ℕ
  pub reserved : ℕ
  pub days : ℕ

abbrev pub standard_time : ℕ → Time
standard_time x = record { ms = bits 0 28 x; reserved = bits 28 4 x; days = bits 32 16 x }

-- units of 16 bits, each of two bytes with the lower one first; a last byte by itself is no unit
unfoldable pub units_of : List ℕ → List ℕ
units_of [] = []
units_of (a ∷ []) = []
units_of (a ∷ b ∷ s) = (a + 256 * b) ∷ units_of s

unfoldable pub unit_bytes : List ℕ → List ℕ
unit_bytes [] = []
unit_bytes (u ∷ us) = bytes_of 2 u ++ unit_bytes us
