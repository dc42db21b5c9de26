-- What a fault says of the data that did not decode: RULES.md R3.9.
-- Assumes nothing.
use Rattle.std.specs.Prelude.{ℕ, ◌%◌, ◌<◌, ◌≡◌, false, List, length}
use Rattle.text.specs.Utf8.{Stops}
use Rattle.value.specs.declared.CodecFault.{CodecFault}
use Rattle.value.specs.declared.CodecFault.TheVariants.{Value, Text, Odd}
use Rattle.value.specs.Codec.{size_of, is_text}

-- of a fixed type: the bytes that it needs, and those that there are, which are fewer
pub record TooFew (t : ℕ) (s : List ℕ) (needed had : ℕ) : Type 0 where
  pub fixed : is_text t ≡ false
  pub needed-is : needed ≡ size_of t
  pub had-is : had ≡ length s
  pub fewer : had < needed

-- of a VisibleString: the place at which it stops being well-formed
pub record BadText (t : ℕ) (s : List ℕ) (at : ℕ) : Type 0 where
  pub visible : t ≡ 11
  pub stops : Stops s at

pub record OddCount (t : ℕ) (s : List ℕ) : Type 0 where
  pub unicode : t ≡ 13
  pub odd : length s % 2 ≡ 1

abbrev pub Tells : ℕ → List ℕ → CodecFault → Type 0
Tells t s (Value needed had) = TooFew t s needed had
Tells t s (Text at) = BadText t s at
Tells t s Odd = OddCount t s

-- the two numbers of a fault, 0 where it has none: the bytes needed or the place, and the bytes had
abbrev pub first_told : CodecFault → ℕ
first_told (Value needed had) = needed
first_told (Text at) = at
first_told Odd = 0

abbrev pub second_told : CodecFault → ℕ
second_told (Value needed had) = had
second_told (Text at) = 0
second_told Odd = 0
