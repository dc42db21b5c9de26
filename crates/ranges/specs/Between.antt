-- What a range promises of a number: RULES.md R8.6. Assumes nothing.
use Rattle.std.specs.Prelude.{ℕ, ◌≡◌, true}
use Rattle.std.specs.Int.Signed.{le_z}
use Rattle.value.specs.Order.{integer_of}
use Rattle.entry.specs.declared.Extra.{Extra}

-- by the integers that words of type t mean, w is no less than the low end and no more than the high one
pub record Between (t w : ℕ) (e : Extra) : Type 0 where
  pub above : le_z (integer_of t e.low) (integer_of t w) ≡ true
  pub below : le_z (integer_of t w) (integer_of t e.high) ≡ true
