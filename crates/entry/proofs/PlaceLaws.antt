-- A place that is no value's. Assumes nothing.
use mathlib.Core.Path.{◌≡◌}
use Prim.Native.Nat.{ℕ}
use native.Mathlib.Omega.{arith}
use denote.Enum.Declared.{tag_of}
use Rattle.entry.specs.declared.Place.{Place}
use Rattle.entry.specs.declared.Place.TheVariants.{Count, Value}
use Rattle.entry.specs.contracts.Place.{the_type as place-type}

-- what a definition comes to there
pub no_value : {A : Type 0} (f : Place → A) {x : A} → ((n : ℕ) → x ≡ f (Count n)) → (a : Place) → tag_of place-type a ≡ 0 → x ≡ f a
no_value f c (Count n) k = c n
no_value f c (Value p) k = absurd (omega (arith, k))
