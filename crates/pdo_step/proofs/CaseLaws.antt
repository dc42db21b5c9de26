-- The cases of the definitions that several variants share. Assumes nothing.
use mathlib.Core.Path.{◌≡◌, refl}
use mathlib.Core.List.{List}
use Prim.Native.Nat.{ℕ}
use Rattle.entry.specs.Put.{Contents}
use Rattle.pdo_step.specs.declared.Outcome.{Outcome}
use Rattle.pdo_step.specs.declared.Outcome.TheVariants as outcome
use Rattle.pdo_step.specs.Steps.{applied}

-- what is not stored changes nothing
pub idle : (slots payload : List ℕ) (c : Contents) (o : Outcome) → ((p start n : ℕ) → o ≡ outcome.Stored p start n → ⊥) → c ≡ applied slots payload c o
unfolding applied
idle slots payload c outcome.Misaligned k = refl
idle slots payload c outcome.Short k = refl
idle slots payload c (outcome.Server x start n) k = refl
idle slots payload c (outcome.Client x start n) k = refl
idle slots payload c outcome.NoTarget k = refl
idle slots payload c outcome.Count k = refl
idle slots payload c outcome.CountRefused k = refl
idle slots payload c (outcome.Undecodable f) k = refl
idle slots payload c outcome.TooLong k = refl
idle slots payload c (outcome.Stored p start n) k = absurd (k p start n refl)
