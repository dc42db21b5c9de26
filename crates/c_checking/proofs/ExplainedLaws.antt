-- An explanation in the lent numbers. Assumes nothing.
use Rattle.std.specs.Prelude.{Result, Ok, Err}
use mathlib.Core.Path.{◌≡◌, refl}
use mathlib.Core.List.{List}
use Prim.Native.Nat.{ℕ}
use Rattle.answers.specs.declared.Refusal.{Refusal}
use Rattle.element.specs.Numbers.{explained_numbers}
use Rattle.element.specs.declared.Explained.{Explained}
use Rattle.c_answers.specs.Answers.{results}
use Rattle.c_checking.specs.Checking.{explain_numbers}

-- one that is no refusal goes into the lent numbers
pub explained : (e : Result Explained Refusal) (ns : List ℕ) → ((r : Refusal) → e ≡ Err r → ⊥) → results (explained_numbers e) ns ≡ explain_numbers e ns
unfolding explain_numbers
explained (Ok e) ns o = refl
explained (Err r) ns o = absurd (o r refl)
