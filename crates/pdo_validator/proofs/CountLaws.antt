-- The walk over the mapping words. Assumes nothing.
use Rattle.std.specs.Prelude.{Option, Some, None, Err}
use Rattle.std.specs.Option.{ok_or}
use Rattle.answers.specs.declared.Refusal.{Refusal}
use mathlib.Core.Path.{◌≡◌, refl}
use mathlib.Core.Bool.{cond}
use mathlib.Core.List.{List}
use Prim.Native.Nat.{ℕ, suc, ◌+◌, ◌-◌, ◌<◌, ◌≤◌}
use native.Mathlib.Omega.{arith}
use Rattle.std.specs.Ordering.{ord_max, nat_cmp}
use Rattle.std.proofs.lemmas.Grind.{common_steps}
use lib.Dec.{eqb}
use lib.ListN.{get_or}
use Rattle.mapping.specs.Word.{entry_of, end_of}
use Rattle.entry.specs.Table.{type_at}
use Rattle.pdo_validator.specs.Counting.{most, ends_from}

pub most_max : (a b : ℕ) → ord_max nat_cmp a b ≡ most a b
most_max a b = grind (arith, common_steps)

-- what is found from word k on, where the largest end so far is e
abbrev pub rest : List ℕ → List ℕ → ℕ → ℕ → ℕ → ℕ → Option ℕ
rest slots words n p k e = ends_from slots words (n - k) (p + k) e

pub rest-step : (slots words : List ℕ) (n p k e : ℕ) → k < n
    → rest slots words n p k e ≡ cond (eqb (type_at slots (p + k)) 8) (rest slots words n p (k + 1) (most e (end_of (entry_of (get_or words (p + k) 0))))) None
unfolding ends_from
rest-step slots words n p k e h =
    let a : n - k ≡ suc (n - (k + 1)) = omega arith in
    let b : p + (k + 1) ≡ suc (p + k) = omega arith in
    rw (a, b)

pub rest_end : (slots words : List ℕ) (n p k e : ℕ) → n ≤ k → rest slots words n p k e ≡ Some e
unfolding ends_from
rest_end slots words n p k e h = let a : n - k ≡ 0 = omega arith in rw a

-- from the first word on, where none was looked at yet, it is the whole
pub rest_all : (slots words : List ℕ) (n p k e : ℕ) → k ≡ 0 → e ≡ 0 → rest slots words n p k e ≡ ends_from slots words n p 0
rest_all slots words n p k e a b =
    let x : n - 0 ≡ n = omega arith in
    let y : p + 0 ≡ p = omega arith in
    rw (a, b, x, y)

-- what `ok_or` refuses was missing
pub refused : (o : Option ℕ) (k e : Refusal) → ok_or o k ≡ Err e → (o ≡ None) × (e ≡ k)
refused (Some x) k e h = let z : ◌≡◌ {A = ℕ} 0 1 = cc in absurd (omega arith)
refused None k e h = (refl, cc)
