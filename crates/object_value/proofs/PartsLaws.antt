-- Parts with zeros behind them. Assumes nothing.
use mathlib.Core.Path.{◌≡◌, sym, ap, ◌∙◌}
use mathlib.Core.List.{List, [], ◌∷◌, ◌++◌}
use Prim.Native.Nat.{ℕ, zero, suc, ◌≤◌}
use native.Mathlib.Omega.{arith}
use lib.ListN.{length, take, drop, replicate}
use Rattle.std.proofs.lemmas.List.{take-replicate}

abbrev zeros : ℕ → List ℕ
zeros n = replicate n 0

front : (parts : List ℕ) (m k : ℕ) → length parts ≤ m → m ≤ k → parts ++ drop (length parts) (zeros m) ≡ take m (parts ++ zeros k)
front [] m k h l = sym (take-replicate m k 0 l)
front (p ∷ ps) zero k h l = absurd (omega (arith, h))
front (p ∷ ps) (suc m) k h l = ap (λ t. p ∷ t) (front ps m k (omega (arith, h)) (omega (arith, l)))

pub padded_all : (copy parts : List ℕ) (n : ℕ) → copy ≡ parts → length parts ≡ n → n ≤ 6 → copy ++ drop n (zeros 6) ≡ take 6 (parts ++ zeros 6)
padded_all copy parts n e q h = ap (λ c. c ++ drop n (zeros 6)) e ∙ sym (ap (λ j. parts ++ drop j (zeros 6)) q) ∙ front parts 6 6 (omega (arith, q, h)) (omega arith)
