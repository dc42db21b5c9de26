-- Parts of a list that are laid over, moved and grown.
-- Assumes nothing.
use Rattle.std.specs.Prelude.{ℕ, zero, suc, ◌+◌, ◌-◌, List, ◌++◌, take, drop, length, get_or, set}
use Rattle.std.proofs.Math.Seq.{slice}

-- ys laid over xs from place a on
unfoldable pub over : {A : Type 0} → List A → ℕ → List A → List A
over xs a ys = take a xs ++ (ys ++ drop (a + length ys) xs)

-- x added to n elements of xs, at place a and at each d further on
unfoldable pub grown : ℕ → ℕ → ℕ → ℕ → List ℕ → List ℕ
grown d x zero a xs = xs
grown d x (suc n) a xs = grown d x n (a + d) (set xs a (get_or xs a 0 + x))

-- and x taken from them
unfoldable pub fallen : ℕ → ℕ → ℕ → ℕ → List ℕ → List ℕ
fallen d x zero a xs = xs
fallen d x (suc n) a xs = fallen d x n (a + d) (set xs a (get_or xs a 0 - x))

-- ys put in at place a, and what lies from there up to place e moved up
unfoldable pub spliced : ℕ → ℕ → List ℕ → List ℕ → List ℕ
spliced a e ys xs = take a xs ++ (ys ++ (slice a e xs ++ drop (e + length ys) xs))
