-- The answer, found in one pass from left to right. The state is what the character begun still asks for: the ranges of its further bytes,
-- and `[]` between two characters. `means` in proofs/Agree.antt proves that the answer means what `Utf8.antt` says.
-- Assumes nothing.
use Rattle.std.specs.Prelude.{ℕ, ◌+◌, ◌≤◌, ◌≡◌, Bool, cond, ◌&&◌, List, [], ◌∷◌, leb, length, drop, Option, Some, None, Result, Ok, Err}
use Rattle.text.specs.Utf8.{Range, ◌to◌, table}

abbrev pub is_in : Range → ℕ → Bool
is_in (lo to hi) b = leb lo b && leb b hi

-- what a first byte b asks for: the rest of the row whose first range has b
abbrev pub rest : List (List Range) → ℕ → Option (List Range)
rest [] b = None
rest ([] ∷ rows) b = rest rows b
rest ((r ∷ rs) ∷ rows) b = cond (is_in r b) (Some rs) (rest rows b)

-- the state after the byte b, where a text goes on with b
abbrev pub step : List Range → ℕ → Option (List Range)
step [] b = rest table b
step (r ∷ rs) b = cond (is_in r b) (Some rs) None

abbrev pub onward : Result (Unit {0}) ℕ → (List Range → Result (Unit {0}) ℕ) → Option (List Range) → Result (Unit {0}) ℕ
onward stop go None = stop
onward stop go (Some rs) = go rs

-- the answer on the bytes from the place k on, in the state rs
unfoldable pub judge_at : ℕ → List Range → List ℕ → Result (Unit {0}) ℕ
judge_at k [] [] = Ok tt
judge_at k (r ∷ rs) [] = Err k
judge_at k rs (b ∷ s) = onward (Err k) (λ rs'. judge_at (k + 1) rs' s) (step rs b)

abbrev pub judge : List ℕ → Result (Unit {0}) ℕ
judge s = judge_at 0 [] s

-- the answer from the place `from` on is the answer from r on, where both stand between characters: the bytes between them may be skipped
pub record Skipped (s : List ℕ) (from r : ℕ) : Type 0 where
  pub on : from ≤ r
  pub inside : r ≤ length s
  pub same : judge_at r [] (drop r s) ≡ judge_at from [] (drop from s)
