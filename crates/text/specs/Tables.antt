-- The rule of the code's two tables, which give a class for each byte and a state for each class and state: one test, which antt computes
-- over the 256 bytes in each of the 8 states.
-- Assumes nothing.
use Rattle.std.specs.Prelude.{ℕ, ◌+◌, ◌*◌, Bool, true, false, cond, ◌&&◌, List, [], ◌∷◌, eqb, ltb, get_or, Option, Some, None}
use Rattle.lists.specs.Tests.{below}
use Rattle.text.specs.Utf8.{Range, ◌to◌}
use Rattle.text.specs.Machine.{step}

-- the states by number, as the machine has them: all that Table 3-7 leads to
abbrev pub states : List (List Range)
states =
    []
    ∷ (0x80 to 0xBF ∷ [])
    ∷ (0x80 to 0xBF ∷ 0x80 to 0xBF ∷ [])
    ∷ (0xA0 to 0xBF ∷ 0x80 to 0xBF ∷ [])
    ∷ (0x80 to 0x9F ∷ 0x80 to 0xBF ∷ [])
    ∷ (0x90 to 0xBF ∷ 0x80 to 0xBF ∷ 0x80 to 0xBF ∷ [])
    ∷ (0x80 to 0xBF ∷ 0x80 to 0xBF ∷ 0x80 to 0xBF ∷ [])
    ∷ (0x80 to 0x8F ∷ 0x80 to 0xBF ∷ 0x80 to 0xBF ∷ [])
    ∷ []

-- what the state of number q asks for
unfoldable pub asks : ℕ → List Range
asks q = get_or states q []

-- the state that an entry n of the second table leads to: from 8 on, none
unfoldable pub reach : ℕ → Option (List Range)
unfolding asks
reach n = cond (ltb n 8) (Some (asks n)) None

-- whether two states are equal
unfoldable pub same : List Range → List Range → Bool
same [] [] = true
same [] (r ∷ rs) = false
same (r ∷ rs) [] = false
same ((a to b) ∷ rs) ((c to d) ∷ ts) = (eqb a c && eqb b d) && same rs ts

unfoldable pub same? : Option (List Range) → Option (List Range) → Bool
unfolding same
same? None None = true
same? None (Some ts) = false
same? (Some rs) None = false
same? (Some rs) (Some ts) = same rs ts

-- what the tables have for the byte b in the state of number q
abbrev pub entry : List ℕ → List ℕ → ℕ → ℕ → ℕ
entry class after q b = get_or after (get_or class b 0 * 8 + q) 0

-- the tables agree with the machine at the byte b: its class is below 12, and in each state the entry leads where the machine steps
unfoldable pub agrees : List ℕ → List ℕ → ℕ → Bool
unfolding below reach asks same?
agrees class after b = ltb (get_or class b 0) 12 && below 8 (λ q. same? (reach (entry class after q b)) (step (asks q) b))

unfoldable pub tables : List ℕ → List ℕ → Bool
unfolding agrees below
tables class after = below 256 (agrees class after)
