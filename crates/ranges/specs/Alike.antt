-- Dictionaries that differ in nothing but their objects' ranges: RULES.md R8.6, "No other call looks at it."
-- Assumes nothing.
use Rattle.std.specs.Prelude.{ℕ, suc, ◌%◌, ◌≡◌, cond, List, [], ◌∷◌, ltb}
use Rattle.entry.specs.Table.{Dict, dict, edition_of, kept_at}
use Rattle.entry.specs.Same.{SameRows}

-- the words of rows with those of a range, the last three of twelve, taken out; k words lie before
unfoldable pub cleared : ℕ → List ℕ → List ℕ
cleared k [] = []
cleared k (w ∷ ws) = cond (ltb 8 (k % 12)) 0 w ∷ cleared (suc k) ws

-- the dictionary with other rows, and with all ranges taken out
abbrev pub rowed : Dict → List ℕ → Dict
rowed d rows = dict rows d.slots d.words d.bytes

abbrev pub rangeless : Dict → Dict
rangeless d = rowed d (cleared 0 d.objects)

-- what calls that look at no range see of the rows: the objects, the edition and the kept counts
pub record Alike (a b : List ℕ) : Type 0 where
  pub rows : SameRows a b
  pub edition : edition_of a ≡ edition_of b
  pub kept : (i : ℕ) → kept_at a i ≡ kept_at b i
