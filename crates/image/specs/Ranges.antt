-- Ranges of indices: those of the lists, and the rows of one. RULES.md 10.
-- Assumes nothing.
use Rattle.std.specs.Prelude.{ℕ, ◌+◌, Bool, false, cond, ◌&&◌, List, eqb, leb}
use Rattle.entry.specs.Find.{Lower}
use Rattle.std.specs.declared.ops.Range.{Range}
use Rattle.std.specs.declared.ops.RangeInclusive.{RangeInclusive}

abbrev pub from_to : ℕ → ℕ → RangeInclusive ℕ
from_to first last = record { start = first; end = last; exhausted = false }

-- R10.1: "List 1 saves everything, list 2 indices 1000h..1FFFh, list 3 indices 6000h..9FFFh, any other list nothing"
unfoldable pub range_of : ℕ → RangeInclusive ℕ
range_of l =
    cond (eqb l 1)
    (from_to 0 0xFFFF)
    (cond (eqb l 2) (from_to 0x1000 0x1FFF) (cond (eqb l 3) (from_to 0x6000 0x9FFF) (from_to 1 0)))

-- an index of the range
unfoldable pub covers : ℕ → ℕ → ℕ → Bool
covers first last x = leb first x && leb x last

-- the rows of the range of indices are those of the range of rows
pub record Spans (objects : List ℕ) (first last : ℕ) (s : Range ℕ) : Type 0 where
  pub low : Lower objects first s.start
  pub high : Lower objects (last + 1) s.end
