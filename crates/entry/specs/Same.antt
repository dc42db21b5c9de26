-- Rows that name the same objects. Assumes nothing.
use Rattle.std.specs.Prelude.{ℕ, ◌+◌, ◌*◌, ◌≤◌, ◌≡◌, List, get_or, Result, Ok, Err}
use Rattle.entry.specs.Table.{number_of}
use Rattle.entry.specs.declared.Place.{Place}
use Rattle.entry.specs.declared.Place.TheVariants.{Count, Value}
use Rattle.entry.specs.declared.Missing.{Missing}

-- what a lookup sees of them: how many there are, and eight of the twelve words of each, all but the kept count and the range
pub record SameRows (a b : List ℕ) : Type 0 where
  pub number : number_of a ≡ number_of b
  pub column : (i c : ℕ) → c ≤ 7 → get_or a (12 * i + (12 + c)) 0 ≡ get_or b (12 * i + (12 + c)) 0

-- a place, but for the number that a list's sub-index 0 reads
abbrev pub uncounted : Result Place Missing → Result Place Missing
uncounted (Err m) = Err m
uncounted (Ok (Count n)) = Ok (Count 0)
uncounted (Ok (Value p)) = Ok (Value p)
