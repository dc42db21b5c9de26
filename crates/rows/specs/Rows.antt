-- Rows and slots that change as objects come and go: what counts the values and bytes before them, and the totals.
-- Assumes nothing.
use Rattle.std.specs.Prelude.{ℕ, ◌+◌, ◌*◌, List, [], ◌∷◌, set}
use Rattle.lists.specs.Lists.{grown, fallen}
use Rattle.entry.specs.declared.Extra.{Extra}
use Rattle.entry.specs.Table.{first_place, name_place, kept_place, slot_place, start_place}

-- u values and g bytes more, or less, before k rows from row i on
abbrev pub rows_grown : ℕ → ℕ → ℕ → ℕ → List ℕ → List ℕ
rows_grown i k u g objects = grown 12 g k (name_place i) (grown 12 u k (first_place i) objects)

abbrev pub rows_fallen : ℕ → ℕ → ℕ → ℕ → List ℕ → List ℕ
rows_fallen i k u g objects = fallen 12 g k (name_place i) (fallen 12 u k (first_place i) objects)

-- the rooms of k slots from slot v on start g bytes further on, or earlier
abbrev pub starts_grown : ℕ → ℕ → ℕ → List ℕ → List ℕ
starts_grown v k g slots = grown 3 g k (start_place v) slots

abbrev pub starts_fallen : ℕ → ℕ → ℕ → List ℕ → List ℕ
starts_fallen v k g slots = fallen 3 g k (start_place v) slots

-- a row's words
abbrev pub row_of : ℕ → ℕ → ℕ → ℕ → ℕ → ℕ → ℕ → ℕ → Extra → List ℕ
row_of index kind access count first name len default extra =
    index ∷ kind ∷ access ∷ count ∷ first ∷ name ∷ len ∷ default ∷ extra.kept ∷ extra.ranged ∷ extra.low ∷ extra.high ∷ []

-- n as the kept count of row i
abbrev pub kept_in : ℕ → ℕ → List ℕ → List ℕ
kept_in i n objects = set objects (kept_place i) n

-- the header's totals, and slot p, written
abbrev pub totalled : ℕ → ℕ → ℕ → List ℕ → List ℕ
totalled number values used objects = set (set (set objects 0 number) 1 values) 2 used

abbrev pub slotted : ℕ → ℕ → ℕ → ℕ → List ℕ → List ℕ
slotted p type start room slots = set (set (set slots (slot_place p) type) (start_place p) start) (3 * p + 2) room
