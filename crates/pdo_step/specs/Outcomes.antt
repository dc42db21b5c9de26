-- What a mapping word comes to: RULES.md 11, the table of R11.5. Assumes nothing.
use Rattle.mapping.specs.declared.Field.{Field}
use Rattle.value.specs.declared.CodecFault.{CodecFault}
use Rattle.std.specs.Prelude.{ℕ, ◌+◌, ◌<◌, ◌≤◌, ◌≡◌, cond, ◌&&◌, List, eqb, ltb, length, take, drop, Option, Some, None, Result, Ok, Err}
use Rattle.value.specs.Codec.{is_text, word_at}
use Rattle.value.specs.Fault.{first_told, second_told}
use Rattle.value.specs.declared.CodecFault.TheVariants as fault
use Rattle.entry.specs.Table.{slot_end, type_at, room_at, is_mapping}
use Rattle.entry.specs.Find.{Rows, place_of}
use Rattle.entry.specs.declared.Place.TheVariants.{Value}
use Rattle.aim.specs.Aims.{aim_of, class_of}
use Rattle.aim.specs.declared.Class.{Class}
use Rattle.aim.specs.declared.Class.TheVariants as class
use Rattle.pdo_step.specs.declared.Outcome.{Outcome}
use Rattle.pdo_step.specs.declared.Outcome.TheVariants as outcome

-- the field's bytes
abbrev pub part : List ℕ → ℕ → ℕ → List ℕ
part payload start n = take n (drop start payload)

-- steps 5 and 6 at a list's sub-index 0: "In step 5 a list's sub-index 0 has type U8"; "WriteRefused(CountNotWritable); none at a mapping index"
unfoldable pub on_count : ℕ → ℕ → Outcome
on_count x n = cond (eqb n 0) (outcome.Undecodable (fault.Value 1 0)) (cond (is_mapping x) outcome.Count outcome.CountRefused)

-- steps 5, 7 and 8 at a value
abbrev pub on_value : List ℕ → ℕ → ℕ → ℕ → Result ℕ CodecFault → Outcome
on_value slots p start n (Err f) = outcome.Undecodable f
on_value slots p start n (Ok w) =
    cond (is_text (type_at slots p) && ltb (room_at slots p) n) outcome.TooLong (outcome.Stored p start n)

-- steps 3 to 8, of a word whose index is x
abbrev pub on_class : List ℕ → List ℕ → ℕ → Class → Outcome
on_class slots payload x class.Misaligned = outcome.Misaligned
on_class slots payload x (class.Server start n) = outcome.Server x start n
on_class slots payload x (class.Client start n) = outcome.Client x start n
on_class slots payload x class.NoTarget = outcome.NoTarget
on_class slots payload x (class.Count start n) = on_count x n
on_class slots payload x (class.Value start n p) = on_value slots p start n (word_at (type_at slots p) (part payload start n))

-- steps 1 and 2: "misaligned", "the field ends past the payload"
abbrev pub inside : List ℕ → Option Field → Outcome → Outcome
inside payload None next = outcome.Misaligned
inside payload (Some v) next = cond (ltb (length payload) (v.start + v.length)) outcome.Short next

unfoldable pub outcome_of : List ℕ → List ℕ → List ℕ → ℕ → Outcome
outcome_of objects slots payload w =
    let a = aim_of objects w in inside payload a.field (on_class slots payload a.entry.index (class_of a))

-- what deciding needs
pub record Shape (objects slots : List ℕ) : Type 0 where
  pub rows : Rows objects
  pub value : (x sub p : ℕ) → place_of objects x sub ≡ Ok (Value p) → (p < 6144) × (slot_end p ≤ length slots)

-- where the field of an outcome ends, or the numbers that its fault tells
abbrev pub reach : Outcome → ℕ
reach outcome.Misaligned = 0
reach outcome.Short = 0
reach (outcome.Server x start n) = start + n
reach (outcome.Client x start n) = start + n
reach outcome.NoTarget = 0
reach outcome.Count = 0
reach outcome.CountRefused = 0
reach (outcome.Undecodable f) = first_told f + second_told f
reach outcome.TooLong = 0
reach (outcome.Stored p start n) = start + n
