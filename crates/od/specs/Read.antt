-- Reading: RULES.md 7. Assumes nothing.
use Rattle.od.specs.declared.Stored.{Stored}
use Rattle.answers.specs.declared.Refusal.{Refusal}
use Rattle.std.specs.Prelude.{ℕ, cond, List, [], eqb, get_or, take, drop, Result, Ok, Err}
use Rattle.answers.specs.declared.Refusal.TheVariants.{Malformed, ObjectNotFound, SubObjectNotFound, TypeMismatch}
use Rattle.value.specs.Codec.{is_text}
use Rattle.entry.specs.Table.{Dict, type_at, start_at}
use Rattle.entry.specs.Find.{place_of}
use Rattle.entry.specs.Judge.{well_formed}
use Rattle.entry.specs.declared.Place.{Place}
use Rattle.entry.specs.declared.Place.TheVariants.{Count, Value}
use Rattle.entry.specs.declared.Missing.{Missing}
use Rattle.entry.specs.declared.Missing.TheVariants.{NoObject, NoSub}

-- a value of type t and its word, whose text or bytes start there
abbrev pub read_as : ℕ → ℕ → ℕ → Result Stored Refusal
read_as t word start = Ok (record { value_type = t; word = word; start = start })

-- what stands at a place; the count of a list's elements is a U8, type 5
abbrev pub read_at : Dict → Result Place Missing → Result Stored Refusal
read_at d (Err NoObject) = Err ObjectNotFound
read_at d (Err NoSub) = Err SubObjectNotFound
read_at d (Ok (Count n)) = read_as 5 n 0
read_at d (Ok (Value p)) = read_as (type_at d.slots p) (get_or d.words p 0) (start_at d.slots p)

unfoldable pub read_of : Dict → ℕ → ℕ → Result Stored Refusal
read_of d x sub = cond (well_formed d) (read_at d (place_of d.objects x sub)) (Err Malformed)

-- R7.4: "A string read hands back the part of the caller's `bytes` that holds it": empty where a number, or nothing, is read
abbrev pub part_in : List ℕ → Result Stored Refusal → List ℕ
part_in bytes (Ok v) = cond (is_text v.value_type) (take v.word (drop v.start bytes)) []
part_in bytes (Err r) = []

-- a number of the type t
abbrev pub of_type : ℕ → Result Stored Refusal → Result ℕ Refusal
of_type t (Ok v) = cond (eqb v.value_type t) (Ok v.word) (Err TypeMismatch)
of_type t (Err r) = Err r
