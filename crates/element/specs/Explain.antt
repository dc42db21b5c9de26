-- What an element of a channel's list maps, and onto what: RULES.md R12.14. Assumes nothing.
use Rattle.mapping.specs.declared.Field.{Field}
use Rattle.std.specs.Prelude.{ℕ, ◌+◌, cond, List, eqb, get_or, Option, Some, None, Result, Ok, Err}
use Rattle.answers.specs.declared.Refusal.{Refusal}
use Rattle.answers.specs.declared.Refusal.TheVariants.{Malformed, ObjectNotFound, SubObjectNotFound}
use Rattle.value.specs.Codec.{length_of}
use Rattle.mapping.specs.declared.PdoMappingEntry.{PdoMappingEntry}
use Rattle.entry.specs.Table.{Dict, kind_at, type_at, room_at}
use Rattle.entry.specs.Find.{find_row, sub_at}
use Rattle.entry.specs.Judge.{well_formed}
use Rattle.entry.specs.declared.Place.{Place}
use Rattle.entry.specs.declared.Place.TheVariants as place
use Rattle.entry.specs.declared.Missing.{Missing}
use Rattle.aim.specs.Aims.{aim_of}
use Rattle.element.specs.declared.Target.{Target}
use Rattle.element.specs.declared.Target.TheVariants as target
use Rattle.element.specs.declared.Explained.{Explained}
use Rattle.element.specs.declared.Explained.TheVariants as explained

-- a value: its type, and its size in bytes, or a string's room
abbrev pub target_at : List ℕ → ℕ → Target
target_at slots p = target.Value (type_at slots p) (length_of (type_at slots p) (room_at slots p))

-- "what is there"
abbrev pub target_of : List ℕ → Result Place Missing → Result Target Missing
target_of slots (Err m) = Err m
target_of slots (Ok (place.Count n)) = Ok target.Count
target_of slots (Ok (place.Value p)) = Ok (target_at slots p)

-- "offset and length in bytes, or in bits where one of them is not whole bytes"
abbrev pub of_field : List ℕ → PdoMappingEntry → Result Place Missing → Option Field → Explained
of_field slots e q None = explained.Misaligned e.index e.sub_index e.offset_bits e.length_bits (target_of slots q)
of_field slots e q (Some v) = explained.Field e.index e.sub_index v.start v.length (target_of slots q)

abbrev pub of_word : List ℕ → List ℕ → ℕ → Explained
of_word objects slots w = let a = aim_of objects w in of_field slots a.entry a.place a.field

-- "only the type of one that is not U64"
abbrev pub of_element : List ℕ → List ℕ → ℕ → ℕ → Explained
of_element objects slots t w = cond (eqb t 8) (of_word objects slots w) (explained.Other t)

-- "no such element: SubObjectNotFound"
abbrev pub of_place : Dict → Option Place → Result Explained Refusal
of_place d None = Err SubObjectNotFound
of_place d (Some (place.Count n)) = Err SubObjectNotFound
of_place d (Some (place.Value p)) = Ok (of_element d.objects d.slots (type_at d.slots p) (get_or d.words p 0))

-- "1600h+i is no list: ObjectNotFound"
abbrev pub of_list : Dict → ℕ → Option ℕ → Result Explained Refusal
of_list d k None = Err ObjectNotFound
of_list d k (Some r) = cond (eqb (kind_at d.objects r) 0) (Err ObjectNotFound) (of_place d (sub_at d.objects r k))

unfoldable pub explain_of : Dict → ℕ → ℕ → Result Explained Refusal
explain_of d i k = cond (well_formed d) (of_list d k (find_row d.objects (0x1600 + i))) (Err Malformed)
