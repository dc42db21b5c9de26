-- What is wrong with an element of a channel's list: RULES.md 12, the table of R12.2, over what the element maps. Assumes nothing.
use Rattle.mapping.specs.declared.Field.{Field}
use Rattle.element.specs.declared.Fault.{Fault}
use Rattle.std.specs.Prelude.{ℕ, ◌%◌, Bool, cond, not, ◌&&◌, List, eqb, leb, Option, Result, Ok, Err}
use Rattle.value.specs.Codec.{is_text, length_of}
use Rattle.mapping.specs.declared.PdoMappingEntry.{PdoMappingEntry}
use Rattle.entry.specs.Find.{place_of}
use Rattle.entry.specs.declared.Place.{Place}
use Rattle.entry.specs.declared.Missing.{Missing}
use Rattle.aim.specs.Aims.{between}
use Rattle.element.specs.declared.Fault.TheVariants as fault
use Rattle.element.specs.declared.Target.{Target}
use Rattle.element.specs.declared.Target.TheVariants as target
use Rattle.element.specs.declared.Explained.{Explained}
use Rattle.element.specs.declared.Explained.TheVariants as explained
use Rattle.element.specs.Explain.{target_of, of_field, of_word}

-- WrongLength: "fixed type: the length is not its size; string: over its room, or odd for UnicodeString"
abbrev pub fits_in : ℕ → ℕ → ℕ → Bool
fits_in t most n = cond (is_text t) (leb n most && not (eqb t 13 && eqb (n % 2) 1)) (eqb n most)

-- NoTarget: "no such index or sub-index"; CountTarget: "the target is a list's sub-index 0"
abbrev pub onto_target : ℕ → Result Target Missing → Result (Unit {0}) Fault
onto_target n (Err m) = Err fault.NoTarget
onto_target n (Ok target.Count) = Err fault.CountTarget
onto_target n (Ok (target.Value t most)) = cond (fits_in t most n) (Ok tt) (Err fault.WrongLength)

-- NotMapping: "the element is not U64"; Misaligned: R4.3; HandOff (R12.2): "the target's index is 1200h..12FFh".
abbrev pub said_of : Explained → Result (Unit {0}) Fault
said_of (explained.Other t) = Err fault.NotMapping
said_of (explained.Misaligned x sub offset len t) = Err fault.Misaligned
said_of (explained.Field x sub start n t) = cond (between 0x1200 0x12FF x) (Err fault.HandOff) (onto_target n t)

-- ---- of an element
abbrev pub length_fits : ℕ → ℕ → ℕ → Bool
length_fits t room n = fits_in t (length_of t room) n

abbrev pub on_target : List ℕ → ℕ → Result Place Missing → Result (Unit {0}) Fault
on_target slots n q = onto_target n (target_of slots q)

abbrev pub on_field : List ℕ → List ℕ → PdoMappingEntry → Option Field → Result (Unit {0}) Fault
on_field objects slots e f = said_of (of_field slots e (place_of objects e.index e.sub_index) f)

unfoldable pub word_verdict : List ℕ → List ℕ → ℕ → Result (Unit {0}) Fault
word_verdict objects slots w = said_of (of_word objects slots w)

abbrev pub verdict_of : List ℕ → List ℕ → ℕ → ℕ → Result (Unit {0}) Fault
verdict_of objects slots t w = cond (eqb t 8) (word_verdict objects slots w) (Err fault.NotMapping)
