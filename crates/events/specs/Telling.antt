-- What an event says of the field that it is told of: RULES.md R11.15. Assumes nothing.
use Rattle.std.specs.Prelude.{ℕ, ◌+◌, ◌-◌, ◌≤◌, ◌≡◌, List, [], ◌∷◌, length, get_or, Ok}
use Rattle.value.specs.declared.CodecFault.{CodecFault}
use Rattle.value.specs.declared.CodecFault.TheVariants as fault
use Rattle.value.specs.Fault.{Tells}
use Rattle.event.specs.declared.Cause.{Cause}
use Rattle.event.specs.declared.Cause.TheVariants as cause
use Rattle.event.specs.declared.Event.TheVariants.{PayloadShort}
use Rattle.event.specs.declared.EventRecord.{EventRecord}
use Rattle.mapping.specs.Word.{entry_of, field_of, field_at}
use Rattle.entry.specs.Table.{type_at}
use Rattle.entry.specs.Find.{place_of}
use Rattle.entry.specs.declared.Place.TheVariants.{Count, Value}
use Rattle.pdo_step.specs.declared.Outcome.TheVariants as outcome
use Rattle.pdo_step.specs.Outcomes.{part}
use Rattle.pdo_run.specs.Run.{Frame, decided}

-- the type of what a word maps: a value's own, and U8 of a list's count
pub data TargetType (objects slots : List ℕ) (x sub t : ℕ) : Type 0 where
  value : (p : ℕ) → place_of objects x sub ≡ Ok (Value p) → t ≡ type_at slots p → TargetType objects slots x sub t
  count : (n : ℕ) → place_of objects x sub ≡ Ok (Count n) → t ≡ 5 → TargetType objects slots x sub t

-- a word's field, which lies within the payload, does not decode, and the fault says why: places and counts are the field's own
pub record Undecoded (f : Frame) (w : ℕ) (g : CodecFault) : Type 0 where
  pub start : ℕ
  pub len : ℕ
  pub type : ℕ
  pub field : field_of (entry_of w) ≡ field_at start len
  pub within : start + len ≤ length f.payload
  pub target : TargetType f.objects f.slots (entry_of w).index (entry_of w).sub_index type
  pub tells : Tells type (part f.payload start len) g

abbrev pub FieldFault : Frame → ℕ → Cause → Type 0
FieldFault f w cause.Frame = decided f w ≡ outcome.Short
FieldFault f w (cause.Value needed had) = Undecoded f w (fault.Value needed had)
FieldFault f w (cause.Text at) = Undecoded f w (fault.Text at)
FieldFault f w cause.Odd = Undecoded f w fault.Odd

-- each event of a payload that is short says what is wrong with the field of its element, ws being the list's words
abbrev pub EventTells : Frame → List ℕ → EventRecord → Type 0
EventTells f ws r = (c : Cause) → r.event ≡ PayloadShort c → FieldFault f (get_or ws (r.element - 1) 0) c

abbrev pub AllTell : Frame → List ℕ → List EventRecord → Type 0
AllTell f ws [] = Unit {0}
AllTell f ws (r ∷ rs) = EventTells f ws r × AllTell f ws rs
