-- What the step of an element that a fault names comes to: RULES.md R12.2 beside the table of R11.5. Assumes nothing.
use Rattle.std.specs.Prelude.{ℕ, ◌%◌, ◌<◌, ◌≡◌, true, false}
use Rattle.text.specs.Utf8.{Stops}
use Rattle.value.specs.Codec.{is_text, size_of}
use Rattle.value.specs.declared.CodecFault.TheVariants as cause
use Rattle.mapping.specs.Word.{entry_of, field_of, field_at}
use Rattle.entry.specs.Table.{type_at, room_at}
use Rattle.entry.specs.Put.{Contents}
use Rattle.entry.specs.Encode.{encoding_in}
use Rattle.aim.specs.Aims.{aim_of, class_of}
use Rattle.aim.specs.declared.Class.TheVariants as class
use Rattle.pdo_step.specs.declared.Outcome.TheVariants as outcome
use Rattle.pdo_step.specs.Outcomes.{part}
use Rattle.pdo_run.specs.Run.{Frame, decided, act_of}
use Rattle.element.specs.declared.Fault.{Fault}
use Rattle.element.specs.declared.Fault.TheVariants as fault

-- HandOff: the field goes to the SDO server or to the client
pub data HandedOff (f : Frame) (w : ℕ) : Type 0 where
  server : (start n : ℕ) → field_of (entry_of w) ≡ field_at start n → decided f w ≡ outcome.Server (entry_of w).index start n → HandedOff f w
  client : (start n : ℕ) → field_of (entry_of w) ≡ field_at start n → decided f w ≡ outcome.Client (entry_of w).index start n → HandedOff f w

-- CountTarget: a count is not put; of a field of no bytes there is none
pub data Counted (f : Frame) (w : ℕ) : Type 0 where
  ignored : decided f w ≡ outcome.Count → Counted f w
  refused : decided f w ≡ outcome.CountRefused → Counted f w
  empty : decided f w ≡ outcome.Undecodable (cause.Value 1 0) → Counted f w

-- WrongLength, of a field of n bytes from start on and the target p. A number: too few bytes do not decode; of too many the first are stored, and
-- what is stored is encoded as something other than the field. A string: an odd UnicodeString does not decode, nor does a VisibleString that stops
-- being text; else it is over the room. What a fault tells is R3.9's.
pub data Misfit (f : Frame) (c : Contents) (w p start n : ℕ) : Type 0 where
  too_short : is_text (type_at f.slots p) ≡ false → n < size_of (type_at f.slots p) → decided f w ≡ outcome.Undecodable (cause.Value (size_of (type_at f.slots p)) n) → Misfit f c w p start n
  cut : is_text (type_at f.slots p) ≡ false → size_of (type_at f.slots p) < n → decided f w ≡ outcome.Stored p start n
      → (encoding_in f.slots (act_of f c (decided f w)).words (act_of f c (decided f w)).bytes p ≡ part f.payload start n → ⊥)
      → Misfit f c w p start n
  odd : type_at f.slots p ≡ 13 → n % 2 ≡ 1 → decided f w ≡ outcome.Undecodable cause.Odd → Misfit f c w p start n
  no_text : type_at f.slots p ≡ 11 → room_at f.slots p < n → (at : ℕ) → Stops (part f.payload start n) at → decided f w ≡ outcome.Undecodable (cause.Text at) → Misfit f c w p start n
  over-room : is_text (type_at f.slots p) ≡ true → room_at f.slots p < n → decided f w ≡ outcome.TooLong → Misfit f c w p start n

pub record Misfits (f : Frame) (c : Contents) (w : ℕ) : Type 0 where
  pub target : ℕ
  pub start : ℕ
  pub len : ℕ
  pub class : class_of (aim_of f.objects w) ≡ class.Value start len target
  pub how : Misfit f c w target start len

-- an element of type t and word w, under a payload that reaches its end
abbrev pub Reason : Fault → Frame → Contents → ℕ → ℕ → Type 0
Reason fault.NotMapping f c t w = t ≡ 8 → ⊥
Reason fault.Misaligned f c t w = decided f w ≡ outcome.Misaligned
Reason fault.HandOff f c t w = HandedOff f w
Reason fault.NoTarget f c t w = decided f w ≡ outcome.NoTarget
Reason fault.CountTarget f c t w = Counted f w
Reason fault.WrongLength f c t w = Misfits f c w
