-- What each outcome does: RULES.md 11, the table of R11.5, row by row. Assumes nothing.
use Rattle.std.specs.Prelude.{ℕ, Bool, true, false, eqb, Option, Some, None}
use Rattle.value.specs.declared.CodecFault.{CodecFault}
use Rattle.value.specs.declared.CodecFault.TheVariants as fault
use Rattle.event.specs.declared.Cause.{Cause}
use Rattle.event.specs.declared.Cause.TheVariants.{Frame, Value, Text, Odd}
use Rattle.event.specs.declared.Unwritten.TheVariants.{CountNotWritable, TooLong}
use Rattle.event.specs.declared.Event.{Event}
use Rattle.event.specs.declared.Event.TheVariants.{PayloadShort, Server, Client, WriteRefused}
use Rattle.pdo_step.specs.declared.Outcome.{Outcome}
use Rattle.pdo_step.specs.declared.Outcome.TheVariants as outcome

-- a value's place, and the field that is put there
pub record Putting : Type 0 where
  pub place : ℕ
  pub start : ℕ
  pub len : ℕ

-- the columns "Event" and "Then", and what is put: the same in both editions
pub record Effect : Type 0 where
  pub event : Option Event
  pub stops : Bool
  pub put : Option Putting

abbrev pub goes_on : Option Event → Effect
goes_on v = record { event = v; stops = false; put = None }

abbrev pub ends : Cause → Effect
ends c = record { event = Some (PayloadShort c); stops = true; put = None }

abbrev pub puts : ℕ → ℕ → ℕ → Effect
puts p start n = record { event = None; stops = false; put = Some (record { place = p; start = start; len = n }) }

-- R11.5, step 5: the cause, with what R3.9 says of the field
abbrev pub caused_by : CodecFault → Cause
caused_by (fault.Value needed had) = Value needed had
caused_by (fault.Text at) = Text at
caused_by fault.Odd = Odd

abbrev pub effect_of : Outcome → Effect
effect_of outcome.Misaligned = goes_on None
effect_of outcome.Short = ends Frame
effect_of (outcome.Server x start n) = goes_on (Some (Server x start n))
effect_of (outcome.Client x start n) = goes_on (Some (Client x start n))
effect_of outcome.NoTarget = goes_on None
effect_of outcome.Count = goes_on None
effect_of outcome.CountRefused = goes_on (Some (WriteRefused CountNotWritable))
effect_of (outcome.Undecodable f) = ends (caused_by f)
effect_of outcome.TooLong = goes_on (Some (WriteRefused TooLong))
effect_of (outcome.Stored p start n) = puts p start n

-- a field too short for its value counts in edition 2 as one past the payload does
abbrev pub is_short : ℕ → CodecFault → Bool
is_short edition (fault.Value needed had) = eqb edition 2
is_short edition (fault.Text at) = false
is_short edition fault.Odd = false

-- the column "Bit in 1C81h", in an edition: R11.16, "In edition 2 the cause Value sets it too"
abbrev pub sets_bit : ℕ → Outcome → Bool
sets_bit edition outcome.Misaligned = false
sets_bit edition outcome.Short = true
sets_bit edition (outcome.Server x start n) = false
sets_bit edition (outcome.Client x start n) = false
sets_bit edition outcome.NoTarget = false
sets_bit edition outcome.Count = false
sets_bit edition outcome.CountRefused = false
sets_bit edition (outcome.Undecodable f) = is_short edition f
sets_bit edition outcome.TooLong = false
sets_bit edition (outcome.Stored p start n) = false
