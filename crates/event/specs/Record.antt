-- The record and the number of an event: RULES.md R11.14. Assumes nothing.
use Rattle.std.specs.Prelude.{ℕ, ◌+◌, ◌*◌, ◌/◌, ◌%◌, ◌<◌, Bool, cond, ◌&&◌, ◌||◌, eqb, leb, Option, Some, None}
use Rattle.event.specs.declared.Cause.{Cause}
use Rattle.event.specs.declared.Cause.TheVariants.{Frame, Value, Text, Odd}
use Rattle.event.specs.declared.Unwritten.TheVariants.{CountNotWritable, TooLong}
use Rattle.event.specs.declared.Event.{Event}
use Rattle.event.specs.declared.Event.TheVariants.{MapVersion, PayloadShort, Server, Client, WriteRefused}
use Rattle.event.specs.declared.EventRecord.{EventRecord}
use Rattle.event.specs.declared.records.Parts.{Parts}

-- R11.14: "Kinds: 1 MapVersion; 2 to 5 PayloadShort, cause Frame, Value, Text, Odd; 6 Server; 7 Client; 8 WriteRefused(CountNotWritable);
-- 9 WriteRefused(TooLong)"
abbrev pub kind_of : Event → ℕ
kind_of MapVersion = 1
kind_of (PayloadShort Frame) = 2
kind_of (PayloadShort (Value needed had)) = 3
kind_of (PayloadShort (Text at)) = 4
kind_of (PayloadShort Odd) = 5
kind_of (Server x start n) = 6
kind_of (Client x start n) = 7
kind_of (WriteRefused CountNotWritable) = 8
kind_of (WriteRefused TooLong) = 9

-- R11.14: "Index, start and length are a hand-off's; of cause Value start and length are the bytes needed and had, of cause Text start is
-- the place; else they are 0."
pub record Detail : Type 0 where
  pub index : ℕ
  pub start : ℕ
  pub len : ℕ

abbrev pub detail : ℕ → ℕ → ℕ → Detail
detail x start n = record { index = x; start = start; len = n }

abbrev pub detail_of : Event → Detail
detail_of MapVersion = detail 0 0 0
detail_of (PayloadShort Frame) = detail 0 0 0
detail_of (PayloadShort (Value needed had)) = detail 0 needed had
detail_of (PayloadShort (Text at)) = detail 0 at 0
detail_of (PayloadShort Odd) = detail 0 0 0
detail_of (Server x start n) = detail x start n
detail_of (Client x start n) = detail x start n
detail_of (WriteRefused u) = detail 0 0 0

-- "kind + 16 (element + 256 (index + 65,536 (start + 8,192 (length + 8,192 payload))))"
abbrev pub packed : ℕ → ℕ → ℕ → ℕ → ℕ → ℕ → ℕ
packed i kind k x start n = kind + 16 * (k + 256 * (x + 65536 * (start + 8192 * (n + 8192 * i))))

abbrev pub event_number : EventRecord → ℕ
event_number r =
    let d = detail_of r.event in packed r.payload (kind_of r.event) r.element d.index d.start d.len

-- ---- and back: the record that a number says
abbrev pub cause_of : ℕ → ℕ → ℕ → Cause
cause_of kind start n = cond (eqb kind 2) Frame (cond (eqb kind 3) (Value start n) (cond (eqb kind 4) (Text start) Odd))

-- 0 and 10 to 15 are no event's kind, and are taken here for the last cause
unfoldable pub event_of : ℕ → ℕ → ℕ → ℕ → Event
event_of kind x start n =
    cond (eqb kind 1) MapVersion
    (cond (eqb kind 6) (Server x start n)
    (cond (eqb kind 7) (Client x start n)
    (cond (eqb kind 8) (WriteRefused CountNotWritable)
    (cond (eqb kind 9) (WriteRefused TooLong)
    (PayloadShort (cause_of kind start n))))))

-- what a number says of its event, its payload and its element aside
abbrev pub parts_of : ℕ → Parts
parts_of e = record { kind = e % 16; index = e / 4096 % 65536; start = e / 268435456 % 8192; len = e / 2199023255552 % 8192 }

-- kind in bits 0 to 3, element in 4 to 11, index in 12 to 27, start in 28 to 40, length in 41 to 53, the payload's number from 54 on
unfoldable pub record_of : ℕ → EventRecord
record_of e =
    record {
      payload = e / 18014398509481984;
      element = e / 16 % 256;
      event = event_of (e % 16) (e / 4096 % 65536) (e / 268435456 % 8192) (e / 2199023255552 % 8192);
    }

-- a record whose parts have room in its number
pub record Small (r : EventRecord) : Type 0 where
  pub element : r.element < 256
  pub index : (detail_of r.event).index < 65536
  pub start : (detail_of r.event).start < 8192
  pub len : (detail_of r.event).len < 8192

-- where the number is its record's, that; else nothing
unfoldable pub recorded_of : ℕ → Option EventRecord
recorded_of e = cond (eqb (event_number (record_of e)) e) (Some (record_of e)) None

-- 0 is no event's number
abbrev pub recorded_number : Option EventRecord → ℕ
recorded_number (Some r) = event_number r
recorded_number None = 0

-- which numbers are records', by their parts: an event of that kind has these
unfoldable pub may_have : ℕ → ℕ → ℕ → ℕ → Bool
may_have kind x start n =
    (eqb kind 6 || eqb kind 7)
    || (eqb x 0 && (eqb kind 3 || (eqb n 0 && (eqb kind 4 || (eqb start 0 && (leb 1 kind && leb kind 9))))))

abbrev pub is_record : ℕ → Bool
is_record e = may_have (e % 16) (e / 4096 % 65536) (e / 268435456 % 8192) (e / 2199023255552 % 8192)

-- R11.9: "A record of the event list is an element number and an event"; R11.13: events "carry their payload's number"
abbrev pub record_at : ℕ → ℕ → Event → EventRecord
record_at i k v = record { payload = i; element = k; event = v }
