-- The refusals' numbers: RULES.md R13.1. 0 is Done and 19 is RestoreRequested: these are no refusals.
-- Assumes nothing.
use Rattle.std.specs.Prelude.{ℕ}
use Rattle.answers.specs.declared.Refusal.{Refusal}
use Rattle.answers.specs.declared.Refusal.TheVariants.{Malformed, BadValue, ObjectNotFound, SubObjectNotFound, TypeMismatch, ReadOnly, BadSignature, NoStorage, CountNotWritable, MissingEntries, PdoMapOverrun, BufferTooShort, TooLong, PayloadTooLong, NoEventRoom, Occupied, Full, StoreFull, OutOfRange}

abbrev pub refusal_number : Refusal → ℕ
refusal_number Malformed = 1
refusal_number BadValue = 2
refusal_number ObjectNotFound = 3
refusal_number SubObjectNotFound = 4
refusal_number TypeMismatch = 5
refusal_number ReadOnly = 6
refusal_number BadSignature = 7
refusal_number NoStorage = 8
refusal_number CountNotWritable = 9
refusal_number MissingEntries = 10
refusal_number PdoMapOverrun = 11
refusal_number BufferTooShort = 12
refusal_number TooLong = 13
refusal_number PayloadTooLong = 14
refusal_number NoEventRoom = 15
refusal_number Occupied = 16
refusal_number Full = 17
refusal_number StoreFull = 18
refusal_number OutOfRange = 21
