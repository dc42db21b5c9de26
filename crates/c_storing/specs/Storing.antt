-- What writing and restoring answer for C: RULES.md 13. Assumes nothing.
use Rattle.answers.specs.declared.Refusal.{Refusal}
use Rattle.std.specs.Prelude.{ℕ, Result, Ok, Err}
use Rattle.answers.specs.Numbers.{refusal_number}
use Rattle.answers.specs.declared.Refusal.TheVariants.{BadValue}
use Rattle.writing.specs.declared.Wrote.{Wrote}
use Rattle.writing.specs.declared.Wrote.TheVariants.{Done, RestoreRequested}
use Rattle.writing.specs.declared.WriteFault.{WriteFault}
use Rattle.writing.specs.declared.WriteFault.TheVariants.{NoValue, Refused}
use Rattle.c_answers.specs.Answers.{answer_number, place_after, had_after}

abbrev pub wrote_number : Result Wrote WriteFault → ℕ
wrote_number (Ok Done) = 0
wrote_number (Ok RestoreRequested) = 19
wrote_number (Err (NoValue f)) = refusal_number BadValue
wrote_number (Err (Refused r)) = refusal_number r

-- the two numbers that are lent for a fault's
abbrev pub wrote_place : Result Wrote WriteFault → ℕ → ℕ
wrote_place (Ok _) p = p
wrote_place (Err (NoValue f)) p = place_after f p
wrote_place (Err (Refused r)) p = p

abbrev pub wrote_had : Result Wrote WriteFault → ℕ → ℕ
wrote_had (Ok _) h = h
wrote_had (Err (NoValue f)) h = had_after f h
wrote_had (Err (Refused r)) h = h

abbrev pub restored_number : Result (Unit {0}) Refusal → ℕ
restored_number a = answer_number a
