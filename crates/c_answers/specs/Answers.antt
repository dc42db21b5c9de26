-- What the calls for C answer, and what they leave in what was lent for their results. RULES.md 13. Assumes nothing.
use Rattle.answers.specs.declared.Refusal.{Refusal}
use Rattle.std.specs.Prelude.{ℕ, cond, List, ltb, length, Result, Ok, Err}
use Rattle.lists.specs.Lists.{over}
use Rattle.answers.specs.Numbers.{refusal_number}
use Rattle.answers.specs.declared.Refusal.TheVariants.{BufferTooShort}
use Rattle.value.specs.declared.CodecFault.{CodecFault}
use Rattle.value.specs.declared.CodecFault.TheVariants.{Value, Text, Odd}

abbrev pub answer_number : Result (Unit {0}) Refusal → ℕ
answer_number (Ok _) = 0
answer_number (Err r) = refusal_number r

-- R13.5: the two numbers that are lent for a fault's, after it: the bytes needed or the place of the byte, and the bytes had
abbrev pub place_after : CodecFault → ℕ → ℕ
place_after (Value needed had) p = needed
place_after (Text at) p = at
place_after Odd p = p

abbrev pub had_after : CodecFault → ℕ → ℕ
had_after (Value needed had) h = had
had_after (Text at) h = h
had_after Odd h = h

-- an answer's number, and the one lent number after it
pub record Told : Type 0 where
  pub answer : ℕ
  pub number : ℕ

abbrev pub told : ℕ → ℕ → Told
told a n = record { answer = a; number = n }

-- the one lent number is what was found, with the answer 0; a refusal leaves it
abbrev pub number_told : Result ℕ Refusal → ℕ → Told
number_told (Ok n) m = told 0 n
number_told (Err r) m = told (refusal_number r) m

-- an answer's number, and the lent numbers after it
pub record Lent : Type 0 where
  pub answer : ℕ
  pub numbers : List ℕ

abbrev pub lent : ℕ → List ℕ → Lent
lent a ns = record { answer = a; numbers = ns }

-- results that the lent numbers have room for go there from the first one on; else BufferTooShort
abbrev pub results : List ℕ → List ℕ → Lent
results rs ns = cond (ltb (length ns) (length rs)) (lent (refusal_number BufferTooShort) ns) (lent 0 (over ns 0 rs))

-- an answer's number, what was lent to be written into, and the lent count after it
pub record Written : Type 0 where
  pub answer : ℕ
  pub out : List ℕ
  pub written : ℕ

abbrev pub wrote : ℕ → List ℕ → ℕ → Written
wrote a out n = record { answer = a; out = out; written = n }

-- the lent count is that of what was written, with the answer 0; a refusal leaves it
abbrev pub count_wrote : Result ℕ Refusal → List ℕ → ℕ → Written
count_wrote a out m = let t = number_told a m in wrote t.answer out t.number
