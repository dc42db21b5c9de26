-- What consuming answers and leaves for C: RULES.md 11 and 13. Assumes nothing.
use Rattle.pdo_cycle.specs.declared.Cycle.{Cycle}
use Rattle.answers.specs.declared.Refusal.{Refusal}
use Rattle.std.specs.Prelude.{ℕ, List, Result, Ok, Err}
use Rattle.answers.specs.Numbers.{refusal_number}
use Rattle.entry.specs.Put.{Contents}
use Rattle.pdo_handler.specs.Consume.{AfterConsume}
use Rattle.pdo_cycle.specs.Cycle.{AfterCycle}
use Rattle.c_answers.specs.Answers.{number_told}

-- an answer's number, the counts of payloads and events, and what was lent after it
pub record Heard : Type 0 where
  pub answer : ℕ
  pub contents : Contents
  pub events : List ℕ
  pub consumed : ℕ
  pub count : ℕ

abbrev pub heard : ℕ → Contents → List ℕ → ℕ → ℕ → Heard
heard a c es i n = record { answer = a; contents = c; events = es; consumed = i; count = n }

-- of one payload there is no count of payloads: it is 0 on both sides
unfoldable pub consume_numbers : AfterConsume → ℕ → Heard
consume_numbers a m = let t = number_told a.answer m in heard t.answer a.contents a.log 0 t.number

-- an answer's number, and both counts after it
pub record Counted : Type 0 where
  pub answer : ℕ
  pub consumed : ℕ
  pub count : ℕ

abbrev pub counted : ℕ → ℕ → ℕ → Counted
counted a i n = record { answer = a; consumed = i; count = n }

abbrev pub cycle_counted : Result Cycle Refusal → ℕ → ℕ → Counted
cycle_counted (Ok v) j m = counted 0 v.consumed v.events
cycle_counted (Err r) j m = counted (refusal_number r) j m

unfoldable pub cycle_numbers : AfterCycle → ℕ → ℕ → Heard
cycle_numbers a j m = let t = cycle_counted a.answer j m in heard t.answer a.contents a.log t.consumed t.count
