-- Consuming a payload into a list of records: RULES.md 11. Assumes nothing.
use Rattle.answers.specs.declared.Refusal.{Refusal}
use Rattle.std.specs.Prelude.{ℕ, Bool, List, [], ◌++◌, map, length, take, drop, replicate, Result, Ok, Err}
use Rattle.entry.specs.Table.{Dict}
use Rattle.entry.specs.Put.{Contents, contents}
use Rattle.pdo_run.specs.Run.{frame}
use Rattle.pdo_handler.specs.Consume.{AfterConsume, received_by, consume_of}
use Rattle.event.specs.declared.EventRecord.{EventRecord}
use Rattle.event.specs.Record.{record_of}

-- R11.1: "The answer is Done with the number of events"
abbrev pub event_count : Result ℕ Refusal → ℕ
event_count (Ok n) = n
event_count (Err r) = 0

-- an answer, and what was lent after it
pub record Received : Type 0 where
  pub answer : Result ℕ Refusal
  pub contents : Contents
  pub events : List EventRecord

abbrev pub received : Result ℕ Refusal → Contents → List EventRecord → Received
received a c es = record { answer = a; contents = c; events = es }

-- the records of the first n numbers of a log
abbrev pub records_of : ℕ → List ℕ → List EventRecord
records_of n log = map record_of (take n log)

abbrev pub told_by : Result ℕ Refusal → List EventRecord → List EventRecord
told_by (Ok n) vs = vs
told_by (Err r) vs = []

-- R11.9: "Events lie in order from the first record on; records behind the last stay." vs are the events of the payload.
abbrev pub listed : AfterConsume → List EventRecord → List EventRecord → Received
listed a vs es = received a.answer a.contents (told_by a.answer vs ++ drop (event_count a.answer) es)

-- what consuming into a log answers and leaves, with the events as records
unfoldable pub received_of : Dict → List ℕ → ℕ → ℕ → Bool → List EventRecord → Received
received_of d payload sender version ready es =
    let a = consume_of d payload sender version ready (length es) (replicate 254 0) in
    let r = received_by (frame d.objects d.slots payload sender 0) (contents d.words d.bytes) version ready in
    listed a r.events es
