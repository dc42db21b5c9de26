-- Consuming the payloads of a cycle: RULES.md R11.12 and R11.13. Assumes nothing.
use Rattle.pdo_cycle.specs.declared.Cycle.{Cycle}
use Rattle.answers.specs.declared.Refusal.{Refusal}
use Rattle.std.specs.Prelude.{ℕ, zero, suc, ◌+◌, ◌-◌, cond, ◌&&◌, List, [], ◌++◌, map, ltb, length, Result, Err, Ok}
use Rattle.lists.specs.Lists.{over}
use Rattle.answers.specs.declared.Refusal.TheVariants.{Malformed, BadValue, PayloadTooLong}
use Rattle.event.specs.declared.EventRecord.{EventRecord}
use Rattle.event.specs.Record.{event_number}
use Rattle.entry.specs.Table.{Dict}
use Rattle.entry.specs.Judge.{well_formed}
use Rattle.entry.specs.Put.{Contents, contents}
use Rattle.pdo_run.specs.Run.{frame, Ran}
use Rattle.pdo_handler.specs.Consume.{received_by}
use Rattle.pdo_cycle.specs.Payloads.{sender_of, version_of, ready_of, payload_of, payloads_in, are_shaped, are_placed, are_short}

-- what the payloads are held against: the dictionary's shape, the delivered bytes, and the payloads' numbers
pub record Delivery : Type 0 where
  pub objects : List ℕ
  pub slots : List ℕ
  pub delivered : List ℕ
  pub payloads : List ℕ

abbrev pub delivery : List ℕ → List ℕ → List ℕ → List ℕ → Delivery
delivery objects slots delivered ps = record { objects = objects; slots = slots; delivered = delivered; payloads = ps }

-- payload i, "consumed as by a call of its own"
abbrev pub received_at : Delivery → Contents → ℕ → Ran
received_at v c i =
    received_by (frame v.objects v.slots (payload_of v.delivered v.payloads i) (sender_of v.payloads i) i) c (version_of v.payloads i) (ready_of v.payloads i)

-- what is left of a cycle: the contents, the events, and how many payloads were consumed
pub record Cycled : Type 0 where
  pub contents : Contents
  pub events : List EventRecord
  pub consumed : ℕ

abbrev pub cycled : Contents → List EventRecord → ℕ → Cycled
cycled c es n = record { contents = c; events = es; consumed = n }

abbrev pub further : List EventRecord → Cycled → Cycled
further es x = cycled x.contents (es ++ x.events) (1 + x.consumed)

-- R11.13: "Before each, ready or not, 254 free records are needed; the call ends before the first payload that lacks them." n payloads
-- from payload i on, with room for so many records.
unfoldable pub cycle_from : Delivery → ℕ → ℕ → Contents → ℕ → Cycled
cycle_from v zero i c room = cycled c [] 0
cycle_from v (suc n) i c room =
    cond (ltb room 254)
    (cycled c [] 0)
    (further (received_at v c i).events (cycle_from v n (i + 1) (received_at v c i).contents (room - length (received_at v c i).events)))

-- the log, and how many events and payloads there are, where so many lie before
pub record Ended : Type 0 where
  pub contents : Contents
  pub log : List ℕ
  pub count : ℕ
  pub consumed : ℕ

abbrev pub state_of : Contents → List ℕ → ℕ → ℕ → Ended
state_of c l n i = record { contents = c; log = l; count = n; consumed = i }

abbrev pub ended : Cycled → List ℕ → ℕ → ℕ → Ended
ended x l n i = state_of x.contents (over l n (map event_number x.events)) (n + length x.events) (i + x.consumed)

-- an answer, and what was lent after it
pub record AfterCycle : Type 0 where
  pub answer : Result Cycle Refusal
  pub contents : Contents
  pub log : List ℕ

-- so many payloads were consumed, and told so many events
abbrev pub tallied : ℕ → ℕ → Result Cycle Refusal
tallied consumed events = Ok (record { consumed = consumed; events = events })

abbrev pub after_cycle : Result Cycle Refusal → Contents → List ℕ → AfterCycle
after_cycle a c l = record { answer = a; contents = c; log = l }

abbrev pub cycle_done : Ended → AfterCycle
cycle_done e = after_cycle (tallied e.consumed e.count) e.contents e.log

-- R11.12: "Malformed (1); .. BadValue (2); .. PayloadTooLong (14). All are judged before the first is consumed."
unfoldable pub cycle_of : Dict → List ℕ → List ℕ → List ℕ → AfterCycle
cycle_of d delivered ps log =
    let c = contents d.words d.bytes in
    cond (well_formed d)
    (cond (are_shaped ps && are_placed (length delivered) ps)
    (cond (are_short ps)
    (cycle_done (ended (cycle_from (delivery d.objects d.slots delivered ps) (payloads_in ps) 0 c (length log)) log 0 0))
    (after_cycle (Err PayloadTooLong) c log))
    (after_cycle (Err BadValue) c log))
    (after_cycle (Err Malformed) c log)
