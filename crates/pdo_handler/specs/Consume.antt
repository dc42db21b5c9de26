-- Consuming a payload: RULES.md 11. Assumes nothing.
use Rattle.answers.specs.declared.Refusal.{Refusal}
use Rattle.std.specs.Prelude.{ℕ, ◌+◌, Bool, cond, List, [], ◌∷◌, ltb, length, Option, Some, None, Result, Ok, Err}
use Rattle.answers.specs.declared.Refusal.TheVariants.{Malformed, NoEventRoom, PayloadTooLong}
use Rattle.event.specs.declared.Event.TheVariants.{MapVersion}
use Rattle.event.specs.declared.EventRecord.{EventRecord}
use Rattle.event.specs.Record.{record_at}
use Rattle.entry.specs.Table.{Dict}
use Rattle.entry.specs.Find.{find_row}
use Rattle.entry.specs.Judge.{well_formed}
use Rattle.entry.specs.Put.{Contents, contents}
use Rattle.pdo_channel.specs.Channel.{first_match, expected_of, right_version}
use Rattle.pdo_run.specs.Run.{Frame, frame, held, marked, Ran, ran, run_on, Logged, finished}

-- R11.9: element 0
abbrev pub map_version : ℕ → EventRecord
map_version i = record_at i 0 MapVersion

-- R11.3: "Wrong: event MapVersion, the sender's bit in 1C80h, end."
abbrev pub on_channel : Frame → Contents → ℕ → Option ℕ → Ran
on_channel f c version None = ran c []
on_channel f c version (Some i) =
    cond (right_version (expected_of (held f c) i) version)
    (run_on f c (find_row f.objects (0x1600 + i)))
    (ran (marked f c 0x1C80) (map_version f.number ∷ []))

-- a payload that is ready
unfoldable pub consumed_by : Frame → Contents → ℕ → Ran
consumed_by f c version = on_channel f c version (first_match (held f c) f.sender)

-- R11.1: "not ready: nothing happens"
abbrev pub received_by : Frame → Contents → ℕ → Bool → Ran
received_by f c version ready = cond ready (consumed_by f c version) (ran c [])

-- an answer, and what was lent after it
pub record AfterConsume : Type 0 where
  pub answer : Result ℕ Refusal
  pub contents : Contents
  pub log : List ℕ

abbrev pub after_consume : Result ℕ Refusal → Contents → List ℕ → AfterConsume
after_consume a c l = record { answer = a; contents = c; log = l }

abbrev pub consume_done : Logged → AfterConsume
consume_done l = after_consume (Ok l.count) l.contents l.log

-- R11.1: "Malformed (1); an event list under 254 records: NoEventRoom (15); payload over 1,490 bytes: PayloadTooLong (14)." `room` is
-- how many records the event list has, and the events go into `log`, from its first number on.
unfoldable pub consume_of : Dict → List ℕ → ℕ → ℕ → Bool → ℕ → List ℕ → AfterConsume
consume_of d payload sender version ready room log =
    let c = contents d.words d.bytes in
    cond (well_formed d)
    (cond (ltb room 254)
    (after_consume (Err NoEventRoom) c log)
    (cond (ltb 1490 (length payload))
    (after_consume (Err PayloadTooLong) c log)
    (consume_done (finished (received_by (frame d.objects d.slots payload sender 0) c version ready) log 0))))
    (after_consume (Err Malformed) c log)
