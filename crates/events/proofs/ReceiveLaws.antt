-- How many events a payload gives, at most what the list has room for; and that the log's numbers say its events. Assumes nothing.
use Rattle.std.specs.Prelude.{Ok, Err}
use mathlib.Core.Path.{◌≡◌, refl, ap, ◌∙◌}
use mathlib.Core.Bool.{Bool, true, false, cond}
use mathlib.Core.List.{List, ◌++◌, map}
use Prim.Native.Nat.{ℕ, ◌+◌, ◌≤◌}
use native.Mathlib.Omega.{arith}
use borrow.Author.Tests.{ltb-false}
use lib.Dec.{ltb}
use lib.ListN.{length, take, drop, replicate, length-map}
use Rattle.answers.specs.declared.Refusal.TheVariants.{Malformed, NoEventRoom, PayloadTooLong}
use Rattle.entry.specs.Table.{Dict}
use Rattle.entry.specs.Judge.{well_formed}
use Rattle.entry.specs.Put.{Contents, contents}
use Rattle.pdo_run.specs.Run.{Frame, frame, Ran, finished}
use Rattle.pdo_handler.specs.Consume.{received_by, AfterConsume, after_consume, consume_done, consume_of}
use Rattle.pdo_handler.proofs.EventLaws.{received_few}
use Rattle.lists.specs.Lists.{over}
use Rattle.lists.proofs.ListLaws.{over_read}
use Rattle.event.specs.declared.EventRecord.{EventRecord}
use Rattle.event.specs.Record.{event_number, record_of}
use Rattle.events.specs.Receive.{event_count, records_of, Received, received, listed, received_of}
use Rattle.events.proofs.RecordLaws.{AllSmall, records_back}
use Rattle.events.proofs.OutcomeLaws.{received_small}

pub count_few : (d : Dict) (payload : List ℕ) (sender version : ℕ) (ready : Bool) (room : ℕ) (log : List ℕ) → (event_count (consume_of d payload sender version ready room log).answer ≤ 254) × (event_count (consume_of d payload sender version ready room log).answer ≤ room)
unfolding consume_of
count_few d payload sender version ready room log = go (well_formed d) refl (ltb room 254) refl (ltb 1490 (length payload))
  where
    f : Frame
    f = frame d.objects d.slots payload sender 0

    c : Contents
    c = contents d.words d.bytes

    Few : ℕ → Type 0
    Few n = (n ≤ 254) × (n ≤ room)

    go : (x : Bool) → well_formed d ≡ x → (y : Bool) → ltb room 254 ≡ y → (z : Bool)
        → Few (event_count (cond x (cond y (after_consume (Err NoEventRoom) c log) (cond z (after_consume (Err PayloadTooLong) c log) (consume_done (finished (received_by f c version ready) log 0)))) (after_consume (Err Malformed) c log)).answer)
    go true w true r z = (omega arith, omega arith)
    go true w false r true = (omega arith, omega arith)
    go true w false r false = (omega (arith, received_few f c w version ready), omega (arith, received_few f c w version ready, ltb-false room 254 r))
    go false w y r z = (omega arith, omega arith)

-- ---- the records that the log of a call says are the payload's events
abbrev pub listed_by : AfterConsume → List EventRecord → Received
listed_by a es = received a.answer a.contents (records_of (event_count a.answer) a.log ++ drop (event_count a.answer) es)

told_back : (rs : List EventRecord) (log : List ℕ) → AllSmall rs → records_of (0 + length rs) (over log 0 (map event_number rs)) ≡ rs
told_back rs log a =
    let ns = map event_number rs in
    let n : 0 + length rs ≡ length ns = omega (arith, length-map rs event_number) in
    ap (map record_of) (ap (λ k. take k (over log 0 ns)) n ∙ over_read log 0 ns (omega arith)) ∙ records_back rs a

pub listed-received : (d : Dict) (payload : List ℕ) (sender version : ℕ) (ready : Bool) (es : List EventRecord)
    → listed_by (consume_of d payload sender version ready (length es) (replicate 254 0)) es ≡ received_of d payload sender version ready es
unfolding received_of consume_of
listed-received d payload sender version ready es = go (well_formed d) refl (ltb (length es) 254) (ltb 1490 (length payload)) refl
  where
    f : Frame
    f = frame d.objects d.slots payload sender 0

    c : Contents
    c = contents d.words d.bytes

    log : List ℕ
    log = replicate 254 0

    r : Ran
    r = received_by f c version ready

    after : Bool → Bool → Bool → AfterConsume
    after x y z = cond x (cond y (after_consume (Err NoEventRoom) c log) (cond z (after_consume (Err PayloadTooLong) c log) (consume_done (finished r log 0)))) (after_consume (Err Malformed) c log)

    go : (x : Bool) → well_formed d ≡ x → (y z : Bool) → ltb 1490 (length payload) ≡ z → listed_by (after x y z) es ≡ listed (after x y z) r.events es
    go true w true z l = refl
    go true w false true l = refl
    go true w false false l =
        ap (λ (vs : List EventRecord). received (Ok (0 + length r.events)) r.contents (vs ++ drop (0 + length r.events) es))
        (told_back r.events log (received_small f c w (ltb-false 1490 (length payload) l) version ready))
    go false w y z l = refl
