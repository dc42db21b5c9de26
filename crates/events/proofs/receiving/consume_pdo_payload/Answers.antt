-- `events::receiving::consume_pdo_payload` meets its contract: the records that the log says are the payload's events. Assumes nothing.
use Rattle.std.specs.Prelude.{Result}
use Rattle.answers.specs.declared.Refusal.{Refusal}
use mathlib.Core.Path.{◌≡◌, ap, ◌∙◌}
use mathlib.Core.Bool.{Bool}
use mathlib.Core.List.{List, ◌++◌}
use Prim.Native.Nat.{ℕ, ◌≤◌}
use lib.ListN.{length, drop, replicate}
use native.Mathlib.Omega.{arith}
use Rattle.entry.specs.Table.{Dict}
use Rattle.entry.specs.Put.{Contents}
use Rattle.pdo_handler.specs.Consume.{AfterConsume, after_consume, consume_of}
use Rattle.event.specs.declared.EventRecord.{EventRecord}
use Rattle.events.specs.Receive.{event_count, records_of, received, received_of}
use Rattle.events.proofs.ReceiveLaws.{count_few, listed_by, listed-received}
use Rattle.events.proofs.receiving.consume_pdo_payload.Goals as goal

few : (d : Dict) (payload : List ℕ) (sender version : ℕ) (ready : Bool) (room : ℕ) (log new : List ℕ) (a : Result ℕ Refusal) (c : Contents) (n : ℕ)
    → after_consume a c new ≡ consume_of d payload sender version ready room log → n ≡ event_count a → (n ≤ room) × (n ≤ 254)
few d payload sender version ready room log new a c n q e =
    let k = count_few d payload sender version ready room log in
    let z : event_count a ≡ event_count (consume_of d payload sender version ready room log).answer = ap (λ (x : AfterConsume). event_count x.answer) q in
    (omega (arith, e, z, k.1), omega (arith, e, z, k.0))

listed : (d : Dict) (payload : List ℕ) (sender version : ℕ) (ready : Bool) (es new : List EventRecord) (log : List ℕ) (a : Result ℕ Refusal) (c : Contents) (n : ℕ)
    → after_consume a c log ≡ consume_of d payload sender version ready (length es) (replicate 254 0) → n ≡ event_count a → new ≡ records_of n log ++ drop n es
    → received a c new ≡ received_of d payload sender version ready es
listed d payload sender version ready es new log a c n q e h =
    ap (received a c) (h ∙ ap (λ k. records_of k log ++ drop k es) e)
    ∙ ap (λ (x : AfterConsume). listed_by x es) q
    ∙ listed-received d payload sender version ready es

pub fill-requires : goal.fill-requires
fill-requires c =
    let a = c.args in
    let k = few _ _ _ _ _ _ _ _ _ _ _ c.consume_logged-answer.ensures c.count.ensures in
    (k.0, omega (arith, k.1, c.consume_logged-answer.auto.log))

pub returns : goal.returns
returns c = listed _ _ _ _ _ _ _ _ _ _ _ c.consume_logged-answer.ensures c.count.ensures c.fill.ensures
