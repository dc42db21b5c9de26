-- Demand 3 of the contracts themselves: what whoever calls `consume_pdo_payload` or `consume_by_value` has back, where the payload is one that
-- `Consumes` speaks of (`pass_consumes`, `kept_consumes`, `holds_consumes` of demand), or `consume_cycle`. Assumes nothing.
use Rattle.std.specs.Prelude.{Result, Ok}
use Rattle.pdo_cycle.specs.declared.Cycle.{Cycle}
use Rattle.answers.specs.declared.Refusal.{Refusal}
use mathlib.Core.Path.{◌≡◌, ap, ◌∙◌}
use mathlib.Core.List.{List}
use Prim.Native.Nat.{ℕ}
use contract.Lifetimes.{Lfts}
use borrow.Fn.Kinds.{Dens, res_t, ended_of}
use denote.Triple.Entry.{Args, Res}
use denote.Triple.Clauses.{AtExit}
use Rattle.entry.specs.Table.{Dict, dict}
use Rattle.entry.specs.Put.{Contents, contents}
use Rattle.pdo_run.specs.Run.{frame}
use Rattle.event.specs.declared.EventRecord.{EventRecord}
use Rattle.events.specs.Receive.{Received, received}
use Rattle.events.specs.contracts.consume_pdo_payload as consume
use Rattle.events.specs.contracts.consume_by_value as by_value
use Rattle.pdo_cycle.specs.Payloads.{payloads_in}
use Rattle.pdo_cycle.specs.Cycle.{AfterCycle, after_cycle, tallied}
use Rattle.pdo_cycle.proofs.consume_cycle.Reads as cycle
use Rattle.pdo_cycle.proofs.consume_cycle.Kinds as cycle-kinds
use Rattle.demand.specs.Demand.{put_all}
use Rattle.demand.specs.Calls.{Consumes, contents_from, delivery_of, Cycles}
use Rattle.uniqueness.specs.Leaving.{Leaves, CycleLeaves}
use Rattle.uniqueness.proofs.Walked.{consume_claim, by_value_claim}

leaves : {a : Result ℕ Refusal} {c : Contents} {l : List EventRecord} {e : Contents} {es : List EventRecord} → received a c l ≡ received (Ok 0) e es → Leaves a c l e es
leaves q = record { done = ap (λ (x : Received). x.answer) q; writes = ap (λ (x : Received). x.contents) q; same = ap (λ (x : Received). x.events) q }

module _ (κs : Lfts (consume.ended).signature.lifetimes) (a : Args (consume.ended).signature κs) where
  abbrev d : Dict
  d = dict a.0.now a.1.0.now a.1.1.0.now a.1.1.1.0.now

  pub consume_demanded : (p : ℕ) (ws : List ℕ) → Consumes d a.1.1.1.1.0.now a.1.1.1.1.1.0 a.1.1.1.1.1.1.0 a.1.1.1.1.1.1.1.0 a.1.1.1.1.1.1.1.1.0.now p ws
      → (r : Res (consume.ended).signature κs) (e : AtExit consume.ended κs) → consume_claim κs a r e
      → Leaves r (contents e.1.1.0.now e.1.1.1.0.now) e.1.1.1.1.1.1.1.1.0.now (put_all (frame d.objects d.slots a.1.1.1.1.0.now a.1.1.1.1.1.0 0) ws (contents d.words d.bytes)) a.1.1.1.1.1.1.1.1.0.now
  consume_demanded p ws c r e q = leaves (q ∙ c.is)

module _ (κs : Lfts (by_value.ended).signature.lifetimes) (a : Args (by_value.ended).signature κs) where
  abbrev b : Dict
  b = dict a.0.now a.1.0.now a.1.1.0.now a.1.1.1.0.now

  pub by_value_demanded : (p : ℕ) (ws : List ℕ) → Consumes b a.1.1.1.1.0.now a.1.1.1.1.1.0 a.1.1.1.1.1.1.0 a.1.1.1.1.1.1.1.0 a.1.1.1.1.1.1.1.1.0 p ws
      → (r : Res (by_value.ended).signature κs) (e : AtExit by_value.ended κs) → by_value_claim κs a r e
      → Leaves r.answer (contents e.1.1.0.now e.1.1.1.0.now) r.events (put_all (frame b.objects b.slots a.1.1.1.1.0.now a.1.1.1.1.1.0 0) ws (contents b.words b.bytes)) a.1.1.1.1.1.1.1.1.0
  by_value_demanded p ws c r e q = leaves (q ∙ c.is)

cycle_leaves : {a : Result Cycle Refusal} {c : Contents} {l : List ℕ} {n : ℕ} {e : Contents} {es : List ℕ} → after_cycle a c l ≡ after_cycle (tallied n 0) e es → CycleLeaves a c l n e es
cycle_leaves q = record { done = ap (λ (x : AfterCycle). x.answer) q; writes = ap (λ (x : AfterCycle). x.contents) q; same = ap (λ (x : AfterCycle). x.log) q }

-- ---- consume_cycle, where its payloads are those that `Cycles` speaks of (`cycle_holds` of demand)
module _ (κs : Lfts 7) (a : Dens κs cycle-kinds.ps) where
  abbrev m : Dict
  m = dict a.0.now a.1.0.now a.1.1.0.now a.1.1.1.0.now

  pub cycle_demanded : Cycles m a.1.1.1.1.0.now a.1.1.1.1.1.0.now a.1.1.1.1.1.1.0.now → (z : (res_t cycle-kinds.r κs).Denot) (e : AtExit (ended_of 7 cycle-kinds.ps cycle-kinds.r) κs) → cycle.Post κs a z e
      → CycleLeaves z (contents e.1.1.0.now e.1.1.1.0.now) e.1.1.1.1.1.1.0.now (payloads_in a.1.1.1.1.1.0.now) (contents_from (delivery_of m a.1.1.1.1.0.now a.1.1.1.1.1.0.now) 0 (payloads_in a.1.1.1.1.1.0.now) (contents m.words m.bytes)) a.1.1.1.1.1.1.0.now
  cycle_demanded c z e q = cycle_leaves (q ∙ c.is)
