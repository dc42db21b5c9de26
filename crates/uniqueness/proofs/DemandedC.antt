-- Demand 3 of the contracts for C: what whoever calls `loomfinch_consume_pdo_payload` has back, where what is consumed is written (`Written`: `pass_demand`,
-- `pass_kept`, `pass_holds` of demand), and `loomfinch_consume_cycle`. Assumes nothing.
use mathlib.Core.Path.{◌≡◌, ap, ◌∙◌}
use mathlib.Core.Bool.{true, not}
use mathlib.Core.List.{List}
use Prim.Native.Nat.{ℕ, ◌≤◌}
use lib.Dec.{eqb}
use lib.ListN.{length}
use contract.Lifetimes.{Lfts}
use borrow.Fn.Kinds.{Dens, res_t, ended_of}
use denote.Triple.Clauses.{AtExit}
use Rattle.entry.specs.Table.{Dict, dict}
use Rattle.entry.specs.Judge.{well_formed}
use Rattle.entry.specs.Put.{contents}
use Rattle.pdo_run.specs.Run.{frame}
use Rattle.pdo_handler.specs.Consume as consume
use Rattle.pdo_cycle.specs.Payloads.{payloads_in}
use Rattle.pdo_cycle.specs.Cycle as cycle
use Rattle.demand.specs.Demand.{put_all, Written}
use Rattle.demand.specs.Calls.{contents_from, delivery_of, Cycles}
use Rattle.demand.proofs.DemandLaws.{written_consumed}
use Rattle.c_receiving.specs.Receiving.{Heard, consume_numbers, cycle_numbers}
use Rattle.c_receiving.proofs.loomfinch_consume_pdo_payload.Reads as c-consume
use Rattle.c_receiving.proofs.loomfinch_consume_pdo_payload.Kinds as c-consume-kinds
use Rattle.c_receiving.proofs.loomfinch_consume_cycle.Reads as c-consume-cycle
use Rattle.c_receiving.proofs.loomfinch_consume_cycle.Kinds as c-consume-cycle-kinds
use Rattle.uniqueness.specs.Leaving.{LeavesC, CycleLeavesC}

module _ (κs : Lfts 7) (a : Dens κs c-consume-kinds.ps) where
  abbrev d : Dict
  d = dict a.0.now a.1.0.now a.1.1.0.now a.1.1.1.0.now

  pub c_consume_demanded : (p : ℕ) (ws : List ℕ) → well_formed d ≡ true → 254 ≤ length a.1.1.1.1.1.1.1.1.0.now → length a.1.1.1.1.0.now ≤ 1490
      → Written (frame d.objects d.slots a.1.1.1.1.0.now a.1.1.1.1.1.0 0) (contents d.words d.bytes) a.1.1.1.1.1.1.0 (not (eqb a.1.1.1.1.1.1.1.0 0)) p ws
      → (z : (res_t c-consume-kinds.r κs).Denot) (e : AtExit (ended_of 7 c-consume-kinds.ps c-consume-kinds.r) κs) → c-consume.Post κs a z e
      → LeavesC z e.1.1.1.1.1.1.1.1.1.0.now (contents e.1.1.0.now e.1.1.1.0.now) e.1.1.1.1.1.1.1.1.0.now (put_all (frame d.objects d.slots a.1.1.1.1.0.now a.1.1.1.1.1.0 0) ws (contents d.words d.bytes)) a.1.1.1.1.1.1.1.1.0.now
  unfolding consume_numbers
  c_consume_demanded p ws well room short o z e q =
      let c = written_consumed d a.1.1.1.1.0.now a.1.1.1.1.1.0 a.1.1.1.1.1.1.0 (not (eqb a.1.1.1.1.1.1.1.0 0)) (length a.1.1.1.1.1.1.1.1.0.now) a.1.1.1.1.1.1.1.1.0.now p ws well room short o in
      let h = q ∙ ap (λ (x : consume.AfterConsume). consume_numbers x a.1.1.1.1.1.1.1.1.1.0.now) c in
      record { done = ap (λ (x : Heard). x.answer) h; none = ap (λ (x : Heard). x.count) h; writes = ap (λ (x : Heard). x.contents) h; same = ap (λ (x : Heard). x.events) h }

module _ (κs : Lfts 9) (a : Dens κs c-consume-cycle-kinds.ps) where
  abbrev m : Dict
  m = dict a.0.now a.1.0.now a.1.1.0.now a.1.1.1.0.now

  pub c_cycle_demanded : Cycles m a.1.1.1.1.0.now a.1.1.1.1.1.0.now a.1.1.1.1.1.1.0.now → (z : (res_t c-consume-cycle-kinds.r κs).Denot) (e : AtExit (ended_of 9 c-consume-cycle-kinds.ps c-consume-cycle-kinds.r) κs) → c-consume-cycle.Post κs a z e
      → CycleLeavesC z e.1.1.1.1.1.1.1.0.now e.1.1.1.1.1.1.1.1.0.now (contents e.1.1.0.now e.1.1.1.0.now) e.1.1.1.1.1.1.0.now (payloads_in a.1.1.1.1.1.0.now) (contents_from (delivery_of m a.1.1.1.1.0.now a.1.1.1.1.1.0.now) 0 (payloads_in a.1.1.1.1.1.0.now) (contents m.words m.bytes)) a.1.1.1.1.1.1.0.now
  unfolding cycle_numbers
  c_cycle_demanded c z e q =
      let h = q ∙ ap (λ (x : cycle.AfterCycle). cycle_numbers x a.1.1.1.1.1.1.1.0.now a.1.1.1.1.1.1.1.1.0.now) c.is in
      record { done = ap (λ (x : Heard). x.answer) h; all = ap (λ (x : Heard). x.consumed) h; none = ap (λ (x : Heard). x.count) h; writes = ap (λ (x : Heard). x.contents) h; same = ap (λ (x : Heard). x.events) h }
