-- `pdo_cycle::cycling::receive_all` meets its contract: what the payloads from here on leave is what all leave. Assumes nothing.
use mathlib.Core.Path.{◌≡◌, sym, ap, ap₂, ◌∙◌, subst}
use mathlib.Core.List.{List}
use Prim.Native.Nat.{ℕ, ◌+◌, ◌-◌, ◌≤◌}
use lib.ListN.{length}
use Rattle.pdo_step.specs.declared.receiving.Receiving.{Receiving}
use Rattle.pdo_step.specs.Receiving.{held_in, Same}
use Rattle.pdo_step.proofs.ReceivingLaws.{same_on}
use Rattle.pdo_run.specs.Run.{Logged, finished}
use Rattle.pdo_cycle.specs.Payloads.{payloads_in}
use Rattle.pdo_cycle.specs.Cycle.{Delivery, delivery, received_at, state_of, ended, cycle_done}
use Rattle.pdo_cycle.proofs.PayloadLaws.{lies}
use Rattle.pdo_cycle.proofs.CycleLaws.{cycle_end, cycle_full, ended_none, rest, lent, logged_length, turn_few, turned}
use native.Mathlib.Omega.{arith}
use Rattle.pdo_cycle.proofs.cycling.receive_all.Goals as goal

-- the delivery into what is held now
abbrev onto : Receiving → List ℕ → List ℕ → Delivery
onto d delivered ps = delivery d.objects.now d.slots.now delivered ps

onto_same : {d m : Receiving} (delivered ps : List ℕ) → Same d m → onto m delivered ps ≡ onto d delivered ps
onto_same delivered ps s = ap₂ (λ x y. delivery x y delivered ps) s.objects s.slots

few : (d m : Receiving) (delivered ps : List ℕ) (i : ℕ) → Same d m → length (received_at (onto d delivered ps) (held_in m) i).events ≤ 254
few d m delivered ps i s = subst (λ (v : Delivery). length (received_at v (held_in m) i).events ≤ 254) (onto_same delivered ps s) (turn_few (onto m delivered ps) (held_in m) i m.judged)

pub receive_at-n-requires : goal.receive_at-n-requires
receive_at-n-requires c =
    let p = c.requires in
    (lies _ _ c.loop-i.i p.0 p.1 p.2 c.loop-i-test.true, omega (arith, c.loop-i.invariant.room))

pub overflow_add-n : goal.overflow_add-n
overflow_add-n c =
    let a = c.args in
    let l = c.loop-i in
    let m = ap (λ (x : Logged). x.count) c.receive_at-n.ensures.left in
    omega (arith, m, turn_few (onto l.d a.delivered.now a.payloads.now) (held_in l.d) l.i l.d.judged, l.auto.log)

pub loop-i-preserved : goal.loop-i-preserved
loop-i-preserved c =
    let a = c.args in
    let l = c.loop-i in
    let v = onto a.d.now a.delivered.now a.payloads.now in
    let k = held_in l.d in
    let r = received_at v k l.i in
    let room : 254 ≤ length l.log - l.n = omega arith in
    let f = few a.d.now l.d a.delivered.now a.payloads.now l.i l.invariant.same in
    let q = lent r l.log l.n _ _ _ (c.receive_at-n.ensures.left ∙ ap (λ h. finished (received_at h k l.i) (rest r l.log l.n) 0) (onto_same a.delivered.now a.payloads.now l.invariant.same)) in
    let same = logged_length r l.log l.n (omega (arith, f, room)) _ q in
    let m : l.n + c.receive_at-n.result ≡ l.n + length r.events = ap (λ (x : Logged). x.count) q in
    record {
      room = omega (arith, m, f, room, same);
      same = same_on l.invariant.same c.receive_at-n.ensures.same;
      run = turned v (payloads_in v.payloads) l.i k l.log l.n c.loop-i-test.true room f _ q same ∙ l.invariant.run;
    }

pub returns-clause-left : goal.returns-clause-left
returns-clause-left c =
    let a = c.args in
    let l = c.loop-i in
    let v = onto a.d.now a.delivered.now a.payloads.now in
    let k = held_in l.d in
    let all : l.i ≡ payloads_in v.payloads = omega arith in
    ap cycle_done (ap (state_of k l.log l.n) (sym all) ∙ sym (ended_none l.log l.n l.i k)
    ∙ ap (λ x. ended x l.log l.n l.i) (sym (cycle_end v (payloads_in v.payloads) l.i k (length l.log - l.n) (omega (arith, c.loop-i-test.false))))
    ∙ l.invariant.run)

pub returns-then-log-n-lt254-clause-left : goal.returns-then-log-n-lt254-clause-left
returns-then-log-n-lt254-clause-left c =
    let a = c.args in
    let l = c.loop-i in
    let v = onto a.d.now a.delivered.now a.payloads.now in
    let k = held_in l.d in
    ap cycle_done (sym (ended_none l.log l.n l.i k)
    ∙ ap (λ x. ended x l.log l.n l.i) (sym (cycle_full v (payloads_in v.payloads) l.i k (length l.log - l.n) c.loop-i-test.true (omega arith)))
    ∙ l.invariant.run)
