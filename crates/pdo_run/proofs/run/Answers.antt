-- `pdo_run::run` meets its contract: what the words from here on leave is what all leave. Assumes nothing.
use mathlib.Core.Path.{◌≡◌, sym, ap, ap₂, ◌∙◌}
use mathlib.Core.Bool.{Bool}
use mathlib.Core.List.{List}
use Prim.Native.Nat.{ℕ, ◌+◌, ◌<◌}
use lib.ListN.{length, drop, get_or}
use Rattle.entry.specs.Table.{edition_of, values_of}
use Rattle.entry.specs.Put.{Contents}
use Rattle.entry.proofs.ValueLaws.{every_value}
use Rattle.pdo_step.specs.declared.Outcome.{Outcome}
use Rattle.pdo_step.specs.declared.receiving.Receiving.{Receiving}
use Rattle.pdo_step.specs.Receiving.{dict_of, held_in, Same}
use Rattle.pdo_step.proofs.ReceivingLaws.{same_on}
use Rattle.pdo_step.specs.Effects.{effect_of}
use Rattle.pdo_run.specs.declared.payload.Payload.{Payload}
use Rattle.pdo_run.specs.declared.Turn.{Turn}
use Rattle.pdo_run.specs.Run.{code_of, turn_of, Logged, Frame, frame, framed, decided, act_of, run_from, logged, finished, noted_log, noted_count}
use Rattle.pdo_run.proofs.RunLaws.{run_end, run_over, run_stops, run_on_lem, finished_none, finished_one, finished-behind, noted_few}
use native.Mathlib.Omega.{arith}
use Rattle.pdo_run.proofs.run.Goals as goal

-- what was acted and noted, as one equation
same : (f : Frame) (c n : Contents) (log new : List ℕ) (m count k : ℕ) (o : Outcome) (t : Turn) → t ≡ turn_of (edition_of f.objects) f.number k o → n ≡ act_of f c o
    → count ≡ noted_count m t.event → new ≡ noted_log log m t.event
    → logged n new count ≡ logged (act_of f c o) (noted_log log m (code_of f.number k (effect_of o).event)) (noted_count m (code_of f.number k (effect_of o).event))
same f c n log new m count k o t h a b e =
    let v = ap (λ (x : Turn). x.event) h in
    ap (λ (x : Contents). logged x new count) a ∙ ap₂ (λ x y. logged (act_of f c o) x y) (e ∙ ap (noted_log log m) v) (b ∙ ap (noted_count m) v)

stop : (edition number k : ℕ) (o : Outcome) (t : Turn) (b : Bool) → t ≡ turn_of edition number k o → t.stops ≡ b → (effect_of o).stops ≡ b
stop edition number k o t b h e = sym (ap (λ (x : Turn). x.stops) h) ∙ e

-- the frame is the one before
framed_same : {d m : Receiving} (p : Payload) → Same d m → framed m p ≡ framed d p
framed_same p s = ap₂ (λ x y. frame x y p.bytes.now p.sender p.number) s.objects s.slots

pub overflow_add-first : goal.overflow_add-first
overflow_add-first c =
    let l = c.loop-j in
    omega (arith, (every_value (dict_of l.d) l.d.judged (c.args.first + l.j) (omega (arith, c.loop-j-test.true, c.requires.0, ap values_of l.invariant.same.objects))).low)

pub invariant_of-value_type : goal.invariant_of-value_type
invariant_of-value_type c =
    let a = c.args in
    let l = c.loop-j in
    let v = every_value (dict_of l.d) l.d.judged (a.first + l.j) (omega (arith, c.loop-j-test.true, c.requires.0, ap values_of l.invariant.same.objects)) in
    (v.low, v.slot)

pub loop-j-preserved-then-value_type-ne8 : goal.loop-j-preserved-then-value_type-ne8
loop-j-preserved-then-value_type-ne8 c =
    let a = c.args in
    let l = c.loop-j in
    let v = l.invariant in
    let g = framed l.d a.payload.now in
    let z = framed_same a.payload.now v.same in
    record {
      few = omega (arith, v.few);
      same = v.same;
      run = ap (λ r. finished r l.log l.n) (ap (λ h. run_from h a.first (drop (l.j + 1) a.list.now) (l.j + 1) (held_in l.d)) (sym z)
          ∙ sym (run_over g a.first a.list.now l.j _ c.loop-j-test.true (λ z. c.if-value_type-ne8.true (c.value_type.ensures ∙ z)))
          ∙ ap (λ h. run_from h a.first (drop l.j a.list.now) l.j (held_in l.d)) z) ∙ v.run;
    }

pub returns-then-t-clause-same : goal.returns-then-t-clause-same
returns-then-t-clause-same c = same_on c.loop-j.invariant.same c.act_on-t.ensures.same

pub returns-then-t-clause-left : goal.returns-then-t-clause-left
returns-then-t-clause-left c =
    let a = c.args in
    let l = c.loop-j in
    let v = l.invariant in
    let g = framed l.d a.payload.now in
    let o = decided g (get_or a.list.now l.j 0) in
    let t = c.act_on-t in
    let room : l.n < length l.log = omega (arith, c.loop-j-test.true, c.requires.2, v.few, l.auto.log) in
    same g _ _ l.log _ l.n _ (l.j + 1) o t.result t.ensures.turn t.ensures.held c.note-n.ensures.count c.note-n.ensures.log
    ∙ sym (finished_one l.log l.n a.payload.now.number (l.j + 1) room (effect_of o).event _)
    ∙ ap (λ r. finished r l.log l.n)
    (sym (run_stops g a.first a.list.now l.j _ c.loop-j-test.true (sym c.value_type.ensures ∙ c.if-value_type-ne8.false) (stop _ _ _ o t.result _ t.ensures.turn c.if-t.true))
    ∙ ap (λ h. run_from h a.first (drop l.j a.list.now) l.j (held_in l.d)) (framed_same a.payload.now v.same))
    ∙ v.run

pub loop-j-preserved : goal.loop-j-preserved
loop-j-preserved c =
    let a = c.args in
    let l = c.loop-j in
    let v = l.invariant in
    let g = framed l.d a.payload.now in
    let z = framed_same a.payload.now v.same in
    let o = decided g (get_or a.list.now l.j 0) in
    let t = c.act_on-t in
    let room : l.n < length l.log = omega (arith, c.loop-j-test.true, c.requires.2, v.few, l.auto.log) in
    let q = stop _ _ _ o t.result _ t.ensures.turn c.if-t.false in
    record {
      few = omega (arith, c.note-n.ensures.count, noted_few l.n t.result.event, v.few);
      same = same_on v.same t.ensures.same;
      run = ap (λ h. finished (run_from h a.first (drop (l.j + 1) a.list.now) (l.j + 1) (held_in t.new.d)) c.note-n.new.log c.note-n.result) (sym z)
          ∙ ap (λ (x : Logged). finished (run_from g a.first (drop (l.j + 1) a.list.now) (l.j + 1) x.contents) x.log x.count)
          (same g _ _ l.log _ l.n _ (l.j + 1) o t.result t.ensures.turn t.ensures.held c.note-n.ensures.count c.note-n.ensures.log)
          ∙ sym (finished-behind l.log l.n a.payload.now.number (l.j + 1) room (effect_of o).event _)
          ∙ ap (λ r. finished r l.log l.n) (sym (run_on_lem g a.first a.list.now l.j _ c.loop-j-test.true (sym c.value_type.ensures ∙ c.if-value_type-ne8.false) q)
          ∙ ap (λ h. run_from h a.first (drop l.j a.list.now) l.j (held_in l.d)) z)
          ∙ v.run;
    }

pub returns-clause-left : goal.returns-clause-left
returns-clause-left c =
    let a = c.args in
    let f = framed a.d.now a.payload.now in
    let l = c.loop-j in
    sym (finished_none l.log l.n _) ∙ ap (λ r. finished r l.log l.n) (sym (run_end f a.first a.list.now l.j _ (omega (arith, c.loop-j-test.false)))) ∙ l.invariant.run
