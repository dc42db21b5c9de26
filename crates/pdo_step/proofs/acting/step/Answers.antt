-- `pdo_step::acting::step` meets its contract: what is stored is put, and else nothing changes. Assumes nothing.
use mathlib.Core.Path.{◌≡◌, sym, ap, ◌∙◌, subst}
use mathlib.Core.Bool.{true}
use mathlib.Core.List.{List}
use lib.ListN.{take, drop}
use Prim.Native.Nat.{ℕ, ◌+◌, ◌-◌}
use Rattle.lists.specs.Numbers.{Bytes}
use Rattle.entry.specs.Table.{Dict, dict}
use Rattle.entry.specs.Judge.{well_formed}
use Rattle.entry.specs.Put.{Contents, put_in, filled, Puts}
use Rattle.entry.proofs.ValueLaws.{element_of_lem, element_facts}
use Rattle.entry.proofs.KeepLaws.{puts_of}
use Rattle.pdo_step.specs.Receiving.{dict_of, held_in}
use Rattle.pdo_step.specs.Outcomes.{outcome_of}
use Rattle.pdo_step.specs.declared.Outcome.{Outcome}
use Rattle.pdo_step.specs.declared.Outcome.TheVariants.{Stored}
use Rattle.pdo_step.specs.Steps.{applied}
use Rattle.pdo_step.proofs.CaseLaws.{idle}
use Rattle.pdo_step.proofs.OutcomeLaws.{shape_of, StoredBy, stored_by, step_keeps, step_bytes}
use native.Mathlib.Omega.{arith}
use Rattle.pdo_step.proofs.acting.step.Goals as goal

by : (objects slots words bytes payload : List ℕ) (w p start n : ℕ) (o : Outcome) → o ≡ outcome_of objects slots payload w → o ≡ Stored p start n → StoredBy (dict objects slots words bytes) payload p start n
by objects slots words bytes payload w p start n o e f = stored_by (dict objects slots words bytes) payload p start n w (sym e ∙ f)

put : (d : Dict) (payload : List ℕ) (p start n : ℕ) → well_formed d ≡ true → StoredBy d payload p start n → Puts d.slots d.words d.bytes p (take (start + n - start) (drop start payload))
put d payload p start n e b =
    let z : start + n - start ≡ n = omega arith in
    rw z (puts_of d _ _ _ (element_facts d e (element_of_lem d e b.index b.sub _ b.place)) b.fits)

-- what was put is what the outcome says
done : (slots payload : List ℕ) (c n : Contents) (p start m : ℕ) (o : Outcome) → n ≡ put_in slots c p (take (start + m - start) (drop start payload)) → Stored p start m ≡ o → n ≡ applied slots payload c o
unfolding applied
done slots payload c n p start m o h e =
    let z : start + m - start ≡ m = omega arith in
    rw z at h ∙ ap (applied slots payload c) e

pub decide-o-requires : goal.decide-o-requires
decide-o-requires c = shape_of (dict_of c.args.d.now) c.args.d.now.judged

pub returns-in_default-clause-held : goal.returns-in_default-clause-held
returns-in_default-clause-held c = idle c.args.d.now.slots.now c.args.payload.now (held_in c.args.d.now) c.decide-o.result c.in_default.not-Stored

pub overflow_add-field : goal.overflow_add-field
overflow_add-field c = omega (arith, (by c.args.d.now.objects.now c.args.d.now.slots.now c.args.d.now.words.now c.args.d.now.bytes.now c.args.payload.now c.args.word _ _ _ _ c.decide-o.ensures c.in-Stored.is).small)

pub slice_bounds-field-end : goal.slice_bounds-field-end
slice_bounds-field-end c = omega (arith, (by c.args.d.now.objects.now c.args.d.now.slots.now c.args.d.now.words.now c.args.d.now.bytes.now c.args.payload.now c.args.word _ _ _ _ c.decide-o.ensures c.in-Stored.is).within)

pub put_value-requires : goal.put_value-requires
put_value-requires c =
    put (dict_of c.args.d.now) c.args.payload.now _ _ _ c.args.d.now.judged (by c.args.d.now.objects.now c.args.d.now.slots.now c.args.d.now.words.now c.args.d.now.bytes.now c.args.payload.now c.args.word _ _ _ _ c.decide-o.ensures c.in-Stored.is)

pub invariant_of-d : goal.invariant_of-d
invariant_of-d c =
    let d = c.args.d.now in
    let b : Bytes c.args.payload.now = λ k. omega (arith, c.type_inv.payload k) in
    let o = sym c.in-Stored.is ∙ c.decide-o.ensures in
    let e = done d.slots.now c.args.payload.now (held_in d) _ _ _ _ _ c.put_value.ensures o in
    record {
      judged = subst (λ (x : Contents). well_formed (filled (dict_of d) x) ≡ true) (sym e) (step_keeps (dict_of d) c.args.payload.now c.args.word d.judged b);
      sane = subst (λ (x : Contents). Bytes x.bytes) (sym e) (step_bytes (dict_of d) c.args.payload.now c.args.word d.judged b d.sane);
    }

pub returns-clause-outcome : goal.returns-clause-outcome
returns-clause-outcome c = sym c.in-Stored.is ∙ c.decide-o.ensures

pub returns-clause-held : goal.returns-clause-held
unfolding applied
returns-clause-held c =
    let z : (c.in-Stored.start + c.in-Stored.len) - c.in-Stored.start ≡ c.in-Stored.len = omega arith in
    rw z at c.put_value.ensures
