-- `counter::counter_at` meets its contract: each branch is a case of `counter_at`. Assumes nothing.
use Rattle.std.specs.Prelude.{Some}
use Rattle.std.proofs.Common.{◌≡◌, sym, refl, ap, ◌∙◌, eq-eqb, ne_eqb}
use Rattle.entry.specs.Table.{Dict, dict}
use Rattle.entry.specs.Find.{find_row}
use Rattle.entry.proofs.PlaceLaws.{no_value}
use Rattle.entry.proofs.ValueLaws.{rows_of, found_lies, value_lies}
use Rattle.counter.specs.Counter.{of_u32, in_row, counter_at}
use Rattle.counter.proofs.CounterLaws.{placed}
use Rattle.counter.proofs.counter_at.Goals as goal

pub find-requires : goal.find-requires
find-requires c = rows_of _ c.d.invariant

pub returns-in_err-i : goal.returns-in_err-i
unfolding counter_at
returns-in_err-i c = c.from_residual.ensures ∙ rw (sym c.d.view_is) (ap (in_row (dict c.d.inside.objects.now c.d.inside.slots.now c.d.inside.words.now c.d.inside.bytes.now) c.args.sub) (sym c.in_err-i.was ∙ c.find.ensures))

pub invariant_of-kind : goal.invariant_of-kind
invariant_of-kind c =
    let l = found_lies _ c.d.invariant c.args.index c.in_ok-i.i (sym c.find.ensures ∙ c.in_ok-i.was) in
    (l.small, l.inside)

pub returns-then-kind-eq1 : goal.returns-then-kind-eq1
unfolding counter_at
returns-then-kind-eq1 c =
    let row : find_row c.d.inside.objects.now c.args.index ≡ Some c.in_ok-i.i = sym c.find.ensures ∙ c.in_ok-i.was in
    rw (sym c.d.view_is) (simp (row, eq-eqb _ _ (sym c.kind.ensures ∙ c.if-kind-eq1.true)))

pub sub_at-requires-clause-rows : goal.sub_at-requires-clause-rows
sub_at-requires-clause-rows c = rows_of _ c.d.invariant

pub sub_at-requires-clause-i_bound : goal.sub_at-requires-clause-i_bound
sub_at-requires-clause-i_bound c = (found_lies _ c.d.invariant c.args.index c.in_ok-i.i (sym c.find.ensures ∙ c.in_ok-i.was)).below

pub returns-in_default : goal.returns-in_default
returns-in_default c =
    let d : Dict = dict c.d.inside.objects.now c.d.inside.slots.now c.d.inside.words.now c.d.inside.bytes.now in
    rw (sym c.d.view_is) (no_value (λ q. of_u32 d (Some q)) (λ n. refl) _ c.in_default.in-Count-own.keys2 ∙ ap (of_u32 d) c.in_default.ensures ∙ placed d c.args.index c.args.sub c.in_ok-i.i (sym c.find.ensures ∙ c.in_ok-i.was) (λ q. c.if-kind-eq1.false (c.kind.ensures ∙ q)))

pub returns-in_default-2 : goal.returns-in_default-2
returns-in_default-2 c =
    let d : Dict = dict c.d.inside.objects.now c.d.inside.slots.now c.d.inside.words.now c.d.inside.bytes.now in
    rw (sym c.d.view_is) (ap (of_u32 d) (sym c.in_default.is ∙ c.sub_at.ensures) ∙ placed d c.args.index c.args.sub c.in_ok-i.i (sym c.find.ensures ∙ c.in_ok-i.was) (λ q. c.if-kind-eq1.false (c.kind.ensures ∙ q)))

pub invariant_of-value_type : goal.invariant_of-value_type
invariant_of-value_type c =
    let f = value_lies _ c.d.invariant c.args.index c.args.sub _ _ (sym c.find.ensures ∙ c.in_ok-i.was) (sym c.in-Some-Value.ensures ∙ ap Some c.in-Some-Value.field-0-is) in
    (f.low, f.slot)

pub returns-then-value_type-eq7 : goal.returns-then-value_type-eq7
returns-then-value_type-eq7 c =
    let d : Dict = dict c.d.inside.objects.now c.d.inside.slots.now c.d.inside.words.now c.d.inside.bytes.now in
    rw (sym c.d.view_is) (sym (rw (eq-eqb _ 7 (sym c.value_type.ensures ∙ c.if-value_type-eq7.true))) ∙ ap (of_u32 d) (sym (ap Some c.in-Some-Value.field-0-is) ∙ c.in-Some-Value.ensures) ∙ placed d c.args.index c.args.sub c.in_ok-i.i (sym c.find.ensures ∙ c.in_ok-i.was) (λ q. c.if-kind-eq1.false (c.kind.ensures ∙ q)))

pub returns-else-value_type-eq7 : goal.returns-else-value_type-eq7
returns-else-value_type-eq7 c =
    let d : Dict = dict c.d.inside.objects.now c.d.inside.slots.now c.d.inside.words.now c.d.inside.bytes.now in
    rw (sym c.d.view_is) (sym (rw (ne_eqb _ 7 (λ z. c.if-value_type-eq7.false (c.value_type.ensures ∙ z)))) ∙ ap (of_u32 d) (sym (ap Some c.in-Some-Value.field-0-is) ∙ c.in-Some-Value.ensures) ∙ placed d c.args.index c.args.sub c.in_ok-i.i (sym c.find.ensures ∙ c.in_ok-i.was) (λ q. c.if-kind-eq1.false (c.kind.ensures ∙ q)))
