-- `element::explaining::explain_judged` meets its contract: each way out is a case of the definition. Assumes nothing.
use Rattle.std.specs.Prelude.{Some, Ok}
use mathlib.Core.Path.{◌≡◌, refl, sym, ap, ◌∙◌}
use mathlib.Core.Bool.{true}
use Prim.Native.Nat.{ℕ, ◌+◌}
use Rattle.entry.specs.Table.{Dict, dict, kind_at}
use Rattle.entry.specs.Find.{find_row, sub_at, or_no_sub, on_row}
use Rattle.entry.specs.Judge.{well_formed}
use Rattle.entry.proofs.PlaceLaws.{no_value}
use Rattle.entry.proofs.ValueLaws.{rows_of, found_lies, element_of_lem, element_facts}
use Rattle.element.specs.Explain.{of_place, of_list, explain_of}
use borrow.Author.Tests.{eq-eqb, ne_eqb}
use Rattle.element.proofs.explaining.explain_judged.Goals as goal

-- of a dictionary that is well formed
explained : (d : Dict) (i k : ℕ) → well_formed d ≡ true → of_list d k (find_row d.objects (0x1600 + i)) ≡ explain_of d i k
unfolding explain_of
explained d i k w = sym (simp w)

-- so of the value that is lent
lent : (d v : Dict) (i k : ℕ) → well_formed d ≡ true → d ≡ v → of_list d k (find_row d.objects (0x1600 + i)) ≡ explain_of v i k
lent d v i k w s = explained d i k w ∙ ap (λ (e : Dict). explain_of e i k) s

-- of a list, what its place comes to
placed : (d v : Dict) (i k r : ℕ) → well_formed d ≡ true → d ≡ v → find_row d.objects (0x1600 + i) ≡ Some r → (kind_at d.objects r ≡ 0 → ⊥) → of_place d (sub_at d.objects r k) ≡ explain_of v i k
placed d v i k r w s f n = sym (rw (ne_eqb _ 0 n)) ∙ ap (of_list d k) (sym f) ∙ lent d v i k w s

pub find-requires : goal.find-requires
find-requires c = rows_of _ c.d.invariant

pub returns-in_default : goal.returns-in_default
returns-in_default c =
    let d : Dict = dict c.d.inside.objects.now c.d.inside.slots.now c.d.inside.words.now c.d.inside.bytes.now in
    ap (of_list d c.args.element) (sym c.in_default.is ∙ c.find.ensures) ∙ lent d c.args.d.now c.args.channel c.args.element c.d.invariant c.d.view_is

pub invariant_of-kind : goal.invariant_of-kind
invariant_of-kind c =
    let l = found_lies _ c.d.invariant (0x1600 + c.args.channel) c.in-Some.r (sym c.find.ensures ∙ c.in-Some.is) in
    (l.small, l.inside)

pub returns-then-kind-eq0 : goal.returns-then-kind-eq0
returns-then-kind-eq0 c =
    let d : Dict = dict c.d.inside.objects.now c.d.inside.slots.now c.d.inside.words.now c.d.inside.bytes.now in
    sym (rw (eq-eqb _ 0 (sym c.kind.ensures ∙ c.if-kind-eq0.true))) ∙ ap (of_list d c.args.element) (sym c.in-Some.is ∙ c.find.ensures) ∙ lent d c.args.d.now c.args.channel c.args.element c.d.invariant c.d.view_is

pub sub_at-requires-clause-rows : goal.sub_at-requires-clause-rows
sub_at-requires-clause-rows c = rows_of _ c.d.invariant

pub sub_at-requires-clause-i_bound : goal.sub_at-requires-clause-i_bound
sub_at-requires-clause-i_bound c = (found_lies _ c.d.invariant (0x1600 + c.args.channel) c.in-Some.r (sym c.find.ensures ∙ c.in-Some.is)).below

pub returns-in_default-sub_at : goal.returns-in_default-sub_at
returns-in_default-sub_at c =
    let d : Dict = dict c.d.inside.objects.now c.d.inside.slots.now c.d.inside.words.now c.d.inside.bytes.now in
    no_value (λ q. of_place d (Some q)) (λ n. refl) _ c.in_default-sub_at.in-Count-own.keys2 ∙ ap (of_place d) c.in_default-sub_at.ensures ∙ placed d c.args.d.now c.args.channel c.args.element c.in-Some.r c.d.invariant c.d.view_is (sym c.find.ensures ∙ c.in-Some.is) (λ z. c.if-kind-eq0.false (c.kind.ensures ∙ z))

pub returns-in_default-sub_at-2 : goal.returns-in_default-sub_at-2
returns-in_default-sub_at-2 c =
    let d : Dict = dict c.d.inside.objects.now c.d.inside.slots.now c.d.inside.words.now c.d.inside.bytes.now in
    ap (of_place d) (sym c.in_default-sub_at.is ∙ c.sub_at.ensures) ∙ placed d c.args.d.now c.args.channel c.args.element c.in-Some.r c.d.invariant c.d.view_is (sym c.find.ensures ∙ c.in-Some.is) (λ z. c.if-kind-eq0.false (c.kind.ensures ∙ z))

pub invariant_of-value_type : goal.invariant_of-value_type
invariant_of-value_type c =
    let d : Dict = dict c.d.inside.objects.now c.d.inside.slots.now c.d.inside.words.now c.d.inside.bytes.now in
    let f = element_facts d c.d.invariant (element_of_lem d c.d.invariant (0x1600 + c.args.channel) c.args.element _ (ap (on_row c.d.inside.objects.now c.args.element) (sym c.find.ensures ∙ c.in-Some.is) ∙ ap or_no_sub (sym c.in-Some-Value.ensures ∙ ap Some c.in-Some-Value.field-0-is))) in
    (f.low, f.slot)

pub returns-then-t-ne8 : goal.returns-then-t-ne8
returns-then-t-ne8 c =
    let d : Dict = dict c.d.inside.objects.now c.d.inside.slots.now c.d.inside.words.now c.d.inside.bytes.now in
    sym (rw (ne_eqb _ 8 (λ z. c.if-t-ne8.true (c.value_type-t.ensures ∙ z)), c.value_type-t.ensures)) ∙ ap (of_place d) (sym (ap Some c.in-Some-Value.field-0-is) ∙ c.in-Some-Value.ensures) ∙ placed d c.args.d.now c.args.channel c.args.element c.in-Some.r c.d.invariant c.d.view_is (sym c.find.ensures ∙ c.in-Some.is) (λ z. c.if-kind-eq0.false (c.kind.ensures ∙ z))

pub bounds-d-inside-p : goal.bounds-d-inside-p
bounds-d-inside-p c =
    let d : Dict = dict c.d.inside.objects.now c.d.inside.slots.now c.d.inside.words.now c.d.inside.bytes.now in
    (element_facts d c.d.invariant (element_of_lem d c.d.invariant (0x1600 + c.args.channel) c.args.element _ (ap (on_row c.d.inside.objects.now c.args.element) (sym c.find.ensures ∙ c.in-Some.is) ∙ ap or_no_sub (sym c.in-Some-Value.ensures ∙ ap Some c.in-Some-Value.field-0-is)))).word

pub returns : goal.returns
returns c =
    let d : Dict = dict c.d.inside.objects.now c.d.inside.slots.now c.d.inside.words.now c.d.inside.bytes.now in
    ap Ok (rw (sym c.d.view_is) at c.of_word.ensures) ∙ sym (rw (eq-eqb _ 8 (sym c.value_type-t.ensures ∙ c.if-t-ne8.false))) ∙ ap (of_place d) (sym (ap Some c.in-Some-Value.field-0-is) ∙ c.in-Some-Value.ensures) ∙ placed d c.args.d.now c.args.channel c.args.element c.in-Some.r c.d.invariant c.d.view_is (sym c.find.ensures ∙ c.in-Some.is) (λ z. c.if-kind-eq0.false (c.kind.ensures ∙ z))
