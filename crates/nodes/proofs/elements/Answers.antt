-- `nodes::elements` meets its contract: each branch is a case of `elements_at`. Assumes nothing.
use Rattle.std.specs.Prelude.{Some}
use mathlib.Core.Path.{◌≡◌, sym, ap, ◌∙◌}
use borrow.Author.Tests.{eq-eqb, ne_eqb}
use Rattle.entry.specs.Find.{find_row}
use Rattle.entry.proofs.ValueLaws.{rows_of, found_lies}
use Rattle.nodes.specs.Nodes.{elements_on, elements_at}
use Rattle.nodes.proofs.elements.Goals as goal

pub find-requires : goal.find-requires
find-requires c = rows_of _ c.d.invariant

pub returns-in_default : goal.returns-in_default
unfolding elements_at
returns-in_default c = rw (sym c.d.view_is) (ap (elements_on c.d.inside.objects.now) (sym c.in_default.is ∙ c.find.ensures))

pub invariant_of-row : goal.invariant_of-row
invariant_of-row c =
    let l = found_lies _ c.d.invariant 0x1F81 c.in-Some.i (sym c.find.ensures ∙ c.in-Some.is) in
    (l.small, l.inside)

pub returns-then-kind-eq1 : goal.returns-then-kind-eq1
unfolding elements_at
returns-then-kind-eq1 c =
    let row : find_row c.d.inside.objects.now 0x1F81 ≡ Some c.in-Some.i = sym c.find.ensures ∙ c.in-Some.is in
    rw (sym c.d.view_is) (simp (row, eq-eqb _ _ (sym c.kind.ensures ∙ c.if-kind-eq1.true)) (cc))

pub returns : goal.returns
unfolding elements_at
returns c =
    let row : find_row c.d.inside.objects.now 0x1F81 ≡ Some c.in-Some.i = sym c.find.ensures ∙ c.in-Some.is in
    rw (sym c.d.view_is) (simp (row, ne_eqb _ _ (λ q. c.if-kind-eq1.false (c.kind.ensures ∙ q))))
