-- `pdo_validator::count_in` meets its contract. Assumes nothing.
use mathlib.Core.Path.{sym, ap, ap₂, ◌∙◌}
use borrow.Author.Tests.{eq-eqb, ne_eqb, le-leb, lt-leb}
use Rattle.entry.specs.Table.{dict, count_at}
use Rattle.entry.proofs.ValueLaws.{row_lies, elements_lie}
use Rattle.pdo_validator.specs.Counting.{within_limit, ends_from, count_on}
use native.Mathlib.Omega.{arith}
use Rattle.pdo_validator.proofs.count_in.Goals as goal

pub invariant_of-row : goal.invariant_of-row
invariant_of-row c =
    let r = row_lies (dict c.d.inside.objects.now c.d.inside.slots.now c.d.inside.words.now c.d.inside.bytes.now) c.d.invariant c.args.i (rw (sym c.d.view_is) at c.requires) in
    (r.small, r.inside)

pub returns-then-kind-ne1 : goal.returns-then-kind-ne1
unfolding count_on
returns-then-kind-ne1 c = rw (sym c.d.view_is) (simp (ne_eqb _ 1 (λ q. c.if-kind-ne1.true (c.kind.ensures ∙ q))))

pub returns-then-count-n : goal.returns-then-count-n
unfolding count_on
returns-then-count-n c =
    rw (sym c.d.view_is)
    (simp (eq-eqb _ 1 (sym c.kind.ensures ∙ c.if-kind-ne1.false), lt-leb c.args.n (count_at c.d.inside.objects.now c.args.i) (omega (arith, c.count.ensures, c.if-count-n.true))))

pub ends-found-requires : goal.ends-found-requires
ends-found-requires c =
    simp c.first-first.ensures (elements_lie (dict c.d.inside.objects.now c.d.inside.slots.now c.d.inside.words.now c.d.inside.bytes.now) c.d.invariant c.args.i c.args.n (rw (sym c.d.view_is) at c.requires) (omega (arith, c.count.ensures, c.if-count-n.false)))

pub returns : goal.returns
unfolding count_on
returns c =
    rw (sym c.d.view_is)
    (simp (eq-eqb _ 1 (sym c.kind.ensures ∙ c.if-kind-ne1.false), le-leb c.args.n (count_at c.d.inside.objects.now c.args.i) (omega (arith, c.count.ensures, c.if-count-n.false)))
    (c.fits.ensures ∙ ap₂ within_limit (rw (sym c.d.view_is) at c.limit.ensures) (c.ends-found.ensures ∙ ap (λ p. ends_from c.d.inside.slots.now c.d.inside.words.now c.args.n p 0) c.first-first.ensures)))
