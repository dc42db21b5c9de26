-- `entry::lookup::sub_at` meets its contract: each branch is a case of `sub_at`. Assumes nothing.
use Rattle.std.specs.Prelude.{Some}
use mathlib.Core.Path.{sym, ap, ◌∙◌}
use Prim.Native.Nat.{◌-◌, ◌+◌}
use borrow.Author.Tests.{eq-eqb, ne_eqb, le-leb, lt-leb}
use Rattle.entry.specs.declared.Place.TheVariants.{Count, Value}
use Rattle.entry.specs.Find.{sub_at}
use native.Mathlib.Omega.{arith}
use Rattle.entry.proofs.lookup.sub_at.Goals as goal

pub invariant_of-row : goal.invariant_of-row
invariant_of-row c = (omega (arith, c.requires.rows.few, c.requires.i_bound), omega (arith, c.requires.rows.long, c.requires.i_bound))

pub returns-then-sub-eq0 : goal.returns-then-sub-eq0
unfolding sub_at
returns-then-sub-eq0 c = simp (eq-eqb _ _ (sym c.kind-kind.ensures ∙ c.if-kind-eq0.true), eq-eqb _ _ c.if-sub-eq0.true) (ap (λ p. Some (Value p)) c.first-first.ensures)

pub returns-then-kind-eq0 : goal.returns-then-kind-eq0
unfolding sub_at
returns-then-kind-eq0 c = simp (eq-eqb _ _ (sym c.kind-kind.ensures ∙ c.if-kind-eq0.true), ne_eqb _ _ c.if-sub-eq0.false)

pub returns-then-sub-eq0-2 : goal.returns-then-sub-eq0-2
unfolding sub_at
returns-then-sub-eq0-2 c =
    simp (ne_eqb _ _ (λ q. c.if-kind-eq0.false (c.kind-kind.ensures ∙ q)), eq-eqb _ _ c.if-sub-eq0-2.true) (ap (λ n. Some (Count n)) c.list_count.ensures)

pub overflow_add-result : goal.overflow_add-result
overflow_add-result c = omega (arith, c.first-first.ensures, c.count-count.ensures, c.if-sub-count.true, c.requires.rows.firsts c.args.i c.requires.i_bound)

pub returns-then-sub-count : goal.returns-then-sub-count
unfolding sub_at
returns-then-sub-count c =
    simp (ne_eqb _ _ (λ q. c.if-kind-eq0.false (c.kind-kind.ensures ∙ q)), ne_eqb _ _ c.if-sub-eq0-2.false, le-leb _ _ (rw c.count-count.ensures at c.if-sub-count.true))
    (ap (λ x. Some (Value (x + (c.args.sub - 1)))) c.first-first.ensures)

pub returns : goal.returns
unfolding sub_at
returns c =
    simp (ne_eqb _ _ (λ q. c.if-kind-eq0.false (c.kind-kind.ensures ∙ q)), ne_eqb _ _ c.if-sub-eq0-2.false, lt-leb _ _ (rw c.count-count.ensures at c.if-sub-count.false))
