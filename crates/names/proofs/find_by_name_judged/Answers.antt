-- `names::find_by_name_judged` meets its contract: each branch is a case of `by_name_of`. Assumes nothing.
use mathlib.Core.Path.{sym, ap, ◌∙◌}
use borrow.Author.Tests.{lt-leb, le-leb}
use Rattle.std.proofs.lemmas.Result.{err_from_is_err_and}
use Rattle.entry.specs.Rules.{is_good}
use Rattle.names.specs.Names.{by_name_of}
use Rattle.names.proofs.NameLaws.{bad_text, good_text}
use Rattle.names.proofs.find_by_name_judged.Goals as goal

pub returns-then-name-gt32 : goal.returns-then-name-gt32
unfolding by_name_of
returns-then-name-gt32 c = rw (sym c.d.view_is) (simp (c.d.invariant, lt-leb _ _ c.if-name-gt32.true))

pub returns-in_err-or : goal.returns-in_err-or
unfolding by_name_of
returns-in_err-or c =
    let p = err_from_is_err_and c.from_residual.result c.from_residual.ensures.1 in
    let b = bad_text c.text_ok.result _ (sym c.or.ensures ∙ c.in_err-or.was) in
    rw (p.1, p.2, b.1) (rw (sym c.d.view_is) (sym (simp (c.d.invariant, le-leb _ _ c.if-name-gt32.false, ap is_good (sym c.text_ok.ensures) ∙ b.0))))

pub returns : goal.returns
unfolding by_name_of
returns c =
    let g = good_text c.text_ok.result _ (sym c.or.ensures ∙ c.in_ok-or.was) in
    rw (sym c.d.view_is) (simp (c.d.invariant, le-leb _ _ c.if-name-gt32.false, ap is_good (sym c.text_ok.ensures) ∙ g) (rw (sym c.d.view_is) at c.first_named.ensures))
