-- `judge::range_ok` meets its contract: each way out is a case of the definition. Assumes nothing.
use mathlib.Core.Path.{sym, ◌∙◌}
use borrow.Author.Tests.{eq-eqb, ne_eqb, lt-leb, le-leb}
use Rattle.entry.specs.Rules.{range_ok}
use native.Mathlib.Omega.{arith}
use Rattle.judge.proofs.range_ok.Goals as goal

pub returns-then-t-eq0 : goal.returns-then-t-eq0
unfolding range_ok
returns-then-t-eq0 c = sym (rw (eq-eqb _ 0 c.if-t-eq0.true))

pub returns-then-t-gt8 : goal.returns-then-t-gt8
unfolding range_ok
returns-then-t-gt8 c = sym (rw (ne_eqb _ 0 c.if-t-eq0.false, lt-leb _ 8 c.if-t-gt8.true))

pub returns-then-not-fits : goal.returns-then-not-fits
unfolding range_ok
returns-then-not-fits c =
    sym (rw (ne_eqb _ 0 c.if-t-eq0.false, le-leb _ 8 c.if-t-gt8.false, sym c.fits.ensures ∙ c.if-not-fits.true))

pub returns-then-not-fits-2 : goal.returns-then-not-fits-2
unfolding range_ok
returns-then-not-fits-2 c =
    sym (rw (ne_eqb _ 0 c.if-t-eq0.false, le-leb _ 8 c.if-t-gt8.false, sym c.fits.ensures ∙ c.if-not-fits.false, sym c.fits-2.ensures ∙ c.if-not-fits-2.true))

pub is_ordered-requires : goal.is_ordered-requires
is_ordered-requires c =
    (omega (arith, c.if-t-eq0.false), sym c.fits.ensures ∙ c.if-not-fits.false, sym c.fits-2.ensures ∙ c.if-not-fits-2.false)

pub returns : goal.returns
unfolding range_ok
returns c =
    c.is_ordered.ensures
    ∙ sym (rw (ne_eqb _ 0 c.if-t-eq0.false, le-leb _ 8 c.if-t-gt8.false, sym c.fits.ensures ∙ c.if-not-fits.false, sym c.fits-2.ensures ∙ c.if-not-fits-2.false))
