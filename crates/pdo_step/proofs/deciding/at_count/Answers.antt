-- `pdo_step::deciding::at_count` meets its contract: its cases are those of the definition. Assumes nothing.
use mathlib.Core.Path.{sym, ◌∙◌}
use borrow.Author.Tests.{eq-eqb, ne_eqb}
use Rattle.pdo_step.specs.Outcomes.{on_count}
use Rattle.pdo_step.proofs.deciding.at_count.Goals as goal

pub returns-then-len-eq0 : goal.returns-then-len-eq0
unfolding on_count
returns-then-len-eq0 c = rw (eq-eqb _ 0 c.if-len-eq0.true)

pub returns-then-is_mapping : goal.returns-then-is_mapping
unfolding on_count
returns-then-is_mapping c = rw (ne_eqb _ 0 c.if-len-eq0.false, sym c.is_mapping.ensures ∙ c.if-is_mapping.true)

pub returns : goal.returns
unfolding on_count
returns c = rw (ne_eqb _ 0 c.if-len-eq0.false, sym c.is_mapping.ensures ∙ c.if-is_mapping.false)
