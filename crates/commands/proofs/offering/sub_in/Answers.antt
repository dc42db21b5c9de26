-- `commands::offering::sub_in` meets its contract: each branch is a case of `sub_in`. Assumes nothing.
use borrow.Author.Tests.{eq-eqb, ne_eqb}
use Rattle.image.specs.Image.{sub_in}
use Rattle.commands.proofs.offering.sub_in.Goals as goal

pub returns-then-kind-eq0 : goal.returns-then-kind-eq0
unfolding sub_in
returns-then-kind-eq0 c = simp (eq-eqb _ _ c.if-kind-eq0.true)

pub returns-else-kind-eq0 : goal.returns-else-kind-eq0
unfolding sub_in
returns-else-kind-eq0 c = simp (ne_eqb _ _ c.if-kind-eq0.false)
