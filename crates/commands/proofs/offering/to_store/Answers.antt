-- `commands::offering::to_store` meets its contract: the test is the definition's. Assumes nothing.
use mathlib.Core.Path.{sym, ap, ◌∙◌}
use Rattle.image.specs.Image.{stores, to_store}
use Rattle.commands.proofs.offering.to_store.Goals as goal

pub returns-then-access : goal.returns-then-access
unfolding to_store
returns-then-access c =
    c.count.ensures ∙ simp (sym (ap stores c.access-access.ensures) ∙ c.if-access.true)

pub returns : goal.returns
unfolding to_store
returns c = simp (sym (ap stores c.access-access.ensures) ∙ c.if-access.false)
