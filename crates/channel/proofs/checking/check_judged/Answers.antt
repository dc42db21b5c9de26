-- `channel::checking::check_judged` meets its contract: each way out is a case of the definition. Assumes nothing.
use mathlib.Core.Path.{◌≡◌, sym, ◌∙◌, subst}
use mathlib.Core.Bool.{true}
use Rattle.entry.specs.Judge.{well_formed}
use Rattle.channel.specs.Check.{check_of}
use Rattle.channel.proofs.checking.check_judged.Goals as goal

pub returns-then-not-has_sender : goal.returns-then-not-has_sender
unfolding check_of
returns-then-not-has_sender c = simp (subst (λ d. well_formed d ≡ true) c.d.view_is c.d.invariant, sym c.has_sender.ensures ∙ c.if-not-has_sender.true)

pub returns : goal.returns
unfolding check_of
returns c = c.check_list.ensures ∙ sym (simp (subst (λ d. well_formed d ≡ true) c.d.view_is c.d.invariant, sym c.has_sender.ensures ∙ c.if-not-has_sender.false))
