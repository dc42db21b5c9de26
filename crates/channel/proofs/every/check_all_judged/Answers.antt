-- `channel::every::check_all_judged` meets its contract: each way out is a case of the definition. Assumes nothing.
use mathlib.Core.Path.{◌≡◌, sym, ap, ◌∙◌, subst}
use mathlib.Core.Bool.{true}
use Rattle.entry.specs.Judge.{well_formed}
use lib.ListN.{length}
use borrow.Author.Tests.{lt-ltb, le-ltb}
use Rattle.channel.specs.All.{check_all_done, check_all_of}
use Rattle.channel.proofs.every.check_all_judged.Goals as goal

pub returns-then-out-lt768 : goal.returns-then-out-lt768
unfolding check_all_of
returns-then-out-lt768 c = simp (subst (λ d. well_formed d ≡ true) c.d.view_is c.d.invariant, lt-ltb (length c.args.out.now) 768 c.if-out-lt768.true)

pub check_each-requires : goal.check_each-requires
check_each-requires c = c.if-out-lt768.false

pub returns : goal.returns
unfolding check_all_of
returns c = ap check_all_done c.check_each.ensures ∙ sym (simp (subst (λ d. well_formed d ≡ true) c.d.view_is c.d.invariant, le-ltb (length c.args.out.now) 768 c.if-out-lt768.false))
