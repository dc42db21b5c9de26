-- `channel::checking::check` meets its contract: each way out is a case of the definition. Assumes nothing.
use Rattle.channel.specs.Check.{check_of}
use Rattle.channel.proofs.checking.check.Goals as goal

pub returns-in_default : goal.returns-in_default
unfolding check_of
returns-in_default c = simp c.in_default.ensures.err.1
