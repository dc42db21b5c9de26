use mathlib.Core.Path.{refl}
use Rattle.entry.specs.Rules.{head_ok}
use Rattle.judge.proofs.head_ok.Goals as goal

pub returns : goal.returns
unfolding head_ok
returns c = refl
