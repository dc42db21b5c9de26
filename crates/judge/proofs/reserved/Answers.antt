-- `judge::reserved` meets its contract. Assumes nothing.
use mathlib.Core.Path.{refl}
use Rattle.entry.specs.Rules.{is_edition}
use Rattle.entry.specs.Judge.{reserved}
use Rattle.judge.proofs.reserved.Goals as goal

pub returns : goal.returns
unfolding reserved is_edition
returns c = refl
