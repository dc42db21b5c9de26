-- `judge::extra_ok` meets its contract. Assumes nothing.
use mathlib.Core.Path.{ap}
use mathlib.Core.Bool.{Bool, ◌&&◌}
use lib.Dec.{leb}
use Rattle.entry.specs.Rules.{extra_ok}
use Rattle.judge.proofs.extra_ok.Goals as goal

pub returns : goal.returns
unfolding extra_ok
returns c = ap (λ (b : Bool). leb c.args.extra.kept c.args.count && b) c.range_ok.ensures
