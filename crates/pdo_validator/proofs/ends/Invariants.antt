-- `pdo_validator::ends` meets its contract: the invariant says that what is found from here is what is found on the whole. Assumes nothing.
use mathlib.Core.Path.{◌≡◌}
use Rattle.pdo_validator.specs.Counting.{ends_from}
use Rattle.pdo_validator.proofs.CountLaws.{rest}
use Rattle.pdo_validator.proofs.ends.Given as goal

abbrev pub invariant-loop-k : goal.invariant-loop-k
invariant-loop-k l = rest l.slots l.words l.n l.first l.k l.end ≡ ends_from l.slots l.words l.n l.first 0
