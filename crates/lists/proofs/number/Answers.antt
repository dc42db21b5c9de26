-- each arm is its width's
use Rattle.std.proofs.Common.{sym, arith}
use Rattle.lists.proofs.NumberLaws.{read_one}
use Rattle.lists.proofs.number.Goals as goal

pub returns-in-1 : goal.returns-in-1
returns-in-1 c = rw c.in-1.is (sym (read_one c.args.s.now c.args.at (omega arith)))
