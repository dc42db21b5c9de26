-- `lists::lay` meets its contract. Assumes nothing.
use mathlib.Core.Path.{sym}
use native.Mathlib.Omega.{arith}
use lib.Seq.{take_all}
use Rattle.lists.proofs.ListLaws.{over_none, lay_more}
use Rattle.lists.proofs.lay.Goals as goal

pub loop-j-init : goal.loop-j-init
loop-j-init g c = sym (over_none _ c.args.at)

pub loop-j-preserved : goal.loop-j-preserved
loop-j-preserved g c = lay_more _ _ _ _ _ _ (omega arith) c.requires c.index-src-j.is c.loop-j.invariant

pub returns : goal.returns
returns g c = rw (take_all _ _ c.loop-j-test.false) at c.loop-j.invariant
