use Rattle.std.proofs.Common.{sym, ◌∙◌, arith}
use Rattle.lists.proofs.SpliceLaws.{fallen_more, fallen_end}
use Rattle.lists.proofs.fall.Goals as goal

pub loop-j-preserved : goal.loop-j-preserved
loop-j-preserved c = c.loop-j.invariant ∙ rw c.saturating_sub.ensures (fallen_more _ _ _ _ _ _ c.loop-j-test.true)

pub returns : goal.returns
returns c = sym (c.loop-j.invariant ∙ fallen_end _ _ _ _ _ (omega arith))
