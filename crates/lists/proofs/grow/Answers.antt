use Rattle.std.proofs.Common.{sym, ◌∙◌, ◌+◌, ◌*◌, arith, get_or}
use Rattle.std.proofs.Math.Seq.{get_or-set_other}
use Rattle.lists.proofs.SpliceLaws.{stride, grown_more, grown_end}
use Rattle.lists.proofs.grow.Goals as goal

pub loop-j-preserved : goal.loop-j-preserved
loop-j-preserved c =
    let a = c.args in
    let l = c.loop-j in
    let p = a.at + a.d * l.j in (
      λ i h k. get_or-set_other l.s p (a.at + a.d * i) (get_or l.s p 0 + a.x) 0 (λ e. omega (arith, e, stride a.d l.j i (omega arith), c.requires.d_bound)) ∙ l.invariant.0 i h (omega arith),
      l.invariant.1 ∙ grown_more _ _ _ _ _ _ c.loop-j-test.true,
    )

pub returns : goal.returns
returns c = sym (c.loop-j.invariant.1 ∙ grown_end _ _ _ _ _ (omega arith))
