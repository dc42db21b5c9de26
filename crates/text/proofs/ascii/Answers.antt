use Rattle.std.proofs.Common.{◌+◌, arith, refl}
use Rattle.text.proofs.Laws.{more}
use Rattle.text.proofs.ascii.Goals as goal

pub loop-i-init : goal.loop-i-init
loop-i-init c = c.long_run-i.ensures

pub loop-i-preserved : goal.loop-i-preserved
loop-i-preserved c =
    let i = c.loop-i.i in
    more c.args.s.now c.args.from i (i + 1) c.loop-i.invariant refl (omega arith) (omega arith)
