use Rattle.std.proofs.Common.{◌≡◌, ◌-◌, ◌+◌, arith, refl}
use Rattle.lists.proofs.NumberLaws.{read_none, read_more, read_fits, read_fits64}
use Rattle.lists.proofs.each.Goals as goal

pub loop-i-init : goal.loop-i-init
loop-i-init c =
    let a = c.args in
    let e : a.n - a.n ≡ 0 = omega arith in
    (read_none _ a.at a.n c.requires.1, rw e (omega arith))

pub overflow_mul-sum : goal.overflow_mul-sum
overflow_mul-sum c =
    let l = c.loop-i in
    omega (arith, read_fits64 c.args.n l.i l.sum 0 (omega arith) (omega arith) (omega arith) l.invariant.1 (omega arith))

pub overflow_add-sum-in-loop-i : goal.overflow_add-sum-in-loop-i
overflow_add-sum-in-loop-i c =
    let l = c.loop-i in
    omega (arith, read_fits64 c.args.n l.i l.sum _ (omega arith) (omega arith) (omega arith) l.invariant.1 (c.type_inv.s (c.args.at + (l.i - 1))).fits)

pub loop-i-preserved : goal.loop-i-preserved
loop-i-preserved c =
    let a = c.args in
    let l = c.loop-i in (
      read_more a.s.now a.at a.n c.requires.1 l.i _ _ (omega arith) (omega arith) l.invariant.0 refl,
      read_fits a.n l.i _ _ (omega arith) (omega arith) l.invariant.1 (c.type_inv.s (a.at + (l.i - 1))).fits,
    )
