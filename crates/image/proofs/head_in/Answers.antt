-- `image::head_in` meets its contract: the key is made of two numbers below 65,536 and 256. Assumes nothing.
use Prim.Native.Nat.{◌+◌, ◌<◌}
use Rattle.lists.proofs.NumberLaws.{part_lt}
use native.Mathlib.Omega.{arith}
use Rattle.image.proofs.head_in.Goals as goal
use Rattle.image.proofs.head_in.Goals.{After-number-sub}

small : (c : After-number-sub) → (c.number-index.result < 65536) × (c.number-sub.result < 256)
small c =
    let s = c.args.s.now in (
      omega (arith, c.number-index.ensures, part_lt s c.args.a 2 (omega arith) (λ i. omega (arith, c.type_inv.s i))),
      omega (arith, c.number-sub.ensures, part_lt s (c.args.a + 2) 1 (omega arith) (λ i. omega (arith, c.type_inv.s i))),
    )

pub overflow_mul-result : goal.overflow_mul-result
overflow_mul-result c = omega (arith, (small c).0)

pub overflow_add-result : goal.overflow_add-result
overflow_add-result c = omega (arith, small c)
