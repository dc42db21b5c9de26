-- `fitting::choosing::key_at` meets its contract: it is the index and the sub-index. Assumes nothing.
use mathlib.Core.Path.{ap₂, ◌∙◌}
use Prim.Native.Nat.{◌+◌, ◌*◌}
use Rattle.commands.proofs.RightLaws.{sub_few}
use native.Mathlib.Omega.{arith}
use Rattle.fitting.proofs.choosing.key_at.Goals as goal

pub overflow_mul-result : goal.overflow_mul-result
overflow_mul-result c = omega (arith, c.index.ensures, c.requires)

pub sub_in-requires : goal.sub_in-requires
sub_in-requires c = omega (arith, c.requires.1)

pub overflow_add-result : goal.overflow_add-result
overflow_add-result c =
    omega (arith, c.sub_in.ensures, sub_few c.kind.result c.args.k, c.index.ensures, c.requires)

pub returns : goal.returns
returns c =
    ap₂ (λ x y. 256 * x + y) c.index.ensures (c.sub_in.ensures ∙ rw c.kind.ensures)
