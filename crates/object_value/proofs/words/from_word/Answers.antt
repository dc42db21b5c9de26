-- `object_value::words::from_word` meets its contract: each arm is a row of `readings`. Assumes nothing.
use mathlib.Core.Path.{ap}
use Prim.Native.Nat.{◌^◌}
use mir.Syntax.{w16}
use Rattle.value.specs.declared.ObjectValue.TheVariants.{Integer16}
use Rattle.value.specs.Meaning.{readings}
use Rattle.value.proofs.IntegerLaws.{cast_integer}
use native.Mathlib.Omega.{arith}
use Rattle.object_value.proofs.words.from_word.Goals as goal

pub returns-in-2 : goal.returns-in-2
unfolding readings
returns-in-2 c = rw c.in-2.is (ap Integer16 (cast_integer w16 (2 ^ 15) c.args.x _ _ (omega arith) (omega arith) (omega arith) c.low16.ensures c.cast_signed-in-2.ensures))
