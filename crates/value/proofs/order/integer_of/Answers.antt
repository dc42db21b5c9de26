-- `value::order::integer_of` meets its contract: one type after another. Assumes nothing.
use mathlib.Core.Path.{◌≡◌}
use Prim.Native.Nat.{◌^◌}
use mir.Syntax.{w8, w16, w32, w64}
use Rattle.value.specs.Codec.{size_of}
use Rattle.value.specs.Order.{integer_of}
use Rattle.value.proofs.OrderLaws.{word_small, read, widened}
use native.Mathlib.Omega.{arith}
use Rattle.value.proofs.order.integer_of.Goals as goal

pub overflow_cast-word : goal.overflow_cast-word
unfolding size_of
overflow_cast-word c = record { fits = word_small c.args.t 1 c.args.word c.in-1.is c.requires.2 }

pub overflow_cast-word-in-2 : goal.overflow_cast-word-in-2
unfolding size_of
overflow_cast-word-in-2 c = record { fits = word_small c.args.t 2 c.args.word c.in-2.is c.requires.2 }

pub overflow_cast-word-in-3 : goal.overflow_cast-word-in-3
unfolding size_of
overflow_cast-word-in-3 c = record { fits = word_small c.args.t 3 c.args.word c.in-3.is c.requires.2 }

pub returns-in-1 : goal.returns-in-1
unfolding integer_of size_of
returns-in-1 c =
    rw c.in-1.is
    (widened w8 (2 ^ 7) c.args.word _ (omega arith) (omega arith) (omega arith) (word_small c.args.t 1 c.args.word c.in-1.is c.requires.2) c.cast_signed.ensures _ (omega arith) c.from.ensures)

pub returns-in-2 : goal.returns-in-2
unfolding integer_of size_of
returns-in-2 c =
    rw c.in-2.is
    (widened w16 (2 ^ 15) c.args.word _ (omega arith) (omega arith) (omega arith) (word_small c.args.t 2 c.args.word c.in-2.is c.requires.2) c.cast_signed-in-2.ensures _ (omega arith) c.from-in-2.ensures)

pub returns-in-3 : goal.returns-in-3
unfolding integer_of size_of
returns-in-3 c =
    rw c.in-3.is
    (widened w32 (2 ^ 31) c.args.word _ (omega arith) (omega arith) (omega arith) (word_small c.args.t 3 c.args.word c.in-3.is c.requires.2) c.cast_signed-in-3.ensures _ (omega arith) c.from-in-3.ensures)

pub returns-in_default : goal.returns-in_default
unfolding integer_of size_of
returns-in_default c =
    let e : c.args.t ≡ 4 = omega (arith, c.requires.0, c.requires.1) in
    rw e
    (read w64 (2 ^ 63) c.args.word _ (omega arith) (omega arith) (omega arith) (word_small c.args.t 4 c.args.word e c.requires.2) c.cast_signed-in_default.ensures)
