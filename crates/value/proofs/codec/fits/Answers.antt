-- `value::codec::fits` meets its contract: a word that has no bit over those of its type is below their power. Assumes nothing.
use mathlib.Core.Path.{ap, ◌∙◌}
use native.Mathlib.Omega.{arith}
use Prim.Native.Nat.{◌*◌}
use lib.Dec.{eqb}
use lib.Bits.{bit_and}
use Rattle.value.specs.Codec.{size_of}
use Rattle.value.proofs.CodecLaws.{size_le, none_over}
use Rattle.value.proofs.codec.fits.Goals as goal

pub returns : goal.returns
returns c =
    ap (λ m. eqb (bit_and c.args.word m) 0) c.over.ensures
    ∙ none_over c.args.word (8 * size_of c.args.t) c.ranges.word.fits (omega (arith, size_le c.args.t))
