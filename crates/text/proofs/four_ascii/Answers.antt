-- `text::four_ascii` meets its contract: the four high bits are the mask's. Assumes nothing.
use mathlib.Core.Path.{refl}
use Rattle.text.proofs.AsciiLaws.{low_part}
use Rattle.text.proofs.four_ascii.Goals as goal

pub returns : goal.returns
returns c =
    low_part c.args.s.now c.args.i 4 c.four.result 0x80808080 refl (λ j. (c.type_inv.s j).fits) c.requires c.four.ensures.0
