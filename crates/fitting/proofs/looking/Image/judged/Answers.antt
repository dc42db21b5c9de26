-- `fitting::looking::Image::judged` meets its contract: the first number of a readable image, else none. Assumes nothing.
use Rattle.std.proofs.Common.{arith, sym, ◌∙◌}
use Rattle.fitting.proofs.RisingLaws.{readable_long}
use Rattle.fitting.proofs.looking.Image.judged.Goals as goal

pub number-requires : goal.number-requires
number-requires c = (omega arith, readable_long c.args.store.now (sym c.judge_image.ensures ∙ c.if-judge_image.true))
