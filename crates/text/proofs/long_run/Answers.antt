-- `text::long_run` meets its contract: what is skipped is skipped on from there. Assumes nothing.
use Rattle.text.proofs.Laws.{skip_on}
use Rattle.text.proofs.long_run.Goals as goal

pub returns : goal.returns
returns c = skip_on c.args.s.now c.args.from _ _ c.half_block-near.ensures c.blocks-2.ensures
