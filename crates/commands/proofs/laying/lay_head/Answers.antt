-- `commands::laying::lay_head` meets its contract: five numbers, one behind the other. Assumes nothing.
use Rattle.commands.proofs.ImageLaws.{head_laid}
use Rattle.commands.proofs.laying.lay_head.Goals as goal

pub returns : goal.returns
returns c =
    let a = c.args in
    head_laid a.store.now a.at a.index a.sub a.t a.start a.len c.requires c.put_number.ensures c.put_number-2.ensures c.put_number-3.ensures c.put_number-4.ensures c.put_number-5.ensures
