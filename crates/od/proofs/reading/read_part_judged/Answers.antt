-- `od::reading::read_part_judged` meets its contract. Assumes nothing.
use Rattle.od.proofs.ReadLaws.{part_inside}
use Rattle.od.proofs.reading.read_part_judged.Goals as goal

pub part_in-requires : goal.part_in-requires
part_in-requires c = part_inside _ _ _ _ c.read_judged.ensures
