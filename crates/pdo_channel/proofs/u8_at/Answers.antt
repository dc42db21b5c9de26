-- `pdo_channel::u8_at` meets its contract: the U8 in the row of the index. Assumes nothing.
use Rattle.entry.proofs.ValueLaws.{rows_of}
use Rattle.pdo_channel.proofs.u8_at.Goals as goal

pub find-requires : goal.find-requires
find-requires c = rows_of _ c.d.invariant
