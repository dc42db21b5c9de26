-- `writing::judging::in_object` meets its contract: the rows of a well-formed dictionary can be searched. Assumes nothing.
use Rattle.entry.specs.Table.{dict}
use Rattle.entry.proofs.ValueLaws.{rows_of}
use Rattle.writing.proofs.judging.in_object.Goals as goal

pub find-requires : goal.find-requires
find-requires c = rows_of (dict c.d.inside.objects.now c.d.inside.slots.now c.d.inside.words.now c.d.inside.bytes.now) c.d.invariant
