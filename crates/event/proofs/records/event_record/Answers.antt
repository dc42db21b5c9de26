-- `event::records::event_record` meets its contract: the test by the parts is that the number is its record's. Assumes nothing.
use Rattle.std.specs.Prelude.{Some}
use mathlib.Core.Path.{sym, ap, ◌∙◌}
use Rattle.event.proofs.NumberLaws.{recorded_is, recorded_none}
use Rattle.event.proofs.records.event_record.Goals as goal

pub returns-then-is_record : goal.returns-then-is_record
returns-then-is_record c = ap Some c.record_of.ensures ∙ recorded_is _ (sym c.is_record.ensures ∙ c.if-is_record.true)

pub returns-else-is_record : goal.returns-else-is_record
returns-else-is_record c = recorded_none _ (sym c.is_record.ensures ∙ c.if-is_record.false)
