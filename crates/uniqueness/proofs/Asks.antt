-- No public call asks anything of its caller: the contract that Rattle reads off the source has no `requires`. Those whose claim is written out
-- in full are in Walked.antt. Assumes nothing.
use mathlib.Core.Path.{refl}
use Rattle.uniqueness.specs.Promises.{AsksNothing}
use Rattle.object_value.specs.contracts.decode as decode
use Rattle.object_value.specs.contracts.encode as encode
use Rattle.mapping.specs.contracts.PdoMappingEntry.from_u64 as from-u64
use Rattle.mapping.specs.contracts.PdoMappingEntry.to_u64 as to-u64
use Rattle.mapping.specs.contracts.PdoMappingEntry.byte_offset as byte-offset
use Rattle.mapping.specs.contracts.PdoMappingEntry.byte_length as byte-length
use Rattle.mapping.specs.contracts.PdoMappingEntry.end as end
use Rattle.mapping.specs.contracts.PdoMappingEntry.field as field
use Rattle.od.specs.contracts.new as new
use Rattle.insertion.specs.contracts.insert as insert
use Rattle.od.specs.contracts.read as read
use Rattle.od.specs.contracts.read_u8 as read-u8
use Rattle.od.specs.contracts.read_u16 as read-u16
use Rattle.od.specs.contracts.read_u32 as read_u32
use Rattle.od.specs.contracts.read_u64 as read_u64
use Rattle.names.specs.contracts.find_by_name as find-by-name
use Rattle.nodes.specs.contracts.get_configured_cns as get-configured-cns
use Rattle.counter.specs.contracts.increment_counter as increment-counter
use Rattle.pdo_validator.specs.contracts.validate_pdo_mapping as validate-pdo-mapping
use Rattle.channel.specs.contracts.check as check
use Rattle.channel.specs.contracts.check_all as check-all
use Rattle.element.specs.contracts.explain as explain
use Rattle.event.specs.contracts.event_record as event-record
use Rattle.pdo_cycle.specs.contracts.consume_cycle as consume-cycle
use Rattle.pdo_handler.specs.contracts.update_pdo_error_object as update-pdo-error-object
use Rattle.restoring.specs.contracts.restore_power_on_values as restore
use Rattle.writing.specs.contracts.write as write
use Rattle.od.specs.contracts.read_part as read-part

pub decode_asks : AsksNothing decode.ended (λ M 𝓤 𝓛. decode.clauses 𝓛)
decode_asks M 𝓤 𝓛 mem run κs a g = refl

pub encode_asks : AsksNothing encode.ended (λ M 𝓤 𝓛. encode.clauses 𝓛)
encode_asks M 𝓤 𝓛 mem run κs a g = refl

pub from_u64_asks : AsksNothing from-u64.ended (λ M 𝓤 𝓛. from-u64.clauses 𝓛)
from_u64_asks M 𝓤 𝓛 mem run κs a g = refl

pub to_u64_asks : AsksNothing to-u64.ended (λ M 𝓤 𝓛. to-u64.clauses 𝓛)
to_u64_asks M 𝓤 𝓛 mem run κs a g = refl

pub byte_offset_asks : AsksNothing byte-offset.ended (λ M 𝓤 𝓛. byte-offset.clauses 𝓛)
byte_offset_asks M 𝓤 𝓛 mem run κs a g = refl

pub byte-length-asks : AsksNothing byte-length.ended (λ M 𝓤 𝓛. byte-length.clauses 𝓛)
byte-length-asks M 𝓤 𝓛 mem run κs a g = refl

pub end_asks : AsksNothing end.ended (λ M 𝓤 𝓛. end.clauses 𝓛)
end_asks M 𝓤 𝓛 mem run κs a g = refl

pub field-asks : AsksNothing field.ended (λ M 𝓤 𝓛. field.clauses 𝓛)
field-asks M 𝓤 𝓛 mem run κs a g = refl

pub new-asks : AsksNothing new.ended (λ M 𝓤 𝓛. new.clauses 𝓛)
new-asks M 𝓤 𝓛 mem run κs a g = refl

pub insert_asks : AsksNothing insert.ended (λ M 𝓤 𝓛. insert.clauses 𝓛)
insert_asks M 𝓤 𝓛 mem run κs a g = refl

pub read_asks : AsksNothing read.ended (λ M 𝓤 𝓛. read.clauses 𝓛)
read_asks M 𝓤 𝓛 mem run κs a g = refl

pub read_u8_asks : AsksNothing read-u8.ended (λ M 𝓤 𝓛. read-u8.clauses 𝓛)
read_u8_asks M 𝓤 𝓛 mem run κs a g = refl

pub read_u16_asks : AsksNothing read-u16.ended (λ M 𝓤 𝓛. read-u16.clauses 𝓛)
read_u16_asks M 𝓤 𝓛 mem run κs a g = refl

pub read_u32_asks : AsksNothing read_u32.ended (λ M 𝓤 𝓛. read_u32.clauses 𝓛)
read_u32_asks M 𝓤 𝓛 mem run κs a g = refl

pub read_u64_asks : AsksNothing read_u64.ended (λ M 𝓤 𝓛. read_u64.clauses 𝓛)
read_u64_asks M 𝓤 𝓛 mem run κs a g = refl

pub find_by_name_asks : AsksNothing find-by-name.ended (λ M 𝓤 𝓛. find-by-name.clauses 𝓛)
find_by_name_asks M 𝓤 𝓛 mem run κs a g = refl

pub get_configured_cns_asks : AsksNothing get-configured-cns.ended (λ M 𝓤 𝓛. get-configured-cns.clauses 𝓛)
get_configured_cns_asks M 𝓤 𝓛 mem run κs a g = refl

pub increment_counter_asks : AsksNothing increment-counter.ended (λ M 𝓤 𝓛. increment-counter.clauses 𝓛)
increment_counter_asks M 𝓤 𝓛 mem run κs a g = refl

pub validate_pdo_mapping_asks : AsksNothing validate-pdo-mapping.ended (λ M 𝓤 𝓛. validate-pdo-mapping.clauses 𝓛)
validate_pdo_mapping_asks M 𝓤 𝓛 mem run κs a g = refl

pub check_asks : AsksNothing check.ended (λ M 𝓤 𝓛. check.clauses 𝓛)
check_asks M 𝓤 𝓛 mem run κs a g = refl

pub check_all-asks : AsksNothing check-all.ended (λ M 𝓤 𝓛. check-all.clauses 𝓛)
check_all-asks M 𝓤 𝓛 mem run κs a g = refl

pub explain_asks : AsksNothing explain.ended (λ M 𝓤 𝓛. explain.clauses 𝓛)
explain_asks M 𝓤 𝓛 mem run κs a g = refl

pub event_record_asks : AsksNothing event-record.ended (λ M 𝓤 𝓛. event-record.clauses 𝓛)
event_record_asks M 𝓤 𝓛 mem run κs a g = refl

pub consume_cycle_asks : AsksNothing consume-cycle.ended (λ M 𝓤 𝓛. consume-cycle.clauses 𝓛)
consume_cycle_asks M 𝓤 𝓛 mem run κs a g = refl

pub update_pdo_error_object-asks : AsksNothing update-pdo-error-object.ended (λ M 𝓤 𝓛. update-pdo-error-object.clauses 𝓛)
update_pdo_error_object-asks M 𝓤 𝓛 mem run κs a g = refl

pub restore_asks : AsksNothing restore.ended (λ M 𝓤 𝓛. restore.clauses 𝓛)
restore_asks M 𝓤 𝓛 mem run κs a g = refl

pub write_asks : AsksNothing write.ended (λ M 𝓤 𝓛. write.clauses 𝓛)
write_asks M 𝓤 𝓛 mem run κs a g = refl

pub read_part-asks : AsksNothing read-part.ended (λ M 𝓤 𝓛. read-part.clauses 𝓛)
read_part-asks M 𝓤 𝓛 mem run κs a g = refl
