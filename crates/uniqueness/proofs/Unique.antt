-- Each public call's contract leaves one outcome: the same answer, and the same contents of everything lent. The contract is the one
-- that Rattle reads off the source. (`read_part` returns a part of what was lent: its contract determines the part's bytes.) The three calls
-- whose claim is written out in full are in Walked.antt.
-- Assumes nothing.
use mathlib.Core.Path.{◌≡◌, refl, ap, ◌∙◌, sym}
use Rattle.value.specs.Codec.{AfterEncode}
use Rattle.entry.specs.Table.{Dict}
use Rattle.od.specs.New.{Made}
use Rattle.nodes.specs.Nodes.{AfterListing}
use Rattle.counter.specs.Counter.{AfterIncrement}
use Rattle.pdo_cycle.specs.Cycle.{AfterCycle}
use Rattle.pdo_handler.specs.Errors.{AfterUpdate}
use Rattle.restoring.specs.Restore.{AfterRestore}
use Rattle.writing.specs.Writing.{AfterWrite}
use Rattle.object_value.proofs.decode.Reads as decode
use Rattle.object_value.proofs.decode.Kinds as decode-kinds
use Rattle.object_value.proofs.encode.Reads as encode
use Rattle.object_value.proofs.encode.Kinds as encode-kinds
use Rattle.mapping.proofs.PdoMappingEntry.from_u64.Reads as from-u64
use Rattle.mapping.proofs.PdoMappingEntry.from_u64.Kinds as from-u64-kinds
use Rattle.mapping.proofs.PdoMappingEntry.to_u64.Reads as to-u64
use Rattle.mapping.proofs.PdoMappingEntry.to_u64.Kinds as to-u64-kinds
use Rattle.mapping.proofs.PdoMappingEntry.byte_offset.Reads as byte-offset
use Rattle.mapping.proofs.PdoMappingEntry.byte_offset.Kinds as byte-offset-kinds
use Rattle.mapping.proofs.PdoMappingEntry.byte_length.Reads as byte-length
use Rattle.mapping.proofs.PdoMappingEntry.byte_length.Kinds as byte-length-kinds
use Rattle.mapping.proofs.PdoMappingEntry.end.Reads as end
use Rattle.mapping.proofs.PdoMappingEntry.end.Kinds as end-kinds
use Rattle.mapping.proofs.PdoMappingEntry.field.Reads as field
use Rattle.mapping.proofs.PdoMappingEntry.field.Kinds as field-kinds
use Rattle.od.proofs.new.Reads as new
use Rattle.od.proofs.new.Kinds as new-kinds
use Rattle.insertion.proofs.insert.Reads as insert
use Rattle.insertion.proofs.insert.Kinds as insert-kinds
use Rattle.od.proofs.read.Reads as read
use Rattle.od.proofs.read.Kinds as read-kinds
use Rattle.od.proofs.read_u8.Reads as read-u8
use Rattle.od.proofs.read_u8.Kinds as read-u8-kinds
use Rattle.od.proofs.read_u16.Reads as read-u16
use Rattle.od.proofs.read_u16.Kinds as read-u16-kinds
use Rattle.od.proofs.read_u32.Reads as read_u32
use Rattle.od.proofs.read_u32.Kinds as read-u32-kinds
use Rattle.od.proofs.read_u64.Reads as read_u64
use Rattle.od.proofs.read_u64.Kinds as read-u64-kinds
use Rattle.names.proofs.find_by_name.Reads as find-by-name
use Rattle.names.proofs.find_by_name.Kinds as find-by_name-kinds
use Rattle.nodes.proofs.get_configured_cns.Reads as get-configured-cns
use Rattle.nodes.proofs.get_configured_cns.Kinds as get-configured-cns-kinds
use Rattle.counter.proofs.increment_counter.Reads as increment-counter
use Rattle.counter.proofs.increment_counter.Kinds as increment-counter-kinds
use Rattle.pdo_validator.proofs.validate_pdo_mapping.Reads as validate-pdo-mapping
use Rattle.pdo_validator.proofs.validate_pdo_mapping.Kinds as validate-pdo-mapping-kinds
use Rattle.channel.specs.All.{AfterCheckAll}
use Rattle.channel.proofs.check.Reads as check
use Rattle.channel.proofs.check.Kinds as check-kinds
use Rattle.channel.proofs.check_all.Reads as check-all
use Rattle.channel.proofs.check_all.Kinds as check-all-kinds
use Rattle.element.proofs.explain.Reads as explain
use Rattle.element.proofs.explain.Kinds as explain-kinds
use Rattle.event.proofs.event_record.Reads as event-record
use Rattle.event.proofs.event_record.Kinds as event-record-kinds
use Rattle.pdo_cycle.proofs.consume_cycle.Reads as consume-cycle
use Rattle.pdo_cycle.proofs.consume_cycle.Kinds as consume-cycle-kinds
use Rattle.pdo_handler.proofs.update_pdo_error_object.Reads as update-pdo-error-object
use Rattle.pdo_handler.proofs.update_pdo_error_object.Kinds as update-pdo-error-object-kinds
use Rattle.restoring.proofs.restore_power_on_values.Reads as restore
use Rattle.restoring.proofs.restore_power_on_values.Kinds as restore-kinds
use Rattle.uniqueness.specs.Promises.{Unique}
use Rattle.writing.proofs.write.Reads as write
use Rattle.writing.proofs.write.Kinds as write-kinds

-- two that equal a third, seen in two ways
pub both : {A B C : Type 0} (f : A → B) (g : A → C) {x y z : A} → x ≡ z → y ≡ z → (f x ≡ f y) × (g x ≡ g y)
both f g p q = (ap f (p ∙ sym q), ap g (p ∙ sym q))

pub decode_unique : Unique 1 decode-kinds.ps decode-kinds.r decode.Post
decode_unique κs a z₁ z₂ w₁ w₂ p q = (p ∙ sym q, refl)

pub encode_unique : Unique 2 encode-kinds.ps encode-kinds.r encode.Post
encode_unique κs a z₁ z₂ w₁ w₂ p q = both (λ (x : AfterEncode). x.answer) (λ x. (tt, (tt, (x.out, tt)))) p q

pub from_u64_unique : Unique 0 from-u64-kinds.ps from-u64-kinds.r from-u64.Post
from_u64_unique κs a z₁ z₂ w₁ w₂ p q = (p ∙ sym q, refl)

pub to_u64_unique : Unique 0 to-u64-kinds.ps to-u64-kinds.r to-u64.Post
to_u64_unique κs a z₁ z₂ w₁ w₂ p q = (p ∙ sym q, refl)

pub byte_offset_unique : Unique 0 byte-offset-kinds.ps byte-offset-kinds.r byte-offset.Post
byte_offset_unique κs a z₁ z₂ w₁ w₂ p q = (p ∙ sym q, refl)

pub byte-length_unique : Unique 0 byte-length-kinds.ps byte-length-kinds.r byte-length.Post
byte-length_unique κs a z₁ z₂ w₁ w₂ p q = (p ∙ sym q, refl)

pub end_unique : Unique 0 end-kinds.ps end-kinds.r end.Post
end_unique κs a z₁ z₂ w₁ w₂ p q = (p ∙ sym q, refl)

pub field_unique : Unique 0 field-kinds.ps field-kinds.r field.Post
field_unique κs a z₁ z₂ w₁ w₂ p q = (p ∙ sym q, refl)

pub new_unique : Unique 1 new-kinds.ps new-kinds.r new.Post
new_unique κs a z₁ z₂ w₁ w₂ p q = both (λ (x : Made). x.answer) (λ x. (x.objects, (tt, tt))) p q

pub insert_unique : Unique 7 insert-kinds.ps insert-kinds.r insert.Post
insert_unique κs a z₁ z₂ w₁ w₂ p q = (p.0 ∙ sym q.0, ap (λ (x : Dict). (x.objects, (x.slots, (x.words, (x.bytes, (tt, (tt, (tt, (tt, tt))))))))) (p.1 ∙ sym q.1))

pub read_unique : Unique 4 read-kinds.ps read-kinds.r read.Post
read_unique κs a z₁ z₂ w₁ w₂ p q = (p ∙ sym q, refl)

pub read_u8_unique : Unique 4 read-u8-kinds.ps read-u8-kinds.r read-u8.Post
read_u8_unique κs a z₁ z₂ w₁ w₂ p q = (p ∙ sym q, refl)

pub read_u16_unique : Unique 4 read-u16-kinds.ps read-u16-kinds.r read-u16.Post
read_u16_unique κs a z₁ z₂ w₁ w₂ p q = (p ∙ sym q, refl)

pub read_u32_unique : Unique 4 read-u32-kinds.ps read-u32-kinds.r read_u32.Post
read_u32_unique κs a z₁ z₂ w₁ w₂ p q = (p ∙ sym q, refl)

pub read_u64_unique : Unique 4 read-u64-kinds.ps read-u64-kinds.r read_u64.Post
read_u64_unique κs a z₁ z₂ w₁ w₂ p q = (p ∙ sym q, refl)

pub find_by_name_unique : Unique 5 find-by_name-kinds.ps find-by_name-kinds.r find-by-name.Post
find_by_name_unique κs a z₁ z₂ w₁ w₂ p q = (p ∙ sym q, refl)

pub get_configured_cns_unique : Unique 5 get-configured-cns-kinds.ps get-configured-cns-kinds.r get-configured-cns.Post
get_configured_cns_unique κs a z₁ z₂ w₁ w₂ p q = both (λ (x : AfterListing). x.answer) (λ x. (tt, (tt, (tt, (tt, (x.out, tt)))))) p q

pub increment_counter_unique : Unique 4 increment-counter-kinds.ps increment-counter-kinds.r increment-counter.Post
increment_counter_unique κs a z₁ z₂ w₁ w₂ p q = both (λ (x : AfterIncrement). x.answer) (λ x. (tt, (tt, (x.words, (tt, (tt, (tt, tt))))))) p q

pub validate_pdo_mapping_unique : Unique 4 validate-pdo-mapping-kinds.ps validate-pdo-mapping-kinds.r validate-pdo-mapping.Post
validate_pdo_mapping_unique κs a z₁ z₂ w₁ w₂ p q = (p ∙ sym q, refl)

pub write_unique : Unique 6 write-kinds.ps write-kinds.r write.Post
write_unique κs a z₁ z₂ w₁ w₂ p q = both (λ (x : AfterWrite). x.answer) (λ x. (x.objects, (tt, (x.words, (x.bytes, (x.store, (tt, (tt, (tt, (tt, tt)))))))))) p q

pub restore_unique : Unique 5 restore-kinds.ps restore-kinds.r restore.Post
restore_unique κs a z₁ z₂ w₁ w₂ p q =
    both (λ (x : AfterRestore). x.answer) (λ x. (tt, (x.memory.slots, (x.memory.words, (x.memory.bytes, (tt, (tt, (tt, tt)))))))) p q

pub consume_cycle_unique : Unique 7 consume-cycle-kinds.ps consume-cycle-kinds.r consume-cycle.Post
consume_cycle_unique κs a z₁ z₂ w₁ w₂ p q = both (λ (x : AfterCycle). x.answer) (λ x. (tt, (tt, (x.contents.words, (x.contents.bytes, (tt, (tt, (x.log, tt)))))))) p q

pub update_pdo_error_object_unique : Unique 4 update-pdo-error-object-kinds.ps update-pdo-error-object-kinds.r update-pdo-error-object.Post
update_pdo_error_object_unique κs a z₁ z₂ w₁ w₂ p q = both (λ (x : AfterUpdate). x.answer) (λ x. (tt, (tt, (tt, (x.bytes, (tt, (tt, tt))))))) p q

pub event_record_unique : Unique 0 event-record-kinds.ps event-record-kinds.r event-record.Post
event_record_unique κs a z₁ z₂ w₁ w₂ p q = (p ∙ sym q, refl)

pub check_unique : Unique 4 check-kinds.ps check-kinds.r check.Post
check_unique κs a z₁ z₂ w₁ w₂ p q = (p ∙ sym q, refl)

pub check_all_unique : Unique 5 check-all-kinds.ps check-all-kinds.r check-all.Post
check_all_unique κs a z₁ z₂ w₁ w₂ p q = both (λ (x : AfterCheckAll). x.answer) (λ x. (tt, (tt, (tt, (tt, (x.out, tt)))))) p q

pub explain_unique : Unique 4 explain-kinds.ps explain-kinds.r explain.Post
explain_unique κs a z₁ z₂ w₁ w₂ p q = (p ∙ sym q, refl)
