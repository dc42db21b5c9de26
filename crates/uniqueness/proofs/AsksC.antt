-- The same of each call for C. Assumes nothing.
use mathlib.Core.Path.{refl}
use Rattle.uniqueness.specs.Promises.{AsksNothing}
use Rattle.c_codec.specs.contracts.loomfinch_decode as c-decode
use Rattle.c_codec.specs.contracts.loomfinch_encode as c-encode
use Rattle.c_codec.specs.contracts.loomfinch_from_u64 as c-from-u64
use Rattle.c_codec.specs.contracts.loomfinch_to_u64 as c-to-u64
use Rattle.c_dictionary.specs.contracts.loomfinch_new as c-new
use Rattle.c_dictionary.specs.contracts.loomfinch_insert as c-insert
use Rattle.c_dictionary.specs.contracts.loomfinch_read as c_read
use Rattle.c_dictionary.specs.contracts.loomfinch_read_u8 as c-read-u8
use Rattle.c_dictionary.specs.contracts.loomfinch_read_u16 as c-read-u16
use Rattle.c_dictionary.specs.contracts.loomfinch_read_u32 as c-read-u32
use Rattle.c_dictionary.specs.contracts.loomfinch_read_u64 as c-read-u64
use Rattle.c_dictionary.specs.contracts.loomfinch_find_by_name as c-find-by-name
use Rattle.c_dictionary.specs.contracts.loomfinch_get_configured_cns as c-get-configured-cns
use Rattle.c_dictionary.specs.contracts.loomfinch_increment_counter as c-increment-counter
use Rattle.c_storing.specs.contracts.loomfinch_restore_power_on_values as c-restore
use Rattle.c_storing.specs.contracts.loomfinch_write as c-write
use Rattle.c_storing.specs.contracts.loomfinch_validate_pdo_mapping as c-validate-pdo-mapping
use Rattle.c_checking.specs.contracts.loomfinch_check as c-check
use Rattle.c_checking.specs.contracts.loomfinch_check_all as c-check-all
use Rattle.c_checking.specs.contracts.loomfinch_explain as c-explain
use Rattle.c_receiving.specs.contracts.loomfinch_consume_pdo_payload as c-consume
use Rattle.c_receiving.specs.contracts.loomfinch_consume_cycle as c-consume-cycle
use Rattle.c_receiving.specs.contracts.loomfinch_update_pdo_error_object as c-update

pub c_decode_asks : AsksNothing c-decode.ended (λ M 𝓤 𝓛. c-decode.clauses 𝓛)
c_decode_asks M 𝓤 𝓛 mem run κs a g = refl

pub c_encode_asks : AsksNothing c-encode.ended (λ M 𝓤 𝓛. c-encode.clauses 𝓛)
c_encode_asks M 𝓤 𝓛 mem run κs a g = refl

pub c_from_u64_asks : AsksNothing c-from-u64.ended (λ M 𝓤 𝓛. c-from-u64.clauses 𝓛)
c_from_u64_asks M 𝓤 𝓛 mem run κs a g = refl

pub c_to_u64_asks : AsksNothing c-to-u64.ended (λ M 𝓤 𝓛. c-to-u64.clauses 𝓛)
c_to_u64_asks M 𝓤 𝓛 mem run κs a g = refl

pub c-new-asks : AsksNothing c-new.ended (λ M 𝓤 𝓛. c-new.clauses 𝓛)
c-new-asks M 𝓤 𝓛 mem run κs a g = refl

pub c_insert_asks : AsksNothing c-insert.ended (λ M 𝓤 𝓛. c-insert.clauses 𝓛)
c_insert_asks M 𝓤 𝓛 mem run κs a g = refl

pub c_read_asks : AsksNothing c_read.ended (λ M 𝓤 𝓛. c_read.clauses 𝓛)
c_read_asks M 𝓤 𝓛 mem run κs a g = refl

pub c_read_u8_asks : AsksNothing c-read-u8.ended (λ M 𝓤 𝓛. c-read-u8.clauses 𝓛)
c_read_u8_asks M 𝓤 𝓛 mem run κs a g = refl

pub c_read_u16_asks : AsksNothing c-read-u16.ended (λ M 𝓤 𝓛. c-read-u16.clauses 𝓛)
c_read_u16_asks M 𝓤 𝓛 mem run κs a g = refl

pub c_read_u32_asks : AsksNothing c-read-u32.ended (λ M 𝓤 𝓛. c-read-u32.clauses 𝓛)
c_read_u32_asks M 𝓤 𝓛 mem run κs a g = refl

pub c_read_u64_asks : AsksNothing c-read-u64.ended (λ M 𝓤 𝓛. c-read-u64.clauses 𝓛)
c_read_u64_asks M 𝓤 𝓛 mem run κs a g = refl

pub c_find_by_name_asks : AsksNothing c-find-by-name.ended (λ M 𝓤 𝓛. c-find-by-name.clauses 𝓛)
c_find_by_name_asks M 𝓤 𝓛 mem run κs a g = refl

pub c_get_configured_cns_asks : AsksNothing c-get-configured-cns.ended (λ M 𝓤 𝓛. c-get-configured-cns.clauses 𝓛)
c_get_configured_cns_asks M 𝓤 𝓛 mem run κs a g = refl

pub c_increment_counter_asks : AsksNothing c-increment-counter.ended (λ M 𝓤 𝓛. c-increment-counter.clauses 𝓛)
c_increment_counter_asks M 𝓤 𝓛 mem run κs a g = refl

pub c_restore_asks : AsksNothing c-restore.ended (λ M 𝓤 𝓛. c-restore.clauses 𝓛)
c_restore_asks M 𝓤 𝓛 mem run κs a g = refl

pub c_write_asks : AsksNothing c-write.ended (λ M 𝓤 𝓛. c-write.clauses 𝓛)
c_write_asks M 𝓤 𝓛 mem run κs a g = refl

pub c_validate_pdo_mapping_asks : AsksNothing c-validate-pdo-mapping.ended (λ M 𝓤 𝓛. c-validate-pdo-mapping.clauses 𝓛)
c_validate_pdo_mapping_asks M 𝓤 𝓛 mem run κs a g = refl

pub c_check_asks : AsksNothing c-check.ended (λ M 𝓤 𝓛. c-check.clauses 𝓛)
c_check_asks M 𝓤 𝓛 mem run κs a g = refl

pub c_check_all-asks : AsksNothing c-check-all.ended (λ M 𝓤 𝓛. c-check-all.clauses 𝓛)
c_check_all-asks M 𝓤 𝓛 mem run κs a g = refl

pub c_explain_asks : AsksNothing c-explain.ended (λ M 𝓤 𝓛. c-explain.clauses 𝓛)
c_explain_asks M 𝓤 𝓛 mem run κs a g = refl

pub c_consume_asks : AsksNothing c-consume.ended (λ M 𝓤 𝓛. c-consume.clauses 𝓛)
c_consume_asks M 𝓤 𝓛 mem run κs a g = refl

pub c_consume_cycle_asks : AsksNothing c-consume-cycle.ended (λ M 𝓤 𝓛. c-consume-cycle.clauses 𝓛)
c_consume_cycle_asks M 𝓤 𝓛 mem run κs a g = refl

pub c_update_asks : AsksNothing c-update.ended (λ M 𝓤 𝓛. c-update.clauses 𝓛)
c_update_asks M 𝓤 𝓛 mem run κs a g = refl
