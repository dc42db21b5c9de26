-- The same of each call for C. Assumes nothing.
use mathlib.Core.List.{List}
use Prim.Native.Nat.{ℕ}
use mathlib.Core.Path.{◌≡◌, refl, ap, ◌∙◌, sym}
use Rattle.entry.specs.Table.{Dict}
use Rattle.c_answers.specs.Answers.{Told, Lent, Written}
use Rattle.c_codec.specs.Codec.{AfterDecode}
use Rattle.c_receiving.specs.Receiving.{Heard}
use Rattle.uniqueness.specs.Promises.{Unique}
use Rattle.uniqueness.proofs.Unique.{both}
use Rattle.c_codec.proofs.loomfinch_decode.Reads as c-decode
use Rattle.c_codec.proofs.loomfinch_decode.Kinds as c-decode-kinds
use Rattle.c_codec.proofs.loomfinch_encode.Reads as c-encode
use Rattle.c_codec.proofs.loomfinch_encode.Kinds as c-encode-kinds
use Rattle.c_codec.proofs.loomfinch_from_u64.Reads as c-from-u64
use Rattle.c_codec.proofs.loomfinch_from_u64.Kinds as c-from-u64-kinds
use Rattle.c_codec.proofs.loomfinch_to_u64.Reads as c-to-u64
use Rattle.c_codec.proofs.loomfinch_to_u64.Kinds as c-to-u64-kinds
use Rattle.c_dictionary.proofs.loomfinch_new.Reads as c-new
use Rattle.c_dictionary.proofs.loomfinch_new.Kinds as c-new-kinds
use Rattle.c_dictionary.proofs.loomfinch_insert.Reads as c-insert
use Rattle.c_dictionary.proofs.loomfinch_insert.Kinds as c-insert-kinds
use Rattle.c_dictionary.proofs.loomfinch_read.Reads as c_read
use Rattle.c_dictionary.proofs.loomfinch_read.Kinds as c-read-kinds
use Rattle.c_dictionary.proofs.loomfinch_read_u8.Reads as c-read-u8
use Rattle.c_dictionary.proofs.loomfinch_read_u8.Kinds as c-read-u8-kinds
use Rattle.c_dictionary.proofs.loomfinch_read_u16.Reads as c-read-u16
use Rattle.c_dictionary.proofs.loomfinch_read_u16.Kinds as c-read-u16-kinds
use Rattle.c_dictionary.proofs.loomfinch_read_u32.Reads as c-read-u32
use Rattle.c_dictionary.proofs.loomfinch_read_u32.Kinds as c-read-u32-kinds
use Rattle.c_dictionary.proofs.loomfinch_read_u64.Reads as c-read-u64
use Rattle.c_dictionary.proofs.loomfinch_read_u64.Kinds as c-read-u64-kinds
use Rattle.c_dictionary.proofs.loomfinch_find_by_name.Reads as c-find-by-name
use Rattle.c_dictionary.proofs.loomfinch_find_by_name.Kinds as c-find-by_name-kinds
use Rattle.c_dictionary.proofs.loomfinch_get_configured_cns.Reads as c-get-configured-cns
use Rattle.c_dictionary.proofs.loomfinch_get_configured_cns.Kinds as c-get-configured-cns-kinds
use Rattle.c_dictionary.proofs.loomfinch_increment_counter.Reads as c-increment-counter
use Rattle.c_dictionary.proofs.loomfinch_increment_counter.Kinds as c-increment-counter-kinds
use Rattle.c_storing.proofs.loomfinch_restore_power_on_values.Reads as c-restore
use Rattle.c_storing.proofs.loomfinch_restore_power_on_values.Kinds as c-restore-kinds
use Rattle.c_storing.proofs.loomfinch_write.Reads as c-write
use Rattle.c_storing.proofs.loomfinch_write.Kinds as c-write-kinds
use Rattle.c_storing.proofs.loomfinch_validate_pdo_mapping.Reads as c-validate-pdo-mapping
use Rattle.c_storing.proofs.loomfinch_validate_pdo_mapping.Kinds as c-validate-pdo-mapping-kinds
use Rattle.c_checking.proofs.loomfinch_check.Reads as c-check
use Rattle.c_checking.proofs.loomfinch_check.Kinds as c-check-kinds
use Rattle.c_checking.proofs.loomfinch_check_all.Reads as c-check-all
use Rattle.c_checking.proofs.loomfinch_check_all.Kinds as c-check-all-kinds
use Rattle.c_checking.proofs.loomfinch_explain.Reads as c-explain
use Rattle.c_checking.proofs.loomfinch_explain.Kinds as c-explain-kinds
use Rattle.c_receiving.proofs.loomfinch_consume_pdo_payload.Reads as c-consume
use Rattle.c_receiving.proofs.loomfinch_consume_pdo_payload.Kinds as c-consume-kinds
use Rattle.c_receiving.proofs.loomfinch_consume_cycle.Reads as c-consume-cycle
use Rattle.c_receiving.proofs.loomfinch_consume_cycle.Kinds as c-consume-cycle-kinds
use Rattle.c_receiving.proofs.loomfinch_update_pdo_error_object.Reads as c-update
use Rattle.c_receiving.proofs.loomfinch_update_pdo_error_object.Kinds as c-update-kinds

pub c_decode_unique : Unique 4 c-decode-kinds.ps c-decode-kinds.r c-decode.Post
c_decode_unique κs a z₁ z₂ w₁ w₂ p q = both (λ (x : AfterDecode). x.answer) (λ x. (tt, (tt, (x.numbers, (x.place, (x.had, tt)))))) p q

pub c_encode_unique : Unique 3 c-encode-kinds.ps c-encode-kinds.r c-encode.Post
c_encode_unique κs a z₁ z₂ w₁ w₂ p q = both (λ (x : Written). x.answer) (λ x. (tt, (tt, (tt, (x.out, (x.written, tt)))))) p q

pub c_from_u64_unique : Unique 1 c-from-u64-kinds.ps c-from-u64-kinds.r c-from-u64.Post
c_from_u64_unique κs a z₁ z₂ w₁ w₂ p q = both (λ (x : Lent). x.answer) (λ x. (tt, (x.numbers, tt))) p q

pub c_to_u64_unique : Unique 0 c-to-u64-kinds.ps c-to-u64-kinds.r c-to-u64.Post
c_to_u64_unique κs a z₁ z₂ w₁ w₂ p q = (p ∙ sym q, refl)

pub c-new_unique : Unique 1 c-new-kinds.ps c-new-kinds.r c-new.Post
c-new_unique κs a z₁ z₂ w₁ w₂ p q = (p.0 ∙ sym q.0, ap (λ x. (x, (tt, tt))) (p.1 ∙ sym q.1))

pub c_insert_unique : Unique 7 c-insert-kinds.ps c-insert-kinds.r c-insert.Post
c_insert_unique κs a z₁ z₂ w₁ w₂ p q = (p.0 ∙ sym q.0, ap (λ (x : Dict). (x.objects, (x.slots, (x.words, (x.bytes, (tt, (tt, (tt, (tt, (tt, (tt, (tt, (tt, (tt, (tt, (tt, tt)))))))))))))))) (p.1 ∙ sym q.1))

pub c_read_unique : Unique 5 c-read-kinds.ps c-read-kinds.r c_read.Post
c_read_unique κs a z₁ z₂ w₁ w₂ p q = both (λ (x : Lent). x.answer) (λ x. (tt, (tt, (tt, (tt, (tt, (tt, (x.numbers, tt)))))))) p q

pub c_read_u8_unique : Unique 5 c-read-u8-kinds.ps c-read-u8-kinds.r c-read-u8.Post
c_read_u8_unique κs a z₁ z₂ w₁ w₂ p q = both (λ (x : Told). x.answer) (λ x. (tt, (tt, (tt, (tt, (tt, (tt, (x.number, tt)))))))) p q

pub c_read_u16_unique : Unique 5 c-read-u16-kinds.ps c-read-u16-kinds.r c-read-u16.Post
c_read_u16_unique κs a z₁ z₂ w₁ w₂ p q = both (λ (x : Told). x.answer) (λ x. (tt, (tt, (tt, (tt, (tt, (tt, (x.number, tt)))))))) p q

pub c_read_u32_unique : Unique 5 c-read-u32-kinds.ps c-read-u32-kinds.r c-read-u32.Post
c_read_u32_unique κs a z₁ z₂ w₁ w₂ p q = both (λ (x : Told). x.answer) (λ x. (tt, (tt, (tt, (tt, (tt, (tt, (x.number, tt)))))))) p q

pub c_read_u64_unique : Unique 5 c-read-u64-kinds.ps c-read-u64-kinds.r c-read-u64.Post
c_read_u64_unique κs a z₁ z₂ w₁ w₂ p q = both (λ (x : Told). x.answer) (λ x. (tt, (tt, (tt, (tt, (tt, (tt, (x.number, tt)))))))) p q

pub c_find_by_name_unique : Unique 6 c-find-by_name-kinds.ps c-find-by_name-kinds.r c-find-by-name.Post
c_find_by_name_unique κs a z₁ z₂ w₁ w₂ p q = both (λ (x : Told). x.answer) (λ x. (tt, (tt, (tt, (tt, (tt, (x.number, tt))))))) p q

pub c_get_configured_cns_unique : Unique 6 c-get-configured-cns-kinds.ps c-get-configured-cns-kinds.r c-get-configured-cns.Post
c_get_configured_cns_unique κs a z₁ z₂ w₁ w₂ p q = both (λ (x : Written). x.answer) (λ x. (tt, (tt, (tt, (tt, (x.out, (x.written, tt))))))) p q

pub c_increment_counter_unique : Unique 4 c-increment-counter-kinds.ps c-increment-counter-kinds.r c-increment-counter.Post
c_increment_counter_unique κs a z₁ z₂ w₁ w₂ p q = (p.0 ∙ sym q.0, ap (λ x. (tt, (tt, (x, (tt, (tt, (tt, tt))))))) (p.1 ∙ sym q.1))

six : {o₁ o₂ x₁ x₂ y₁ y₂ z₁ z₂ : List ℕ} {p₁ p₂ h₁ h₂ : ℕ} → o₁ ≡ o₂ → x₁ ≡ x₂ → y₁ ≡ y₂ → z₁ ≡ z₂ → p₁ ≡ p₂ → h₁ ≡ h₂
    → ◌≡◌ {A = List ℕ × (Unit {0} × (List ℕ × (List ℕ × (List ℕ × (Unit {0} × (Unit {0} × (Unit {0} × (Unit {0} × (ℕ × (ℕ × Unit {0}))))))))))}
    (o₁, (tt, (x₁, (y₁, (z₁, (tt, (tt, (tt, (tt, (p₁, (h₁, tt))))))))))) (o₂, (tt, (x₂, (y₂, (z₂, (tt, (tt, (tt, (tt, (p₂, (h₂, tt)))))))))))
six a b c d e f = rw (a, b, c, d, e, f)

pub c_write_unique : Unique 8 c-write-kinds.ps c-write-kinds.r c-write.Post
c_write_unique κs a z₁ z₂ w₁ w₂ p q =
    let objects = p.1.0 ∙ sym q.1.0 in
    let words = p.1.1.0 ∙ sym q.1.1.0 in
    let bytes = p.1.1.1.0 ∙ sym q.1.1.1.0 in
    let store = p.1.1.1.1.0 ∙ sym q.1.1.1.1.0 in
    let place = p.1.1.1.1.1.0 ∙ sym q.1.1.1.1.1.0 in
    let had = p.1.1.1.1.1.1 ∙ sym q.1.1.1.1.1.1 in
    (p.0 ∙ sym q.0, six objects words bytes store place had)

pub c_validate_pdo_mapping_unique : Unique 4 c-validate-pdo-mapping-kinds.ps c-validate-pdo-mapping-kinds.r c-validate-pdo-mapping.Post
c_validate_pdo_mapping_unique κs a z₁ z₂ w₁ w₂ p q = (p ∙ sym q, refl)

pub c_restore_unique : Unique 5 c-restore-kinds.ps c-restore-kinds.r c-restore.Post
c_restore_unique κs a z₁ z₂ w₁ w₂ p q = (p.0 ∙ sym q.0, ap (λ (x : Dict). (tt, (x.slots, (x.words, (x.bytes, (tt, (tt, (tt, tt)))))))) (p.1 ∙ sym q.1))

pub c_consume_unique : Unique 7 c-consume-kinds.ps c-consume-kinds.r c-consume.Post
c_consume_unique κs a z₁ z₂ w₁ w₂ p q =
    both (λ (x : Heard). x.answer) (λ x. (tt, (tt, (x.contents.words, (x.contents.bytes, (tt, (tt, (tt, (tt, (x.events, (x.count, tt))))))))))) p q

pub c_consume_cycle_unique : Unique 9 c-consume-cycle-kinds.ps c-consume-cycle-kinds.r c-consume-cycle.Post
c_consume_cycle_unique κs a z₁ z₂ w₁ w₂ p q =
    both (λ (x : Heard). x.answer) (λ x. (tt, (tt, (x.contents.words, (x.contents.bytes, (tt, (tt, (x.events, (x.consumed, (x.count, tt)))))))))) p q

pub c_update_unique : Unique 4 c-update-kinds.ps c-update-kinds.r c-update.Post
c_update_unique κs a z₁ z₂ w₁ w₂ p q = (p.0 ∙ sym q.0, ap (λ x. (tt, (tt, (tt, (x, (tt, (tt, tt))))))) (p.1 ∙ sym q.1))

pub c_check_unique : Unique 5 c-check-kinds.ps c-check-kinds.r c-check.Post
c_check_unique κs a z₁ z₂ w₁ w₂ p q = both (λ (x : Told). x.answer) (λ x. (tt, (tt, (tt, (tt, (tt, (x.number, tt))))))) p q

pub c_check_all_unique : Unique 6 c-check-all-kinds.ps c-check-all-kinds.r c-check-all.Post
c_check_all_unique κs a z₁ z₂ w₁ w₂ p q = both (λ (x : Written). x.answer) (λ x. (tt, (tt, (tt, (tt, (x.out, (x.written, tt))))))) p q

pub c_explain_unique : Unique 5 c-explain-kinds.ps c-explain-kinds.r c-explain.Post
c_explain_unique κs a z₁ z₂ w₁ w₂ p q = both (λ (x : Lent). x.answer) (λ x. (tt, (tt, (tt, (tt, (tt, (tt, (x.numbers, tt)))))))) p q
