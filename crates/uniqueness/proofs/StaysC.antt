-- The same of each call for C: where its answer is a refusal's number. Assumes nothing.
use mathlib.Core.List.{List}
use Prim.Native.Nat.{ℕ}
use mathlib.Core.Path.{sym, ap, ap₂, ◌∙◌}
use Rattle.answers.specs.Numbers.{refusal_number}
use Rattle.entry.specs.Table.{Dict}
use Rattle.c_answers.specs.Answers.{Told, Lent, Written}
use Rattle.c_codec.specs.Codec.{AfterDecode}
use Rattle.c_receiving.specs.Receiving.{Heard}
use Rattle.c_codec.proofs.loomfinch_decode.Reads as c-decode
use Rattle.c_codec.proofs.loomfinch_decode.Kinds as c-decode-kinds
use Rattle.c_codec.proofs.loomfinch_encode.Reads as c-encode
use Rattle.c_codec.proofs.loomfinch_encode.Kinds as c-encode-kinds
use Rattle.c_codec.proofs.loomfinch_from_u64.Reads as c-from-u64
use Rattle.c_codec.proofs.loomfinch_from_u64.Kinds as c-from-u64-kinds
use Rattle.c_dictionary.proofs.loomfinch_new.Reads as c-new
use Rattle.c_dictionary.proofs.loomfinch_new.Kinds as c-new-kinds
use Rattle.c_dictionary.proofs.loomfinch_insert.Reads as c-insert
use Rattle.c_dictionary.proofs.loomfinch_insert.Kinds as c-insert-kinds
use Rattle.c_dictionary.proofs.loomfinch_read.Reads as c_read
use Rattle.c_dictionary.proofs.loomfinch_read.Kinds as c-read-kinds
use Rattle.c_dictionary.proofs.loomfinch_read_u8.Reads as c-read-u8
use Rattle.c_dictionary.proofs.loomfinch_read_u8.Kinds as c-read-u8-kinds
use Rattle.c_dictionary.proofs.loomfinch_read_u16.Reads as c-read-u16
use Rattle.c_dictionary.proofs.loomfinch_read_u16.Kinds as c-read-u16-kinds
use Rattle.c_dictionary.proofs.loomfinch_read_u32.Reads as c-read-u32
use Rattle.c_dictionary.proofs.loomfinch_read_u32.Kinds as c-read-u32-kinds
use Rattle.c_dictionary.proofs.loomfinch_read_u64.Reads as c-read-u64
use Rattle.c_dictionary.proofs.loomfinch_read_u64.Kinds as c-read-u64-kinds
use Rattle.c_dictionary.proofs.loomfinch_find_by_name.Reads as c-find-by-name
use Rattle.c_dictionary.proofs.loomfinch_find_by_name.Kinds as c-find-by_name-kinds
use Rattle.c_dictionary.proofs.loomfinch_get_configured_cns.Reads as c-get-configured-cns
use Rattle.c_dictionary.proofs.loomfinch_get_configured_cns.Kinds as c-get-configured-cns-kinds
use Rattle.c_dictionary.proofs.loomfinch_increment_counter.Reads as c-increment-counter
use Rattle.c_dictionary.proofs.loomfinch_increment_counter.Kinds as c-increment-counter-kinds
use Rattle.c_storing.proofs.loomfinch_restore_power_on_values.Reads as c-restore
use Rattle.c_storing.proofs.loomfinch_restore_power_on_values.Kinds as c-restore-kinds
use Rattle.c_storing.proofs.loomfinch_write.Reads as c-write
use Rattle.c_storing.proofs.loomfinch_write.Kinds as c-write-kinds
use Rattle.c_checking.proofs.loomfinch_check.Reads as c-check
use Rattle.c_checking.proofs.loomfinch_check.Kinds as c-check-kinds
use Rattle.c_checking.proofs.loomfinch_check_all.Reads as c-check-all
use Rattle.c_checking.proofs.loomfinch_check_all.Kinds as c-check-all-kinds
use Rattle.c_checking.proofs.loomfinch_explain.Reads as c-explain
use Rattle.c_checking.proofs.loomfinch_explain.Kinds as c-explain-kinds
use Rattle.c_receiving.proofs.loomfinch_consume_pdo_payload.Reads as c-consume
use Rattle.c_receiving.proofs.loomfinch_consume_pdo_payload.Kinds as c-consume-kinds
use Rattle.c_receiving.proofs.loomfinch_consume_cycle.Reads as c-consume-cycle
use Rattle.c_receiving.proofs.loomfinch_consume_cycle.Kinds as c-consume-cycle-kinds
use Rattle.c_receiving.proofs.loomfinch_update_pdo_error_object.Reads as c-update
use Rattle.c_receiving.proofs.loomfinch_update_pdo_error_object.Kinds as c-update-kinds
use Rattle.uniqueness.specs.Refusing.{SlicesStay, RefusedBy, Stays}
use Rattle.uniqueness.proofs.RefusedC.{c_decode_refused, c_encode_refused, c_from_u64_refused, c-new_refused, c_insert_refused, c_read_refused, c_read_typed_refused, c_find_by_name_refused, c_get_configured_cns_refused, c_increment_counter_refused, c_write_refused, c_restore_refused, c_consume_refused, c_consume_cycle_refused, c_update_refused, c_check_refused, c_check_all_refused, c_explain_refused}

pub c_decode_stays : SlicesStay 4 c-decode-kinds.ps c-decode-kinds.r c-decode.Post (λ κs. RefusedBy refusal_number) (List ℕ) (λ κs a w. w.1.1.0) (λ κs a. a.1.1.0.now)
c_decode_stays κs a z w p r = ap (λ (x : AfterDecode). x.numbers) p ∙ c_decode_refused _ _ _ _ _ r.0 (sym (ap (λ (x : AfterDecode). x.answer) p) ∙ r.1)

pub c_encode_stays : Stays 3 c-encode-kinds.ps c-encode-kinds.r c-encode.Post (λ κs. RefusedBy refusal_number) (λ κs a. (tt, (tt, (tt, (a.1.1.1.0.now, (a.1.1.1.1.0.now, tt))))))
c_encode_stays κs a z w p r = ap (λ (x : Written). (tt, (tt, (tt, (x.out, (x.written, tt)))))) (p ∙ c_encode_refused _ _ _ _ _ r.0 (sym (ap (λ (x : Written). x.answer) p) ∙ r.1))

pub c_from_u64_stays : Stays 1 c-from-u64-kinds.ps c-from-u64-kinds.r c-from-u64.Post (λ κs. RefusedBy refusal_number) (λ κs a. (tt, (a.1.0.now, tt)))
c_from_u64_stays κs a z w p r = ap (λ (x : Lent). (tt, (x.numbers, tt))) (p ∙ c_from_u64_refused _ _ r.0 (sym (ap (λ (x : Lent). x.answer) p) ∙ r.1))

pub c-new_stays : Stays 1 c-new-kinds.ps c-new-kinds.r c-new.Post (λ κs. RefusedBy refusal_number) (λ κs a. (a.0.now, (tt, tt)))
c-new_stays κs a z w p r = ap (λ x. (x, (tt, tt))) (p.1 ∙ c-new_refused _ _ r.0 (sym p.0 ∙ r.1))

pub c_insert_stays : Stays 7 c-insert-kinds.ps c-insert-kinds.r c-insert.Post (λ κs. RefusedBy refusal_number) (λ κs a. (a.0.now, (a.1.0.now, (a.1.1.0.now, (a.1.1.1.0.now, (tt, (tt, (tt, (tt, (tt, (tt, (tt, (tt, (tt, (tt, (tt, tt))))))))))))))))
c_insert_stays κs a z w p r = ap (λ (x : Dict). (x.objects, (x.slots, (x.words, (x.bytes, (tt, (tt, (tt, (tt, (tt, (tt, (tt, (tt, (tt, (tt, (tt, tt)))))))))))))))) (p.1 ∙ c_insert_refused _ _ _ _ _ r.0 (sym p.0 ∙ r.1))

pub c_read_stays : Stays 5 c-read-kinds.ps c-read-kinds.r c_read.Post (λ κs. RefusedBy refusal_number) (λ κs a. (tt, (tt, (tt, (tt, (tt, (tt, (a.1.1.1.1.1.1.0.now, tt))))))))
c_read_stays κs a z w p r = ap (λ (x : Lent). (tt, (tt, (tt, (tt, (tt, (tt, (x.numbers, tt)))))))) (p ∙ c_read_refused _ _ _ _ r.0 (sym (ap (λ (x : Lent). x.answer) p) ∙ r.1))

pub c_read_u8_stays : Stays 5 c-read-u8-kinds.ps c-read-u8-kinds.r c-read-u8.Post (λ κs. RefusedBy refusal_number) (λ κs a. (tt, (tt, (tt, (tt, (tt, (tt, (a.1.1.1.1.1.1.0.now, tt))))))))
c_read_u8_stays κs a z w p r = ap (λ (x : Told). (tt, (tt, (tt, (tt, (tt, (tt, (x.number, tt)))))))) (p ∙ c_read_typed_refused 5 _ _ _ _ r.0 (sym (ap (λ (x : Told). x.answer) p) ∙ r.1))

pub c_read_u16_stays : Stays 5 c-read-u16-kinds.ps c-read-u16-kinds.r c-read-u16.Post (λ κs. RefusedBy refusal_number) (λ κs a. (tt, (tt, (tt, (tt, (tt, (tt, (a.1.1.1.1.1.1.0.now, tt))))))))
c_read_u16_stays κs a z w p r = ap (λ (x : Told). (tt, (tt, (tt, (tt, (tt, (tt, (x.number, tt)))))))) (p ∙ c_read_typed_refused 6 _ _ _ _ r.0 (sym (ap (λ (x : Told). x.answer) p) ∙ r.1))

pub c_read_u32_stays : Stays 5 c-read-u32-kinds.ps c-read-u32-kinds.r c-read-u32.Post (λ κs. RefusedBy refusal_number) (λ κs a. (tt, (tt, (tt, (tt, (tt, (tt, (a.1.1.1.1.1.1.0.now, tt))))))))
c_read_u32_stays κs a z w p r = ap (λ (x : Told). (tt, (tt, (tt, (tt, (tt, (tt, (x.number, tt)))))))) (p ∙ c_read_typed_refused 7 _ _ _ _ r.0 (sym (ap (λ (x : Told). x.answer) p) ∙ r.1))

pub c_read_u64_stays : Stays 5 c-read-u64-kinds.ps c-read-u64-kinds.r c-read-u64.Post (λ κs. RefusedBy refusal_number) (λ κs a. (tt, (tt, (tt, (tt, (tt, (tt, (a.1.1.1.1.1.1.0.now, tt))))))))
c_read_u64_stays κs a z w p r = ap (λ (x : Told). (tt, (tt, (tt, (tt, (tt, (tt, (x.number, tt)))))))) (p ∙ c_read_typed_refused 8 _ _ _ _ r.0 (sym (ap (λ (x : Told). x.answer) p) ∙ r.1))

pub c_find_by_name_stays : Stays 6 c-find-by_name-kinds.ps c-find-by_name-kinds.r c-find-by-name.Post (λ κs. RefusedBy refusal_number) (λ κs a. (tt, (tt, (tt, (tt, (tt, (a.1.1.1.1.1.0.now, tt)))))))
c_find_by_name_stays κs a z w p r = ap (λ (x : Told). (tt, (tt, (tt, (tt, (tt, (x.number, tt))))))) (p ∙ c_find_by_name_refused _ _ _ r.0 (sym (ap (λ (x : Told). x.answer) p) ∙ r.1))

pub c_get_configured_cns_stays : Stays 6 c-get-configured-cns-kinds.ps c-get-configured-cns-kinds.r c-get-configured-cns.Post (λ κs. RefusedBy refusal_number) (λ κs a. (tt, (tt, (tt, (tt, (a.1.1.1.1.0.now, (a.1.1.1.1.1.0.now, tt)))))))
c_get_configured_cns_stays κs a z w p r = ap (λ (x : Written). (tt, (tt, (tt, (tt, (x.out, (x.written, tt))))))) (p ∙ c_get_configured_cns_refused _ _ _ r.0 (sym (ap (λ (x : Written). x.answer) p) ∙ r.1))

pub c_increment_counter_stays : Stays 4 c-increment-counter-kinds.ps c-increment-counter-kinds.r c-increment-counter.Post (λ κs. RefusedBy refusal_number) (λ κs a. (tt, (tt, (a.1.1.0.now, (tt, (tt, (tt, tt)))))))
c_increment_counter_stays κs a z w p r = ap (λ x. (tt, (tt, (x, (tt, (tt, (tt, tt))))))) (p.1 ∙ c_increment_counter_refused _ _ _ r.0 (sym p.0 ∙ r.1))

pub c_write_stays : SlicesStay 8 c-write-kinds.ps c-write-kinds.r c-write.Post (λ κs. RefusedBy refusal_number) (List ℕ × (List ℕ × (List ℕ × List ℕ))) (λ κs a w. (w.0, (w.1.1.0, (w.1.1.1.0, w.1.1.1.1.0)))) (λ κs a. (a.0.now, (a.1.1.0.now, (a.1.1.1.0.now, a.1.1.1.1.0.now))))
c_write_stays κs a z w p r =
    let q = c_write_refused _ _ _ _ _ _ r.0 (sym p.0 ∙ r.1) in
    ap₂ (λ x y. (x, y)) (p.1.0 ∙ q.0) (ap₂ (λ x y. (x, y)) (p.1.1.0 ∙ q.1) (ap₂ (λ x y. (x, y)) (p.1.1.1.0 ∙ q.2) (p.1.1.1.1.0 ∙ q.3)))

pub c_restore_stays : Stays 5 c-restore-kinds.ps c-restore-kinds.r c-restore.Post (λ κs. RefusedBy refusal_number) (λ κs a. (tt, (a.1.0.now, (a.1.1.0.now, (a.1.1.1.0.now, (tt, (tt, (tt, tt))))))))
c_restore_stays κs a z w p r = ap (λ (x : Dict). (tt, (x.slots, (x.words, (x.bytes, (tt, (tt, (tt, tt)))))))) (p.1 ∙ c_restore_refused _ _ _ _ r.0 (sym p.0 ∙ r.1))

pub c_consume_stays : Stays 7 c-consume-kinds.ps c-consume-kinds.r c-consume.Post (λ κs. RefusedBy refusal_number) (λ κs a. (tt, (tt, (a.1.1.0.now, (a.1.1.1.0.now, (tt, (tt, (tt, (tt, (a.1.1.1.1.1.1.1.1.0.now, (a.1.1.1.1.1.1.1.1.1.0.now, tt)))))))))))
c_consume_stays κs a z w p r = ap (λ (x : Heard). (tt, (tt, (x.contents.words, (x.contents.bytes, (tt, (tt, (tt, (tt, (x.events, (x.count, tt))))))))))) (p ∙ c_consume_refused _ _ _ _ _ _ _ r.0 (sym (ap (λ (x : Heard). x.answer) p) ∙ r.1))

pub c_consume_cycle_stays : Stays 9 c-consume-cycle-kinds.ps c-consume-cycle-kinds.r c-consume-cycle.Post (λ κs. RefusedBy refusal_number) (λ κs a. (tt, (tt, (a.1.1.0.now, (a.1.1.1.0.now, (tt, (tt, (a.1.1.1.1.1.1.0.now, (a.1.1.1.1.1.1.1.0.now, (a.1.1.1.1.1.1.1.1.0.now, tt))))))))))
c_consume_cycle_stays κs a z w p r = ap (λ (x : Heard). (tt, (tt, (x.contents.words, (x.contents.bytes, (tt, (tt, (x.events, (x.consumed, (x.count, tt)))))))))) (p ∙ c_consume_cycle_refused _ _ _ _ _ _ r.0 (sym (ap (λ (x : Heard). x.answer) p) ∙ r.1))

pub c_update_stays : Stays 4 c-update-kinds.ps c-update-kinds.r c-update.Post (λ κs. RefusedBy refusal_number) (λ κs a. (tt, (tt, (tt, (a.1.1.1.0.now, (tt, (tt, tt)))))))
c_update_stays κs a z w p r = ap (λ x. (tt, (tt, (tt, (x, (tt, (tt, tt))))))) (p.1 ∙ c_update_refused _ _ _ r.0 (sym p.0 ∙ r.1))

pub c_check_stays : Stays 5 c-check-kinds.ps c-check-kinds.r c-check.Post (λ κs. RefusedBy refusal_number) (λ κs a. (tt, (tt, (tt, (tt, (tt, (a.1.1.1.1.1.0.now, tt)))))))
c_check_stays κs a z w p r = ap (λ (x : Told). (tt, (tt, (tt, (tt, (tt, (x.number, tt))))))) (p ∙ c_check_refused _ _ _ r.0 (sym (ap (λ (x : Told). x.answer) p) ∙ r.1))

pub c_check_all_stays : Stays 6 c-check-all-kinds.ps c-check-all-kinds.r c-check-all.Post (λ κs. RefusedBy refusal_number) (λ κs a. (tt, (tt, (tt, (tt, (a.1.1.1.1.0.now, (a.1.1.1.1.1.0.now, tt)))))))
c_check_all_stays κs a z w p r = ap (λ (x : Written). (tt, (tt, (tt, (tt, (x.out, (x.written, tt))))))) (p ∙ c_check_all_refused _ _ _ r.0 (sym (ap (λ (x : Written). x.answer) p) ∙ r.1))

pub c_explain_stays : Stays 5 c-explain-kinds.ps c-explain-kinds.r c-explain.Post (λ κs. RefusedBy refusal_number) (λ κs a. (tt, (tt, (tt, (tt, (tt, (tt, (a.1.1.1.1.1.1.0.now, tt))))))))
c_explain_stays κs a z w p r = ap (λ (x : Lent). (tt, (tt, (tt, (tt, (tt, (tt, (x.numbers, tt)))))))) (p ∙ c_explain_refused _ _ _ _ r.0 (sym (ap (λ (x : Lent). x.answer) p) ∙ r.1))
