-- A refusal changes nothing, said of the contracts themselves: of each public call that is lent something to change, where its answer is a refusal, all that
-- was lent is as it was. Assumes nothing.
use Rattle.std.specs.Prelude.{Err}
use mathlib.Core.Path.{◌≡◌, sym, ap, ◌∙◌}
use contract.Lifetimes.{Lfts}
use denote.Triple.Entry.{Args, Res}
use denote.Triple.Clauses.{AtExit}
use Rattle.value.specs.Codec as codec
use Rattle.entry.specs.Table.{Dict}
use Rattle.od.specs.New.{Made}
use Rattle.nodes.specs.Nodes.{AfterListing}
use Rattle.counter.specs.Counter.{AfterIncrement}
use Rattle.writing.specs.declared.WriteFault.TheVariants as write-fault
use Rattle.writing.specs.Writing as writing
use Rattle.restoring.specs.Restore as restoring
use Rattle.pdo_handler.specs.Errors as errors
use Rattle.events.specs.declared.Heard.{Heard}
use Rattle.events.specs.Receive.{Received}
use Rattle.pdo_cycle.specs.Cycle as cycle
use Rattle.channel.specs.All as checking
use Rattle.object_value.proofs.encode.Reads as encode
use Rattle.object_value.proofs.encode.Kinds as encode-kinds
use Rattle.od.proofs.new.Reads as new
use Rattle.od.proofs.new.Kinds as new-kinds
use Rattle.insertion.proofs.insert.Reads as insert
use Rattle.insertion.proofs.insert.Kinds as insert-kinds
use Rattle.nodes.proofs.get_configured_cns.Reads as get-configured-cns
use Rattle.nodes.proofs.get_configured_cns.Kinds as get-configured-cns-kinds
use Rattle.counter.proofs.increment_counter.Reads as increment-counter
use Rattle.counter.proofs.increment_counter.Kinds as increment-counter-kinds
use Rattle.writing.proofs.write.Reads as write
use Rattle.writing.proofs.write.Kinds as write-kinds
use Rattle.restoring.proofs.restore_power_on_values.Reads as restore
use Rattle.restoring.proofs.restore_power_on_values.Kinds as restore-kinds
use Rattle.pdo_cycle.proofs.consume_cycle.Reads as consume-cycle
use Rattle.pdo_cycle.proofs.consume_cycle.Kinds as consume-cycle-kinds
use Rattle.pdo_handler.proofs.update_pdo_error_object.Reads as update-pdo-error-object
use Rattle.pdo_handler.proofs.update_pdo_error_object.Kinds as update-pdo-error-object-kinds
use Rattle.channel.proofs.check_all.Reads as check-all
use Rattle.channel.proofs.check_all.Kinds as check-all-kinds
use Rattle.events.specs.contracts.consume_pdo_payload as consume
use Rattle.events.specs.contracts.consume_by_value as by_value
use Rattle.events.proofs.consume_pdo_payload.Reads as consume-reads
use Rattle.events.proofs.consume_pdo_payload.Kinds as consume-kinds
use Rattle.events.proofs.consume_by_value.Reads as by_value-reads
use Rattle.events.proofs.consume_by_value.Kinds as by_value-kinds
use Rattle.uniqueness.specs.Refusing.{RefusedBy, Stays, ClaimStays}
use Rattle.uniqueness.proofs.Walked.{consume_claim, by_value_claim}
use Rattle.uniqueness.proofs.Refused.{encode_refused, new_refused, insert_refused, cns_refused, counter_refused, write_refused, write_no-value_refused, restore_refused, received_refused, cycle_refused, update_refused, check_all_refused}

pub encode_stays : Stays 2 encode-kinds.ps encode-kinds.r encode.Post (λ κs. RefusedBy Err) (λ κs a. (tt, (tt, (a.1.1.0.now, tt))))
encode_stays κs a z w p r = ap (λ (x : codec.AfterEncode). (tt, (tt, (x.out, tt)))) (p ∙ encode_refused _ _ _ _ r.0 (sym (ap (λ (x : codec.AfterEncode). x.answer) p) ∙ r.1))

pub new_stays : Stays 1 new-kinds.ps new-kinds.r new.Post (λ κs. RefusedBy Err) (λ κs a. (a.0.now, (tt, tt)))
new_stays κs a z w p r = ap (λ (x : Made). (x.objects, (tt, tt))) (p ∙ new_refused _ _ r.0 (sym (ap (λ (x : Made). x.answer) p) ∙ r.1))

pub insert_stays : Stays 7 insert-kinds.ps insert-kinds.r insert.Post (λ κs. RefusedBy Err) (λ κs a. (a.0.now, (a.1.0.now, (a.1.1.0.now, (a.1.1.1.0.now, (tt, (tt, (tt, (tt, tt)))))))))
insert_stays κs a z w p r = ap (λ (x : Dict). (x.objects, (x.slots, (x.words, (x.bytes, (tt, (tt, (tt, (tt, tt))))))))) (p.1 ∙ insert_refused _ _ _ _ _ r.0 (sym p.0 ∙ r.1))

pub get_configured_cns_stays : Stays 5 get-configured-cns-kinds.ps get-configured-cns-kinds.r get-configured-cns.Post (λ κs. RefusedBy Err) (λ κs a. (tt, (tt, (tt, (tt, (a.1.1.1.1.0.now, tt))))))
get_configured_cns_stays κs a z w p r = ap (λ (x : AfterListing). (tt, (tt, (tt, (tt, (x.out, tt)))))) (p ∙ cns_refused _ _ r.0 (sym (ap (λ (x : AfterListing). x.answer) p) ∙ r.1))

pub increment_counter_stays : Stays 4 increment-counter-kinds.ps increment-counter-kinds.r increment-counter.Post (λ κs. RefusedBy Err) (λ κs a. (tt, (tt, (a.1.1.0.now, (tt, (tt, (tt, tt)))))))
increment_counter_stays κs a z w p r = ap (λ (x : AfterIncrement). (tt, (tt, (x.words, (tt, (tt, (tt, tt))))))) (p ∙ counter_refused _ _ _ r.0 (sym (ap (λ (x : AfterIncrement). x.answer) p) ∙ r.1))

pub write_stays : Stays 6 write-kinds.ps write-kinds.r write.Post (λ κs. RefusedBy (λ r. Err (write-fault.Refused r))) (λ κs a. (a.0.now, (tt, (a.1.1.0.now, (a.1.1.1.0.now, (a.1.1.1.1.0.now, (tt, (tt, (tt, (tt, tt))))))))))
write_stays κs a z w p r = ap (λ (x : writing.AfterWrite). (x.objects, (tt, (x.words, (x.bytes, (x.store, (tt, (tt, (tt, (tt, tt)))))))))) (p ∙ write_refused _ _ _ _ _ _ r.0 (sym (ap (λ (x : writing.AfterWrite). x.answer) p) ∙ r.1))

pub write_no-value_stays : Stays 6 write-kinds.ps write-kinds.r write.Post (λ κs. RefusedBy (λ f. Err (write-fault.NoValue f))) (λ κs a. (a.0.now, (tt, (a.1.1.0.now, (a.1.1.1.0.now, (a.1.1.1.1.0.now, (tt, (tt, (tt, (tt, tt))))))))))
write_no-value_stays κs a z w p r = ap (λ (x : writing.AfterWrite). (x.objects, (tt, (x.words, (x.bytes, (x.store, (tt, (tt, (tt, (tt, tt)))))))))) (p ∙ write_no-value_refused _ _ _ _ _ _ r.0 (sym (ap (λ (x : writing.AfterWrite). x.answer) p) ∙ r.1))

pub restore_stays : Stays 5 restore-kinds.ps restore-kinds.r restore.Post (λ κs. RefusedBy Err) (λ κs a. (tt, (a.1.0.now, (a.1.1.0.now, (a.1.1.1.0.now, (tt, (tt, (tt, tt))))))))
restore_stays κs a z w p r = ap (λ (x : restoring.AfterRestore). (tt, (x.memory.slots, (x.memory.words, (x.memory.bytes, (tt, (tt, (tt, tt)))))))) (p ∙ restore_refused _ _ _ _ r.0 (sym (ap (λ (x : restoring.AfterRestore). x.answer) p) ∙ r.1))

pub consume_cycle_stays : Stays 7 consume-cycle-kinds.ps consume-cycle-kinds.r consume-cycle.Post (λ κs. RefusedBy Err) (λ κs a. (tt, (tt, (a.1.1.0.now, (a.1.1.1.0.now, (tt, (tt, (a.1.1.1.1.1.1.0.now, tt))))))))
consume_cycle_stays κs a z w p r = ap (λ (x : cycle.AfterCycle). (tt, (tt, (x.contents.words, (x.contents.bytes, (tt, (tt, (x.log, tt)))))))) (p ∙ cycle_refused _ _ _ _ r.0 (sym (ap (λ (x : cycle.AfterCycle). x.answer) p) ∙ r.1))

pub update_pdo_error_object_stays : Stays 4 update-pdo-error-object-kinds.ps update-pdo-error-object-kinds.r update-pdo-error-object.Post (λ κs. RefusedBy Err) (λ κs a. (tt, (tt, (tt, (a.1.1.1.0.now, (tt, (tt, tt)))))))
update_pdo_error_object_stays κs a z w p r = ap (λ (x : errors.AfterUpdate). (tt, (tt, (tt, (x.bytes, (tt, (tt, tt))))))) (p ∙ update_refused _ _ _ r.0 (sym (ap (λ (x : errors.AfterUpdate). x.answer) p) ∙ r.1))

pub check_all_stays : Stays 5 check-all-kinds.ps check-all-kinds.r check-all.Post (λ κs. RefusedBy Err) (λ κs a. (tt, (tt, (tt, (tt, (a.1.1.1.1.0.now, tt))))))
check_all_stays κs a z w p r = ap (λ (x : checking.AfterCheckAll). (tt, (tt, (tt, (tt, (x.out, tt)))))) (p ∙ check_all_refused _ _ r.0 (sym (ap (λ (x : checking.AfterCheckAll). x.answer) p) ∙ r.1))

-- ---- those whose claim is written out in full (Walked.antt), and the same over the plain reading
pub consume_stays : ClaimStays consume.ended consume_claim (λ κs. RefusedBy Err) (λ κs a. (tt, (tt, (a.1.1.0.now, (a.1.1.1.0.now, (tt, (tt, (tt, (tt, (a.1.1.1.1.1.1.1.1.0.now, tt))))))))))
consume_stays κs a z w p r = ap (λ (x : Received). (tt, (tt, (x.contents.words, (x.contents.bytes, (tt, (tt, (tt, (tt, (x.events, tt)))))))))) (p ∙ received_refused _ _ _ _ _ _ r.0 (sym (ap (λ (x : Received). x.answer) p) ∙ r.1))

pub consume_pdo_payload_stays : Stays 6 consume-kinds.ps consume-kinds.r consume-reads.Post (λ κs. RefusedBy Err) (λ κs a. (tt, (tt, (a.1.1.0.now, (a.1.1.1.0.now, (tt, (tt, (tt, (tt, (a.1.1.1.1.1.1.1.1.0.now, tt))))))))))
consume_pdo_payload_stays κs a z w p r = consume_stays κs a z w p r

pub by_value_stays : ClaimStays by_value.ended by_value_claim (λ κs (z : Heard). RefusedBy Err z.answer) (λ κs a. (tt, (tt, (a.1.1.0.now, (a.1.1.1.0.now, (tt, (tt, (tt, (tt, (tt, tt))))))))))
by_value_stays κs a z w p r = ap (λ (x : Received). (tt, (tt, (x.contents.words, (x.contents.bytes, (tt, (tt, (tt, (tt, (tt, tt)))))))))) (p ∙ received_refused _ _ _ _ _ _ r.0 (sym (ap (λ (x : Received). x.answer) p) ∙ r.1))

pub consume_by_value_stays : Stays 5 by_value-kinds.ps by_value-kinds.r by_value-reads.Post (λ κs (z : Heard). RefusedBy Err z.answer) (λ κs a. (tt, (tt, (a.1.1.0.now, (a.1.1.1.0.now, (tt, (tt, (tt, (tt, (tt, tt))))))))))
consume_by_value_stays κs a z w p r = by_value_stays κs a z w p r

-- the records come and go by value: what comes back are those that were given
pub by_value-same : (κs : Lfts (by_value.ended).signature.lifetimes) (a : Args (by_value.ended).signature κs) (z : Res (by_value.ended).signature κs) (e : AtExit by_value.ended κs)
    → by_value_claim κs a z e → RefusedBy Err z.answer → z.events ≡ a.1.1.1.1.1.1.1.1.0
by_value-same κs a z e p r = ap (λ (x : Received). x.events) (p ∙ received_refused _ _ _ _ _ _ r.0 (sym (ap (λ (x : Received). x.answer) p) ∙ r.1))
