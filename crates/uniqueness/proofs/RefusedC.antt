-- The same of each call for C: where its answer is a refusal's number, all that was lent is as it was. `loomfinch_to_u64` and
-- `loomfinch_validate_pdo_mapping` are lent nothing to change. Assumes nothing.
use Rattle.std.specs.Prelude.{Result, Ok, Err}
use Rattle.pdo_cycle.specs.declared.Cycle.{Cycle}
use Rattle.od.specs.declared.Stored.{Stored}
use mathlib.Core.Logic.{◌≢◌}
use mathlib.Core.Path.{◌≡◌, refl, ap, ◌∙◌}
use mathlib.Core.Bool.{Bool, true, false, cond}
use mathlib.Core.List.{List, [], ◌∷◌}
use Prim.Native.Nat.{ℕ, ◌<◌}
use native.Mathlib.Omega.{arith}
use lib.Dec.{ltb}
use lib.ListN.{length}
use Rattle.lists.specs.Lists.{over}
use Rattle.answers.specs.Numbers.{refusal_number}
use Rattle.answers.specs.declared.Refusal.{Refusal}
use Rattle.answers.specs.declared.Refusal.TheVariants.{Malformed, BadValue, ObjectNotFound, SubObjectNotFound, TypeMismatch, ReadOnly, BadSignature, NoStorage, CountNotWritable, MissingEntries, PdoMapOverrun, BufferTooShort, TooLong, PayloadTooLong, NoEventRoom, Occupied, Full, StoreFull, OutOfRange}
use Rattle.value.specs.declared.ObjectValue.{ObjectValue}
use Rattle.value.specs.declared.DecodeFault.{DecodeFault}
use Rattle.value.specs.declared.DecodeFault.TheVariants.{NoType, Fails}
use Rattle.value.specs.Meaning.{word_of, fields_of}
use Rattle.value.specs.Codec as codec
use Rattle.value.specs.Codec.{decode_of, encode_of}
use Rattle.entry.specs.Table.{Dict}
use Rattle.entry.specs.Put.{Contents, contents}
use Rattle.given.specs.declared.Head.{Head}
use Rattle.insertion.specs.Insert.{answer_of, memory_of}
use Rattle.od.specs.New.{Made, new_of}
use Rattle.od.specs.Read.{read_of, of_type}
use Rattle.names.specs.Names.{by_name_of}
use Rattle.nodes.specs.Nodes.{AfterListing, cns_of}
use Rattle.counter.specs.Counter.{AfterIncrement, counter_of}
use Rattle.writing.specs.declared.Wrote.{Wrote}
use Rattle.writing.specs.declared.Wrote.TheVariants.{Done, RestoreRequested}
use Rattle.writing.specs.declared.WriteFault.{WriteFault}
use Rattle.writing.specs.Writing as writing
use Rattle.writing.specs.Writing.{write_of}
use Rattle.restoring.specs.Restore as restoring
use Rattle.restoring.specs.Restore.{restore_of}
use Rattle.pdo_handler.specs.Consume as consume
use Rattle.pdo_handler.specs.Consume.{consume_of}
use Rattle.pdo_handler.specs.Errors as errors
use Rattle.pdo_handler.specs.Errors.{update_of}
use Rattle.pdo_cycle.specs.Cycle as cycle
use Rattle.pdo_cycle.specs.Cycle.{cycle_of}
use Rattle.element.specs.declared.Fault.{Fault}
use Rattle.element.specs.declared.Fault.TheVariants as fault
use Rattle.element.specs.declared.Explained.{Explained}
use Rattle.element.specs.Explain.{explain_of}
use Rattle.element.specs.Numbers.{fault_number, explained_numbers}
use Rattle.channel.specs.declared.Checked.{Checked}
use Rattle.channel.specs.declared.Checked.TheVariants as checked
use Rattle.channel.specs.Check.{check_of}
use Rattle.channel.specs.All as checking
use Rattle.channel.specs.All.{check_all_of}
use Rattle.c_answers.specs.Answers.{answer_number, Told, told, number_told, Lent, lent, results, Written, wrote, count_wrote}
use Rattle.c_codec.specs.Codec.{value_numbers, decoded_numbers, decode_numbers, encode_numbers, entry_numbers}
use Rattle.c_dictionary.specs.Dictionary.{inserted_number, stored_numbers, read_numbers, typed_told, named_told, node_numbers}
use Rattle.c_storing.specs.Storing.{wrote_number, restored_number}
use Rattle.c_receiving.specs.Receiving.{Heard, heard, consume_numbers, cycle_numbers}
use Rattle.c_checking.specs.Checking.{checked_told, check_all_numbers, explain_numbers}
use Rattle.uniqueness.specs.Refusing.{Refuses}
use Rattle.uniqueness.proofs.Refused.{new_refused, insert_refused, counter_refused, update_refused, cns_refused, write_faulty, restore_refused, consume_refused, cycle_refused, check_all_refused, encode_refused}

-- ---- a refusal's number is no other answer's: neither Done's nor RestoreRequested's, and below those of the check's faults
range : (r : Refusal) → (0 < refusal_number r) × (refusal_number r ≢ 19) × (refusal_number r < 31)
range Malformed = (omega arith, (λ e. omega (arith, e)), omega arith)
range BadValue = (omega arith, (λ e. omega (arith, e)), omega arith)
range ObjectNotFound = (omega arith, (λ e. omega (arith, e)), omega arith)
range SubObjectNotFound = (omega arith, (λ e. omega (arith, e)), omega arith)
range TypeMismatch = (omega arith, (λ e. omega (arith, e)), omega arith)
range ReadOnly = (omega arith, (λ e. omega (arith, e)), omega arith)
range BadSignature = (omega arith, (λ e. omega (arith, e)), omega arith)
range NoStorage = (omega arith, (λ e. omega (arith, e)), omega arith)
range CountNotWritable = (omega arith, (λ e. omega (arith, e)), omega arith)
range MissingEntries = (omega arith, (λ e. omega (arith, e)), omega arith)
range PdoMapOverrun = (omega arith, (λ e. omega (arith, e)), omega arith)
range BufferTooShort = (omega arith, (λ e. omega (arith, e)), omega arith)
range TooLong = (omega arith, (λ e. omega (arith, e)), omega arith)
range PayloadTooLong = (omega arith, (λ e. omega (arith, e)), omega arith)
range NoEventRoom = (omega arith, (λ e. omega (arith, e)), omega arith)
range Occupied = (omega arith, (λ e. omega (arith, e)), omega arith)
range Full = (omega arith, (λ e. omega (arith, e)), omega arith)
range StoreFull = (omega arith, (λ e. omega (arith, e)), omega arith)
range OutOfRange = (omega arith, (λ e. omega (arith, e)), omega arith)

no_refusal : {A : Type 0} (r : Refusal) → 0 ≡ refusal_number r → A
no_refusal r e = absurd (omega (arith, e, (range r).0))

-- ---- what is laid into lent numbers
abbrev RefusedLent : List ℕ → Lent → Type 0
RefusedLent ns = Refuses Lent ℕ (λ y. y.answer) refusal_number (λ a. lent a ns)

abbrev RefusedTold : ℕ → Told → Type 0
RefusedTold m = Refuses Told ℕ (λ y. y.answer) refusal_number (λ a. told a m)

abbrev RefusedWritten : List ℕ → ℕ → Written → Type 0
RefusedWritten out m = Refuses Written ℕ (λ y. y.answer) refusal_number (λ a. wrote a out m)

results_refused : (rs ns : List ℕ) → RefusedLent ns (results rs ns)
results_refused rs ns = go (ltb (length ns) (length rs))
  where
    go : (b : Bool) → RefusedLent ns (cond b (lent (refusal_number BufferTooShort) ns) (lent 0 (over ns 0 rs)))
    go true r e = ap (λ a. lent a ns) e
    go false r e = no_refusal r e

number_told_refused : (a : Result ℕ Refusal) (m : ℕ) → RefusedTold m (number_told a m)
number_told_refused (Ok n) m r e = no_refusal r e
number_told_refused (Err k) m r e = ap (λ a. told a m) e

count_wrote_refused : (a : Result ℕ Refusal) (after out : List ℕ) (m : ℕ) → ((k : Refusal) → a ≡ Err k → after ≡ out) → RefusedWritten out m (count_wrote a after m)
count_wrote_refused (Ok n) after out m same r e = no_refusal r e
count_wrote_refused (Err k) after out m same r e = rw (same k refl) (ap (λ a. wrote a out m) e)

-- ---- values and mapping words
pub c_decode_refused : (t : ℕ) (s ns : List ℕ) (p h : ℕ) (r : Refusal) → (decode_numbers t s ns p h).answer ≡ refusal_number r → (decode_numbers t s ns p h).numbers ≡ ns
unfolding decode_numbers value_numbers
c_decode_refused t s ns p h r e = go (decode_of t s) e
  where
    go : (x : Result ObjectValue DecodeFault) → (decoded_numbers x ns p h).answer ≡ refusal_number r → (decoded_numbers x ns p h).numbers ≡ ns
    go (Ok v) q = ap (λ (y : Lent). y.numbers) (results_refused (word_of v ∷ fields_of v) ns r q)
    go (Err NoType) q = refl
    go (Err (Fails f)) q = refl

pub c_encode_refused : (t w : ℕ) (part out : List ℕ) (m : ℕ) → RefusedWritten out m (encode_numbers t w part out m)
unfolding encode_numbers
c_encode_refused t w part out m =
    let a = encode_of t w part out in count_wrote_refused a.answer a.out out m (λ k q. ap (λ (y : codec.AfterEncode). y.out) (encode_refused t w part out k q))

pub c_from_u64_refused : (word : ℕ) (ns : List ℕ) → RefusedLent ns (results (entry_numbers word) ns)
c_from_u64_refused word ns = results_refused (entry_numbers word) ns

-- ---- the dictionary
refused_answer : (a : Result (Unit {0}) Refusal) (r : Refusal) → answer_number a ≡ refusal_number r → (k : Refusal) × (a ≡ Err k)
refused_answer (Ok _) r e = no_refusal r e
refused_answer (Err k) r e = (k, refl)

pub c-new_refused : (edition : ℕ) (objects : List ℕ) (r : Refusal) → answer_number (new_of edition objects).answer ≡ refusal_number r → (new_of edition objects).objects ≡ objects
c-new_refused edition objects r e = let k = refused_answer (new_of edition objects).answer r e in ap (λ (y : Made). y.objects) (new_refused edition objects k.0 k.1)

pub c_insert_refused : (h : Head) (name vals encodings : List ℕ) (d : Dict) (r : Refusal) → inserted_number (answer_of h name vals encodings d) ≡ refusal_number r → memory_of h name vals encodings d ≡ d
c_insert_refused h name vals encodings d r e = go (answer_of h name vals encodings d) refl e
  where
    go : (a : Result (Unit {0}) Refusal) → answer_of h name vals encodings d ≡ a → inserted_number a ≡ refusal_number r → memory_of h name vals encodings d ≡ d
    go (Ok _) q e = no_refusal r e
    go (Err k) q e = insert_refused h name vals encodings d k q

pub c_read_refused : (d : Dict) (x sub : ℕ) (ns : List ℕ) → RefusedLent ns (read_numbers d x sub ns)
unfolding read_numbers
c_read_refused d x sub ns = go (read_of d x sub)
  where
    go : (a : Result Stored Refusal) → RefusedLent ns (stored_numbers a ns)
    go (Ok v) r e = results_refused (v.value_type ∷ v.word ∷ v.start ∷ []) ns r e
    go (Err k) r e = ap (λ a. lent a ns) e

-- `loomfinch_read_u8`, `_u16`, `_u32` and `_u64`: of type 5, 6, 7 and 8
pub c_read_typed_refused : (t : ℕ) (d : Dict) (x sub m : ℕ) → RefusedTold m (typed_told t d x sub m)
unfolding typed_told
c_read_typed_refused t d x sub m = number_told_refused (of_type t (read_of d x sub)) m

pub c_find_by_name_refused : (d : Dict) (name : List ℕ) (m : ℕ) → RefusedTold m (named_told d name m)
unfolding named_told
c_find_by_name_refused d name m = number_told_refused (by_name_of d name) m

pub c_get_configured_cns_refused : (d : Dict) (out : List ℕ) (m : ℕ) → RefusedWritten out m (node_numbers d out m)
unfolding node_numbers
c_get_configured_cns_refused d out m = let a = cns_of d out in count_wrote_refused a.answer a.out out m (λ k q. ap (λ (y : AfterListing). y.out) (cns_refused d out k q))

pub c_increment_counter_refused : (d : Dict) (x sub : ℕ) (r : Refusal) → answer_number (counter_of d x sub).answer ≡ refusal_number r → (counter_of d x sub).words ≡ d.words
c_increment_counter_refused d x sub r e = let k = refused_answer (counter_of d x sub).answer r e in ap (λ (y : AfterIncrement). y.words) (counter_refused d x sub k.0 k.1)

-- ---- writing and restoring
pub c_write_refused : (d : Dict) (store : List ℕ) (x sub t : ℕ) (s : List ℕ) (r : Refusal) → let y = write_of d store x sub t s in wrote_number y.answer ≡ refusal_number r → (y.objects ≡ d.objects) × (y.words ≡ d.words) × (y.bytes ≡ d.bytes) × (y.store ≡ store)
c_write_refused d store x sub t s r e = go (write_of d store x sub t s).answer refl e
  where
    go : (a : Result Wrote WriteFault) → (write_of d store x sub t s).answer ≡ a → wrote_number a ≡ refusal_number r → ((write_of d store x sub t s).objects ≡ d.objects) × ((write_of d store x sub t s).words ≡ d.words) × ((write_of d store x sub t s).bytes ≡ d.bytes) × ((write_of d store x sub t s).store ≡ store)
    go (Ok Done) q e = no_refusal r e
    go (Ok RestoreRequested) q e = absurd (omega (arith, e, (range r).1))
    go (Err f) q e =
        let h = write_faulty d store x sub t s f q in
        (ap (λ (y : writing.AfterWrite). y.objects) h, ap (λ (y : writing.AfterWrite). y.words) h, ap (λ (y : writing.AfterWrite). y.bytes) h, ap (λ (y : writing.AfterWrite). y.store) h)

pub c_restore_refused : (d : Dict) (s : List ℕ) (first last : ℕ) (r : Refusal) → restored_number (restore_of d s first last).answer ≡ refusal_number r → (restore_of d s first last).memory ≡ d
c_restore_refused d s first last r e = go (restore_of d s first last).answer refl e
  where
    go : (a : Result (Unit {0}) Refusal) → (restore_of d s first last).answer ≡ a → restored_number a ≡ refusal_number r → (restore_of d s first last).memory ≡ d
    go (Ok _) q e = no_refusal r e
    go (Err k) q e = ap (λ (y : restoring.AfterRestore). y.memory) (restore_refused d s first last k q)

-- ---- payloads and error bits
abbrev RefusedHeard : Contents → List ℕ → ℕ → ℕ → Heard → Type 0
RefusedHeard c es i m = Refuses Heard ℕ (λ y. y.answer) refusal_number (λ a. heard a c es i m)

pub c_consume_refused : (d : Dict) (payload : List ℕ) (sender version : ℕ) (ready : Bool) (log : List ℕ) (m : ℕ)
    → RefusedHeard (contents d.words d.bytes) log 0 m (consume_numbers (consume_of d payload sender version ready (length log) log) m)
unfolding consume_numbers
c_consume_refused d payload sender version ready log m r e = go x.answer refl e
  where
    c : Contents
    c = contents d.words d.bytes

    x : consume.AfterConsume
    x = consume_of d payload sender version ready (length log) log

    go : (a : Result ℕ Refusal) → x.answer ≡ a → (consume_numbers (consume.after_consume a c log) m).answer ≡ refusal_number r → consume_numbers x m ≡ heard (refusal_number r) c log 0 m
    go (Ok n) q e = no_refusal r e
    go (Err k) q e = ap (λ (y : consume.AfterConsume). consume_numbers y m) (consume_refused d payload sender version ready (length log) log k q) ∙ ap (λ a. heard a c log 0 m) e

pub c_consume_cycle_refused : (d : Dict) (delivered ps log : List ℕ) (j m : ℕ) → RefusedHeard (contents d.words d.bytes) log j m (cycle_numbers (cycle_of d delivered ps log) j m)
unfolding cycle_numbers
c_consume_cycle_refused d delivered ps log j m r e = go x.answer refl e
  where
    c : Contents
    c = contents d.words d.bytes

    x : cycle.AfterCycle
    x = cycle_of d delivered ps log

    go : (a : Result Cycle Refusal) → x.answer ≡ a → (cycle_numbers (cycle.after_cycle a c log) j m).answer ≡ refusal_number r → cycle_numbers x j m ≡ heard (refusal_number r) c log j m
    go (Ok v) q e = no_refusal r e
    go (Err k) q e = ap (λ (y : cycle.AfterCycle). cycle_numbers y j m) (cycle_refused d delivered ps log k q) ∙ ap (λ a. heard a c log j m) e

pub c_update_refused : (d : Dict) (x n : ℕ) (r : Refusal) → answer_number (update_of d x n).answer ≡ refusal_number r → (update_of d x n).bytes ≡ d.bytes
c_update_refused d x n r e = let k = refused_answer (update_of d x n).answer r e in ap (λ (y : errors.AfterUpdate). y.bytes) (update_refused d x n k.0 k.1)

-- ---- the channel check
no_fault : {A : Type 0} (f : Fault) (r : Refusal) → fault_number f ≡ refusal_number r → A
no_fault fault.NotMapping r e = absurd (omega (arith, e, (range r).2))
no_fault fault.Misaligned r e = absurd (omega (arith, e, (range r).2))
no_fault fault.HandOff r e = absurd (omega (arith, e, (range r).2))
no_fault fault.NoTarget r e = absurd (omega (arith, e, (range r).2))
no_fault fault.CountTarget r e = absurd (omega (arith, e, (range r).2))
no_fault fault.WrongLength r e = absurd (omega (arith, e, (range r).2))

pub c_check_refused : (d : Dict) (i m : ℕ) → RefusedTold m (checked_told (check_of d i) m)
c_check_refused d i m = go (check_of d i)
  where
    go : (a : Checked) → RefusedTold m (checked_told a m)
    go checked.Pass r e = no_refusal r e
    go checked.NoSender r e = absurd (omega (arith, e, (range r).2))
    go checked.NoList r e = absurd (omega (arith, e, (range r).2))
    go (checked.Element k f) r e = no_fault f r e
    go checked.TooFar r e = absurd (omega (arith, e, (range r).2))
    go (checked.Refused k) r e = ap (λ a. told a m) e

pub c_check_all_refused : (d : Dict) (out : List ℕ) (m : ℕ) → RefusedWritten out m (check_all_numbers (check_all_of d out) m)
unfolding check_all_numbers
c_check_all_refused d out m = let a = check_all_of d out in count_wrote_refused a.answer a.out out m (λ k q. ap (λ (y : checking.AfterCheckAll). y.out) (check_all_refused d out k q))

pub c_explain_refused : (d : Dict) (i k : ℕ) (ns : List ℕ) → RefusedLent ns (explain_numbers (explain_of d i k) ns)
unfolding explain_numbers
c_explain_refused d i k ns = go (explain_of d i k)
  where
    go : (a : Result Explained Refusal) → RefusedLent ns (explain_numbers a ns)
    go (Ok v) r e = results_refused (explained_numbers (Ok v)) ns r e
    go (Err q) r e = ap (λ a. lent a ns) e
