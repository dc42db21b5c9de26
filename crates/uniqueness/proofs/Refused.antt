-- A refusal changes nothing: of each public call that is lent something to change, all that was lent is as it was. Assumes nothing.
use Rattle.std.specs.Prelude.{Result, Ok, Err}
use Rattle.pdo_cycle.specs.declared.Cycle.{Cycle}
use mathlib.Core.Path.{◌≡◌, ap}
use mathlib.Core.Bool.{Bool, true, false, cond, ◌&&◌}
use mathlib.Core.List.{List}
use Prim.Native.Nat.{ℕ}
use native.Mathlib.Omega.{arith}
use lib.Dec.{ltb}
use lib.ListN.{length, replicate}
use Rattle.answers.specs.declared.Refusal.{Refusal}
use Rattle.answers.specs.declared.Refusal.TheVariants as refusal
use Rattle.value.specs.Codec as codec
use Rattle.value.specs.Codec.{sayable, encoding, encode_of}
use Rattle.entry.specs.Table.{Dict, number_of}
use Rattle.entry.specs.Rules.{is_edition}
use Rattle.entry.specs.Judge.{well_formed}
use Rattle.entry.specs.Put.{contents}
use Rattle.given.specs.declared.Head.{Head}
use Rattle.insertion.specs.Insert.{answer_of, memory_of}
use Rattle.od.specs.New.{Made, made, new_of}
use Rattle.nodes.specs.Nodes.{nodes_of, AfterListing, after_listing, cns_of}
use Rattle.counter.specs.Counter as counter
use Rattle.counter.specs.Counter.{counter_of}
use Rattle.commands.specs.Save as commands
use Rattle.commands.specs.Save.{fits, save_of}
use Rattle.image.specs.Image.{new_table}
use Rattle.writing.specs.declared.Act.{Act}
use Rattle.writing.specs.declared.Act.TheVariants.{Put, Accepted, Keep, Save, Restore}
use Rattle.writing.specs.declared.Wrote.{Wrote}
use Rattle.writing.specs.declared.Wrote.TheVariants.{Done, RestoreRequested}
use Rattle.writing.specs.declared.WriteFault.{WriteFault}
use Rattle.writing.specs.declared.WriteFault.TheVariants.{NoValue, Refused}
use Rattle.writing.specs.Judging.{judge_of}
use Rattle.writing.specs.Writing as writing
use Rattle.writing.specs.Writing.{write_of}
use Rattle.fitting.specs.Fit.{rows_fit}
use Rattle.restoring.specs.Restore as restoring
use Rattle.restoring.specs.Restore.{restore_of}
use Rattle.pdo_handler.specs.Consume as consume
use Rattle.pdo_handler.specs.Consume.{consume_of}
use Rattle.pdo_handler.specs.Errors as errors
use Rattle.pdo_handler.specs.Errors.{update_of}
use Rattle.event.specs.declared.EventRecord.{EventRecord}
use Rattle.events.specs.Receive.{Received, received, listed, received_of}
use Rattle.pdo_run.specs.Run.{frame}
use Rattle.pdo_cycle.specs.Payloads.{are_shaped, are_placed, are_short}
use Rattle.pdo_cycle.specs.Cycle as cycle
use Rattle.pdo_cycle.specs.Cycle.{cycle_of, tallied}
use Rattle.channel.specs.All as checking
use Rattle.channel.specs.All.{check_all_of}
use Rattle.uniqueness.specs.Refusing.{Refuses}

either : {R A B : Type 0} (answer : A → B) (said : R → B) (same : B → A) (b : Bool) (x y : A) → Refuses A B answer said same x → Refuses A B answer said same y → Refuses A B answer said same (cond b x y)
either answer said same true x y p q = p
either answer said same false x y p q = q

-- ---- the dictionary
pub new_refused : (edition : ℕ) (objects : List ℕ) → Refuses Made (Result (Unit {0}) Refusal) (λ y. y.answer) Err (λ a. made a objects) (new_of edition objects)
new_refused edition objects =
    join (is_edition edition) _ _
    (join (ltb (length objects) 12) _ _ (λ r e. ap same e) (λ r (e : Ok (tt {0}) ≡ Err r). let z : ◌≡◌ {A = ℕ} 0 1 = cc in absurd (omega arith)))
    (λ r e. ap same e)
  where
    same : Result (Unit {0}) Refusal → Made
    same a = made a objects

    join : (b : Bool) (x y : Made) → Refuses Made (Result (Unit {0}) Refusal) (λ y. y.answer) Err same x → Refuses Made (Result (Unit {0}) Refusal) (λ y. y.answer) Err same y → Refuses Made (Result (Unit {0}) Refusal) (λ y. y.answer) Err same (cond b x y)
    join = either (λ (y : Made). y.answer) Err same

pub insert_refused : (h : Head) (name vals encodings : List ℕ) (d : Dict) (r : Refusal) → answer_of h name vals encodings d ≡ Err r → memory_of h name vals encodings d ≡ d
insert_refused h name vals encodings d r e = rw e

pub counter_refused : (d : Dict) (x sub : ℕ) → Refuses counter.AfterIncrement (Result (Unit {0}) Refusal) (λ y. y.answer) Err (λ a. counter.after_increment a d.words) (counter_of d x sub)
unfolding counter_of
counter_refused d x sub = join (well_formed d) _ _ (λ r (e : Ok (tt {0}) ≡ Err r). let z : ◌≡◌ {A = ℕ} 0 1 = cc in absurd (omega arith)) (λ r e. ap same e)
  where
    same : Result (Unit {0}) Refusal → counter.AfterIncrement
    same a = counter.after_increment a d.words

    join : (b : Bool) (x y : counter.AfterIncrement) → Refuses counter.AfterIncrement (Result (Unit {0}) Refusal) (λ y. y.answer) Err same x → Refuses counter.AfterIncrement (Result (Unit {0}) Refusal) (λ y. y.answer) Err same y → Refuses counter.AfterIncrement (Result (Unit {0}) Refusal) (λ y. y.answer) Err same (cond b x y)
    join = either (λ (y : counter.AfterIncrement). y.answer) Err same

pub update_refused : (d : Dict) (x n : ℕ) → Refuses errors.AfterUpdate (Result (Unit {0}) Refusal) (λ y. y.answer) Err (λ a. errors.after_update a d.bytes) (update_of d x n)
unfolding update_of
update_refused d x n = join (well_formed d) _ _ (λ r (e : Ok (tt {0}) ≡ Err r). let z : ◌≡◌ {A = ℕ} 0 1 = cc in absurd (omega arith)) (λ r e. ap same e)
  where
    same : Result (Unit {0}) Refusal → errors.AfterUpdate
    same a = errors.after_update a d.bytes

    join : (b : Bool) (x y : errors.AfterUpdate) → Refuses errors.AfterUpdate (Result (Unit {0}) Refusal) (λ y. y.answer) Err same x → Refuses errors.AfterUpdate (Result (Unit {0}) Refusal) (λ y. y.answer) Err same y → Refuses errors.AfterUpdate (Result (Unit {0}) Refusal) (λ y. y.answer) Err same (cond b x y)
    join = either (λ (y : errors.AfterUpdate). y.answer) Err same

pub cns_refused : (d : Dict) (out : List ℕ) → Refuses AfterListing (Result ℕ Refusal) (λ y. y.answer) Err (λ a. after_listing a out) (cns_of d out)
unfolding cns_of
cns_refused d out = join (well_formed d) _ _ (join (ltb (length out) (length (nodes_of d))) _ _ (λ r e. ap same e) (λ r (e : Ok (length (nodes_of d)) ≡ Err r). let z : ◌≡◌ {A = ℕ} 0 1 = cc in absurd (omega arith))) (λ r e. ap same e)
  where
    same : Result ℕ Refusal → AfterListing
    same a = after_listing a out

    join : (b : Bool) (x y : AfterListing) → Refuses AfterListing (Result ℕ Refusal) (λ y. y.answer) Err same x → Refuses AfterListing (Result ℕ Refusal) (λ y. y.answer) Err same y → Refuses AfterListing (Result ℕ Refusal) (λ y. y.answer) Err same (cond b x y)
    join = either (λ (y : AfterListing). y.answer) Err same

-- ---- writing and restoring
pub write_faulty : (d : Dict) (store : List ℕ) (x sub t : ℕ) (s : List ℕ) → Refuses writing.AfterWrite (Result Wrote WriteFault) (λ y. y.answer) Err (λ a. writing.after_write a d.objects d.words d.bytes store) (write_of d store x sub t s)
unfolding write_of writing.write_act_of save_of
write_faulty d store x sub t s = join (well_formed d) _ _ (act (judge_of d (length store) x sub t s)) (λ f e. ap same e)
  where
    same : Result Wrote WriteFault → writing.AfterWrite
    same a = writing.after_write a d.objects d.words d.bytes store

    join : (b : Bool) (x y : writing.AfterWrite) → Refuses writing.AfterWrite (Result Wrote WriteFault) (λ y. y.answer) Err same x → Refuses writing.AfterWrite (Result Wrote WriteFault) (λ y. y.answer) Err same y → Refuses writing.AfterWrite (Result Wrote WriteFault) (λ y. y.answer) Err same (cond b x y)
    join = either (λ (y : writing.AfterWrite). y.answer) Err same

    saving : (b : Bool) (st : List ℕ) → Refuses writing.AfterWrite (Result Wrote WriteFault) (λ y. y.answer) Err same (let y = cond b (commands.after_save (Ok tt) st) (commands.after_save (Err refusal.StoreFull) store) in writing.after_write (writing.saved_as y.answer) d.objects d.words d.bytes y.store)
    saving true st = (λ f (e : ◌≡◌ {A = Result Wrote WriteFault} (Ok Done) (Err f)). let z : ◌≡◌ {A = ℕ} 0 1 = cc in absurd (omega arith))
    saving false st = λ f e. ap same e

    act : (j : Result Act WriteFault) → Refuses writing.AfterWrite (Result Wrote WriteFault) (λ y. y.answer) Err same (writing.write_act_of d store sub s j)
    act (Ok (Put p)) = (λ f (e : ◌≡◌ {A = Result Wrote WriteFault} (Ok Done) (Err f)). let z : ◌≡◌ {A = ℕ} 0 1 = cc in absurd (omega arith))
    act (Ok Accepted) = (λ f (e : ◌≡◌ {A = Result Wrote WriteFault} (Ok Done) (Err f)). let z : ◌≡◌ {A = ℕ} 0 1 = cc in absurd (omega arith))
    act (Ok (Keep i n)) = (λ f (e : ◌≡◌ {A = Result Wrote WriteFault} (Ok Done) (Err f)). let z : ◌≡◌ {A = ℕ} 0 1 = cc in absurd (omega arith))
    act (Ok Save) = saving (fits (new_table d sub store) store) _
    act (Ok Restore) = (λ f (e : ◌≡◌ {A = Result Wrote WriteFault} (Ok RestoreRequested) (Err f)). let z : ◌≡◌ {A = ℕ} 0 1 = cc in absurd (omega arith))
    act (Err g) = λ f e. ap same e

pub write_refused : (d : Dict) (store : List ℕ) (x sub t : ℕ) (s : List ℕ) → Refuses writing.AfterWrite (Result Wrote WriteFault) (λ y. y.answer) (λ r. Err (Refused r)) (λ a. writing.after_write a d.objects d.words d.bytes store) (write_of d store x sub t s)
write_refused d store x sub t s r = write_faulty d store x sub t s (Refused r)

pub write_no-value_refused : (d : Dict) (store : List ℕ) (x sub t : ℕ) (s : List ℕ) → Refuses writing.AfterWrite (Result Wrote WriteFault) (λ y. y.answer) (λ f. Err (NoValue f)) (λ a. writing.after_write a d.objects d.words d.bytes store) (write_of d store x sub t s)
write_no-value_refused d store x sub t s f = write_faulty d store x sub t s (NoValue f)

pub restore_refused : (d : Dict) (s : List ℕ) (first last : ℕ) → Refuses restoring.AfterRestore (Result (Unit {0}) Refusal) (λ y. y.answer) Err (λ a. restoring.after_restore a d) (restore_of d s first last)
unfolding restore_of
restore_refused d s first last = join (well_formed d) _ _ (join (rows_fit d s first last (number_of d.objects) 0) _ _ (λ r (e : Ok (tt {0}) ≡ Err r). let z : ◌≡◌ {A = ℕ} 0 1 = cc in absurd (omega arith)) (λ r e. ap same e)) (λ r e. ap same e)
  where
    same : Result (Unit {0}) Refusal → restoring.AfterRestore
    same a = restoring.after_restore a d

    join : (b : Bool) (x y : restoring.AfterRestore) → Refuses restoring.AfterRestore (Result (Unit {0}) Refusal) (λ y. y.answer) Err same x → Refuses restoring.AfterRestore (Result (Unit {0}) Refusal) (λ y. y.answer) Err same y → Refuses restoring.AfterRestore (Result (Unit {0}) Refusal) (λ y. y.answer) Err same (cond b x y)
    join = either (λ (y : restoring.AfterRestore). y.answer) Err same

-- ---- consuming
pub consume_refused : (d : Dict) (payload : List ℕ) (sender version : ℕ) (ready : Bool) (room : ℕ) (log : List ℕ) → Refuses consume.AfterConsume (Result ℕ Refusal) (λ y. y.answer) Err (λ a. consume.after_consume a (contents d.words d.bytes) log) (consume_of d payload sender version ready room log)
unfolding consume_of
consume_refused d payload sender version ready room log = join (well_formed d) _ _ (join (ltb room 254) _ _ (λ r e. ap same e) (join (ltb 1490 (length payload)) _ _ (λ r e. ap same e) (λ r e. done e))) (λ r e. ap same e)
  where
    same : Result ℕ Refusal → consume.AfterConsume
    same a = consume.after_consume a (contents d.words d.bytes) log

    join : (b : Bool) (x y : consume.AfterConsume) → Refuses consume.AfterConsume (Result ℕ Refusal) (λ y. y.answer) Err same x → Refuses consume.AfterConsume (Result ℕ Refusal) (λ y. y.answer) Err same y → Refuses consume.AfterConsume (Result ℕ Refusal) (λ y. y.answer) Err same (cond b x y)
    join = either (λ (y : consume.AfterConsume). y.answer) Err same

    done : {A : Type 0} {n : ℕ} {r : Refusal} → Ok n ≡ Err r → A
    done e = let z : ◌≡◌ {A = ℕ} 0 1 = cc in absurd (omega arith)

pub received_refused : (d : Dict) (payload : List ℕ) (sender version : ℕ) (ready : Bool) (es : List EventRecord)
    → Refuses Received (Result ℕ Refusal) (λ y. y.answer) Err (λ a. received a (contents d.words d.bytes) es) (received_of d payload sender version ready es)
unfolding received_of
received_refused d payload sender version ready es r e = ap (λ (a : consume.AfterConsume). listed a (consume.received_by (frame d.objects d.slots payload sender 0) (contents d.words d.bytes) version ready).events es) (consume_refused d payload sender version ready (length es) (replicate 254 0) r e)

pub cycle_refused : (d : Dict) (delivered ps log : List ℕ) → Refuses cycle.AfterCycle (Result Cycle Refusal) (λ y. y.answer) Err (λ a. cycle.after_cycle a (contents d.words d.bytes) log) (cycle_of d delivered ps log)
unfolding cycle_of
cycle_refused d delivered ps log = join (well_formed d) _ _ (join (are_shaped ps && are_placed (length delivered) ps) _ _ (join (are_short ps) _ _ (λ r e. done e) (λ r e. ap same e)) (λ r e. ap same e)) (λ r e. ap same e)
  where
    same : Result Cycle Refusal → cycle.AfterCycle
    same a = cycle.after_cycle a (contents d.words d.bytes) log

    join : (b : Bool) (x y : cycle.AfterCycle) → Refuses cycle.AfterCycle (Result Cycle Refusal) (λ y. y.answer) Err same x → Refuses cycle.AfterCycle (Result Cycle Refusal) (λ y. y.answer) Err same y → Refuses cycle.AfterCycle (Result Cycle Refusal) (λ y. y.answer) Err same (cond b x y)
    join = either (λ (y : cycle.AfterCycle). y.answer) Err same

    done : {A : Type 0} {n m : ℕ} {r : Refusal} → tallied n m ≡ Err r → A
    done e = let z : ◌≡◌ {A = ℕ} 0 1 = cc in absurd (omega arith)

-- ---- what is only laid into a lent list
pub check_all_refused : (d : Dict) (out : List ℕ) → Refuses checking.AfterCheckAll (Result ℕ Refusal) (λ y. y.answer) Err (λ a. checking.after_check_all a out) (check_all_of d out)
unfolding check_all_of
check_all_refused d out = join (well_formed d) _ _ (join (ltb (length out) 768) _ _ (λ r e. ap same e) (λ r e. done e)) (λ r e. ap same e)
  where
    same : Result ℕ Refusal → checking.AfterCheckAll
    same a = checking.after_check_all a out

    join : (b : Bool) (x y : checking.AfterCheckAll) → Refuses checking.AfterCheckAll (Result ℕ Refusal) (λ y. y.answer) Err same x → Refuses checking.AfterCheckAll (Result ℕ Refusal) (λ y. y.answer) Err same y → Refuses checking.AfterCheckAll (Result ℕ Refusal) (λ y. y.answer) Err same (cond b x y)
    join = either (λ (y : checking.AfterCheckAll). y.answer) Err same

    done : {A : Type 0} {n : ℕ} {r : Refusal} → Ok n ≡ Err r → A
    done e = let z : ◌≡◌ {A = ℕ} 0 1 = cc in absurd (omega arith)

pub encode_refused : (t w : ℕ) (part out : List ℕ) → Refuses codec.AfterEncode (Result ℕ Refusal) (λ y. y.answer) Err (λ a. codec.after_encode a out) (encode_of t w part out)
unfolding encode_of
encode_refused t w part out = join (sayable t w part) _ _ (join (ltb (length out) (length (encoding t w part))) _ _ (λ r e. ap same e) (λ r e. done e)) (λ r e. ap same e)
  where
    same : Result ℕ Refusal → codec.AfterEncode
    same a = codec.after_encode a out

    join : (b : Bool) (x y : codec.AfterEncode) → Refuses codec.AfterEncode (Result ℕ Refusal) (λ y. y.answer) Err same x → Refuses codec.AfterEncode (Result ℕ Refusal) (λ y. y.answer) Err same y → Refuses codec.AfterEncode (Result ℕ Refusal) (λ y. y.answer) Err same (cond b x y)
    join = either (λ (y : codec.AfterEncode). y.answer) Err same

    done : {A : Type 0} {n : ℕ} {r : Refusal} → Ok n ≡ Err r → A
    done e = let z : ◌≡◌ {A = ℕ} 0 1 = cc in absurd (omega arith)
