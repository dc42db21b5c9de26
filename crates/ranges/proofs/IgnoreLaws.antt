-- No call but a write looks at a range: of a well-formed dictionary and of the same without its ranges each answers and leaves the same.
-- Assumes nothing.
use Rattle.std.specs.Prelude.{Option, Some, None, Ok, Err}
use Prim.Native.Nat.{ℕ, zero, suc, ◌+◌}
use mathlib.Core.Path.{◌≡◌, refl, sym}
use mathlib.Core.Bool.{Bool, true, false, cond}
use mathlib.Core.List.{List}
use lib.ListN.{length, replicate}
use Rattle.answers.specs.declared.Refusal.TheVariants.{TooLong}
use Rattle.entry.specs.Table.{Dict, number_of}
use Rattle.entry.specs.Find.{find_row}
use Rattle.entry.specs.Put.{contents}
use Rattle.entry.specs.Judge.{well_formed}
use Rattle.od.specs.Read.{read_of}
use Rattle.names.specs.Names.{by_name_of}
use Rattle.nodes.specs.Nodes.{cns_of}
use Rattle.counter.specs.Counter.{counter_of}
use Rattle.pdo_validator.specs.Counting.{valid_of}
use Rattle.image.specs.Ranges.{range_of}
use Rattle.commands.specs.Save.{save_of}
use Rattle.fitting.specs.Fit.{rows_fit}
use Rattle.restoring.specs.Restore.{rows_restored, AfterRestore, after_restore, restore_of}
use Rattle.pdo_channel.specs.Channel.{comm_index}
use Rattle.pdo_handler.specs.Consume.{consume_of}
use Rattle.pdo_handler.specs.Errors.{update_of}
use Rattle.pdo_cycle.specs.Payloads.{payloads_in}
use Rattle.pdo_cycle.specs.Cycle.{cycle_of}
use Rattle.event.specs.declared.EventRecord.{EventRecord}
use Rattle.events.specs.Receive.{received_of}
use Rattle.element.specs.Explain.{explain_of}
use Rattle.channel.specs.Check.{check_of}
use Rattle.channel.specs.All.{on_comm, lines_from, check_all_of}
use Rattle.ranges.specs.Alike.{cleared, rowed, rangeless}
use Rattle.entry.proofs.SameLaws.{row_same}
use Rattle.ranges.proofs.AskLaws.{read_same, counter_same, mapping_count-same, name_from_same, nodes_same, marked-same}
use Rattle.ranges.proofs.ConsumeLaws.{received-same, cycle_same}
use Rattle.ranges.proofs.StoreLaws.{offered-same, rows_fit_same, rows_restored-same}
use Rattle.ranges.proofs.CheckLaws.{sender_same, checked_list_same, explained_same}
use Rattle.ranges.proofs.ClearedLaws.{cleared_alike, rangeless_well_formed}

-- ---- reading
pub read_ignores : (d : Dict) → well_formed d ≡ true → (x sub : ℕ) → read_of d x sub ≡ read_of (rangeless d) x sub
unfolding read_of
read_ignores d w x sub = rw w (rw (rangeless_well_formed d w) (read_same (cleared_alike d.objects) d.slots d.words d.bytes x sub))

pub name_ignores : (d : Dict) → well_formed d ≡ true → (name : List ℕ) → by_name_of d name ≡ by_name_of (rangeless d) name
unfolding by_name_of
name_ignores d w name =
    let h = cleared_alike d.objects in
    rw w
    (rw (rangeless_well_formed d w)
    (rw (sym h.rows.number) (rw (name_from_same h d.slots d.words d.bytes name (number_of d.objects) 0) refl)))

pub nodes_ignore : (d : Dict) → well_formed d ≡ true → (out : List ℕ) → cns_of d out ≡ cns_of (rangeless d) out
unfolding cns_of
nodes_ignore d w out =
    rw w (rw (rangeless_well_formed d w) (rw (nodes_same (cleared_alike d.objects) d.slots d.words d.bytes) refl))

-- ---- the counter, the mapping count, error bits
pub counter_ignores : (d : Dict) → well_formed d ≡ true → (x sub : ℕ) → counter_of d x sub ≡ counter_of (rangeless d) x sub
unfolding counter_of
counter_ignores d w x sub =
    rw w (rw (rangeless_well_formed d w) (rw (counter_same (cleared_alike d.objects) d.slots d.words d.bytes x sub) refl))

pub mapping_count_ignores : (d : Dict) → well_formed d ≡ true → (x n : ℕ) → valid_of d x n ≡ valid_of (rangeless d) x n
unfolding valid_of
mapping_count_ignores d w x n =
    rw w (rw (rangeless_well_formed d w) (mapping_count-same (cleared_alike d.objects) d.slots d.words d.bytes x n))

pub bits_ignore : (d : Dict) → well_formed d ≡ true → (x n : ℕ) → update_of d x n ≡ update_of (rangeless d) x n
unfolding update_of
bits_ignore d w x n =
    rw w (rw (rangeless_well_formed d w) (rw (marked-same (cleared_alike d.objects) d.slots d.words d.bytes x n) refl))

-- ---- payloads and cycles
pub consume_ignores : (d : Dict) → well_formed d ≡ true → (payload : List ℕ) (sender version : ℕ) (ready : Bool) (room : ℕ) (log : List ℕ)
    → consume_of d payload sender version ready room log ≡ consume_of (rangeless d) payload sender version ready room log
unfolding consume_of
consume_ignores d w payload sender version ready room log =
    rw w
    (rw (rangeless_well_formed d w)
    (rw (received-same (cleared_alike d.objects) d.slots payload sender 0 (contents d.words d.bytes) version ready) refl))

pub cycle_ignores : (d : Dict) → well_formed d ≡ true → (delivered ps log : List ℕ) → cycle_of d delivered ps log ≡ cycle_of (rangeless d) delivered ps log
unfolding cycle_of
cycle_ignores d w delivered ps log =
    rw w
    (rw (rangeless_well_formed d w)
    (rw (cycle_same (cleared_alike d.objects) d.slots delivered ps (payloads_in ps) 0 (contents d.words d.bytes) (length log)) refl))

pub received_ignores : (d : Dict) → well_formed d ≡ true → (payload : List ℕ) (sender version : ℕ) (ready : Bool) (es : List EventRecord)
    → received_of d payload sender version ready es ≡ received_of (rangeless d) payload sender version ready es
unfolding received_of
received_ignores d w payload sender version ready es =
    rw (consume_ignores d w payload sender version ready (length es) (replicate 254 0))
    (rw (received-same (cleared_alike d.objects) d.slots payload sender 0 (contents d.words d.bytes) version ready) refl)

-- ---- save and restore, of which the latter keeps the rows as they are, with their ranges
pub save_ignores : (d : Dict) (store : List ℕ) (l : ℕ) → save_of d store l ≡ save_of (rangeless d) store l
unfolding save_of
save_ignores d store l =
    rw (offered-same (cleared_alike d.objects) d.slots d.words d.bytes (range_of l).start (range_of l).end) refl

either_way : (q : Bool) (x y x' y' : AfterRestore) (b : List ℕ) → (x.answer ≡ x'.answer) × (rowed x.memory b ≡ x'.memory) → (y.answer ≡ y'.answer) × (rowed y.memory b ≡ y'.memory)
    → ((cond q x y).answer ≡ (cond q x' y').answer) × (rowed (cond q x y).memory b ≡ (cond q x' y').memory)
either_way true x y x' y' b h k = h
either_way false x y x' y' b h k = k

pub restore_ignores : (d : Dict) → well_formed d ≡ true → (s : List ℕ) (first last : ℕ)
    → ((restore_of d s first last).answer ≡ (restore_of (rangeless d) s first last).answer) × (rowed (restore_of d s first last).memory (cleared 0 d.objects) ≡ (restore_of (rangeless d) s first last).memory)
unfolding restore_of
restore_ignores d w s first last =
    let b = cleared 0 d.objects in
    let h = cleared_alike d.objects in
    let n = number_of d.objects in
    rw w
    (rw (rangeless_well_formed d w)
    (rw (sym h.rows.number)
    (rw (rows_fit_same d b h s first last n 0)
    (either_way (rows_fit (rangeless d) s first last n 0) (after_restore (Ok tt) (rows_restored d s first last n 0)) (after_restore (Err TooLong) d) (after_restore (Ok tt) (rows_restored (rangeless d) s first last n 0)) (after_restore (Err TooLong) (rangeless d)) b (refl, rows_restored-same d b h s first last n 0) (refl, refl)))))

-- ---- the check
pub check_ignores : (d : Dict) → well_formed d ≡ true → (i : ℕ) → check_of d i ≡ check_of (rangeless d) i
unfolding check_of
check_ignores d w i =
    let h = cleared_alike d.objects in
    rw w
    (rw (rangeless_well_formed d w)
    (rw (sender_same h d.slots d.words d.bytes i) (rw (checked_list_same h d.slots d.words d.bytes (0x1600 + i)) refl)))

line_ignores : (d : Dict) → well_formed d ≡ true → (i : ℕ) (rest : List ℕ) (f : Option ℕ) → on_comm d i rest f ≡ on_comm (rangeless d) i rest f
line_ignores d w i rest (Some r) = rw (check_ignores d w i) refl
line_ignores d w i rest None = refl

lines_ignore : (d : Dict) → well_formed d ≡ true → (n i : ℕ) → lines_from d n i ≡ lines_from (rangeless d) n i
unfolding lines_from
lines_ignore d w zero i = refl
lines_ignore d w (suc n) i =
    rw (row_same (cleared_alike d.objects).rows (comm_index i))
    (rw (lines_ignore d w n (i + 1)) (line_ignores d w i (lines_from (rangeless d) n (i + 1)) (find_row (cleared 0 d.objects) (comm_index i))))

pub check_all_ignores : (d : Dict) → well_formed d ≡ true → (out : List ℕ) → check_all_of d out ≡ check_all_of (rangeless d) out
unfolding check_all_of
check_all_ignores d w out = rw w (rw (rangeless_well_formed d w) (rw (lines_ignore d w 256 0) refl))

pub explain_ignores : (d : Dict) → well_formed d ≡ true → (i k : ℕ) → explain_of d i k ≡ explain_of (rangeless d) i k
unfolding explain_of
explain_ignores d w i k =
    rw w (rw (rangeless_well_formed d w) (explained_same (cleared_alike d.objects) d.slots d.words d.bytes k (0x1600 + i)))
