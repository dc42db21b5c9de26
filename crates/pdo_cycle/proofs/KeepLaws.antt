-- A cycle keeps the dictionary well-formed, and each payload's turn is a call of its own. Assumes nothing.
use Rattle.std.specs.Prelude.{Err}
use mathlib.Core.Path.{◌≡◌}
use mathlib.Core.Bool.{Bool, true, false, cond, ◌&&◌}
use mathlib.Core.List.{List, []}
use Prim.Native.Nat.{ℕ, zero, suc, ◌+◌, ◌-◌, ◌≤◌}
use borrow.Author.Tests.{le-ltb}
use lib.Dec.{ltb}
use lib.ListN.{length}
use Rattle.lists.specs.Numbers.{Bytes}
use Rattle.answers.specs.declared.Refusal.TheVariants.{BadValue, PayloadTooLong}
use Rattle.entry.specs.Table.{Dict, dict}
use Rattle.entry.specs.Judge.{well_formed}
use Rattle.entry.specs.Put.{Contents, contents, filled}
use Rattle.pdo_run.specs.Run.{frame, Ran, finished}
use Rattle.pdo_handler.specs.Consume.{received_by, consume_done, consume_of}
use Rattle.pdo_handler.proofs.EventLaws.{relabelled, received-numbered}
use Rattle.pdo_cycle.specs.Payloads.{sender_of, version_of, ready_of, payload_of, payloads_in, are_shaped, are_placed, are_short}
use Rattle.pdo_cycle.specs.Cycle.{Delivery, delivery, received_at, cycled, further, cycle_from, ended, after_cycle, cycle_done, cycle_of}
use Rattle.pdo_cycle.proofs.CycleLaws.{turn_sane}

-- R11.13: "each payload in turn is consumed as by a call of its own", on the contents that the ones before left; its events have its number
pub record OwnCall (v : Delivery) (c : Contents) (i room : ℕ) (log : List ℕ) (r : Ran) : Type 0 where
  pub call : consume_of (dict v.objects v.slots c.words c.bytes) (payload_of v.delivered v.payloads i) (sender_of v.payloads i) (version_of v.payloads i) (ready_of v.payloads i) room log ≡ consume_done (finished r log 0)
  pub turn : received_at v c i ≡ relabelled i r

pub own_call : (v : Delivery) (c : Contents) (i room : ℕ) (log : List ℕ) → well_formed (dict v.objects v.slots c.words c.bytes) ≡ true → 254 ≤ room → length (payload_of v.delivered v.payloads i) ≤ 1490
    → OwnCall v c i room log (received_by (frame v.objects v.slots (payload_of v.delivered v.payloads i) (sender_of v.payloads i) 0) c (version_of v.payloads i) (ready_of v.payloads i))
unfolding consume_of
own_call v c i room log w h l =
    record {
      call = simp (w, le-ltb room 254 h, le-ltb 1490 (length (payload_of v.delivered v.payloads i)) l);
      turn = received-numbered v.objects v.slots (payload_of v.delivered v.payloads i) (sender_of v.payloads i) i c (version_of v.payloads i) (ready_of v.payloads i);
    }

-- ---- a well-formed dictionary of bytes
pub record Sane (v : Delivery) (c : Contents) : Type 0 where
  pub well : well_formed (dict v.objects v.slots c.words c.bytes) ≡ true
  pub bytes : Bytes c.bytes

cycle_sane : (v : Delivery) → Bytes v.delivered → (n i : ℕ) (c : Contents) (room : ℕ) → Sane v c → Sane v (cycle_from v n i c room).contents
unfolding cycle_from
cycle_sane v b zero i c room s = s
cycle_sane v b (suc n) i c room s = go (ltb room 254) (λ t. cycle_sane v b n (i + 1) (received_at v c i).contents (room - length (received_at v c i).events) t)
  where
    r : Ran
    r = received_at v c i

    after_turn : Sane v r.contents
    after_turn = let t = turn_sane v c i s.well b s.bytes in record { well = t.well; bytes = t.bytes }

    go : (x : Bool) → (Sane v r.contents → Sane v (cycle_from v n (i + 1) r.contents (room - length r.events)).contents) → Sane v (cond x (cycled c [] 0) (further r.events (cycle_from v n (i + 1) r.contents (room - length r.events)))).contents
    go true u = s
    go false u = u after_turn

-- ---- the theorem
pub cycle_keeps : (d : Dict) (delivered ps log : List ℕ) → well_formed d ≡ true → Bytes d.bytes → Bytes delivered → well_formed (filled d (cycle_of d delivered ps log).contents) ≡ true
unfolding cycle_of
cycle_keeps d delivered ps log e b bd = rw e (go (are_shaped ps && are_placed (length delivered) ps) (are_short ps))
  where
    v : Delivery
    v = delivery d.objects d.slots delivered ps

    c : Contents
    c = contents d.words d.bytes

    go : (x y : Bool) → well_formed (filled d (cond x (cond y (cycle_done (ended (cycle_from v (payloads_in ps) 0 c (length log)) log 0 0)) (after_cycle (Err PayloadTooLong) c log)) (after_cycle (Err BadValue) c log)).contents) ≡ true
    go true true = (cycle_sane v bd (payloads_in ps) 0 c (length log) (record { well = e; bytes = b })).well
    go true false = e
    go false y = e
