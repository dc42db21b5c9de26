-- Demand 3 of a payload's turn in the call `consume_cycle`: right after a pass, and after other calls and other turns. Assumes nothing.
use Rattle.std.specs.Prelude.{Some, Result, Ok, Err}
use Rattle.answers.specs.declared.Refusal.{Refusal}
use Rattle.pdo_cycle.specs.declared.Cycle.{Cycle}
use mathlib.Core.Path.{◌≡◌, refl, sym, ap, ◌∙◌, subst}
use mathlib.Core.Bool.{Bool, true, false, cond, ◌&&◌}
use mathlib.Core.List.{List, [], ◌++◌, append_assoc, append-nil}
use Prim.Native.Nat.{ℕ, zero, suc, ◌+◌, ◌-◌, ◌<◌, ◌≤◌}
use native.Mathlib.Nat.{add-zero}
use native.Mathlib.Omega.{arith}
use borrow.Author.Tests.{le-ltb}
use lib.ListN.{length}
use Rattle.lists.specs.Numbers.{Bytes}
use Rattle.lists.proofs.ListLaws.{over_none}
use Rattle.lists.proofs.NumberLaws.{bytes_take, bytes_drop}
use Rattle.answers.specs.declared.Refusal.TheVariants.{Malformed, BadValue, PayloadTooLong}
use Rattle.entry.specs.Table.{Dict, first_at}
use Rattle.entry.specs.Find.{find_row}
use Rattle.entry.specs.Judge.{well_formed}
use Rattle.entry.specs.Put.{Contents, contents}
use Rattle.pdo_run.specs.Run.{Ran, list_in}
use Rattle.pdo_cycle.specs.Payloads.{start_of, length_of, sender_of, version_of, ready_of, payload_of, payloads_in, are_shaped, are_placed, are_short}
use Rattle.pdo_cycle.specs.Cycle.{Delivery, received_at, cycled, cycle_from, ended, AfterCycle, after_cycle, cycle_done, cycle_of, tallied}
use Rattle.channel.specs.declared.Checked.TheVariants.{Pass}
use Rattle.channel.specs.Check.{check_of}
use Rattle.demand.specs.Demand.{Admitted, Written}
use Rattle.demand.specs.Lasting.{SameWords, Keeps, Call, left_by, AllGiven, AllShaping}
use Rattle.demand.specs.Calls.{contents_from, events_from, delivery_of, met_by, frame_at, Turns, TurnWrites, Taken, Expected, Cycles}
use Rattle.demand.proofs.DemandLaws.{passed}
use Rattle.demand.proofs.LastLaws.{pass_lasts, shaped_keeps}
use Rattle.demand.proofs.CallLaws.{filled_shaped, shaped_trans}
use Rattle.demand.proofs.CycleLaws.{from_turns, turns_sane}
use Rattle.demand.proofs.HoldLaws.{calls_keep, pass_left, shape_held}

-- ---- a cycle that is Done is its turns
same_tally : (a b c d : ℕ) → tallied a b ≡ tallied c d → (a ≡ c) × (b ≡ d)
same_tally a b c d h =
    let part : (Cycle → ℕ) → Result Cycle Refusal → ℕ = λ f. elim [ Ok v ↦ f v | Err r ↦ 0 ] in
    (ap (part (λ (v : Cycle). v.consumed)) h, ap (part (λ (v : Cycle). v.events)) h)

cycle_done_lem : (d : Dict) (delivered ps log : List ℕ) (n m : ℕ) → (cycle_of d delivered ps log).answer ≡ tallied n m
    → cycle_of d delivered ps log ≡ cycle_done (ended (cycle_from (delivery_of d delivered ps) (payloads_in ps) 0 (contents d.words d.bytes) (length log)) log 0 0)
unfolding cycle_of
cycle_done_lem d delivered ps log n m e = go (well_formed d) (are_shaped ps && are_placed (length delivered) ps) (are_short ps) e
  where
    c : Contents
    c = contents d.words d.bytes

    whole : AfterCycle
    whole = cycle_done (ended (cycle_from (delivery_of d delivered ps) (payloads_in ps) 0 c (length log)) log 0 0)

    go : (x y z : Bool) → (cond x (cond y (cond z whole (after_cycle (Err PayloadTooLong) c log)) (after_cycle (Err BadValue) c log)) (after_cycle (Err Malformed) c log)).answer ≡ tallied n m
        → cond x (cond y (cond z whole (after_cycle (Err PayloadTooLong) c log)) (after_cycle (Err BadValue) c log)) (after_cycle (Err Malformed) c log) ≡ whole
    go true true true e = refl
    go true true false e = let z : ◌≡◌ {A = ℕ} 0 1 = cc in absurd (omega arith)
    go true false z e = let z : ◌≡◌ {A = ℕ} 0 1 = cc in absurd (omega arith)
    go false y z e = let z : ◌≡◌ {A = ℕ} 0 1 = cc in absurd (omega arith)

pub turns : (d : Dict) (delivered ps log : List ℕ) (n m : ℕ) → (cycle_of d delivered ps log).answer ≡ tallied n m → Turns d delivered ps log n m
turns d delivered ps log n m e =
    let q = cycle_done_lem d delivered ps log n m e in
    let v = delivery_of d delivered ps in
    let c = contents d.words d.bytes in
    let x = cycle_from v (payloads_in ps) 0 c (length log) in
    let f = from_turns v (payloads_in ps) 0 c (length log) in
    let a = same_tally (0 + x.consumed) (0 + length x.events) n m (sym (ap (λ (y : AfterCycle). y.answer) q) ∙ e) in
    let same : x.consumed ≡ n = omega (arith, a.0) in
    record {
      few = omega (arith, same, f.few);
      leaves = ap (λ (y : AfterCycle). y.contents) q ∙ f.leaves ∙ rw same;
      logged = ap (λ (y : AfterCycle). y.log) q ∙ rw (f.events, same);
      count = let k : length x.events ≡ m = omega (arith, a.1) in sym k ∙ rw (f.events, same);
    }

-- ---- one turn more
contents_more : (v : Delivery) (i n : ℕ) (c : Contents) → contents_from v i (n + 1) c ≡ (received_at v (contents_from v i n c) (i + n)).contents
unfolding contents_from
contents_more v i zero c = rw (add-zero i)
contents_more v i (suc n) c =
    let y : suc n + 1 ≡ suc (n + 1) = omega arith in
    let z : i + suc n ≡ i + 1 + n = omega arith in
    rw (y, z) (contents_more v (i + 1) n (received_at v c i).contents)

events_more : (v : Delivery) (i n : ℕ) (c : Contents) → events_from v i (n + 1) c ≡ events_from v i n c ++ (received_at v (contents_from v i n c) (i + n)).events
unfolding contents_from events_from
events_more v i zero c = rw (add-zero i) (append-nil (received_at v c i).events)
events_more v i (suc n) c =
    let y : suc n + 1 ≡ suc (n + 1) = omega arith in
    let z : i + suc n ≡ i + 1 + n = omega arith in
    let r = received_at v c i in
    rw (y, z)
    (ap (λ es. r.events ++ es) (events_more v (i + 1) n r.contents)
    ∙ sym (append_assoc r.events (events_from v (i + 1) n r.contents) (received_at v (contents_from v (i + 1) n r.contents) (i + 1 + n)).events))

-- what is written in a turn
pub turn_writes : (d : Dict) (delivered ps : List ℕ) (i p : ℕ) (ws : List ℕ)
    → Written (frame_at d delivered ps i) (contents_from (delivery_of d delivered ps) 0 i (contents d.words d.bytes)) (version_of ps i) (ready_of ps i) p ws → TurnWrites d delivered ps i p ws
turn_writes d delivered ps i p ws o =
    let v = delivery_of d delivered ps in
    let c = contents d.words d.bytes in
    let z : 0 + i ≡ i = omega arith in
    record {
      puts = contents_more v 0 i c ∙ rw z (ap (λ (r : Ran). r.contents) o.silent);
      none = ap (λ (r : Ran). r.events) o.silent;
      silent = events_more v 0 i c ∙ rw z (ap (λ (r : Ran). events_from v 0 i c ++ r.events) o.silent) ∙ append-nil (events_from v 0 i c);
      whole = o.whole;
    }

-- ---- a cycle of which no payload tells an event consumes them all
from_silent : (v : Delivery) (n i : ℕ) (c : Contents) (room : ℕ) → 254 ≤ room → ((k : ℕ) → k < n → (received_at v (contents_from v i k c) (i + k)).events ≡ []) → cycle_from v n i c room ≡ cycled (contents_from v i n c) [] n
unfolding cycle_from contents_from
from_silent v zero i c room h e = refl
from_silent v (suc n) i c room h e =
    let none : (received_at v c i).events ≡ [] = rw (add-zero i) at (e 0 (omega arith)) in
    let r = (received_at v c i).contents in
    let y : room - 0 ≡ room = omega arith in
    let z : 1 + n ≡ suc n = omega arith in
    let t = from_silent v n (i + 1) r room h (λ k l. let x : i + suc k ≡ i + 1 + k = omega arith in rw x at (e (suc k) (omega (arith, l)))) in
    rw (le-ltb room 254 h, none, y, t, z)

pub cycle_silent : (d : Dict) (delivered ps log : List ℕ) → well_formed d ≡ true → are_shaped ps ≡ true → are_placed (length delivered) ps ≡ true → are_short ps ≡ true → 254 ≤ length log
    → ((k : ℕ) → k < payloads_in ps → (received_at (delivery_of d delivered ps) (contents_from (delivery_of d delivered ps) 0 k (contents d.words d.bytes)) k).events ≡ [])
    → cycle_of d delivered ps log ≡ after_cycle (tallied (payloads_in ps) 0) (contents_from (delivery_of d delivered ps) 0 (payloads_in ps) (contents d.words d.bytes)) log
unfolding cycle_of
cycle_silent d delivered ps log w s p t h e =
    let v = delivery_of d delivered ps in
    let c = contents d.words d.bytes in
    let x = from_silent v (payloads_in ps) 0 c (length log) h (λ k l. let z : 0 + k ≡ k = omega arith in rw z (e k l)) in
    let z : 0 + payloads_in ps ≡ payloads_in ps = omega arith in
    rw (w, s, p, t, x, over_none log 0, z)

-- ---- the theorem: a check that passed, any calls and turns that kept the channel, and then this turn
module _ (d : Dict) (i : ℕ) (e : check_of d i ≡ Pass) (b : Bytes d.bytes) (cs : List Call) (g : AllGiven cs) (delivered ps : List ℕ) (bd : Bytes delivered) where
  abbrev d' : Dict
  d' = left_by cs d

  -- of each turn, also of one that the call does not come to
  turn_kept : (k : ℕ) → let d'' = met_by d' delivered ps k in Keeps d d'' i → (r : ℕ) → find_row d''.objects (0x1600 + i) ≡ Some r
      → Admitted d'' i r (payload_of delivered ps k) (sender_of ps k) (version_of ps k) (ready_of ps k)
      → TurnWrites d' delivered ps k (first_at d''.objects r) (list_in d''.objects d''.words r)
  turn_kept k keeps r found a =
      let d'' = met_by d' delivered ps k in
      let y = pass_left d i e b cs g in
      let s = turns_sane (delivery_of d' delivered ps) bd 0 k (contents d'.words d'.bytes) (record { well = y.well; bytes = y.bytes }) in
      turn_writes d' delivered ps k (first_at d''.objects r) (list_in d''.objects d''.words r)
      (pass_lasts d d'' i e keeps s.well s.bytes (payload_of delivered ps k) (bytes_take (length_of ps k) _ (bytes_drop (start_of ps k) delivered bd)) (sender_of ps k) (version_of ps k) (ready_of ps k) k r found a)

  pub kept_turn : (log : List ℕ) (n m : ℕ) → (cycle_of d' delivered ps log).answer ≡ tallied n m → (k : ℕ) → k < n → let d'' = met_by d' delivered ps k in Keeps d d'' i → (r : ℕ) → find_row d''.objects (0x1600 + i) ≡ Some r
      → Admitted d'' i r (payload_of delivered ps k) (sender_of ps k) (version_of ps k) (ready_of ps k)
      → Taken d' delivered ps log n m k (first_at d''.objects r) (list_in d''.objects d''.words r)
  kept_turn log n m done k h keeps r found a = record { cycle = turns d' delivered ps log n m done; one = h; writes = turn_kept k keeps r found a }

  -- and, of calls that keep every shape, only the list's words have to be the same when the payload's turn comes
  pub holds-turn : AllShaping cs d → (log : List ℕ) (n m : ℕ) → (cycle_of d' delivered ps log).answer ≡ tallied n m → (k : ℕ) → k < n → let d'' = met_by d' delivered ps k in SameWords d d'' i → (r : ℕ) → find_row d''.objects (0x1600 + i) ≡ Some r
      → Admitted d'' i r (payload_of delivered ps k) (sender_of ps k) (version_of ps k) (ready_of ps k)
      → Taken d' delivered ps log n m k (first_at d''.objects r) (list_in d''.objects d''.words r)
  holds-turn s log n m done k h same =
      let d'' = met_by d' delivered ps k in
      kept_turn log n m done k h (shaped_keeps d d'' i (passed d i e).well (shaped_trans d d' d'' (shape_held d i e b cs g s) (filled_shaped d' _)) same)

-- ---- a cycle whose payloads are all expected
module _ (d : Dict) (w : well_formed d ≡ true) (b : Bytes d.bytes) (cs : List Call) (g : AllGiven cs) (delivered ps : List ℕ) (bd : Bytes delivered) (expected : (k : ℕ) → k < payloads_in ps → Expected d (left_by cs d) delivered ps k) where
  abbrev e' : Dict
  e' = left_by cs d

  turn : (k : ℕ) (h : k < payloads_in ps) → let x = expected k h in TurnWrites e' delivered ps k (first_at e'.objects x.row) (list_in e'.objects (met_by e' delivered ps k).words x.row)
  turn k h = let x = expected k h in turn_kept d x.channel x.passes b cs g delivered ps bd k x.keeps x.row x.found x.admitted

  pub cycle_holds : (log : List ℕ) → are_shaped ps ≡ true → are_placed (length delivered) ps ≡ true → are_short ps ≡ true → 254 ≤ length log → Cycles e' delivered ps log
  cycle_holds log shaped placed short room =
      record {
        is = cycle_silent e' delivered ps log (calls_keep cs d g (record { well = w; bytes = b })).well shaped placed short room (λ k h. (turn k h).none);
        writes = λ k h i r f m.
            let x = expected k h in
            let c : x.channel ≡ i = cc in
            let f' = rw (← c) at f in
            let s : x.row ≡ r = cc in
            subst (λ r. TurnWrites e' delivered ps k (first_at e'.objects r) (list_in e'.objects (met_by e' delivered ps k).words r)) s (turn k h);
      }
