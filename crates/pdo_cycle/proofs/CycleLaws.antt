-- One payload's turn in a cycle. Assumes nothing.
use mathlib.Core.Path.{◌≡◌, sym, ap, ap₂, ◌∙◌}
use mathlib.Core.Bool.{true}
use mathlib.Core.List.{List, [], map}
use Prim.Native.Nat.{ℕ, suc, ◌+◌, ◌-◌, ◌<◌, ◌≤◌}
use native.Mathlib.Omega.{arith}
use borrow.Author.Tests.{lt-ltb, le-ltb}
use borrow.Rule.Slice.PartMut.{put_mid}
use lib.ListN.{length, length-append, length-map, take, drop, drop_of_length-le}
use lib.Seq.{drop-drop}
use Rattle.std.proofs.lemmas.List.{length-drop, take_all, append-nil}
use Rattle.lists.specs.Numbers.{Bytes}
use Rattle.lists.specs.Lists.{over}
use Rattle.lists.proofs.ListLaws.{over_none, over-over, length_over}
use Rattle.lists.proofs.NumberLaws.{bytes_take, bytes_drop}
use Rattle.event.specs.declared.EventRecord.{EventRecord}
use Rattle.event.specs.Record.{event_number}
use Rattle.entry.specs.Table.{dict}
use Rattle.entry.specs.Judge.{well_formed}
use Rattle.entry.specs.Put.{Contents}
use Rattle.pdo_run.specs.Run.{frame, Ran, Logged, logged, finished}
use Rattle.pdo_handler.proofs.ConsumeLaws.{Sane, received_sane}
use Rattle.pdo_handler.proofs.EventLaws.{map-append, received_few}
use Rattle.pdo_cycle.specs.Payloads.{start_of, length_of, sender_of, version_of, ready_of, payload_of}
use Rattle.pdo_cycle.specs.Cycle.{Delivery, received_at, Cycled, cycled, further, cycle_from, state_of, ended}

module _ (v : Delivery) (n i : ℕ) (c : Contents) (room : ℕ) where
  abbrev pub onward : Cycled
  onward = cycle_from v (n - i) i c room

  pub cycle_end : n ≤ i → onward ≡ cycled c [] 0
  unfolding cycle_from
  cycle_end h = let z : n - i ≡ 0 = omega arith in rw z

  -- no room for another payload's events
  pub cycle_full : i < n → room < 254 → onward ≡ cycled c [] 0
  unfolding cycle_from
  cycle_full h l = let z : n - i ≡ suc (n - (i + 1)) = omega arith in rw (z, lt-ltb room 254 l)

  pub cycle_turn : i < n → 254 ≤ room → onward ≡ further (received_at v c i).events (cycle_from v (n - (i + 1)) (i + 1) (received_at v c i).contents (room - length (received_at v c i).events))
  unfolding cycle_from
  cycle_turn h l = let z : n - i ≡ suc (n - (i + 1)) = omega arith in rw (z, le-ltb room 254 l)

-- ---- the log
module _ (l : List ℕ) (n i : ℕ) where
  pub ended_none : (c : Contents) → ended (cycled c [] 0) l n i ≡ state_of c l n i
  ended_none c = let y : n + 0 ≡ n = omega arith in let z : i + 0 ≡ i = omega arith in rw (over_none l n, y, z)

  pub ended-further : (es : List EventRecord) (x : Cycled) → n + length es ≤ length l → ended (further es x) l n i ≡ ended x (over l n (map event_number es)) (n + length es) (i + 1)
  ended-further es x h =
      let m = length-map es event_number in
      let y : n + (length es + length x.events) ≡ n + length es + length x.events = omega arith in
      let z : i + (1 + x.consumed) ≡ i + 1 + x.consumed = omega arith in
      rw (map-append event_number es x.events, over-over l n (map event_number es) (n + length es) (map event_number x.events) (omega (arith, m)) (omega (arith, m, h)), length-append es x.events, y, z)

-- ---- what a run leaves in the rest of the log, that was lent, it leaves in the whole
module _ (r : Ran) (l : List ℕ) (n : ℕ) where
  abbrev pub rest : List ℕ
  rest = take (length l - n) (drop n l)

  rest-over : (xs : List ℕ) → put_mid n (length l - n) l (over rest 0 xs) ≡ over l n xs
  unfolding over
  rest-over xs =
      let z : 0 + length xs ≡ length xs = omega arith in
      let y : length (drop n l) ≤ length l - n = omega (arith, length-drop n l) in
      rw (take_all (length l - n) (drop n l) y, drop_of_length-le (drop n l) y, z, drop-drop (length xs) n l, append-nil)

  pub lent : (c : Contents) (new : List ℕ) (k : ℕ) → logged c new k ≡ finished r rest 0 → logged c (put_mid n (length l - n) l new) (n + k) ≡ finished r l n
  lent c new k q =
      let z : n + (0 + length r.events) ≡ n + length r.events = omega arith in
      ap (λ (x : Logged). logged x.contents (put_mid n (length l - n) l x.log) (n + x.count)) q
      ∙ ap₂ (logged r.contents) (rest-over (map event_number r.events)) z

  pub logged_length : n + length r.events ≤ length l → (x : Logged) → x ≡ finished r l n → length x.log ≡ length l
  logged_length h x q = ap (λ (y : Logged). length y.log) q ∙ length_over l n (map event_number r.events) (omega (arith, h, length-map r.events event_number))

-- ---- a payload leaves a well-formed dictionary of bytes, and has at most 254 events
module _ (v : Delivery) (c : Contents) (i : ℕ) (w : well_formed (dict v.objects v.slots c.words c.bytes) ≡ true) where
  pub turn_few : length (received_at v c i).events ≤ 254
  turn_few = received_few (frame v.objects v.slots (payload_of v.delivered v.payloads i) (sender_of v.payloads i) i) c w (version_of v.payloads i) (ready_of v.payloads i)

  pub turn_sane : Bytes v.delivered → Bytes c.bytes → Sane (frame v.objects v.slots (payload_of v.delivered v.payloads i) (sender_of v.payloads i) i) (received_at v c i).contents
  turn_sane d b =
      received_sane (frame v.objects v.slots (payload_of v.delivered v.payloads i) (sender_of v.payloads i) i) (bytes_take (length_of v.payloads i) _ (bytes_drop (start_of v.payloads i) v.delivered d)) c (version_of v.payloads i) (ready_of v.payloads i)
      (record { well = w; bytes = b })

-- ---- the state after a payload is on the way that the state before it was on
pub cycle_start : (v : Delivery) (n : ℕ) (c : Contents) (l : List ℕ) → ended (cycle_from v (n - 0) 0 c (length l - 0)) l 0 0 ≡ ended (cycle_from v n 0 c (length l)) l 0 0
cycle_start v n c l = let y : n - 0 ≡ n = omega arith in let z : length l - 0 ≡ length l = omega arith in rw (y, z)

module _ (v : Delivery) (k i : ℕ) (c : Contents) (l : List ℕ) (n : ℕ) (h : i < k) (room : 254 ≤ length l - n) (few : length (received_at v c i).events ≤ 254) where
  abbrev r : Ran
  r = received_at v c i

  pub turned : (x : Logged) → x ≡ finished r l n → length x.log ≡ length l → ended (cycle_from v (k - (i + 1)) (i + 1) x.contents (length x.log - x.count)) x.log x.count (i + 1) ≡ ended (cycle_from v (k - i) i c (length l - n)) l n i
  turned x q same =
      let z : length l - (n + length r.events) ≡ length l - n - length r.events = omega arith in
      let onward = cycle_from v (k - (i + 1)) (i + 1) r.contents (length l - n - length r.events) in
      ap (λ m. ended (cycle_from v (k - (i + 1)) (i + 1) x.contents (m - x.count)) x.log x.count (i + 1)) same
      ∙ ap (λ (y : Logged). ended (cycle_from v (k - (i + 1)) (i + 1) y.contents (length l - y.count)) y.log y.count (i + 1)) q
      ∙ ap (λ m. ended (cycle_from v (k - (i + 1)) (i + 1) r.contents m) (over l n (map event_number r.events)) (n + length r.events) (i + 1)) z
      ∙ sym (ended-further l n i r.events onward (omega (arith, few, room)))
      ∙ ap (λ y. ended y l n i) (sym (cycle_turn v k i c (length l - n) h room))
