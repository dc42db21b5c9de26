-- Each event of a payload has room in its number. Assumes nothing.
use Rattle.std.specs.Prelude.{Option, Some, None, Result, Ok, Err}
use Rattle.mapping.specs.declared.Field.{Field}
use mathlib.Core.Path.{◌≡◌, refl}
use mathlib.Core.Bool.{Bool, true, false, cond, ◌&&◌}
use mathlib.Core.List.{List, [], ◌∷◌}
use Prim.Native.Nat.{ℕ, ◌+◌, ◌<◌, ◌≤◌}
use native.Mathlib.Omega.{arith}
use lib.Dec.{eqb, ltb}
use lib.ListN.{length, drop, length-take}
use Rattle.value.specs.Codec.{is_text, word_at}
use Rattle.value.specs.Fault.{first_told, second_told}
use Rattle.value.specs.declared.CodecFault.{CodecFault}
use Rattle.value.specs.declared.CodecFault.TheVariants as fault
use Rattle.event.specs.declared.Cause.TheVariants.{Frame as Short}
use Rattle.event.specs.declared.Unwritten.TheVariants.{CountNotWritable, TooLong}
use Rattle.event.specs.declared.Event.{Event}
use Rattle.event.specs.declared.Event.TheVariants.{PayloadShort, Server, Client, WriteRefused}
use Rattle.event.specs.declared.EventRecord.{EventRecord}
use Rattle.event.specs.Record.{detail_of}
use Rattle.mapping.specs.Word.{entry_of, field_of}
use Rattle.mapping.specs.declared.PdoMappingEntry.{PdoMappingEntry}
use Rattle.mapping.proofs.WordLaws.{entry_in_range}
use Rattle.entry.specs.Table.{kind_at, list_count, first_at, type_at, room_at, is_mapping}
use Rattle.entry.specs.Find.{find_row, place_of}
use Rattle.entry.specs.Judge.{well_formed}
use Rattle.entry.specs.Put.{Contents}
use Rattle.entry.specs.declared.Place.{Place}
use Rattle.entry.specs.declared.Place.TheVariants.{Count, Value}
use Rattle.entry.specs.declared.Missing.{Missing}
use Rattle.entry.proofs.ValueLaws.{found_lies, list_count_le}
use Rattle.aim.specs.Aims.{between}
use Rattle.pdo_step.specs.Outcomes.{part, on_count, on_value, outcome_of, reach}
use Rattle.pdo_step.specs.Effects.{caused_by, effect_of}
use Rattle.pdo_step.proofs.FormLaws.{on_place, on_index, on_field, outcome_form}
use Rattle.pdo_step.specs.declared.Outcome.{Outcome}
use Rattle.pdo_step.specs.declared.Outcome.TheVariants as outcome
use Rattle.pdo_step.proofs.OutcomeLaws.{reach_within}
use Rattle.pdo_channel.specs.Channel.{first_match, expected_of, right_version}
use Rattle.pdo_run.specs.Run.{Frame, held, marked, decided, recorded, act_of, ran, behind, run_from, list_in, run_on}
use Rattle.pdo_handler.specs.Consume.{map_version, on_channel, consumed_by, received_by}
use Rattle.events.proofs.RecordLaws.{AllSmall, small_append}

-- the index of a hand-off, else 0
abbrev target : Outcome → ℕ
target outcome.Misaligned = 0
target outcome.Short = 0
target (outcome.Server x start n) = x
target (outcome.Client x start n) = x
target outcome.NoTarget = 0
target outcome.Count = 0
target outcome.CountRefused = 0
target (outcome.Undecodable f) = 0
target outcome.TooLong = 0
target (outcome.Stored p start n) = 0

module _ (objects slots payload : List ℕ) where
  -- nothing at a place is handed off
  value_kept : (p start n : ℕ) (v : Result ℕ CodecFault) → target (on_value slots p start n v) ≡ 0
  value_kept p start n (Err f) = refl
  value_kept p start n (Ok v) = go (is_text (type_at slots p) && ltb (room_at slots p) n)
    where
      go : (b : Bool) → target (cond b outcome.TooLong (outcome.Stored p start n)) ≡ 0
      go true = refl
      go false = refl

  place_kept : (x start n : ℕ) (q : Result Place Missing) → target (on_place slots payload x start n q) ≡ 0
  unfolding on_count
  place_kept x start n (Err m) = refl
  place_kept x start n (Ok (Count c)) = go (eqb n 0) (is_mapping x)
    where
      go : (b m : Bool) → target (cond b (outcome.Undecodable (fault.Value 1 0)) (cond m outcome.Count outcome.CountRefused)) ≡ 0
      go true m = refl
      go false true = refl
      go false false = refl
  place_kept x start n (Ok (Value p)) = value_kept p start n (word_at (type_at slots p) (part payload start n))

  target_small : (w : ℕ) → target (outcome_of objects slots payload w) < 65536
  unfolding on_index
  target_small w = rw outcome_form (fielded (field_of (entry_of w)))
    where
      e : PdoMappingEntry
      e = entry_of w

      small : e.index < 65536
      small = (entry_in_range w).index

      go : (start n : ℕ) (short server client : Bool)
          → target (cond short outcome.Short (cond server (outcome.Server e.index start n) (cond client (outcome.Client e.index start n) (on_place slots payload e.index start n (place_of objects e.index e.sub_index))))) < 65536
      go start n true s c = omega arith
      go start n false true c = small
      go start n false false true = small
      go start n false false false = omega (arith, place_kept e.index start n (place_of objects e.index e.sub_index))

      fielded : (f : Option Field) → target (on_field objects slots payload (entry_of w) f) < 65536
      fielded None = omega arith
      fielded (Some v) = go v.start v.length (ltb (length payload) (v.start + v.length)) (between 0x1200 0x127F e.index) (between 0x1280 0x12FF e.index)

-- ---- what an outcome's event has room in a number
event_room : (o : Outcome) (v : Event) → (effect_of o).event ≡ Some v → ((detail_of v).index ≤ target o) × ((detail_of v).start + (detail_of v).len ≤ reach o)
event_room outcome.Misaligned v e = let z : ◌≡◌ {A = ℕ} 0 1 = cc in absurd (omega arith)
event_room outcome.Short v e = let z : PayloadShort Short ≡ v = cc in rw (← z) (omega arith, omega arith)
event_room (outcome.Server x start n) v e = let z : Server x start n ≡ v = cc in rw (← z) (omega arith, omega arith)
event_room (outcome.Client x start n) v e = let z : Client x start n ≡ v = cc in rw (← z) (omega arith, omega arith)
event_room outcome.NoTarget v e = let z : ◌≡◌ {A = ℕ} 0 1 = cc in absurd (omega arith)
event_room outcome.Count v e = let z : ◌≡◌ {A = ℕ} 0 1 = cc in absurd (omega arith)
event_room outcome.CountRefused v e = let z : WriteRefused CountNotWritable ≡ v = cc in rw (← z) (omega arith, omega arith)
event_room (outcome.Undecodable f) v e = let z : PayloadShort (caused_by f) ≡ v = cc in rw (← z) (fault_room f)
  where
    fault_room : (f : CodecFault) → let d = detail_of (PayloadShort (caused_by f)) in (d.index ≤ 0) × (d.start + d.len ≤ first_told f + second_told f)
    fault_room (fault.Value needed had) = (omega arith, omega arith)
    fault_room (fault.Text at) = (omega arith, omega arith)
    fault_room fault.Odd = (omega arith, omega arith)
event_room outcome.TooLong v e = let z : WriteRefused TooLong ≡ v = cc in rw (← z) (omega arith, omega arith)
event_room (outcome.Stored p start n) v e = let z : ◌≡◌ {A = ℕ} 0 1 = cc in absurd (omega arith)

-- element k of payload number i, in a payload that is not too long
word_small : (f : Frame) (k w : ℕ) → k < 256 → length f.payload ≤ 1490 → (v : Option Event) → (effect_of (decided f w)).event ≡ v → AllSmall (recorded f.number k v)
word_small f k w h l None e = tt
word_small f k w h l (Some v) e =
    let r = event_room (decided f w) v e in
    let t = target_small f.objects f.slots f.payload w in
    let u = reach_within f.objects f.slots f.payload w in
    (record { element = h; index = omega (arith, r.0, t); start = omega (arith, r.1, u, l); len = omega (arith, r.1, u, l) }, tt)

-- ---- and so of a run, and of a payload
run_small : (f : Frame) → length f.payload ≤ 1490 → (p : ℕ) (ws : List ℕ) (j : ℕ) (c : Contents) → j + length ws < 256 → AllSmall (run_from f p ws j c).events
unfolding run_from
run_small f l p [] j c h = tt
run_small f l p (w ∷ ws) j c h =
    go (eqb (type_at f.slots (p + j)) 8) (effect_of (decided f w)).stops (run_small f l p ws (j + 1) c (omega (arith, h))) (run_small f l p ws (j + 1) (act_of f c (decided f w)) (omega (arith, h)))
  where
    es : List EventRecord
    es = recorded f.number (j + 1) (effect_of (decided f w)).event

    one : AllSmall es
    one = word_small f (j + 1) w (omega (arith, h)) l (effect_of (decided f w)).event refl

    go : (x y : Bool) → AllSmall (run_from f p ws (j + 1) c).events → AllSmall (run_from f p ws (j + 1) (act_of f c (decided f w))).events
        → AllSmall (cond x (cond y (ran (act_of f c (decided f w)) es) (behind es (run_from f p ws (j + 1) (act_of f c (decided f w))))) (run_from f p ws (j + 1) c)).events
    go true true a b = one
    go true false a b = small_append es (run_from f p ws (j + 1) (act_of f c (decided f w))).events one b
    go false y a b = a

pub received_small : (f : Frame) (c : Contents) → well_formed (held f c) ≡ true → length f.payload ≤ 1490 → (version : ℕ) (ready : Bool) → AllSmall (received_by f c version ready).events
unfolding consumed_by
received_small f c w l version false = tt
received_small f c w l version true = channel (first_match (held f c) f.sender)
  where
    row : (x : ℕ) (g : Option ℕ) → find_row f.objects x ≡ g → AllSmall (run_on f c g).events
    row x None q = tt
    row x (Some r) q = kind (eqb (kind_at f.objects r) 0)
      where
        list : List ℕ
        list = list_in f.objects c.words r

        few : length list ≤ 254
        few = omega (arith, length-take (list_count f.objects r) (drop (first_at f.objects r) c.words), list_count_le (held f c) w r (found_lies (held f c) w x r q).below, (found_lies (held f c) w x r q).few)

        kind : (b : Bool) → AllSmall (cond b (ran c []) (run_from f (first_at f.objects r) list 0 c)).events
        kind true = tt
        kind false = run_small f l (first_at f.objects r) list 0 c (omega (arith, few))

    version_of_lem : (i : ℕ) (b : Bool) → AllSmall (cond b (run_on f c (find_row f.objects (0x1600 + i))) (ran (marked f c 0x1C80) (map_version f.number ∷ []))).events
    version_of_lem i true = row (0x1600 + i) (find_row f.objects (0x1600 + i)) refl
    version_of_lem i false = (record { element = omega arith; index = omega arith; start = omega arith; len = omega arith }, tt)

    channel : (g : Option ℕ) → AllSmall (on_channel f c version g).events
    channel None = tt
    channel (Some i) = version_of_lem i (right_version (expected_of (held f c) i) version)
