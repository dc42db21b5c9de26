-- R11.15: each event of a payload that is short says what is wrong with its field. Assumes nothing.
use Rattle.std.specs.Prelude.{Option, Some, None, Result, Ok, Err}
use Rattle.mapping.specs.declared.Field.{Field}
use mathlib.Core.Path.{◌≡◌, refl, sym, ap, subst, ◌∙◌}
use mathlib.Core.Bool.{Bool, true, false, cond, ◌&&◌}
use mathlib.Core.List.{List, [], ◌∷◌, ◌++◌}
use Prim.Native.Nat.{ℕ, ◌+◌, ◌-◌, ◌<◌, ◌≤◌}
use native.Mathlib.Omega.{arith}
use native.Mathlib.Decide.{dec_lt}
use native.Mathlib.Numerals.{add-one}
use borrow.Author.Tests.{ltb-false, eqb-true}
use lib.Dec.{eqb, ltb}
use lib.ListN.{length, get_or, drop, drop_of_length-le}
use lib.Seq.{drop-cons}
use Rattle.lists.proofs.NumberLaws.{part_length}
use Rattle.value.specs.Codec.{size_of, is_text, word_at}
use Rattle.value.specs.declared.CodecFault.{CodecFault}
use Rattle.value.specs.declared.CodecFault.TheVariants as fault
use Rattle.value.specs.Fault.{Tells}
use Rattle.value.proofs.FaultLaws.{word_tells}
use Rattle.event.specs.declared.Cause.{Cause}
use Rattle.event.specs.declared.Cause.TheVariants as cause
use Rattle.event.specs.declared.Event.{Event}
use Rattle.event.specs.declared.Event.TheVariants.{MapVersion, PayloadShort}
use Rattle.event.specs.declared.EventRecord.{EventRecord}
use Rattle.mapping.specs.Word.{entry_of, field_of, field_at}
use Rattle.entry.specs.Table.{kind_at, first_at, type_at, room_at, is_mapping}
use Rattle.entry.specs.Find.{find_row, place_of}
use Rattle.entry.specs.Put.{Contents}
use Rattle.entry.specs.declared.Place.{Place}
use Rattle.entry.specs.declared.Place.TheVariants.{Count, Value}
use Rattle.entry.specs.declared.Missing.{Missing}
use Rattle.aim.specs.Aims.{between}
use Rattle.pdo_step.specs.Outcomes.{part, on_count, on_value}
use Rattle.pdo_step.specs.Effects.{caused_by, effect_of}
use Rattle.pdo_step.specs.declared.Outcome.{Outcome}
use Rattle.pdo_step.specs.declared.Outcome.TheVariants as outcome
use Rattle.pdo_step.proofs.FormLaws.{on_place, on_index, on_field, outcome_form}
use Rattle.pdo_channel.specs.Channel.{first_match, expected_of, right_version}
use Rattle.pdo_run.specs.Run.{Frame, held, marked, decided, recorded, act_of, ran, behind, run_from, list_in, run_on}
use Rattle.pdo_handler.specs.Consume.{map_version, consumed_by, received_by}
use Rattle.events.specs.Telling.{value, count, Undecoded, FieldFault, AllTell}

-- ---- a word that does not decode
module _ (f : Frame) (w : ℕ) (g : CodecFault) where
  abbrev x : ℕ
  x = (entry_of w).index

  abbrev sub : ℕ
  sub = (entry_of w).sub_index

  record Lies (b m : ℕ) : Type 0 where
    field : field_of (entry_of w) ≡ field_at b m
    within : b + m ≤ length f.payload

  at_value_lem : (q b m : ℕ) → place_of f.objects x sub ≡ Ok (Value q) → Lies b m → (v : Result ℕ CodecFault) → word_at (type_at f.slots q) (part f.payload b m) ≡ v → on_value f.slots q b m v ≡ outcome.Undecodable g → Undecoded f w g
  at_value_lem q b m l h (Err k) e d =
      let z : k ≡ g = cc in
      record { start = b; len = m; type = type_at f.slots q; field = h.field; within = h.within; target = value q l refl; tells = word_tells (type_at f.slots q) (part f.payload b m) g (e ∙ ap Err z) }
  at_value_lem q b m l h (Ok v) e d = room (is_text (type_at f.slots q) && ltb (room_at f.slots q) m) d
    where
      room : (c : Bool) → cond c outcome.TooLong (outcome.Stored q b m) ≡ outcome.Undecodable g → Undecoded f w g
      room true d = let z : ◌≡◌ {A = ℕ} 0 1 = cc in absurd (omega arith)
      room false d = let z : ◌≡◌ {A = ℕ} 0 1 = cc in absurd (omega arith)

  at_count : (n b m : ℕ) → place_of f.objects x sub ≡ Ok (Count n) → Lies b m → on_count x m ≡ outcome.Undecodable g → Undecoded f w g
  unfolding on_count size_of
  at_count n b m l h d = None (eqb m 0) refl (is_mapping x) d
    where
      None : (c : Bool) → eqb m 0 ≡ c → (e : Bool) → cond c (outcome.Undecodable (fault.Value 1 0)) (cond e outcome.Count outcome.CountRefused) ≡ outcome.Undecodable g → Undecoded f w g
      None true c e d =
          let z : fault.Value 1 0 ≡ g = cc in
          let empty : 0 ≡ length (part f.payload b m) = omega (arith, eqb-true m 0 c, part_length f.payload b m h.within) in
          record { start = b; len = m; type = 5; field = h.field; within = h.within; target = count n l refl; tells = subst (Tells 5 (part f.payload b m)) z (record { fixed = refl; needed-is = refl; had-is = empty; fewer = omega arith }) }
      None false c true d = let z : ◌≡◌ {A = ℕ} 0 1 = cc in absurd (omega arith)
      None false c false d = let z : ◌≡◌ {A = ℕ} 0 1 = cc in absurd (omega arith)

  at_place : (b m : ℕ) → Lies b m → (q : Result Place Missing) → place_of f.objects x sub ≡ q → on_place f.slots f.payload x b m q ≡ outcome.Undecodable g → Undecoded f w g
  at_place b m h (Err r) l d = let z : ◌≡◌ {A = ℕ} 0 1 = cc in absurd (omega arith)
  at_place b m h (Ok (Count n)) l d = at_count n b m l h d
  at_place b m h (Ok (Value q)) l d = at_value_lem q b m l h (word_at (type_at f.slots q) (part f.payload b m)) refl d

  pub undecoded : decided f w ≡ outcome.Undecodable g → Undecoded f w g
  unfolding on_index
  undecoded d = fielded (field_of (entry_of w)) refl (sym (outcome_form f.objects f.slots f.payload w) ∙ d)
    where
      go : (b m : ℕ) → field_of (entry_of w) ≡ field_at b m → (s : Bool) → ltb (length f.payload) (b + m) ≡ s → (server client : Bool)
          → cond s outcome.Short (cond server (outcome.Server x b m) (cond client (outcome.Client x b m) (on_place f.slots f.payload x b m (place_of f.objects x sub)))) ≡ outcome.Undecodable g → Undecoded f w g
      go b m q true l server client d = let z : ◌≡◌ {A = ℕ} 0 1 = cc in absurd (omega arith)
      go b m q false l true client d = let z : ◌≡◌ {A = ℕ} 0 1 = cc in absurd (omega arith)
      go b m q false l false true d = let z : ◌≡◌ {A = ℕ} 0 1 = cc in absurd (omega arith)
      go b m q false l false false d = at_place b m (record { field = q; within = ltb-false (length f.payload) (b + m) l }) (place_of f.objects x sub) refl d

      fielded : (h : Option Field) → field_of (entry_of w) ≡ h → on_field f.objects f.slots f.payload (entry_of w) h ≡ outcome.Undecodable g → Undecoded f w g
      fielded None q d = let z : ◌≡◌ {A = ℕ} 0 1 = cc in absurd (omega arith)
      fielded (Some v) q d = go v.start v.length q (ltb (length f.payload) (v.start + v.length)) refl (between 0x1200 0x127F x) (between 0x1280 0x12FF x) d

-- ---- the event of a word
word_tells_event : (f : Frame) (w : ℕ) (c : Cause) (o : Outcome) → decided f w ≡ o → (effect_of o).event ≡ Some (PayloadShort c) → FieldFault f w c
word_tells_event f w c outcome.Misaligned d e = let z : ◌≡◌ {A = ℕ} 0 1 = cc in absurd (omega arith)
word_tells_event f w c outcome.Short d e = let z : cause.Frame ≡ c = cc in subst (FieldFault f w) z d
word_tells_event f w c (outcome.Server x start n) d e = let z : ◌≡◌ {A = ℕ} 0 1 = cc in absurd (omega arith)
word_tells_event f w c (outcome.Client x start n) d e = let z : ◌≡◌ {A = ℕ} 0 1 = cc in absurd (omega arith)
word_tells_event f w c outcome.NoTarget d e = let z : ◌≡◌ {A = ℕ} 0 1 = cc in absurd (omega arith)
word_tells_event f w c outcome.Count d e = let z : ◌≡◌ {A = ℕ} 0 1 = cc in absurd (omega arith)
word_tells_event f w c outcome.CountRefused d e = let z : ◌≡◌ {A = ℕ} 0 1 = cc in absurd (omega arith)
word_tells_event f w c (outcome.Undecodable g) d e = let z : caused_by g ≡ c = cc in subst (FieldFault f w) z (told g (undecoded f w g d))
  where
    told : (g : CodecFault) → Undecoded f w g → FieldFault f w (caused_by g)
    told (fault.Value needed had) u = u
    told (fault.Text at) u = u
    told fault.Odd u = u
word_tells_event f w c outcome.TooLong d e = let z : ◌≡◌ {A = ℕ} 0 1 = cc in absurd (omega arith)
word_tells_event f w c (outcome.Stored p start n) d e = let z : ◌≡◌ {A = ℕ} 0 1 = cc in absurd (omega arith)

module _ (f : Frame) (all : List ℕ) where
  one_tells : (j w : ℕ) → get_or all j 0 ≡ w → (v : Option Event) → (effect_of (decided f w)).event ≡ v → AllTell f all (recorded f.number (j + 1) v)
  one_tells j w q None e = tt
  one_tells j w q (Some v) e =
      let z : j + 1 - 1 ≡ j = omega arith in
      ((λ c h. subst (λ (k : ℕ). FieldFault f k c) (sym (ap (λ k. get_or all k 0) z ∙ q)) (word_tells_event f w c (decided f w) refl (e ∙ ap Some h))), tt)

  tell_append : (rs ss : List EventRecord) → AllTell f all rs → AllTell f all ss → AllTell f all (rs ++ ss)
  tell_append [] ss a b = b
  tell_append (r ∷ rs) ss a b = (a.0, tell_append rs ss a.1 b)

  -- ---- of the words from place j on
  run_tells : (p : ℕ) (ws : List ℕ) (j : ℕ) (c : Contents) → ws ≡ drop j all → AllTell f all (run_from f p ws j c).events
  unfolding run_from
  run_tells p [] j c q = tt
  run_tells p (w ∷ ws) j c q = go (eqb (type_at f.slots (p + j)) 8) (effect_of (decided f w)).stops (run_tells p ws (j + 1) c next) (run_tells p ws (j + 1) (act_of f c (decided f w)) next)
    where
      below : j < length all
      below = inside (dec_lt j (length all))
        where
          inside : Dec (j < length all) → j < length all
          inside (yes h) = h
          inside (no h) = let l : length all ≤ j = omega (arith, h) in let z : w ∷ ws ≡ [] = q ∙ drop_of_length-le all l in let y : ◌≡◌ {A = ℕ} 0 1 = cc in absurd (omega arith)

      split : w ∷ ws ≡ get_or all j 0 ∷ drop (j + 1) all
      split = q ∙ rw add-one (drop-cons all j 0 below)

      here : get_or all j 0 ≡ w
      here = sym (ap (λ xs. get_or xs 0 0) split)

      next : ws ≡ drop (j + 1) all
      next = ap (drop 1) split

      es : List EventRecord
      es = recorded f.number (j + 1) (effect_of (decided f w)).event

      one : AllTell f all es
      one = one_tells j w here (effect_of (decided f w)).event refl

      go : (x y : Bool) → AllTell f all (run_from f p ws (j + 1) c).events → AllTell f all (run_from f p ws (j + 1) (act_of f c (decided f w))).events
          → AllTell f all (cond x (cond y (ran (act_of f c (decided f w)) es) (behind es (run_from f p ws (j + 1) (act_of f c (decided f w))))) (run_from f p ws (j + 1) c)).events
      go true true a b = one
      go true false a b = tell_append es (run_from f p ws (j + 1) (act_of f c (decided f w))).events one b
      go false y a b = a

-- ---- the theorem: of a payload, whose channel's list is in row r
pub received_tells : (f : Frame) (c : Contents) (version : ℕ) (ready : Bool) (i r : ℕ) → first_match (held f c) f.sender ≡ Some i → find_row f.objects (0x1600 + i) ≡ Some r
    → AllTell f (list_in f.objects c.words r) (received_by f c version ready).events
unfolding consumed_by
received_tells f c version false i r m q = tt
received_tells f c version true i r m q = rw m (version_of_lem (right_version (expected_of (held f c) i) version))
  where
    list : List ℕ
    list = list_in f.objects c.words r

    kind : (b : Bool) → AllTell f list (cond b (ran c []) (run_from f (first_at f.objects r) list 0 c)).events
    kind true = tt
    kind false = run_tells f list (first_at f.objects r) list 0 c refl

    version_of_lem : (b : Bool) → AllTell f list (cond b (run_on f c (find_row f.objects (0x1600 + i))) (ran (marked f c 0x1C80) (map_version f.number ∷ []))).events
    version_of_lem true = rw q (kind (eqb (kind_at f.objects r) 0))
    version_of_lem false = ((λ c (e : MapVersion ≡ PayloadShort c). let z : ◌≡◌ {A = ℕ} 0 1 = cc in absurd (omega arith)), tt)
