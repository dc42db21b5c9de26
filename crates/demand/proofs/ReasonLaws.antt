-- The true reason: what the step of a named element comes to is what its fault says, whatever the payload, if it reaches the element.
-- Assumes nothing.
use Rattle.std.specs.Prelude.{Option, Some, None, Result, Ok, Err}
use Rattle.mapping.specs.declared.Field.{Field}
use mathlib.Core.Path.{◌≡◌, refl, sym, ◌∙◌, subst}
use mathlib.Core.Bool.{Bool, true, false, cond, ◌&&◌}
use mathlib.Core.List.{List, [], ◌∷◌}
use Prim.Native.Nat.{ℕ, zero, suc, ◌+◌, ◌%◌, ◌<◌, ◌≤◌}
use native.Mathlib.Nat.{add-zero}
use native.Mathlib.Omega.{arith}
use native.Mathlib.Decide.{dec_lt}
use borrow.Author.Tests.{eqb-true, eqb-false, ltb-true, ltb-false, le-ltb, le-leb}
use lib.Dec.{eqb, ltb}
use lib.ListN.{length, drop, get_or, take-append-drop}
use Rattle.text.specs.Utf8.{WellFormed, Stops, Means}
use Rattle.text.specs.Machine.{judge}
use Rattle.text.proofs.Agree.{means}
use Rattle.lists.proofs.NumberLaws.{part_length}
use Rattle.value.specs.Codec.{is_text, size_of, word_at}
use Rattle.value.specs.Fault.{Tells}
use Rattle.value.specs.declared.CodecFault.{CodecFault}
use Rattle.value.specs.declared.CodecFault.TheVariants as cause
use Rattle.value.proofs.CodecLaws.{word_fixed}
use Rattle.value.proofs.FaultLaws.{word_tells}
use Rattle.mapping.specs.Word.{entry_of, field_of, end_of, field_at}
use Rattle.mapping.proofs.WordLaws.{whole_field, entry_in_range}
use Rattle.entry.specs.Table.{Dict, type_at, room_at, is_mapping}
use Rattle.entry.specs.Find.{place_of}
use Rattle.entry.specs.Put.{Contents}
use Rattle.entry.specs.Encode.{encoding_in}
use Rattle.entry.specs.declared.Place.{Place}
use Rattle.entry.specs.declared.Place.TheVariants.{Count, Value}
use Rattle.entry.specs.declared.Missing.{Missing}
use Rattle.aim.specs.Aims.{aim_of, between}
use Rattle.aim.proofs.RangeLaws.{joined_range, no_server, no_client}
use Rattle.aim.proofs.ClassLaws.{value_class}
use Rattle.pdo_step.specs.declared.Outcome.TheVariants as outcome
use Rattle.pdo_step.specs.Outcomes.{part, on_count}
use Rattle.pdo_step.proofs.FormLaws.{on_place, on_index, outcome_form}
use Rattle.pdo_run.specs.Run.{Frame, frame, decided, act_of}
use Rattle.element.specs.declared.Fault.{Fault}
use Rattle.element.specs.declared.Fault.TheVariants as fault
use Rattle.element.specs.Elements.{length_fits, on_target, on_field, word_verdict, verdict_of}
use Rattle.demand.specs.Demand.{Long, TextAt, Admitted, Whole}
use Rattle.demand.specs.Saying.{list_start, list_words, element_type, element_word, Never}
use Rattle.demand.specs.Reasons.{HandedOff, server, client, Counted, ignored, refused, empty, Misfit, too_short, cut, odd, no_text, over-room, Misfits, Reason}
use Rattle.demand.proofs.WholeLaws.{not_odd, whole_clean}

module _ (f : Frame) (c : Contents) (w : ℕ) (reach : end_of (entry_of w) ≤ length f.payload) where
  -- ---- the field is within the payload
  inside : (s n : ℕ) → field_of (entry_of w) ≡ field_at s n → s + n ≤ length f.payload
  inside s n q = let k = whole_field (entry_of w) (entry_in_range w) s n q in omega (arith, k.end, reach)

  reached : (s n : ℕ) → field_of (entry_of w) ≡ field_at s n → decided f w ≡ on_index f.objects f.slots f.payload (entry_of w) s n
  reached s n q = outcome_form f.objects f.slots f.payload w ∙ rw (q, le-ltb (length f.payload) (s + n) (inside s n q))

  -- ---- each fault of a word
  misaligned : field_of (entry_of w) ≡ None → decided f w ≡ outcome.Misaligned
  misaligned q = outcome_form f.objects f.slots f.payload w ∙ rw q

  handed_off : (s n : ℕ) → field_of (entry_of w) ≡ field_at s n → between 0x1200 0x12FF (entry_of w).index ≡ true → HandedOff f w
  unfolding on_index
  handed_off s n q a = go (between 0x1200 0x127F (entry_of w).index) refl (between 0x1280 0x12FF (entry_of w).index) refl
    where
      go : (b : Bool) → between 0x1200 0x127F (entry_of w).index ≡ b → (d : Bool) → between 0x1280 0x12FF (entry_of w).index ≡ d → HandedOff f w
      go true b d e = server s n q (reached s n q ∙ rw b)
      go false b true e = client s n q (reached s n q ∙ rw (b, e))
      go false b false e = let u = joined_range (entry_of w).index b e in let z : ◌≡◌ {A = ℕ} 0 1 = cc in absurd (omega arith)

  placed : (s n : ℕ) → field_of (entry_of w) ≡ field_at s n → between 0x1200 0x12FF (entry_of w).index ≡ false → (g : Result Place Missing) → place_of f.objects (entry_of w).index (entry_of w).sub_index ≡ g → decided f w ≡ on_place f.slots f.payload (entry_of w).index s n g
  unfolding on_index
  placed s n q a g e = reached s n q ∙ rw (no_server (entry_of w).index a, no_client (entry_of w).index a, e)

  counted : (s n k : ℕ) → field_of (entry_of w) ≡ field_at s n → between 0x1200 0x12FF (entry_of w).index ≡ false → place_of f.objects (entry_of w).index (entry_of w).sub_index ≡ Ok (Count k) → Counted f w
  unfolding on_count
  counted s n k q a e = go (eqb n 0) refl (is_mapping (entry_of w).index) refl
    where
      go : (b : Bool) → eqb n 0 ≡ b → (d : Bool) → is_mapping (entry_of w).index ≡ d → Counted f w
      go true b d m = empty (placed s n q a (Ok (Count k)) e ∙ rw b)
      go false b true m = ignored (placed s n q a (Ok (Count k)) e ∙ rw (b, m))
      go false b false m = refused (placed s n q a (Ok (Count k)) e ∙ rw (b, m))

  misfit : (s n p : ℕ) → field_of (entry_of w) ≡ field_at s n → between 0x1200 0x12FF (entry_of w).index ≡ false → place_of f.objects (entry_of w).index (entry_of w).sub_index ≡ Ok (Value p)
      → length_fits (type_at f.slots p) (room_at f.slots p) n ≡ false → Misfit f c w p s n
  unfolding word_verdict
  misfit s n p q a e l = go (word_at (type_at f.slots p) (part f.payload s n)) refl
    where
      size : length (part f.payload s n) ≡ n
      size = part_length f.payload s n (inside s n q)

      -- a whole element would be clean
      other : decided f w ≡ outcome.Stored p s n → encoding_in f.slots (act_of f c (decided f w)).words (act_of f c (decided f w)).bytes p ≡ part f.payload s n → ⊥
      other d h =
          let u = whole_clean f c w (record { target = p; start = s; len = n; field = q; stores = d; encodes = h }) in
          let v : word_verdict f.objects f.slots w ≡ Err fault.WrongLength = rw (q, a, e, l) in
          let z : ◌≡◌ {A = ℕ} 0 1 = cc in absurd (omega arith)

      took : (v : ℕ) → word_at (type_at f.slots p) (part f.payload s n) ≡ Ok v → (b : Bool) → is_text (type_at f.slots p) ≡ b → (r : Bool) → ltb (room_at f.slots p) n ≡ r → Misfit f c w p s n
      took v k true b true r = over-room b (ltb-true _ _ r) (placed s n q a (Ok (Value p)) e ∙ rw (k, b, r))
      took v k true b false r =
          let o = not_odd f.objects f.slots f.payload w p s n q p (inside s n q) b v k in
          let u : length_fits (type_at f.slots p) (room_at f.slots p) n ≡ true = rw (b, le-leb n (room_at f.slots p) (ltb-false _ _ r)) o in
          let z : ◌≡◌ {A = ℕ} 0 1 = cc in absurd (omega arith)
      took v k false b r h =
          let d : decided f w ≡ outcome.Stored p s n = placed s n q a (Ok (Value p)) e ∙ rw (k, b) in
          let u : n ≡ size_of (type_at f.slots p) → ⊥ = eqb-false n _ (rw b at l) in
          let long = (word_fixed (type_at f.slots p) v (part f.payload s n) k b).0 in
          cut b (omega (arith, u, long, size)) d (other d)

      -- a VisibleString of a length that fits is not named
      roomy : type_at f.slots p ≡ 11 → (r : Bool) → ltb (room_at f.slots p) n ≡ r → room_at f.slots p < n
      roomy y true r = ltb-true _ _ r
      roomy y false r =
          let u : length_fits (type_at f.slots p) (room_at f.slots p) n ≡ true = rw (y, le-leb n (room_at f.slots p) (ltb-false _ _ r)) in
          let z : ◌≡◌ {A = ℕ} 0 1 = cc in absurd (omega arith)

      failed : (g : CodecFault) → word_at (type_at f.slots p) (part f.payload s n) ≡ Err g → Tells (type_at f.slots p) (part f.payload s n) g → Misfit f c w p s n
      failed (cause.Value needed had) k y =
          too_short y.fixed (omega (arith, y.fewer, y.needed-is, y.had-is, size)) (placed s n q a (Ok (Value p)) e ∙ rw (k, y.needed-is, y.had-is, size))
      failed (cause.Text at) k y = no_text y.visible (roomy y.visible (ltb (room_at f.slots p) n) refl) at y.stops (placed s n q a (Ok (Value p)) e ∙ rw k)
      failed cause.Odd k y = odd y.unicode (rw size at y.odd) (placed s n q a (Ok (Value p)) e ∙ rw k)

      go : (g : Result ℕ CodecFault) → word_at (type_at f.slots p) (part f.payload s n) ≡ g → Misfit f c w p s n
      go (Err g) k = failed g k (word_tells (type_at f.slots p) (part f.payload s n) g k)
      go (Ok v) k = took v k (is_text (type_at f.slots p)) refl (ltb (room_at f.slots p) n) refl

  -- ---- and which of them it is
  word_reason : (t : ℕ) (v : Fault) → t ≡ 8 → word_verdict f.objects f.slots w ≡ Err v → Reason v f c t w
  unfolding word_verdict
  word_reason t v y e = fielded (field_of (entry_of w)) refl e
    where
      is : (g : Fault) → ◌≡◌ {A = Result (Unit {0}) Fault} (Err g) (Err v) → Reason g f c t w → Reason v f c t w
      is g q r = let u : g ≡ v = cc in subst (λ (h : Fault). Reason h f c t w) u r

      length_is : (s n p : ℕ) → field_of (entry_of w) ≡ field_at s n → between 0x1200 0x12FF (entry_of w).index ≡ false → place_of f.objects (entry_of w).index (entry_of w).sub_index ≡ Ok (Value p)
          → (b : Bool) → length_fits (type_at f.slots p) (room_at f.slots p) n ≡ b → cond b (Ok (tt {0})) (Err fault.WrongLength) ≡ Err v → Reason v f c t w
      length_is s n p q a g true l e = let z : ◌≡◌ {A = ℕ} 0 1 = cc in absurd (omega arith)
      length_is s n p q a g false l e = is fault.WrongLength e (record { target = p; start = s; len = n; class = value_class (aim_of f.objects w) s n p (record { field = q; away = a; placed = g }); how = misfit s n p q a g l })

      target_is : (s n : ℕ) → field_of (entry_of w) ≡ field_at s n → between 0x1200 0x12FF (entry_of w).index ≡ false → (g : Result Place Missing) → place_of f.objects (entry_of w).index (entry_of w).sub_index ≡ g → on_target f.slots n g ≡ Err v → Reason v f c t w
      target_is s n q a (Err m) g e = is fault.NoTarget e (placed s n q a (Err m) g)
      target_is s n q a (Ok (Count k)) g e = is fault.CountTarget e (counted s n k q a g)
      target_is s n q a (Ok (Value p)) g e = length_is s n p q a g (length_fits (type_at f.slots p) (room_at f.slots p) n) refl e

      range : (s n : ℕ) → field_of (entry_of w) ≡ field_at s n → (b : Bool) → between 0x1200 0x12FF (entry_of w).index ≡ b → cond b (Err fault.HandOff) (on_target f.slots n (place_of f.objects (entry_of w).index (entry_of w).sub_index)) ≡ Err v → Reason v f c t w
      range s n q true a e = is fault.HandOff e (handed_off s n q a)
      range s n q false a e = target_is s n q a (place_of f.objects (entry_of w).index (entry_of w).sub_index) refl e

      fielded : (g : Option Field) → field_of (entry_of w) ≡ g → on_field f.objects f.slots (entry_of w) g ≡ Err v → Reason v f c t w
      fielded None q e = is fault.Misaligned e (misaligned q)
      fielded (Some v) q e = range v.start v.length q (between 0x1200 0x12FF (entry_of w).index) refl e

pub reason : (f : Frame) (c : Contents) (t w : ℕ) (v : Fault) → verdict_of f.objects f.slots t w ≡ Err v → (t ≡ 8 → end_of (entry_of w) ≤ length f.payload) → Reason v f c t w
reason f c t w v e reach = go (eqb t 8) refl e
  where
    go : (b : Bool) → eqb t 8 ≡ b → cond b (word_verdict f.objects f.slots w) (Err fault.NotMapping) ≡ Err v → Reason v f c t w
    go true q e = word_reason f c w (reach (eqb-true t 8 q)) t v (eqb-true t 8 q) e
    go false q e = let u : fault.NotMapping ≡ v = cc in subst (λ (h : Fault). Reason h f c t w) u (eqb-false t 8 q)

-- ---- the theorem: of the element that a fault names (`named_never`), whatever the contents then are
pub named_outcome : (d : Dict) (i k : ℕ) (v : Fault) (n : Never d i k v) (payload : List ℕ) (sender m : ℕ) (c : Contents)
    → let r = n.listed.row in let place = n.fault.place in
    (element_type d r place ≡ 8 → end_of (entry_of (element_word d r place)) ≤ length payload) → Reason v (frame d.objects d.slots payload sender m) c (element_type d r place) (element_word d r place)
named_outcome d i k v n payload sender m c reach = reason (frame d.objects d.slots payload sender m) c _ _ v n.fault.verdict reach

-- and an admitted payload reaches each element
long_reaches : (slots payload : List ℕ) (p : ℕ) (ws : List ℕ) (j : ℕ) → Long slots payload p ws j → (k : ℕ) → k < length ws → type_at slots (p + (j + k)) ≡ 8 → end_of (entry_of (get_or ws k 0)) ≤ length payload
long_reaches slots payload p [] j l k h t = absurd (omega (arith, h))
long_reaches slots payload p (w ∷ ws) j l zero h t = l.0 (rw add-zero at t)
long_reaches slots payload p (w ∷ ws) j l (suc k) h t = let e : j + suc k ≡ j + 1 + k = omega arith in long_reaches slots payload p ws (j + 1) l.1 k (omega (arith, h)) (rw e at t)

pub admitted_outcome : (d : Dict) (i k : ℕ) (v : Fault) (n : Never d i k v) (payload : List ℕ) (sender version : ℕ) (ready : Bool) (m : ℕ) (c : Contents)
    → let r = n.listed.row in let place = n.fault.place in Admitted d i r payload sender version ready
    → Reason v (frame d.objects d.slots payload sender m) c (element_type d r place) (element_word d r place)
admitted_outcome d i k v n payload sender version ready m c a =
    let r = n.listed.row in
    let place = n.fault.place in
    let z : 0 + place ≡ place = omega arith in
    named_outcome d i k v n payload sender m c (λ t. long_reaches d.slots payload (list_start d r) (list_words d r) 0 a.long place n.fault.below (rw z t))

-- what stops being text is none
stopped : (s : List ℕ) (k : ℕ) → Stops s k → judge s ≡ (Ok tt) → ⊥
stopped s k h g = go (dec_lt k (length s))
  where
    text : WellFormed s
    text = subst (Means s) g (means s)

    go : Dec (k < length s) → ⊥
    go (yes l) = h.here l (drop (k + 1) s, subst WellFormed (sym (take-append-drop (k + 1) s)) text)
    go (no l) = h.early (omega (arith, h.inside, l)) text

-- under an admitted payload a VisibleString is text: so what is wrong with it is that it is over the room, and nothing else
pub text_over : (f : Frame) (c : Contents) (w : ℕ) (m : Misfits f c w) → TextAt f.objects f.slots f.payload w → type_at f.slots m.target ≡ 11 → decided f w ≡ outcome.TooLong
text_over f c w m t y = go m.how
  where
    text : is_text (type_at f.slots m.target) ≡ true
    text = rw y

    go : Misfit f c w m.target m.start m.len → decided f w ≡ outcome.TooLong
    go (too_short x l e) = let z : ◌≡◌ {A = ℕ} 0 1 = cc in absurd (omega arith)
    go (cut x l e o) = let z : ◌≡◌ {A = ℕ} 0 1 = cc in absurd (omega arith)
    go (odd x l e) = absurd (omega (arith, x, y))
    go (no_text x l at s e) = absurd (stopped (part f.payload m.start m.len) at s (t.good m.start m.len m.target m.class y))
    go (over-room x l e) = e
