-- What is written whole is clean, whatever the payload: so an element with a fault is whole under none. Assumes nothing.
use Rattle.std.specs.Prelude.{Some, Result, Ok, Err}
use Rattle.value.specs.declared.CodecFault.{CodecFault}
use mathlib.Core.Path.{◌≡◌, refl, sym, ap, ◌∙◌}
use mathlib.Core.Bool.{Bool, true, false, cond, not, ◌&&◌}
use mathlib.Core.List.{List}
use Prim.Native.Nat.{ℕ, ◌+◌, ◌%◌, ◌≤◌}
use native.Mathlib.Omega.{arith}
use borrow.Author.Tests.{eq-eqb, eqb-true, le-leb, ltb-false}
use lib.Dec.{eqb, ltb}
use lib.ListN.{length}
use Rattle.lists.proofs.NumberLaws.{part_length, length-bytes_of}
use Rattle.text.specs.Machine.{judge}
use Rattle.value.specs.Codec.{is_text, size_of, text_is, text_word, word_at}
use Rattle.value.specs.declared.CodecFault.TheVariants as cause
use Rattle.value.proofs.CodecLaws.{encoding_fixed}
use Rattle.mapping.specs.Word.{entry_of, field_of, field_at}
use Rattle.entry.specs.Table.{type_at, room_at, is_mapping}
use Rattle.entry.specs.Find.{place_of}
use Rattle.entry.specs.Put.{Contents}
use Rattle.entry.specs.declared.Place.{Place}
use Rattle.entry.specs.declared.Place.TheVariants.{Count, Value}
use Rattle.entry.specs.declared.Missing.{Missing}
use Rattle.aim.specs.Aims.{between}
use Rattle.aim.proofs.RangeLaws.{joined_range}
use Rattle.pdo_step.specs.declared.Outcome.TheVariants as outcome
use Rattle.pdo_step.specs.Outcomes.{part, on_count, on_value, outcome_of}
use Rattle.pdo_step.proofs.FormLaws.{on_place, on_index, outcome_form}
use Rattle.pdo_run.specs.Run.{Frame}
use Rattle.element.specs.Elements.{length_fits, word_verdict}
use Rattle.demand.specs.Demand.{Whole}

-- ---- what is stored comes from: the field is within the payload, outside of both ranges, at a value that takes it and has room
pub record StoredAt (objects slots payload : List ℕ) (w p start n : ℕ) : Type 0 where
  pub within_payload : start + n ≤ length payload
  pub away : between 0x1200 0x12FF (entry_of w).index ≡ false
  pub placed : place_of objects (entry_of w).index (entry_of w).sub_index ≡ Ok (Value p)
  pub even : is_text (type_at slots p) ≡ true → not (eqb (type_at slots p) 13 && eqb (n % 2) 1) ≡ true
  pub roomy : is_text (type_at slots p) ≡ true → n ≤ room_at slots p

module _ (objects slots payload : List ℕ) (w p start n : ℕ) (f : field_of (entry_of w) ≡ field_at start n) where
  abbrev x : ℕ
  x = (entry_of w).index

  abbrev sub : ℕ
  sub = (entry_of w).sub_index

  pub not_odd : (q : ℕ) → start + n ≤ length payload → is_text (type_at slots q) ≡ true → (v : ℕ) → word_at (type_at slots q) (part payload start n) ≡ Ok v → not (eqb (type_at slots q) 13 && eqb (n % 2) 1) ≡ true
  unfolding word_at text_word
  not_odd q h t v e = go (eqb (type_at slots q) 11) refl (eqb (type_at slots q) 13 && eqb (n % 2) 1) refl (rw (t, part_length payload start n h) at e)
    where
      go : (a : Bool) → eqb (type_at slots q) 11 ≡ a → (b : Bool) → (eqb (type_at slots q) 13 && eqb (n % 2) 1) ≡ b
          → cond a (text_is n (judge (part payload start n))) (cond b (Err cause.Odd) (Ok n)) ≡ Ok v → not b ≡ true
      go true a true r e =
          let y : type_at slots q ≡ 11 = eqb-true _ _ a in
          let u : (eqb 11 13 && eqb (n % 2) 1) ≡ true = sym (ap (λ (m : ℕ). eqb m 13 && eqb (n % 2) 1) y) ∙ r in
          let z : ◌≡◌ {A = ℕ} 0 1 = cc in absurd (omega arith)
      go true a false r e = refl
      go false a true r e = let z : ◌≡◌ {A = ℕ} 0 1 = cc in absurd (omega arith)
      go false a false r e = refl

  at_value_lem : (q : ℕ) → place_of objects x sub ≡ Ok (Value q) → start + n ≤ length payload → between 0x1200 0x12FF x ≡ false → (v : Result ℕ CodecFault) → word_at (type_at slots q) (part payload start n) ≡ v → on_value slots q start n v ≡ outcome.Stored p start n → StoredAt objects slots payload w p start n
  at_value_lem q l h a (Err c) k e = let z : ◌≡◌ {A = ℕ} 0 1 = cc in absurd (omega arith)
  at_value_lem q l h a (Ok v) k e = room (is_text (type_at slots q)) refl (ltb (room_at slots q) n) refl e
    where
      same : q ≡ p → (is_text (type_at slots q) ≡ true → n ≤ room_at slots q) → StoredAt objects slots payload w p start n
      same u r = rw (← u) (record { within_payload = h; away = a; placed = l; even = λ t. not_odd q h t v k; roomy = r })

      room : (t : Bool) → is_text (type_at slots q) ≡ t → (b : Bool) → ltb (room_at slots q) n ≡ b → cond (t && b) outcome.TooLong (outcome.Stored q start n) ≡ outcome.Stored p start n → StoredAt objects slots payload w p start n
      room true t true r e = let z : ◌≡◌ {A = ℕ} 0 1 = cc in absurd (omega arith)
      room true t false r e = let u : q ≡ p = cc in same u (λ y. ltb-false _ _ r)
      room false t b r e = let u : q ≡ p = cc in same u (λ y. let z : ◌≡◌ {A = ℕ} 0 1 = cc in absurd (omega arith))

  at_place : (q : Result Place Missing) → place_of objects x sub ≡ q → start + n ≤ length payload → between 0x1200 0x12FF x ≡ false → on_place slots payload x start n q ≡ outcome.Stored p start n → StoredAt objects slots payload w p start n
  unfolding on_count
  at_place (Err m) l h a e = let z : ◌≡◌ {A = ℕ} 0 1 = cc in absurd (omega arith)
  at_place (Ok (Count c)) l h a e = go (eqb n 0) (is_mapping x) e
    where
      go : (u v : Bool) → cond u (outcome.Undecodable (cause.Value 1 0)) (cond v outcome.Count outcome.CountRefused) ≡ outcome.Stored p start n → StoredAt objects slots payload w p start n
      go true v e = let z : ◌≡◌ {A = ℕ} 0 1 = cc in absurd (omega arith)
      go false true e = let z : ◌≡◌ {A = ℕ} 0 1 = cc in absurd (omega arith)
      go false false e = let z : ◌≡◌ {A = ℕ} 0 1 = cc in absurd (omega arith)
  at_place (Ok (Value q)) l h a e = at_value_lem q l h a (word_at (type_at slots q) (part payload start n)) refl e

  pub stored_at : outcome_of objects slots payload w ≡ outcome.Stored p start n → StoredAt objects slots payload w p start n
  unfolding on_index
  stored_at e = go (ltb (length payload) (start + n)) refl (between 0x1200 0x127F x) refl (between 0x1280 0x12FF x) refl (rw f at (sym (outcome_form objects slots payload w) ∙ e))
    where
      go : (l : Bool) → ltb (length payload) (start + n) ≡ l → (s : Bool) → between 0x1200 0x127F x ≡ s → (c : Bool) → between 0x1280 0x12FF x ≡ c
          → cond l outcome.Short (cond s (outcome.Server x start n) (cond c (outcome.Client x start n) (on_place slots payload x start n (place_of objects x sub)))) ≡ outcome.Stored p start n → StoredAt objects slots payload w p start n
      go true l s q c r e = let z : ◌≡◌ {A = ℕ} 0 1 = cc in absurd (omega arith)
      go false l true q c r e = let z : ◌≡◌ {A = ℕ} 0 1 = cc in absurd (omega arith)
      go false l false q true r e = let z : ◌≡◌ {A = ℕ} 0 1 = cc in absurd (omega arith)
      go false l false q false r e = at_place (place_of objects x sub) refl (ltb-false _ _ l) (joined_range x q r) e

-- ---- the theorem
pub whole_clean : (f : Frame) (c : Contents) (w : ℕ) → Whole f c w → word_verdict f.objects f.slots w ≡ Ok tt
unfolding word_verdict
whole_clean f c w h =
    let s = stored_at f.objects f.slots f.payload w h.target h.start h.len h.field h.stores in
    rw (h.field, s.away, s.placed, fits s (is_text (type_at f.slots h.target)) refl)
  where
    t : ℕ
    t = type_at f.slots h.target

    fits : StoredAt f.objects f.slots f.payload w h.target h.start h.len → (b : Bool) → is_text t ≡ b → length_fits t (room_at f.slots h.target) h.len ≡ true
    fits s true x = rw (x, le-leb _ _ (s.roomy x)) (s.even x)
    fits s false x =
        let long = part_length f.payload h.start h.len s.within_payload in
        let z : length (part f.payload h.start h.len) ≡ size_of t = ap length (sym h.encodes ∙ encoding_fixed t _ _ x) ∙ length-bytes_of (size_of t) _ in
        rw x (eq-eqb _ _ (sym long ∙ z))
