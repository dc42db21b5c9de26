-- R11.8: "of two fields with one target the later stands": after a payload that is written, a target encodes the last field that is mapped onto it, and
-- what no element maps is encoded as before. Assumes nothing.
use Rattle.std.specs.Prelude.{Ok}
use Rattle.mapping.proofs.WordLaws.{same_field}
use mathlib.Core.Path.{◌≡◌, refl, sym, ap, ◌∙◌, subst}
use mathlib.Core.Bool.{Bool, true, false}
use mathlib.Core.Logic.{◌≢◌}
use mathlib.Core.List.{List, [], ◌∷◌}
use Prim.Native.Nat.{ℕ, zero, suc, ◌+◌, ◌<◌}
use native.Mathlib.Omega.{arith}
use lib.ListN.{length, take, drop, get_or}
use lib.Seq.{take-take}
use Rattle.lists.specs.Numbers.{Bytes}
use Rattle.value.specs.Codec.{is_text, encoding}
use Rattle.value.proofs.CodecLaws.{encoding_fixed}
use Rattle.mapping.specs.Word.{entry_of, field_of, field_at}
use Rattle.entry.specs.Model.{Val}
use Rattle.entry.specs.Table.{Dict, values_of, val_at, type_at, start_at, room_at}
use Rattle.entry.specs.Find.{place_of}
use Rattle.entry.specs.Judge.{well_formed}
use Rattle.entry.specs.Put.{Contents, contents, put_in}
use Rattle.entry.specs.Encode.{encoding_in, encoding_at}
use Rattle.entry.specs.declared.Place.TheVariants.{Value}
use Rattle.entry.proofs.ValueLaws.{ValueFacts, element_of_lem, element_one, element_facts, every_value}
use Rattle.entry.proofs.ChangeLaws.{put_other}
use Rattle.aim.specs.Aims.{aim_of}
use Rattle.aim.proofs.ClassLaws.{value_class}
use Rattle.pdo_step.specs.Outcomes.{part}
use Rattle.pdo_step.specs.Steps.{applied}
use Rattle.pdo_step.proofs.OutcomeLaws.{stored_by}
use Rattle.pdo_run.specs.Run.{Frame, frame, held, decided, act_of}
use Rattle.pdo_handler.proofs.ConsumeLaws.{Sane, act_sane}
use Rattle.event.specs.declared.EventRecord.{EventRecord}
use Rattle.events.specs.Receive.{Received, received_of}
use Rattle.demand.specs.Demand.{Whole, put_word, put_all, AllWhole}
use Rattle.demand.specs.Calls.{Consumes}
use Rattle.demand.proofs.WholeLaws.{stored_at}

-- ---- what a value encodes is said by its word and its room
encoding-val : (d : Dict) (q : ℕ) → ValueFacts d q → encoding_at d q ≡ encoding (val_at d q).type (val_at d q).word (take (val_at d q).word (val_at d q).room)
encoding-val d q v = go (is_text (type_at d.slots q)) refl
  where
    t : ℕ
    t = type_at d.slots q

    w : ℕ
    w = get_or d.words q 0

    room : List ℕ
    room = drop (start_at d.slots q) d.bytes

    go : (b : Bool) → is_text (type_at d.slots q) ≡ b → encoding t w (take w room) ≡ encoding t w (take w (take (room_at d.slots q) room))
    go true x = ap (encoding t w) (sym (take-take w (room_at d.slots q) room (v.text x).0))
    go false x = encoding_fixed t w _ x ∙ sym (encoding_fixed t w _ x)

same_encodes : (d d' : Dict) (q : ℕ) → ValueFacts d q → ValueFacts d' q → val_at d' q ≡ val_at d q → encoding_at d' q ≡ encoding_at d q
same_encodes d d' q v v' e = encoding-val d' q v' ∙ ap (λ (x : Val). encoding x.type x.word (take x.word x.room)) e ∙ sym (encoding-val d q v)

module _ (f : Frame) (b : Bytes f.payload) where
  -- ---- a whole element's step puts its field at its target
  record Puts (c : Contents) (w : ℕ) (h : Whole f c w) : Type 0 where
    placed : place_of f.objects (entry_of w).index (entry_of w).sub_index ≡ Ok (Value h.target)
    acts : act_of f c (decided f w) ≡ put_word f c w
    puts : put_word f c w ≡ put_in f.slots c h.target (part f.payload h.start h.len)

  whole_puts : (c : Contents) (w : ℕ) (h : Whole f c w) → Puts c w h
  unfolding act_of applied
  whole_puts c w h =
      let s = stored_at f.objects f.slots f.payload w h.target h.start h.len h.field h.stores in
      let k = value_class (aim_of f.objects w) h.start h.len h.target (record { field = h.field; away = s.away; placed = s.placed }) in
      record { placed = s.placed; acts = rw (h.stores, k); puts = rw k }

  next : (c : Contents) (w : ℕ) → Whole f c w → Sane f c → Sane f (put_word f c w)
  next c w h s = subst (Sane f) (whole_puts c w h).acts (act_sane f b c w s)

  -- another value is encoded as before
  step_stays : (c : Contents) (w : ℕ) → Sane f c → Whole f c w → (q : ℕ) → q < values_of f.objects → (place_of f.objects (entry_of w).index (entry_of w).sub_index ≡ Ok (Value q) → ⊥)
      → encoding_in f.slots (put_word f c w).words (put_word f c w).bytes q ≡ encoding_in f.slots c.words c.bytes q
  step_stays c w s h q l n =
      let d = held f c in
      let u = whole_puts c w h in
      let x = stored_by d f.payload h.target h.start h.len w h.stores in
      let y = element_facts d s.well (element_of_lem d s.well (entry_of w).index (entry_of w).sub_index h.target u.placed) in
      let away : q ≢ h.target = λ e. n (u.placed ∙ ap (λ p. Ok (Value p)) (sym e)) in
      let o = put_other d s.well h.target (part f.payload h.start h.len) x.word y.below x.fits q away l in
      let t = next c w h s in
      same_encodes d (held f (put_word f c w)) q (every_value d s.well q l) (every_value (held f (put_word f c w)) t.well q l) (ap (λ (k : Contents). val_at (held f k) q) u.puts ∙ o)

  -- ---- and so it is after all elements, where none maps it
  pub others_stay : (p : ℕ) (ws : List ℕ) (j : ℕ) (c : Contents) → Sane f c → AllWhole f p ws j c → (q : ℕ) → q < values_of f.objects
      → ((m : ℕ) → m < length ws → place_of f.objects (entry_of (get_or ws m 0)).index (entry_of (get_or ws m 0)).sub_index ≡ Ok (Value q) → ⊥)
      → encoding_in f.slots (put_all f ws c).words (put_all f ws c).bytes q ≡ encoding_in f.slots c.words c.bytes q
  unfolding put_all
  others_stay p [] j c s a q l n = refl
  others_stay p (w ∷ ws) j c s a q l n =
      others_stay p ws (j + 1) (put_word f c w) (next c w a.1 s) a.2 q l (λ m h. n (suc m) (omega (arith, h))) ∙ step_stays c w s a.1 q l (n 0 (omega arith))

  -- ---- the theorem: element k + 1 is the last that maps q
  pub later_stands : (p : ℕ) (ws : List ℕ) (j : ℕ) (c : Contents) → Sane f c → AllWhole f p ws j c → (k : ℕ) → k < length ws → (q start n : ℕ)
      → field_of (entry_of (get_or ws k 0)) ≡ field_at start n → place_of f.objects (entry_of (get_or ws k 0)).index (entry_of (get_or ws k 0)).sub_index ≡ Ok (Value q)
      → ((m : ℕ) → k < m → m < length ws → place_of f.objects (entry_of (get_or ws m 0)).index (entry_of (get_or ws m 0)).sub_index ≡ Ok (Value q) → ⊥)
      → encoding_in f.slots (put_all f ws c).words (put_all f ws c).bytes q ≡ part f.payload start n
  unfolding put_all
  later_stands p [] j c s a k l q start n fi pl la = absurd (omega (arith, l))
  later_stands p (w ∷ ws) j c s a zero l q start n fi pl la =
      let h = a.1 in
      let u = whole_puts c w h in
      let eq : h.target ≡ q = cc in
      let fl = same_field h.start h.len start n (sym h.field ∙ fi) in
      let v = element_facts (held f c) s.well (element_of_lem (held f c) s.well (entry_of w).index (entry_of w).sub_index q pl) in
      others_stay p ws (j + 1) (put_word f c w) (next c w h s) a.2 q v.below (λ m g. la (suc m) (omega arith) (omega (arith, g)))
      ∙ ap (λ (k : Contents). encoding_in f.slots k.words k.bytes q) (sym u.acts)
      ∙ rw (eq, fl.0, fl.1) at h.encodes
  later_stands p (w ∷ ws) j c s a (suc k) l q start n fi pl la =
      later_stands p ws (j + 1) (put_word f c w) (next c w a.1 s) a.2 k (omega (arith, l)) q start n fi pl (λ m g o. la (suc m) (omega (arith, g)) (omega (arith, o)))

-- ---- of the call: the last element that maps an index and a sub-index is what is read there afterwards
pub consumes_stand : (d : Dict) → well_formed d ≡ true → Bytes d.bytes → (payload : List ℕ) → Bytes payload → (sender version : ℕ) (ready : Bool) (es : List EventRecord) (p : ℕ) (ws : List ℕ) → Consumes d payload sender version ready es p ws
    → (k : ℕ) → k < length ws → (q start n : ℕ) → let e = entry_of (get_or ws k 0) in field_of e ≡ field_at start n → place_of d.objects e.index e.sub_index ≡ Ok (Value q)
    → ((m : ℕ) → k < m → m < length ws → (entry_of (get_or ws m 0)).index ≡ e.index → (entry_of (get_or ws m 0)).sub_index ≡ e.sub_index → ⊥)
    → let c = (received_of d payload sender version ready es).contents in encoding_in d.slots c.words c.bytes q ≡ part payload start n
consumes_stand d w b payload bp sender version ready es p ws u k l q start n fi pl la =
    let f = frame d.objects d.slots payload sender 0 in
    let c = contents d.words d.bytes in
    let x = element_of_lem d w (entry_of (get_or ws k 0)).index (entry_of (get_or ws k 0)).sub_index q pl in
    ap (λ (r : Received). encoding_in d.slots r.contents.words r.contents.bytes q) u.is
    ∙ later_stands f bp p ws 0 c (record { well = w; bytes = b }) u.whole k l q start n fi pl (λ m g o h. let y = element_one d w (element_of_lem d w (entry_of (get_or ws m 0)).index (entry_of (get_or ws m 0)).sub_index q h) x in la m g o y.0 y.1)

-- and what no element maps is read as before
pub consumes_others : (d : Dict) → well_formed d ≡ true → Bytes d.bytes → (payload : List ℕ) → Bytes payload → (sender version : ℕ) (ready : Bool) (es : List EventRecord) (p : ℕ) (ws : List ℕ) → Consumes d payload sender version ready es p ws
    → (x sub q : ℕ) → place_of d.objects x sub ≡ Ok (Value q) → ((m : ℕ) → m < length ws → (entry_of (get_or ws m 0)).index ≡ x → (entry_of (get_or ws m 0)).sub_index ≡ sub → ⊥)
    → let c = (received_of d payload sender version ready es).contents in encoding_in d.slots c.words c.bytes q ≡ encoding_in d.slots d.words d.bytes q
consumes_others d w b payload bp sender version ready es p ws u x sub q pl n =
    let f = frame d.objects d.slots payload sender 0 in
    let c = contents d.words d.bytes in
    let o = element_of_lem d w x sub q pl in
    ap (λ (r : Received). encoding_in d.slots r.contents.words r.contents.bytes q) u.is
    ∙ others_stay f bp p ws 0 c (record { well = w; bytes = b }) u.whole q (element_facts d w o).below (λ m g h. let y = element_one d w (element_of_lem d w (entry_of (get_or ws m 0)).index (entry_of (get_or ws m 0)).sub_index q h) o in n m g y.0 y.1)
