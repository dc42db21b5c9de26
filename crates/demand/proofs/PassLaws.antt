-- What passes is written whole: each element of a clean list stores its field, in order, with no event. Assumes nothing.
use Rattle.std.specs.Prelude.{None, Ok, Err}
use mathlib.Core.Path.{◌≡◌, refl, ap, ◌∙◌, subst}
use mathlib.Core.Bool.{Bool, true, false, cond}
use mathlib.Core.List.{List, [], ◌∷◌}
use Prim.Native.Nat.{ℕ, ◌+◌, ◌≤◌}
use native.Mathlib.Omega.{arith}
use borrow.Author.Tests.{eq-eqb, eqb-true}
use lib.Dec.{eqb}
use lib.ListN.{length, take}
use lib.Seq.{get_or-set_same, take_all}
use Rattle.lists.specs.Numbers.{Bytes, number}
use Rattle.lists.proofs.ListLaws.{over_read}
use Rattle.lists.proofs.NumberLaws.{bytes_of-number, bytes_take, bytes_drop, part_length}
use Rattle.value.specs.Codec.{is_text, size_of}
use Rattle.value.proofs.CodecLaws.{encoding_text, encoding_fixed}
use Rattle.mapping.specs.Word.{entry_of, end_of}
use Rattle.mapping.proofs.WordLaws.{whole_field, entry_in_range}
use Rattle.entry.specs.Table.{Dict, type_at, start_at}
use Rattle.entry.specs.Encode.{encoding_in}
use Rattle.entry.specs.Put.{Contents, contents, put_in}
use Rattle.entry.proofs.ValueLaws.{ValueFacts, element_of_lem, element_facts}
use Rattle.entry.proofs.PutLaws.{put_text, put_fixed}
use Rattle.pdo_step.specs.declared.Outcome.TheVariants as outcome
use Rattle.pdo_step.specs.Outcomes.{part}
use Rattle.pdo_step.specs.Effects.{effect_of}
use Rattle.pdo_step.specs.Steps.{applied}
use Rattle.pdo_run.specs.Run.{Frame, held, decided, act_of, ran, run_from}
use Rattle.pdo_handler.proofs.ConsumeLaws.{Sane, act_sane}
use Rattle.element.specs.declared.Fault.TheVariants as fault
use Rattle.element.specs.Elements.{length_fits, word_verdict, verdict_of}
use Rattle.demand.specs.Demand.{Long, TextAt, Texts, Whole, put_word, put_all, AllWhole}
use Rattle.demand.specs.Saying.{AllClean}
use Rattle.demand.proofs.CleanLaws.{clean_word, clean_stored, clean_class}

-- ---- what was put is encoded as what was put
pub put_encodes : (d : Dict) (p : ℕ) (s : List ℕ) → ValueFacts d p → Bytes s → (is_text (type_at d.slots p) ≡ false → length s ≡ size_of (type_at d.slots p))
    → let c = put_in d.slots (contents d.words d.bytes) p s in encoding_in d.slots c.words c.bytes p ≡ s
put_encodes d p s v b l = go (is_text t) refl
  where
    t : ℕ
    t = type_at d.slots p

    k : Contents
    k = contents d.words d.bytes

    go : (x : Bool) → is_text t ≡ x → encoding_in d.slots (put_in d.slots k p s).words (put_in d.slots k p s).bytes p ≡ s
    go true x =
        ap (λ (c : Contents). encoding_in d.slots c.words c.bytes p) (put_text d.slots k p s x)
        ∙ encoding_text t _ _ x
        ∙ rw (get_or-set_same d.words p (length s) 0 v.word) (over_read d.bytes (start_at d.slots p) s (omega (arith, v.within, v.bytes)))
    go false x =
        ap (λ (c : Contents). encoding_in d.slots c.words c.bytes p) (put_fixed d.slots k p s x)
        ∙ encoding_fixed t _ _ x
        ∙ rw (get_or-set_same d.words p (number (take (size_of t) s)) 0 v.word, take_all (size_of t) s (omega (arith, l x)), ← (l x)) (bytes_of-number s b)

-- ---- a clean element is U64, and its word is clean
pub clean_element : (objects slots : List ℕ) (t w : ℕ) → verdict_of objects slots t w ≡ (Ok tt) → (t ≡ 8) × (word_verdict objects slots w ≡ (Ok tt))
clean_element objects slots t w e = go (eqb t 8) refl e
  where
    go : (b : Bool) → eqb t 8 ≡ b → cond b (word_verdict objects slots w) (Err fault.NotMapping) ≡ (Ok tt) → (t ≡ 8) × (word_verdict objects slots w ≡ (Ok tt))
    go true q r = (eqb-true t 8 q, r)
    go false q r = let z : ◌≡◌ {A = ℕ} 0 1 = cc in absurd (omega arith)

fixed_fits : (t room n : ℕ) → length_fits t room n ≡ true → is_text t ≡ false → n ≡ size_of t
fixed_fits t room n f x = eqb-true n (size_of t) (rw x at f)

module _ (f : Frame) (b : Bytes f.payload) where
  -- what a clean word's step is
  pub record Steps (c : Contents) (w : ℕ) : Type 0 where
    pub whole : Whole f c w
    pub acts : act_of f c (decided f w) ≡ put_word f c w
    pub stays : (effect_of (decided f w)).stops ≡ false
    pub silent : (effect_of (decided f w)).event ≡ None

  pub clean_step : (c : Contents) (w : ℕ) → Sane f c → word_verdict f.objects f.slots w ≡ (Ok tt) → end_of (entry_of w) ≤ length f.payload → TextAt f.objects f.slots f.payload w → Steps c w
  unfolding act_of applied
  clean_step c w s v l t =
      let k = clean_word f.objects f.slots w v in
      let x = whole_field (entry_of w) (entry_in_range w) k.start k.len k.field in
      let h : k.start + k.len ≤ length f.payload = omega (arith, x.end, l) in
      let q : decided f w ≡ outcome.Stored k.target k.start k.len = clean_stored f.objects f.slots f.payload w k h t in
      let d = held f c in
      let y = element_facts d s.well (element_of_lem d s.well (entry_of w).index (entry_of w).sub_index k.target k.placed) in
      let long = part_length f.payload k.start k.len h in
      let e = put_encodes d k.target (part f.payload k.start k.len) y (bytes_take k.len _ (bytes_drop k.start f.payload b)) (λ z. long ∙ fixed_fits _ _ _ k.fits z) in
      record {
        whole = record { target = k.target; start = k.start; len = k.len; field = k.field; stores = q; encodes = rw q e };
        acts = rw (q, clean_class f.objects f.slots w k);
        stays = rw q;
        silent = rw q;
      }

  -- no event, each element whole, and the contents are those of the puts in list order
  pub record Runs (p : ℕ) (ws : List ℕ) (j : ℕ) (c : Contents) : Type 0 where
    pub ran : run_from f p ws j c ≡ ran (put_all f ws c) []
    pub whole : AllWhole f p ws j c

  pub clean_run : (p : ℕ) (ws : List ℕ) (j : ℕ) (c : Contents) → Sane f c → AllClean f.objects f.slots p ws j → Long f.slots f.payload p ws j → Texts f.objects f.slots f.payload p ws j → Runs p ws j c
  unfolding run_from put_all
  clean_run p [] j c s k l t = record { ran = refl; whole = tt }
  clean_run p (w ∷ ws) j c s k l t =
      let e = clean_element f.objects f.slots (type_at f.slots (p + j)) w k.0 in
      let x = clean_step c w s e.1 (l.0 e.0) (t.0 e.0) in
      let r = clean_run p ws (j + 1) (put_word f c w) (subst (Sane f) x.acts (act_sane f b c w s)) k.1 l.1 t.1 in
      record { ran = rw (eq-eqb _ 8 e.0, x.stays, x.silent, x.acts) r.ran; whole = (e.0, x.whole, r.whole) }
