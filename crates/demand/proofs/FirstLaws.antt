-- The fault that is named is the first: under an admitted payload the elements before it are written whole. Assumes nothing.
use Rattle.std.specs.Prelude.{Ok}
use mathlib.Core.Path.{◌≡◌, refl, sym, ap, ◌∙◌, subst}
use mathlib.Core.Bool.{Bool, true, false}
use mathlib.Core.List.{List, [], ◌∷◌, ◌++◌, append-nil}
use Prim.Native.Nat.{ℕ, zero, suc, ◌+◌, ◌<◌, ◌≤◌}
use native.Mathlib.Nat.{add-zero}
use native.Mathlib.Omega.{arith}
use borrow.Author.Tests.{eq-eqb}
use lib.ListN.{length, take, drop, get_or}
use Rattle.lists.specs.Numbers.{Bytes}
use Rattle.entry.specs.Table.{Dict, type_at}
use Rattle.entry.specs.Put.{Contents, contents}
use Rattle.pdo_step.specs.Effects.{effect_of}
use Rattle.pdo_run.specs.Run.{Frame, frame, decided, recorded, act_of, Ran, run_from}
use Rattle.pdo_run.proofs.RunLaws.{run_stops, run_on_lem}
use Rattle.pdo_handler.specs.Consume.{consumed_by, received_by}
use Rattle.pdo_handler.proofs.ConsumeLaws.{Sane, act_sane}
use Rattle.element.specs.declared.Fault.{Fault}
use Rattle.element.specs.Elements.{verdict_of}
use Rattle.demand.specs.Demand.{Long, Texts, Admitted, put_word, put_all}
use Rattle.demand.specs.Saying.{list_start, list_words, element_type, element_word, AllClean, Never}
use Rattle.demand.specs.First.{First, Told}
use Rattle.demand.proofs.PassLaws.{clean_element, clean_step, clean_run}

-- ---- the first n of some elements
clean_front : (objects slots : List ℕ) (p : ℕ) (ws : List ℕ) (j n : ℕ) → n ≤ length ws → ((m : ℕ) → m < n → verdict_of objects slots (type_at slots (p + (j + m))) (get_or ws m 0) ≡ (Ok tt)) → AllClean objects slots p (take n ws) j
clean_front objects slots p ws j zero h c = tt
clean_front objects slots p [] j (suc n) h c = absurd (omega (arith, h))
clean_front objects slots p (w ∷ ws) j (suc n) h c =
    (rw add-zero at (c 0 (omega arith)), clean_front objects slots p ws (j + 1) n (omega (arith, h)) (λ m l. let e : j + suc m ≡ j + 1 + m = omega arith in rw e at (c (suc m) (omega (arith, l)))))

long_front : (slots payload : List ℕ) (p : ℕ) (ws : List ℕ) (j n : ℕ) → Long slots payload p ws j → Long slots payload p (take n ws) j
long_front slots payload p ws j zero l = tt
long_front slots payload p [] j (suc n) l = tt
long_front slots payload p (w ∷ ws) j (suc n) l = (l.0, long_front slots payload p ws (j + 1) n l.1)

texts_front : (objects slots payload : List ℕ) (p : ℕ) (ws : List ℕ) (j n : ℕ) → Texts objects slots payload p ws j → Texts objects slots payload p (take n ws) j
texts_front objects slots payload p ws j zero t = tt
texts_front objects slots payload p [] j (suc n) t = tt
texts_front objects slots payload p (w ∷ ws) j (suc n) t = (t.0, texts_front objects slots payload p ws (j + 1) n t.1)

-- a run over clean elements first puts their fields, and then goes on with the others
run_front : (f : Frame) → Bytes f.payload → (p : ℕ) (ws : List ℕ) (j n : ℕ) (c : Contents) → Sane f c → AllClean f.objects f.slots p (take n ws) j → Long f.slots f.payload p (take n ws) j → Texts f.objects f.slots f.payload p (take n ws) j
    → n ≤ length ws → run_from f p ws j c ≡ run_from f p (drop n ws) (j + n) (put_all f (take n ws) c)
unfolding run_from put_all
run_front f b p ws j zero c s k l t h = rw (add-zero j)
run_front f b p [] j (suc n) c s k l t h = absurd (omega (arith, h))
run_front f b p (w ∷ ws) j (suc n) c s k l t h =
    let e = clean_element f.objects f.slots (type_at f.slots (p + j)) w k.0 in
    let x = clean_step f b c w s e.1 (l.0 e.0) (t.0 e.0) in
    let z : j + suc n ≡ j + 1 + n = omega arith in
    let r = run_front f b p ws (j + 1) n (put_word f c w) (subst (Sane f) x.acts (act_sane f b c w s)) k.1 l.1 t.1 (omega (arith, h)) in
    rw (eq-eqb _ 8 e.0, x.stays, x.silent, x.acts, z) r

-- ---- the theorem: of the element that a fault names (`named_never`), under an admitted payload
module _ (d : Dict) (i k : ℕ) (v : Fault) (n : Never d i k v) (b : Bytes d.bytes) (payload : List ℕ) (bp : Bytes payload) (sender version : ℕ) (ready : Bool) (m : ℕ) (a : Admitted d i n.listed.row payload sender version ready) where
  abbrev f : Frame
  f = frame d.objects d.slots payload sender m

  abbrev r : ℕ
  r = n.listed.row

  abbrev place : ℕ
  place = n.fault.place

  abbrev p : ℕ
  p = list_start d r

  abbrev ws : List ℕ
  ws = list_words d r

  abbrev c : Contents
  c = contents d.words d.bytes

  pub named_first : First d r place f version ready
  unfolding consumed_by
  named_first =
      let l = n.listed in
      let s : Sane f c = record { well = l.well; bytes = b } in
      let h : place ≤ length ws = omega (arith, n.fault.below) in
      let clean = clean_front d.objects d.slots p ws 0 place h (λ q u. let z : 0 + q ≡ q = omega arith in rw z (n.fault.before q u)) in
      let long = long_front d.slots payload p ws 0 place a.long in
      let texts = texts_front d.objects d.slots payload p ws 0 place a.texts in
      let ran = clean_run f bp p (take place ws) 0 c s clean long texts in
      let z : 0 + place ≡ place = omega arith in
      let q = rw z at (run_front f bp p ws 0 place c s clean long texts h) in
      record { whole = ran.whole; then = rw (a.is-ready, a.first, a.right, l.found, l.list) q }

  pub named_told_lem : element_type d r place ≡ 8 → Told f (received_by f c version ready) k (element_word d r place)
  named_told_lem t = go (effect_of (decided f w)).stops refl
    where
      w : ℕ
      w = element_word d r place

      c' : Contents
      c' = put_all f (take place ws) c

      go : (x : Bool) → (effect_of (decided f (element_word d r place))).stops ≡ x → Told f (received_by f c version ready) k (element_word d r place)
      go true s = record { rest = []; events = ap (λ (x : Ran). x.events) (named_first.then ∙ run_stops f p ws place c' n.fault.below t s) ∙ ap (λ x. recorded m x (effect_of (decided f w)).event) (sym n.element) ∙ sym (append-nil (recorded m k (effect_of (decided f w)).event)) }
      go false s =
          let rest = (run_from f p (drop (place + 1) ws) (place + 1) (act_of f c' (decided f w))).events in
          record { rest = rest; events = ap (λ (x : Ran). x.events) (named_first.then ∙ run_on_lem f p ws place c' n.fault.below t s) ∙ ap (λ x. recorded m x (effect_of (decided f w)).event ++ rest) (sym n.element) }
