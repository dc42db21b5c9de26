-- A pass lasts: in a later dictionary that keeps the channel's list and what it maps, every payload admitted there is written whole.
-- Assumes nothing.
use Rattle.std.specs.Prelude.{Some, Ok}
use mathlib.Core.Path.{◌≡◌, refl, sym, ap, ◌∙◌, subst}
use mathlib.Core.Bool.{Bool, true, false}
use mathlib.Core.List.{List, [], ◌∷◌}
use Prim.Native.Nat.{ℕ, suc, ◌+◌, ◌<◌}
use native.Mathlib.Nat.{add-zero}
use native.Mathlib.Omega.{arith}
use borrow.Author.Tests.{eq-eqb, ne_eqb, eqb-true, le-leb}
use lib.Dec.{eqb}
use lib.ListN.{length, get_or}
use Rattle.lists.specs.Numbers.{Bytes}
use Rattle.mapping.specs.Word.{entry_of}
use Rattle.entry.specs.Table.{Dict, kind_at, count_at, first_at, type_at, room_at}
use Rattle.entry.specs.Find.{find_row, sub_at, or_no_sub, place_of}
use Rattle.entry.specs.Judge.{well_formed}
use Rattle.entry.specs.Put.{contents}
use Rattle.entry.specs.declared.Place.TheVariants.{Value}
use Rattle.entry.proofs.ValueLaws.{list_count_le, found_lies, Element, element_of_lem}
use Rattle.pdo_run.specs.Run.{frame, list_in}
use Rattle.pdo_handler.specs.Consume.{consumed_by}
use Rattle.channel.specs.declared.Checked.TheVariants.{Pass}
use Rattle.element.specs.Elements.{word_verdict}
use Rattle.channel.specs.Check.{check_of}
use Rattle.demand.specs.Demand.{Admitted, Written}
use Rattle.demand.specs.Saying.{AllClean}
use Rattle.demand.specs.Lasting.{SameRow, Shaped, SameWords, SameTarget, Keeps}
use Rattle.demand.proofs.CleanLaws.{CleanWord, clean_word}
use Rattle.demand.proofs.PassLaws.{clean_element, clean_run}
use Rattle.demand.proofs.DemandLaws.{passed}
use Rattle.demand.proofs.ExactLaws.{list_length}

-- ---- a value's place, type and room in a dictionary of the same shape
pub same_target : (d d' : Dict) → Shaped d d' → well_formed d ≡ true → (x sub p : ℕ) → place_of d.objects x sub ≡ Ok (Value p) → SameTarget d d' x sub p
unfolding sub_at
same_target d d' shape w x sub p q =
    let e = element_of_lem d w x sub p q in
    let s = shape x e.row e.found in
    record {
      place = first_at d'.objects s.row + e.k;
      placed = rw s.found (ap or_no_sub (there e s (eqb (kind_at d.objects e.row) 0) refl));
      type = s.types e.k e.inside ∙ ap (type_at d.slots) (sym e.place);
      room = s.rooms e.k e.inside ∙ ap (room_at d.slots) (sym e.place);
    }
  where
    there : (e : Element d x sub p) (s : SameRow d d' x e.row) (b : Bool) → eqb (kind_at d.objects e.row) 0 ≡ b → sub_at d'.objects s.row sub ≡ Some (Value (first_at d'.objects s.row + e.k))
    there e s true h =
        let z = e.variable (eqb-true _ _ h) in
        rw (s.kind, h, eq-eqb sub 0 z.0) (ap (λ p. Some (Value p)) (omega (arith, z.1)))
    there e s false h =
        let z = e.list (λ u. let v : ◌≡◌ {A = ℕ} 0 1 = cc in absurd (omega arith)) in
        rw (s.kind, h, ne_eqb sub 0 (λ u. omega (arith, u, z)), le-leb sub (count_at d'.objects s.row) (omega (arith, s.count, e.inside, z)))
        (ap (λ n. Some (Value (first_at d'.objects s.row + n))) (omega (arith, z)))

-- ---- a clean word stays clean where its target is the same
pub word_clean : (objects slots : List ℕ) (w : ℕ) → CleanWord objects slots w → word_verdict objects slots w ≡ Ok tt
unfolding word_verdict
word_clean objects slots w c = rw (c.field, c.away, c.placed, c.fits)

module _ (d d' : Dict) where
  -- what a word maps is the same
  abbrev Mapped : ℕ → Type 0
  Mapped w = (p : ℕ) → place_of d.objects (entry_of w).index (entry_of w).sub_index ≡ Ok (Value p) → SameTarget d d' (entry_of w).index (entry_of w).sub_index p

  kept_word : (w : ℕ) → Mapped w → word_verdict d.objects d.slots w ≡ (Ok tt) → word_verdict d'.objects d'.slots w ≡ Ok tt
  kept_word w same e =
      let c = clean_word d.objects d.slots w e in
      let t = same c.target c.placed in
      word_clean d'.objects d'.slots w (record { target = t.place; start = c.start; len = c.len; field = c.field; away = c.away; placed = t.placed; fits = rw (t.type, t.room) c.fits })

  kept_clean : (p p' : ℕ) (ws : List ℕ) (j : ℕ) → ((m : ℕ) → m < length ws → type_at d'.slots (p' + (j + m)) ≡ type_at d.slots (p + (j + m))) → ((m : ℕ) → m < length ws → Mapped (get_or ws m 0))
      → AllClean d.objects d.slots p ws j → AllClean d'.objects d'.slots p' ws j
  kept_clean p p' [] j t a c = tt
  kept_clean p p' (w ∷ ws) j t a c =
      let e = clean_element d.objects d.slots (type_at d.slots (p + j)) w c.0 in
      let t₀ : type_at d'.slots (p' + j) ≡ type_at d.slots (p + j) = rw add-zero at (t 0 (omega arith)) in
      (rw (eq-eqb _ 8 (t₀ ∙ e.0)) (kept_word w (a 0 (omega arith)) e.1), kept_clean p p' ws (j + 1) (λ m h. let z : j + suc m ≡ j + 1 + m = omega arith in rw z at (t (suc m) (omega (arith, h)))) (λ m h. a (suc m) (omega (arith, h))) c.1)

  -- ---- the theorem: "The rest holds for every payload admitted in a later dictionary"; there the list is in row r
  pub pass_lasts : (i : ℕ) → check_of d i ≡ Pass → Keeps d d' i → well_formed d' ≡ true → Bytes d'.bytes → (payload : List ℕ) → Bytes payload → (sender version : ℕ) (ready : Bool) (m r : ℕ)
      → find_row d'.objects (0x1600 + i) ≡ Some r → Admitted d' i r payload sender version ready
      → Written (frame d'.objects d'.slots payload sender m) (contents d'.words d'.bytes) version ready (first_at d'.objects r) (list_in d'.objects d'.words r)
  unfolding consumed_by
  pass_lasts i e keeps w b payload bp sender version ready m r found a =
      let s = passed d i e in
      let k = keeps s.row s.found in
      let l = k.list in
      let same : l.row ≡ r = cc in
      let long = list_length d s.well (0x1600 + i) s.row s.found in
      let used = list_count_le d s.well s.row (found_lies d s.well (0x1600 + i) s.row s.found).below in
      let c : AllClean d'.objects d'.slots (first_at d'.objects l.row) (list_in d'.objects d'.words l.row) 0 =
      rw k.words
      (kept_clean (first_at d.objects s.row) (first_at d'.objects l.row) (list_in d.objects d.words s.row) 0
      (λ m h. let z : 0 + m ≡ m = omega arith in rw z (l.types m (omega (arith, h, long, used)))) (λ m h. k.targets m (omega (arith, h, long))) s.clean) in
      let f = frame d'.objects d'.slots payload sender m in
      let clean = subst (λ r. AllClean d'.objects d'.slots (first_at d'.objects r) (list_in d'.objects d'.words r) 0) same c in
      let kind : kind_at d'.objects r ≡ kind_at d.objects s.row = ap (kind_at d'.objects) (sym same) ∙ l.kind in
      let q = clean_run f bp (first_at d'.objects r) (list_in d'.objects d'.words r) 0 (contents d'.words d'.bytes) (record { well = w; bytes = b }) clean a.long a.texts in
      record { silent = rw (a.is-ready, a.first, a.right, found, kind, s.list) q.ran; whole = q.whole }

-- ---- a dictionary of the same shape with the same words keeps the channel
pub shaped_keeps : (d d' : Dict) (i : ℕ) → well_formed d ≡ true → Shaped d d' → SameWords d d' i → Keeps d d' i
shaped_keeps d d' i w shape same r f =
    let s = shape (0x1600 + i) r f in
    record { list = s; words = same r s.row f s.found; targets = λ k h p q. same_target d d' shape w _ _ p q }
