-- From a lookup to facts: what `find` and `locate` need holds of a well-formed dictionary, and the place that they answer is an element
-- of which the judgement has said all that reading and putting need.
-- Assumes nothing.
use Rattle.std.specs.Prelude.{Option, Some, None, Ok}
use mathlib.Core.Path.{◌≡◌, refl, sym, ap, ◌∙◌, subst}
use mathlib.Core.Bool.{Bool, true, false, cond, ◌&&◌, ◌||◌}
use mathlib.Core.Logic.{◌⊎◌, inl, inr, ◌≢◌}
use mathlib.Core.List.{List}
use Prim.Native.Nat.{ℕ, ◌+◌, ◌-◌, ◌*◌, ◌<◌, ◌≤◌}
use native.Mathlib.Omega.{arith}
use native.Mathlib.Decide.{dec_lt}
use borrow.Author.Tests.{eqb-true, eqb-false, leb-true}
use lib.Dec.{eqb, leb, ltb}
use lib.ListN.{length, take, drop, get_or}
use Rattle.value.specs.Codec.{is_text, fits_type, takes, text_word}
use Rattle.entry.specs.Model.{Obj}
use Rattle.entry.specs.Table.{list_count, is_mapping, edition_of, kept_at, Dict, model_of, val_at, obj_at, number_of, values_of, used_of, index_at, kind_at, count_at, first_at, type_at, start_at, room_at}
use Rattle.entry.specs.Rules.{extra_ok, word_ok, val_ok, tight, held_ok}
use Rattle.entry.specs.Judge.{used_at, well_formed}
use Rattle.entry.specs.Find.{Rows, Elements, find_row, sub_at, or_no_sub, on_row, place_of, object_of, object_in, nth}
use Rattle.entry.specs.declared.Place.TheVariants.{Count, Value}
use Rattle.entry.proofs.JudgeLaws.{and_true, head_ok_lem, headed}
use Rattle.entry.proofs.FactLaws.{row_facts}
use Rattle.entry.proofs.FindLaws.{found, found_row, value_there}
use Rattle.entry.proofs.ApartLaws.{owned, rising, firsts_rise}

-- ---- what looking up needs
pub rows_of : (d : Dict) → well_formed d ≡ true → Rows d.objects
rows_of d e =
    let h = headed d e in
    record { few = h.few; long = h.rows; firsts = λ i l. omega (arith, (row_facts d e i l).values, h.values); rises = rising d e }

-- no more elements of a list are in use than it has
pub list_count_le : (d : Dict) → well_formed d ≡ true → (i : ℕ) → i < number_of d.objects → list_count d.objects i ≤ count_at d.objects i
unfolding list_count extra_ok
list_count_le d e i h = go (eqb (edition_of d.objects) 2 && is_mapping (index_at d.objects i))
  where
    go : (b : Bool) → cond b (kept_at d.objects i) (count_at d.objects i) ≤ count_at d.objects i
    go true = leb-true _ _ (and_true (leb (kept_at d.objects i) (count_at d.objects i)) _ (row_facts d e i h).extra).0
    go false = omega arith

-- where row i lies
pub record RowLies (d : Dict) (i : ℕ) : Type 0 where
  pub below : i < number_of d.objects
  pub small : i < 1024
  pub inside : 12 * i + 24 ≤ length d.objects
  pub few : count_at d.objects i ≤ 254

pub row_lies : (d : Dict) → well_formed d ≡ true → (i : ℕ) → i < number_of d.objects → RowLies d i
row_lies d e i h =
    let a = headed d e in
    record { below = h; small = omega (arith, a.few); inside = omega (arith, a.rows); few = (head_ok_lem _ _ _ _ _ _ (row_facts d e i h).head).count_small }

pub found_lies : (d : Dict) → well_formed d ≡ true → (x i : ℕ) → find_row d.objects x ≡ Some i → RowLies d i
found_lies d e x i q = row_lies d e i (omega (arith, (found_row d.objects x (number_of d.objects) 0 i q).below))

-- the first n of its elements
pub elements_lie : (d : Dict) → well_formed d ≡ true → (i n : ℕ) → i < number_of d.objects → n ≤ count_at d.objects i → Elements d.slots d.words n (first_at d.objects i)
elements_lie d w i n h l =
    let g = headed d w in
    let r = row_facts d w i h in
    let c = (head_ok_lem _ _ _ _ _ _ r.head).count_small in
    record {
      few = omega (arith, l, c);
      low = omega (arith, l, r.values, g.values);
      slotted = omega (arith, l, r.values, g.slots);
      worded = omega (arith, l, r.values, g.words);
    }

-- ---- the element that an index and a sub-index name
pub record Element (d : Dict) (x sub p : ℕ) : Type 0 where
  pub row : ℕ
  pub k : ℕ
  pub below : row < number_of d.objects
  pub inside : k < count_at d.objects row
  pub place : p ≡ first_at d.objects row + k
  pub index : index_at d.objects row ≡ x
  pub found : find_row d.objects x ≡ Some row
  -- a Variable's value has sub-index 0, a list's element k has k + 1
  pub variable : kind_at d.objects row ≡ 0 → (sub ≡ 0) × (k ≡ 0)
  pub list : (kind_at d.objects row ≡ 0 → ⊥) → sub ≡ k + 1

by_sub : (a b c : Bool) (f n m : ℕ) {p : ℕ} → or_no_sub (cond a (cond b (Some (Value f)) None) (cond b (Some (Count n)) (cond c (Some (Value m)) None))) ≡ Ok (Value p) → ((a ≡ true) × (b ≡ true) × (f ≡ p)) ⊎ ((a ≡ false) × (b ≡ false) × (c ≡ true) × (m ≡ p))
by_sub true true c f n m q = inl (refl, refl, (cc))
by_sub true false c f n m q = let z : ◌≡◌ {A = ℕ} 0 1 = cc in absurd (omega arith)
by_sub false true c f n m q = let z : ◌≡◌ {A = ℕ} 0 1 = cc in absurd (omega arith)
by_sub false false true f n m q = inr (refl, refl, refl, (cc))
by_sub false false false f n m q = let z : ◌≡◌ {A = ℕ} 0 1 = cc in absurd (omega arith)

pub element_of_lem : (d : Dict) → well_formed d ≡ true → (x sub p : ℕ) → place_of d.objects x sub ≡ Ok (Value p) → Element d x sub p
unfolding sub_at
element_of_lem d e x sub p q = go (find_row d.objects x) refl q
  where
    at : (i : ℕ) → find_row d.objects x ≡ Some i
        → ((eqb (kind_at d.objects i) 0 ≡ true) × (eqb sub 0 ≡ true) × (first_at d.objects i ≡ p))
        ⊎ ((eqb (kind_at d.objects i) 0 ≡ false) × (eqb sub 0 ≡ false) × (leb sub (count_at d.objects i) ≡ true) × (first_at d.objects i + (sub - 1) ≡ p))
        → Element d x sub p
    at i f (inl h) =
        let r = found_row d.objects x (number_of d.objects) 0 i f in
        let below : i < number_of d.objects = omega (arith, r.below) in
        let kind : kind_at d.objects i ≡ 0 = eqb-true (kind_at d.objects i) 0 h.0 in
        let s : sub ≡ 0 = eqb-true sub 0 h.1 in
        let one : count_at d.objects i ≡ 1 = (head_ok_lem _ _ _ _ _ _ (row_facts d e i below).head).variable kind in
        record { row = i; k = 0; below = below; inside = omega arith; place = omega (arith, h.2); index = r.index; found = f; variable = λ z. (s, refl); list = λ n. absurd (n kind) }
    at i f (inr h) =
        let r = found_row d.objects x (number_of d.objects) 0 i f in
        let kind : kind_at d.objects i ≡ 0 → ⊥ = eqb-false (kind_at d.objects i) 0 h.0 in
        let s : sub ≡ 0 → ⊥ = eqb-false sub 0 h.1 in
        let l : sub ≤ count_at d.objects i = leb-true sub (count_at d.objects i) h.2 in
        record { row = i; k = sub - 1; below = omega (arith, r.below); inside = omega arith; place = omega (arith, h.3); index = r.index; found = f; variable = λ z. absurd (kind z); list = λ n. omega arith }

    go : (f : Option ℕ) → find_row d.objects x ≡ f → on_row d.objects sub f ≡ Ok (Value p) → Element d x sub p
    go (Some i) f h =
        at i f (by_sub (eqb (kind_at d.objects i) 0) (eqb sub 0) (leb sub (count_at d.objects i)) (first_at d.objects i) (list_count d.objects i) (first_at d.objects i + (sub - 1)) h)
    go None f h = let z : ◌≡◌ {A = ℕ} 0 1 = cc in absurd (omega arith)

-- no two indices and sub-indices name the same value
pub element_one : (d : Dict) → well_formed d ≡ true → {x y a b p : ℕ} → Element d x a p → Element d y b p → (x ≡ y) × (a ≡ b)
element_one d e {x} {y} {a} {b} o u = (sym o.index ∙ ap (index_at d.objects) rows ∙ u.index, subs (eqb (kind_at d.objects o.row) 0) refl)
  where
    row_is : Dec (o.row < u.row) → Dec (u.row < o.row) → o.row ≡ u.row
    row_is (yes l) m =
        absurd (omega (arith, firsts_rise d e o.row u.row l u.below, o.inside, o.place, u.place))
    row_is (no l) (yes m) =
        absurd (omega (arith, firsts_rise d e u.row o.row m o.below, u.inside, o.place, u.place))
    row_is (no l) (no m) = omega arith

    rows : o.row ≡ u.row
    rows = row_is (dec_lt o.row u.row) (dec_lt u.row o.row)

    places : o.k ≡ u.k
    places = omega (arith, ap (first_at d.objects) rows, o.place, u.place)

    subs : (w : Bool) → eqb (kind_at d.objects o.row) 0 ≡ w → a ≡ b
    subs true q =
        let k : kind_at d.objects o.row ≡ 0 = eqb-true (kind_at d.objects o.row) 0 q in
        (o.variable k).0 ∙ sym (u.variable (sym (ap (kind_at d.objects) rows) ∙ k)).0
    subs false q =
        let n : kind_at d.objects o.row ≡ 0 → ⊥ = eqb-false (kind_at d.objects o.row) 0 q in
        o.list n ∙ ap (λ k. k + 1) places ∙ sym (u.list (λ z. n (ap (kind_at d.objects) rows ∙ z)))

pub elements_apart : (d : Dict) → well_formed d ≡ true → {x y a b p q : ℕ} → Element d x a p → Element d y b q → (x ≡ y → a ≡ b → ⊥) → p ≢ q
elements_apart d e {x} {y} {a} {b} {p} {q} o u n r =
    let s = element_one d e (subst (λ m. Element d x a m) r o) u in
    n s.0 s.1

-- ---- and in the model: value k of the object with that index
module _ (d : Dict) {x sub p : ℕ} (e : Element d x sub p) where
  pub names_object : object_of x (model_of d) ≡ Some (obj_at d e.row)
  names_object = found d x (number_of d.objects) 0 ∙ ap (object_in d) e.found

  pub names_value : nth (obj_at d e.row).values e.k ≡ Some (val_at d p)
  names_value =
      value_there d (used_at d.objects e.row) (first_at d.objects e.row) e.k (omega (arith, e.inside)) ∙ ap (λ n. Some (val_at d n)) (sym e.place)

  pub names : (o : Obj) → object_of x (model_of d) ≡ Some o → nth o.values e.k ≡ Some (val_at d p)
  names o q =
      let s : obj_at d e.row ≡ o = cc names_object in
      ap (λ a. nth a.values e.k) (sym s) ∙ names_value

-- ---- what is known of a value
pub record ValueFacts (d : Dict) (p : ℕ) : Type 0 where
  pub below : p < values_of d.objects
  pub low : p < 6144
  pub slot : 3 * p + 3 ≤ length d.slots
  pub word : p < length d.words
  pub type : type_at d.slots p ≤ 20
  pub room : room_at d.slots p ≤ 1490
  pub within : start_at d.slots p + room_at d.slots p ≤ used_of d.objects
  pub bytes : used_of d.objects ≤ length d.bytes
  pub total : used_of d.objects ≤ 32768
  pub text : is_text (type_at d.slots p) ≡ true → (get_or d.words p 0 ≤ room_at d.slots p) × (takes (text_word (type_at d.slots p) (take (get_or d.words p 0) (drop (start_at d.slots p) d.bytes))) ≡ true)
  pub fixed : is_text (type_at d.slots p) ≡ false → fits_type (type_at d.slots p) (get_or d.words p 0) ≡ true

record HeldOk (n t w r : ℕ) (s : List ℕ) : Type 0 where
  type : t ≤ 20
  room : r ≤ 1490
  word : word_ok t w r s ≡ true
  last : (ltb 0 n || tight t w r) ≡ true

held_ok_lem : (n t w r : ℕ) (s : List ℕ) → held_ok n t w r s ≡ true → HeldOk n t w r s
unfolding held_ok val_ok
held_ok_lem n t w r s e =
    let a = and_true (leb t 20 && (leb r 1490 && word_ok t w r s)) (ltb 0 n || tight t w r) e in
    let b = and_true (leb t 20) (leb r 1490 && word_ok t w r s) a.0 in
    let c = and_true (leb r 1490) (word_ok t w r s) b.1 in
    record { type = leb-true t 20 b.0; room = leb-true r 1490 c.0; word = c.1; last = a.1 }

pub word_text : (t w r : ℕ) (s : List ℕ) → word_ok t w r s ≡ true → is_text t ≡ true → (w ≤ r) × (takes (text_word t (take w s)) ≡ true)
unfolding word_ok
word_text t w r s e h =
    let a = and_true (leb w r) (takes (text_word t (take w s))) (rw h at e) in
    (leb-true w r a.0, a.1)

pub word_fixed : (t w r : ℕ) (s : List ℕ) → word_ok t w r s ≡ true → is_text t ≡ false → fits_type t w ≡ true
unfolding word_ok
word_fixed t w r s e h = rw h at e

-- value k of row i, an element or the default
pub value_facts : (d : Dict) → well_formed d ≡ true → (i k : ℕ) → i < number_of d.objects → k < used_at d.objects i → ValueFacts d (first_at d.objects i + k)
value_facts d e i k h l =
    let p = first_at d.objects i + k in
    let t = type_at d.slots p in
    let w = get_or d.words p 0 in
    let r = room_at d.slots p in
    let s = drop (start_at d.slots p) d.bytes in
    let a = headed d e in
    let f = row_facts d e i h in
    let g = f.slot k l in
    let o = held_ok_lem (count_at d.objects i - k) t w r s g.held in
    record {
      below = omega (arith, f.values);
      low = omega (arith, f.values, a.values);
      slot = omega (arith, f.values, a.slots);
      word = omega (arith, f.values, a.words);
      type = o.type;
      room = o.room;
      within = g.within;
      bytes = a.bytes;
      total = a.total;
      text = word_text t w r s o.word;
      fixed = word_fixed t w r s o.word;
    }

pub element_facts : (d : Dict) → well_formed d ≡ true → {x sub p : ℕ} → Element d x sub p → ValueFacts d p
element_facts d e o =
    rw o.place (value_facts d e o.row o.k o.below (omega (arith, o.inside)))

pub value_lies : (d : Dict) → well_formed d ≡ true → (x sub i p : ℕ) → find_row d.objects x ≡ Some i → sub_at d.objects i sub ≡ Some (Value p) → ValueFacts d p
value_lies d w x sub i p e q = element_facts d w (element_of_lem d w x sub p (ap (on_row d.objects sub) e ∙ ap or_no_sub q))

-- every value is one of a row's
pub every_value : (d : Dict) → well_formed d ≡ true → (p : ℕ) → p < values_of d.objects → ValueFacts d p
every_value d e p h =
    let o = owned d e p h in
    rw o.place (value_facts d e o.row o.k o.below o.inside)
