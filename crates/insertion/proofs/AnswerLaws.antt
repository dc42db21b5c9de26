-- Each way through an insertion, and the theorems: it keeps a dictionary well-formed and every other object, and the new one is found.
-- Assumes nothing.
use Rattle.std.specs.Prelude.{Some, None, Result, Ok, Err}
use Rattle.answers.specs.declared.Refusal.{Refusal}
use mathlib.Core.Path.{◌≡◌, refl, sym, ap, ◌∙◌}
use mathlib.Core.Bool.{Bool, true, false, cond}
use mathlib.Core.List.{List}
use Prim.Native.Nat.{ℕ, ◌+◌, ◌≤◌}
use native.Mathlib.Omega.{arith}
use borrow.Author.Tests.{leb-true, ltb-true, le-leb, lt-ltb}
use lib.ListN.{length}
use Rattle.answers.specs.declared.Refusal.TheVariants.{Malformed, BadValue, Occupied, Full}
use Rattle.entry.specs.Model.{Obj, used, size}
use Rattle.entry.specs.Table.{Dict, edition_of, model_of, number_of, values_of, used_of, row_end, slot_place}
use Rattle.entry.specs.Judge.{well_formed}
use Rattle.entry.specs.Find.{object_of}
use Rattle.given.specs.Given.{obj_in, right_in, size_in, count_in, rooms_in, Values}
use Rattle.placing.specs.Place.{inserted, Room}
use Rattle.insertion.specs.Insert.{below, taken, fits_in, answer_of, memory_after, memory_of}
use Rattle.insertion.specs.Replace.{RoomIn}
use Rattle.given.specs.declared.Head.{Head}
use Rattle.entry.proofs.JudgeLaws.{and_true, sound, length_objs}
use Rattle.entry.proofs.ModelLaws.{totals}
use Rattle.given.proofs.GivenLaws.{size_is}
use Rattle.given.proofs.RightLaws.{right}
use Rattle.insertion.proofs.IndexLaws.{below_small}
use Rattle.insertion.proofs.KeepLaws.{Kept, kept, other, itself}

-- ---- the size says whether the object is right, and what put_in asks of it
size_some : (h : Head) (name vals encodings : List ℕ) (g : ℕ) → size_in h name vals encodings ≡ Some g → (right_in h name vals encodings ≡ true) × (size (obj_in h name vals encodings) ≡ g)
size_some h name vals encodings g = go (right_in h name vals encodings)
  where
    go : (x : Bool) → cond x (Some (size (obj_in h name vals encodings))) None ≡ Some g → (x ≡ true) × (size (obj_in h name vals encodings) ≡ g)
    go true e = (refl, cc)
    go false e = let z : ◌≡◌ {A = ℕ} 0 1 = cc in absurd (omega arith)

pub record Sized (h : Head) (name vals encodings : List ℕ) (g : ℕ) : Type 0 where
  pub right : right_in h name vals encodings ≡ true
  pub is : g ≡ size (obj_in h name vals encodings)
  pub sum : g ≡ length name + rooms_in vals (count_in vals) 0
  pub values : Values vals encodings (count_in vals)
  pub flagged : h.default ≤ count_in vals
  pub small : g ≤ 400000

pub sized : (h : Head) (name vals encodings : List ℕ) (g : ℕ) → size_in h name vals encodings ≡ Some g → Sized h name vals encodings g
sized h name vals encodings g e =
    let s = size_some h name vals encodings g e in
    let r = right h name vals encodings s.0 in
    record {
      right = s.0;
      is = sym s.1;
      sum = sym s.1 ∙ size_is h name vals encodings;
      values = r.values;
      flagged = r.flagged;
      small = omega (arith, r.small, s.1);
    }

pub size_none : (h : Head) (name vals encodings : List ℕ) → size_in h name vals encodings ≡ None → right_in h name vals encodings ≡ false
size_none h name vals encodings = go (right_in h name vals encodings)
  where
    go : (x : Bool) → cond x (Some (size (obj_in h name vals encodings))) None ≡ None → x ≡ false
    go true e = let z : ◌≡◌ {A = ℕ} 0 1 = cc in absurd (omega arith)
    go false e = refl

module _ (h : Head) (name vals encodings : List ℕ) (d : Dict) where
  abbrev o : Obj
  o = obj_in h name vals encodings

  abbrev new : Dict
  new = inserted (below h.index (model_of d)) o d

  by_answer : (a : Result (Unit {0}) Refusal) → answer_of h name vals encodings d ≡ a → memory_of h name vals encodings d ≡ memory_after a new d
  by_answer a e = ap (λ x. memory_after x new d) e

  pub malformed : well_formed d ≡ false → (Err Malformed ≡ answer_of h name vals encodings d) × (d ≡ memory_of h name vals encodings d)
  unfolding answer_of
  malformed e = let a : answer_of h name vals encodings d ≡ Err Malformed = rw e in (sym a, sym (by_answer (Err Malformed) a))

  module _ (w : well_formed d ≡ true) where
    pub bad_value : right_in h name vals encodings ≡ false → (Err BadValue ≡ answer_of h name vals encodings d) × (d ≡ memory_of h name vals encodings d)
    unfolding answer_of
    bad_value e = let a : answer_of h name vals encodings d ≡ Err BadValue = rw (w, e) in (sym a, sym (by_answer (Err BadValue) a))

    module _ (s : right_in h name vals encodings ≡ true) where
      pub occupied_by : taken h.index (model_of d) ≡ true → (Err Occupied ≡ answer_of h name vals encodings d) × (d ≡ memory_of h name vals encodings d)
      unfolding answer_of
      occupied_by e = let a : answer_of h name vals encodings d ≡ Err Occupied = rw (w, s, e) in (sym a, sym (by_answer (Err Occupied) a))

pub room_is : (d : Dict) (x u g : ℕ) → fits_in d u g ≡ true → Room d.objects d.slots d.words d.bytes (below x (model_of d)) u g
unfolding fits_in
room_is d x u g e =
    let x₀ = and_true _ _ e in
    let x₁ = and_true _ _ x₀.1 in
    let x₂ = and_true _ _ x₁.1 in
    let x₃ = and_true _ _ x₂.1 in
    let x₄ = and_true _ _ x₃.1 in
    let x₅ = and_true _ _ x₄.1 in
    record {
      place = omega (arith, below_small x (model_of d), length_objs d (number_of d.objects) 0);
      few = ltb-true _ _ x₀.0;
      rows = leb-true _ _ x₁.0;
      values = leb-true _ _ x₂.0;
      slotted = leb-true _ _ x₃.0;
      worded = leb-true _ _ x₄.0;
      total = leb-true _ _ x₅.0;
      arena = leb-true _ _ x₅.1;
    }

-- what the test for room says
pub room_at : (d : Dict) (i u g : ℕ) → i ≤ number_of d.objects → fits_in d u g ≡ true → RoomIn d i u g
unfolding fits_in
room_at d i u g h e =
    let x₀ = and_true _ _ e in
    let x₁ = and_true _ _ x₀.1 in
    let x₂ = and_true _ _ x₁.1 in
    let x₃ = and_true _ _ x₂.1 in
    let x₄ = and_true _ _ x₃.1 in
    let x₅ = and_true _ _ x₄.1 in
    record {
      place = h;
      few = ltb-true _ _ x₀.0;
      rows = leb-true _ _ x₁.0;
      values = leb-true _ _ x₂.0;
      slotted = leb-true _ _ x₃.0;
      worded = leb-true _ _ x₄.0;
      total = leb-true _ _ x₅.0;
      arena = leb-true _ _ x₅.1;
    }

pub fits-room : (d : Dict) (i u g : ℕ) → RoomIn d i u g → fits_in d u g ≡ true
unfolding fits_in
fits-room d i u g r =
    rw (lt-ltb (number_of d.objects) 1024 r.few, le-leb (row_end (number_of d.objects)) (length d.objects) r.rows, le-leb (values_of d.objects + u) 6144 r.values, le-leb (slot_place (values_of d.objects + u)) (length d.slots) r.slotted, le-leb (values_of d.objects + u) (length d.words) r.worded, le-leb (used_of d.objects + g) 32768 r.total, le-leb (used_of d.objects + g) (length d.bytes) r.arena)

-- ---- what Done says
pub record DoneBy (h : Head) (name vals encodings : List ℕ) (d : Dict) : Type 0 where
  pub formed : well_formed d ≡ true
  pub right : right_in h name vals encodings ≡ true
  pub free : taken h.index (model_of d) ≡ false
  pub fits : fits_in d (used (obj_in h name vals encodings)) (size (obj_in h name vals encodings)) ≡ true

pub done_by : (h : Head) (name vals encodings : List ℕ) (d : Dict) → answer_of h name vals encodings d ≡ (Ok tt) → DoneBy h name vals encodings d
unfolding answer_of
done_by h name vals encodings d e =
    let x = go (well_formed d) (right_in h name vals encodings) (taken h.index (model_of d)) (fits_in d (used (obj_in h name vals encodings)) (size (obj_in h name vals encodings))) e in
    record { formed = x.0; right = x.1; free = x.2; fits = x.3 }
  where
    go : (w r t f : Bool) → cond w (cond r (cond t (Err Occupied) (cond f (Ok (tt {0})) (Err Full))) (Err BadValue)) (Err Malformed) ≡ (Ok tt) → (w ≡ true) × (r ≡ true) × (t ≡ false) × (f ≡ true)
    go true true false true e = (refl, refl, refl, refl)
    go true true false false e = let z : ◌≡◌ {A = ℕ} 0 1 = cc in absurd (omega arith)
    go true true true f e = let z : ◌≡◌ {A = ℕ} 0 1 = cc in absurd (omega arith)
    go true false t f e = let z : ◌≡◌ {A = ℕ} 0 1 = cc in absurd (omega arith)
    go false r t f e = let z : ◌≡◌ {A = ℕ} 0 1 = cc in absurd (omega arith)

-- ---- the theorems, for every head, name, description and memory
module _ (h : Head) (name vals encodings : List ℕ) (d : Dict) where
  -- where an insertion is done, the memory holds what it held with the new object in its place, and is well-formed
  pub keeps : answer_of h name vals encodings d ≡ (Ok tt) → Kept (below h.index (model_of d)) (obj_in h name vals encodings) d
  keeps e =
      let a = done_by h name vals encodings d e in
      let u = sound d a.formed in
      let r = room_is d h.index (used (obj_in h name vals encodings)) (size (obj_in h name vals encodings)) a.fits in
      let n = totals (edition_of d.objects) (model_of d) d.objects u.lies.objects in
      kept (obj_in h name vals encodings) d u (right h name vals encodings a.right).ok a.free (omega (arith, n.number, r.few)) (omega (arith, n.values, r.values)) (omega (arith, n.bytes, r.total))

  -- a refusal, or the object inserted
  by_cases : (P : Dict → Type 0) → P d → (answer_of h name vals encodings d ≡ (Ok tt) → P (inserted (below h.index (model_of d)) (obj_in h name vals encodings) d)) → P (memory_of h name vals encodings d)
  by_cases P p q = go (answer_of h name vals encodings d) q
    where
      go : (a : Result (Unit {0}) Refusal) → (a ≡ (Ok tt) → P (inserted (below h.index (model_of d)) (obj_in h name vals encodings) d)) → P (memory_after a (inserted (below h.index (model_of d)) (obj_in h name vals encodings) d) d)
      go (Ok _) q = q refl
      go (Err r) q = p

  -- whatever the answer: what was well-formed stays so
  pub stays : well_formed d ≡ true → well_formed (memory_of h name vals encodings d) ≡ true
  stays w = by_cases (λ m. well_formed m ≡ true) w (λ e. (keeps e).again)

  -- whatever the answer: every other object is found as it was, with its name, values, words, rooms and default
  pub others_stay : (x : ℕ) → (h.index ≡ x → ⊥) → object_of x (model_of (memory_of h name vals encodings d)) ≡ object_of x (model_of d)
  others_stay x n = by_cases (λ m. object_of x (model_of m) ≡ object_of x (model_of d)) refl (λ e. ap (object_of x) (keeps e).holds ∙ other (below h.index (model_of d)) (obj_in h name vals encodings) (model_of d) x n)

  -- after Done the object is found, and it is the one that was described
  pub found_there : answer_of h name vals encodings d ≡ (Ok tt) → object_of h.index (model_of (memory_of h name vals encodings d)) ≡ Some (obj_in h name vals encodings)
  found_there e =
      ap (λ a. object_of h.index (model_of (memory_after a (inserted (below h.index (model_of d)) (obj_in h name vals encodings) d) d))) e
      ∙ ap (object_of h.index) (keeps e).holds ∙ itself (below h.index (model_of d)) (obj_in h name vals encodings) (model_of d) (done_by h name vals encodings d e).free
