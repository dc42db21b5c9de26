-- Each way through a replacement, and the theorems: it keeps a dictionary well-formed and every other object, the new one is found, and Full is
-- answered exactly where the rest would pass a total or the memory. Assumes nothing.
use Rattle.std.specs.Prelude.{Some, Result, Ok, Err}
use Rattle.answers.specs.declared.Refusal.{Refusal}
use mathlib.Core.Path.{◌≡◌, refl, sym, ap, ◌∙◌}
use mathlib.Core.Bool.{Bool, true, false, cond}
use mathlib.Core.List.{List}
use Prim.Native.Nat.{ℕ, ◌+◌, ◌≤◌}
use native.Mathlib.Omega.{arith}
use Rattle.answers.specs.declared.Refusal.TheVariants.{Malformed, BadValue, Full}
use Rattle.entry.specs.Model.{Obj, used, size, insert_at}
use Rattle.entry.specs.Table.{Dict, edition_of, model_of, laid, number_of}
use Rattle.entry.specs.Judge.{well_formed}
use Rattle.entry.specs.Find.{Lower, object_of}
use Rattle.given.specs.Given.{obj_in, right_in, count_in}
use Rattle.given.specs.declared.Head.{Head}
use Rattle.insertion.specs.Insert.{below, taken, fits_in, answer_of, memory_after, memory_of}
use Rattle.insertion.specs.Replace.{remove_at, replace_at, without, replaced, RoomIn, having, gone, replace_answer_of, replace_memory_of}
use Rattle.entry.proofs.JudgeLaws.{sound, length_objs}
use Rattle.entry.proofs.ModelLaws.{totals}
use Rattle.entry.proofs.BackLaws.{read_back, complete}
use Rattle.given.proofs.GivenLaws.{given-length}
use Rattle.given.proofs.RightLaws.{right}
use Rattle.insertion.proofs.IndexLaws.{lower_is}
use Rattle.insertion.proofs.KeepLaws.{insert_ok, few_more, laid_lies, laid_edition, other, itself}
use Rattle.insertion.proofs.RestLaws.{Rest, rest}
use Rattle.insertion.proofs.ReplaceLaws.{remove_ok, together, without_none, replaced_none}
use Rattle.insertion.proofs.AnswerLaws.{Sized, room_at, fits-room}

module _ (h : Head) (name vals encodings : List ℕ) (d : Dict) where
  abbrev o : Obj
  o = obj_in h name vals encodings

  abbrev i₀ : ℕ
  i₀ = below h.index (model_of d)

  abbrev k₀ : ℕ
  k₀ = having h.index (model_of d)

  abbrev new : Dict
  new = replaced i₀ k₀ o d

  by_answer : (a : Result (Unit {0}) Refusal) → replace_answer_of h name vals encodings d ≡ a → replace_memory_of h name vals encodings d ≡ memory_after a new d
  by_answer a e = ap (λ x. memory_after x new d) e

  pub malformed : well_formed d ≡ false → (Err Malformed ≡ replace_answer_of h name vals encodings d) × (d ≡ replace_memory_of h name vals encodings d)
  unfolding replace_answer_of
  malformed e = let a : replace_answer_of h name vals encodings d ≡ Err Malformed = rw e in (sym a, sym (by_answer (Err Malformed) a))

  module _ (w : well_formed d ≡ true) where
    pub bad_value : right_in h name vals encodings ≡ false → (Err BadValue ≡ replace_answer_of h name vals encodings d) × (d ≡ replace_memory_of h name vals encodings d)
    unfolding replace_answer_of
    bad_value e = let a : replace_answer_of h name vals encodings d ≡ Err BadValue = rw (w, e) in (sym a, sym (by_answer (Err BadValue) a))

    -- what is answered and left once there is room, or none
    module _ (s : right_in h name vals encodings ≡ true) (i k u g : ℕ) (at : i ≡ i₀) (old : k ≡ k₀) (p : u ≡ used o) (q : g ≡ size o) where
      right_answer : (r : Result (Unit {0}) Refusal) → r ≡ cond (fits_in (without i k d) u g) (Ok tt) (Err Full) → r ≡ replace_answer_of h name vals encodings d
      unfolding replace_answer_of
      right_answer r e = e ∙ rw (w, s, at, old, p, q)

      by_room : (r : Result (Unit {0}) Refusal) (m : Dict) → r ≡ cond (fits_in (without i k d) u g) (Ok tt) (Err Full) → m ≡ memory_after r (replaced i k o d) d → (r ≡ replace_answer_of h name vals encodings d) × (m ≡ replace_memory_of h name vals encodings d)
      by_room r m e f =
          let a = right_answer r e in
          (a, f ∙ ap (λ x. memory_after x (replaced i k o d) d) a ∙ rw (at, old))

    -- so where the code puts it in: at place i, in the place of one where b says so
    module _ (g : ℕ) (s : Sized h name vals encodings g) (i : ℕ) (at : Lower d.objects h.index i) (b : Bool) (old : b ≡ taken h.index (model_of d)) where
      pub inside : i + cond b 1 0 ≤ number_of d.objects
      inside = omega (arith, lower_is d h.index i at, ap {B = ℕ} (λ x. cond x 1 0) old, (rest h.index 0 (model_of d) (sound d w).good).inside, length_objs d (number_of d.objects) 0)

      pub put : (r : Result (Unit {0}) Refusal) (m : Dict) → r ≡ cond (fits_in (without i (cond b 1 0) d) (count_in vals) g) (Ok tt) (Err Full) → m ≡ memory_after r (replaced i (cond b 1 0) o d) d → (r ≡ replace_answer_of h name vals encodings d) × (m ≡ replace_memory_of h name vals encodings d)
      put = by_room s.right i (cond b 1 0) (count_in vals) g (lower_is d h.index i at) (ap (λ x. cond x 1 0) old) (sym (given-length vals encodings (count_in vals) 0 0)) s.is

-- ---- what Done says
pub record DoneBy (h : Head) (name vals encodings : List ℕ) (d : Dict) : Type 0 where
  pub formed : well_formed d ≡ true
  pub right : right_in h name vals encodings ≡ true
  pub fits : fits_in (gone h.index d) (used (obj_in h name vals encodings)) (size (obj_in h name vals encodings)) ≡ true

pub done_by : (h : Head) (name vals encodings : List ℕ) (d : Dict) → replace_answer_of h name vals encodings d ≡ (Ok tt) → DoneBy h name vals encodings d
unfolding replace_answer_of
done_by h name vals encodings d e =
    let x = go (well_formed d) (right_in h name vals encodings) (fits_in (gone h.index d) (used (obj_in h name vals encodings)) (size (obj_in h name vals encodings))) e in
    record { formed = x.0; right = x.1; fits = x.2 }
  where
    go : (w r f : Bool) → cond w (cond r (cond f (Ok (tt {0})) (Err Full)) (Err BadValue)) (Err Malformed) ≡ (Ok tt) → (w ≡ true) × (r ≡ true) × (f ≡ true)
    go true true true e = (refl, refl, refl)
    go true true false e = let z : ◌≡◌ {A = ℕ} 0 1 = cc in absurd (omega arith)
    go true false f e = let z : ◌≡◌ {A = ℕ} 0 1 = cc in absurd (omega arith)
    go false r f e = let z : ◌≡◌ {A = ℕ} 0 1 = cc in absurd (omega arith)

-- ---- Full is exact: it is answered where there is no room once the old object is gone, and only there
module _ (h : Head) (name vals encodings : List ℕ) (d : Dict) (w : well_formed d ≡ true) (s : right_in h name vals encodings ≡ true) where
  abbrev Roomy : Type 0
  Roomy = RoomIn (gone h.index d) 0 (used (obj_in h name vals encodings)) (size (obj_in h name vals encodings))

  pub full_only : replace_answer_of h name vals encodings d ≡ Err Full → Roomy → ⊥
  unfolding replace_answer_of
  full_only e r =
      let f = fits-room (gone h.index d) 0 (used (obj_in h name vals encodings)) (size (obj_in h name vals encodings)) r in
      let a : Ok (tt {0}) ≡ Err Full = sym (rw (w, s, f)) ∙ e in
      let z : ◌≡◌ {A = ℕ} 0 1 = cc in omega arith

  pub full_back : (Roomy → ⊥) → replace_answer_of h name vals encodings d ≡ Err Full
  unfolding replace_answer_of
  full_back n = rw (w, s) (go (fits_in (gone h.index d) (used (obj_in h name vals encodings)) (size (obj_in h name vals encodings))) refl)
    where
      go : (b : Bool) → fits_in (gone h.index d) (used (obj_in h name vals encodings)) (size (obj_in h name vals encodings)) ≡ b → cond b (Ok (tt {0})) (Err Full) ≡ Err Full
      go true e = absurd (n (room_at (gone h.index d) 0 (used (obj_in h name vals encodings)) (size (obj_in h name vals encodings)) (omega arith) e))
      go false e = refl

-- ---- the theorems, for every head, name, description and memory
module _ (h : Head) (name vals encodings : List ℕ) (d : Dict) where
  abbrev obj : Obj
  obj = obj_in h name vals encodings

  abbrev i : ℕ
  i = below h.index (model_of d)

  abbrev k : ℕ
  k = having h.index (model_of d)

  abbrev left : List Obj
  left = remove_at i k (model_of d)

  -- where a replacement is done, the memory holds what it held without the old object, with the new one in its place, and is well-formed
  pub record Holds : Type 0 where
    pub rest : Rest h.index (model_of d) left
    pub holds : model_of (replaced i k obj d) ≡ insert_at (below h.index left) obj left
    pub again : well_formed (replaced i k obj d) ≡ true

  pub keeps : replace_answer_of h name vals encodings d ≡ (Ok tt) → Holds
  keeps e =
      let a = done_by h name vals encodings d e in
      let u = sound d a.formed in
      let t = rest h.index 0 (model_of d) u.good in
      let n : i + k ≤ number_of d.objects = omega (arith, t.inside, length_objs d (number_of d.objects) 0) in
      let same : insert_at (below h.index left) obj left ≡ replace_at i k obj (model_of d) = ap (λ j. insert_at j obj left) t.place ∙ together d u i k n obj in
      let r = room_at (gone h.index d) 0 (used obj) (size obj) (omega arith) a.fits in
      let m = totals (edition_of (gone h.index d).objects) left (gone h.index d).objects (laid_lies left d).objects in
      let ok = insert_ok 0 obj left (remove_ok 0 i k (model_of d) u.good) (right h name vals encodings a.right).ok (omega arith) t.free in
      let f = few_more (below h.index left) obj left (omega (arith, m.number, r.few)) (omega (arith, m.values, r.values)) (omega (arith, m.bytes, r.total)) in
      let new = insert_at (below h.index left) obj left in
      let l = laid_lies new d in
      record {
        rest = t;
        holds = ap (λ os. model_of (laid os d)) (sym same) ∙ read_back new (laid new d) l ok;
        again = ap (λ os. well_formed (laid os d)) (sym same) ∙ complete new (laid new d) (laid_edition new d u.edition) l ok f;
      }

  -- a refusal, or the object replaced
  by_cases : (P : Dict → Type 0) → P d → (replace_answer_of h name vals encodings d ≡ (Ok tt) → P (replaced i k obj d)) → P (replace_memory_of h name vals encodings d)
  by_cases P p q = go (replace_answer_of h name vals encodings d) q
    where
      go : (a : Result (Unit {0}) Refusal) → (a ≡ (Ok tt) → P (replaced i k obj d)) → P (memory_after a (replaced i k obj d) d)
      go (Ok _) q = q refl
      go (Err r) q = p

  -- whatever the answer: what was well-formed stays so
  pub stays : well_formed d ≡ true → well_formed (replace_memory_of h name vals encodings d) ≡ true
  stays w = by_cases (λ m. well_formed m ≡ true) w (λ e. (keeps e).again)

  -- whatever the answer: every other object is found as it was, with its name, values, words, rooms, default, kept count and range
  pub others_stay : (x : ℕ) → (h.index ≡ x → ⊥) → object_of x (model_of (replace_memory_of h name vals encodings d)) ≡ object_of x (model_of d)
  others_stay x n = by_cases (λ m. object_of x (model_of m) ≡ object_of x (model_of d)) refl (λ e. let t = keeps e in ap (object_of x) t.holds ∙ other (below h.index left) obj left x n ∙ t.rest.others x n)

  -- after Done the object is found, and it is the one that was described
  pub found_there : replace_answer_of h name vals encodings d ≡ (Ok tt) → object_of h.index (model_of (replace_memory_of h name vals encodings d)) ≡ Some obj
  found_there e =
      let t = keeps e in
      ap (λ a. object_of h.index (model_of (memory_after a (replaced i k obj d) d))) e ∙ ap (object_of h.index) t.holds ∙ itself (below h.index left) obj left t.rest.free

  -- where none has the index, it is an insertion
  pub as_inserted : taken h.index (model_of d) ≡ false → (replace_answer_of h name vals encodings d ≡ answer_of h name vals encodings d) × (replace_memory_of h name vals encodings d ≡ memory_of h name vals encodings d)
  unfolding replace_answer_of answer_of
  as_inserted t = go (well_formed d) refl
    where
      go : (b : Bool) → well_formed d ≡ b → (replace_answer_of h name vals encodings d ≡ answer_of h name vals encodings d) × (replace_memory_of h name vals encodings d ≡ memory_of h name vals encodings d)
      go true w =
          let n = without_none d (sound d w).lies (below h.index (model_of d)) in
          let a : replace_answer_of h name vals encodings d ≡ answer_of h name vals encodings d = rw (t, n) in
          (a, ap (λ x. memory_after x (replaced i k obj d) d) a ∙ ap (λ m. memory_after (answer_of h name vals encodings d) m d) (rw t (replaced_none d i obj)))
      go false w = (rw w, rw w)
