-- Insertion keeps a dictionary well-formed, and every other object as it was.
-- Assumes nothing.
use Rattle.std.specs.Prelude.{Some}
use mathlib.Core.Path.{◌≡◌, refl, sym, ap, ◌∙◌, subst}
use mathlib.Core.Bool.{Bool, true, false, cond, ◌&&◌, ◌||◌}
use mathlib.Core.List.{List, [], ◌∷◌, ◌++◌}
use Prim.Native.Nat.{ℕ, zero, suc, ◌+◌, ◌<◌, ◌≤◌}
use native.Mathlib.Nat.{zero-add}
use native.Mathlib.Omega.{arith}
use native.Mathlib.Decide.{dec_lt}
use borrow.Author.Tests.{eq-eqb, le-leb, lt-ltb, le-ltb, ne_eqb}
use lib.Dec.{eqb, leb, ltb, T}
use lib.ListN.{length, take, drop, length-append, take-append-drop}
use lib.Seq.{drop-append_seam}
use Rattle.lists.specs.Lists.{over}
use Rattle.entry.specs.Model.{Obj, used, size, words_of, bytes_of, all_objects, all_slots, all_words, all_bytes, insert_at}
use Rattle.entry.specs.Table.{Dict, Lies, edition_of, laid, model_of}
use Rattle.entry.specs.Rules.{obj_ok, objs_ok, Few, is_edition}
use Rattle.entry.specs.Judge.{Sound, well_formed}
use Rattle.entry.specs.Find.{object_of}
use Rattle.placing.specs.Place.{inserted}
use Rattle.insertion.specs.Insert.{below, taken}
use Rattle.entry.proofs.JudgeLaws.{and_true}
use Rattle.entry.proofs.ModelLaws.{length-words_of, words_append, bytes_append}
use Rattle.entry.proofs.BackLaws.{complete, read_back}

ff : true ≡ false → ⊥
ff e = subst T e tt

or_false : (a b : Bool) → (a || b) ≡ false → (a ≡ false) × (b ≡ false)
or_false true b e = absurd (ff e)
or_false false b e = (refl, e)

-- ---- the rules are kept
pub insert_ok : (low : ℕ) (o : Obj) (os : List Obj) → objs_ok low os ≡ true → obj_ok o ≡ true → low ≤ o.index → taken o.index os ≡ false → objs_ok low (insert_at (below o.index os) o os) ≡ true
unfolding objs_ok below taken
insert_ok low o [] g h l t = rw (le-leb low o.index l, h)
insert_ok low o (x ∷ os) g h l t =
    go (λ k. insert_ok (x.index + 1) o os (and_true (obj_ok x) (objs_ok (x.index + 1) os) (and_true (leb low x.index) (obj_ok x && objs_ok (x.index + 1) os) g).1).1 h k (or_false (eqb x.index o.index) (taken o.index os) t).1) (dec_lt x.index o.index)
  where
    go : (x.index + 1 ≤ o.index → objs_ok (x.index + 1) (insert_at (below o.index os) o os) ≡ true) → Dec (x.index < o.index)
        → objs_ok low (insert_at (cond (ltb x.index o.index) (suc (below o.index os)) 0) o (x ∷ os)) ≡ true
    go ih (yes w) =
        let q = and_true (leb low x.index) (obj_ok x && objs_ok (x.index + 1) os) g in
        let r = and_true (obj_ok x) (objs_ok (x.index + 1) os) q.1 in
        rw (lt-ltb x.index o.index w, q.0, r.0) (ih (omega arith))
    go ih (no w) =
        let q = and_true (leb low x.index) (obj_ok x && objs_ok (x.index + 1) os) g in
        let n : x.index ≡ o.index → ⊥ = λ e. ff (sym (eq-eqb x.index o.index e) ∙ (or_false (eqb x.index o.index) (taken o.index os) t).0) in
        let m : o.index + 1 ≤ x.index = omega arith in
        rw (le-ltb x.index o.index (omega arith), le-leb low o.index l, h, le-leb (o.index + 1) x.index m) q.1

-- ---- what is laid lies there
lies_laid : (s l : List ℕ) → over (over s 0 l) 0 l ≡ over s 0 l
unfolding over
lies_laid s l = rw (zero-add (length l)) (ap (λ k. l ++ k) (drop-append_seam l (drop (length l) s)))

pub laid_lies : (os : List Obj) (d : Dict) → Lies os (laid os d)
unfolding over
laid_lies os d =
    record { objects = lies_laid d.objects (all_objects (edition_of d.objects) os); slots = lies_laid d.slots (all_slots 0 os); words = lies_laid d.words (all_words os); bytes = lies_laid d.bytes (all_bytes os) }

-- and under the edition that it had
pub laid_edition : (os : List Obj) (d : Dict) → is_edition (edition_of d.objects) ≡ true → is_edition (edition_of (laid os d).objects) ≡ true
unfolding over
laid_edition os d e = e

-- ---- the theorem: after an insertion the memory holds the objects that it held, and the new one among them, and is well-formed
pub record Kept (i : ℕ) (o : Obj) (d : Dict) : Type 0 where
  pub holds : model_of (inserted i o d) ≡ insert_at i o (model_of d)
  pub again : well_formed (inserted i o d) ≡ true

pub few_more : (i : ℕ) (o : Obj) (os : List Obj) → length os < 1024 → length (all_words os) + used o ≤ 6144 → length (all_bytes os) + size o ≤ 32768 → Few (insert_at i o os)
unfolding all_words all_bytes
few_more i o os a b c =
    let xs = take i os in
    let ys = drop i os in
    let j = take-append-drop i os in
    let n = length-append xs (o ∷ ys) in
    let n₂ = ap length j in
    let n₃ = length-append xs ys in
    let w = ap length (words_append xs (o ∷ ys)) ∙ length-append (all_words xs) (words_of o.values ++ all_words ys) in
    let w₂ = length-append (words_of o.values) (all_words ys) in
    let w₃ = length-words_of o.values in
    let w₄ = ap (λ k. length (all_words k)) j in
    let w₅ = ap length (words_append xs ys) ∙ length-append (all_words xs) (all_words ys) in
    let v = ap length (bytes_append xs (o ∷ ys)) ∙ length-append (all_bytes xs) (bytes_of o ++ all_bytes ys) in
    let v₂ = length-append (bytes_of o) (all_bytes ys) in
    let v₄ = ap (λ k. length (all_bytes k)) j in
    let v₅ = ap length (bytes_append xs ys) ∙ length-append (all_bytes xs) (all_bytes ys) in
    record { objects = omega (arith, n, n₂, n₃); values = omega (arith, w, w₂, w₃, w₄, w₅); bytes = omega (arith, v, v₂, v₄, v₅) }

pub kept : (o : Obj) (d : Dict) → Sound d → obj_ok o ≡ true → taken o.index (model_of d) ≡ false
    → length (model_of d) < 1024 → length (all_words (model_of d)) + used o ≤ 6144 → length (all_bytes (model_of d)) + size o ≤ 32768
    → Kept (below o.index (model_of d)) o d
kept o d s h t a b c =
    let os = model_of d in
    let i = below o.index os in
    let g = insert_ok 0 o os s.good h (omega arith) t in
    let l = laid_lies (insert_at i o os) d in
    record { holds = read_back (insert_at i o os) (inserted i o d) l g; again = complete (insert_at i o os) (inserted i o d) (laid_edition (insert_at i o os) d s.edition) l g (few_more i o os a b c) }

-- ---- the others are found as they were, and so is the new one
pub other : (i : ℕ) (o : Obj) (os : List Obj) (x : ℕ) → (o.index ≡ x → ⊥) → object_of x (insert_at i o os) ≡ object_of x os
unfolding object_of
other zero o os x h = rw (ne_eqb o.index x h)
other (suc i) o [] x h = rw (ne_eqb o.index x h)
other (suc i) o (y ∷ os) x h = ap (λ r. cond (eqb y.index x) (Some y) r) (other i o os x h)

pub itself : (i : ℕ) (o : Obj) (os : List Obj) → taken o.index os ≡ false → object_of o.index (insert_at i o os) ≡ Some o
unfolding object_of taken
itself zero o os t = rw (eq-eqb o.index o.index refl)
itself (suc i) o [] t = rw (eq-eqb o.index o.index refl)
itself (suc i) o (y ∷ os) t =
    let q = or_false (eqb y.index o.index) (taken o.index os) t in
    rw q.0 (itself i o os q.1)
