-- Closing a gap and opening one is replacing.
-- Assumes nothing.
use mathlib.Core.Path.{◌≡◌, refl, sym, ap, ◌∙◌, subst}
use mathlib.Core.Bool.{true}
use mathlib.Core.List.{List, [], ◌∷◌, ◌++◌}
use Prim.Native.Nat.{ℕ, zero, suc, ◌+◌, ◌≤◌}
use native.Mathlib.Nat.{add-zero, zero-add, suc-add}
use native.Mathlib.Omega.{arith}
use borrow.Author.Tests.{leb-true, le-leb}
use lib.Dec.{leb}
use lib.ListN.{length, take, drop, length-append, take-append-drop}
use lib.Seq.{take_at, drop_at, length-take-le}
use Rattle.lists.specs.Lists.{over}
use Rattle.lists.proofs.SpliceLaws.{over_longer}
use Rattle.entry.specs.Model.{Obj, rows_of, words_of, bytes_of, header, all_objects, all_slots, all_words, all_bytes, insert_at}
use Rattle.entry.specs.Table.{Dict, Lies, edition_of, model_of, laid, number_of}
use Rattle.entry.specs.Rules.{obj_ok, objs_ok, Few}
use Rattle.entry.specs.Judge.{Sound, well_formed}
use Rattle.entry.proofs.JudgeLaws.{and_true, length_objs}
use Rattle.entry.proofs.ModelLaws.{length_rows, length_slots, words_append, bytes_append}
use Rattle.entry.proofs.PutLaws.{objs_swap}
use Rattle.entry.proofs.BackLaws.{read_back, complete}
use Rattle.placing.specs.Place.{inserted}
use Rattle.insertion.specs.Replace.{remove_at, replace_at, without, replaced}
use Rattle.placing.proofs.ActLaws.{dict_is}
use Rattle.insertion.proofs.KeepLaws.{laid_lies, laid_edition}

-- ---- fewer objects keep the rules
from_lower : (a b : ℕ) (os : List Obj) → a ≤ b → objs_ok b os ≡ true → objs_ok a os ≡ true
unfolding objs_ok
from_lower a b [] h e = refl
from_lower a b (o ∷ os) h e =
    let q = and_true (leb b o.index) _ e in
    let l : b ≤ o.index = leb-true _ _ q.0 in
    rw (le-leb a o.index (omega arith)) q.1

drop_ok : (low k : ℕ) (os : List Obj) → objs_ok low os ≡ true → objs_ok low (drop k os) ≡ true
unfolding objs_ok
drop_ok low zero os e = e
drop_ok low (suc k) [] e = e
drop_ok low (suc k) (o ∷ os) e =
    let q = and_true (leb low o.index) _ e in
    let l : low ≤ o.index = leb-true _ _ q.0 in
    from_lower low (o.index + 1) (drop k os) (omega arith) (drop_ok (o.index + 1) k os (and_true (obj_ok o) _ q.1).1)

pub remove_ok : (low i k : ℕ) (os : List Obj) → objs_ok low os ≡ true → objs_ok low (remove_at i k os) ≡ true
unfolding objs_ok
remove_ok low zero k os e = rw (zero-add k) (drop_ok low k os e)
remove_ok low (suc i) k [] e = rw (suc-add i k)
remove_ok low (suc i) k (o ∷ os) e =
    let q = and_true (leb low o.index) _ e in
    let r = and_true (obj_ok o) _ q.1 in
    rw (suc-add i k, q.0, r.0) (remove_ok (o.index + 1) i k os r.1)

-- ---- without the k objects at place i
module _ (d : Dict) (s : Sound d) (i k : ℕ) where
  pub held : model_of (without i k d) ≡ remove_at i k (model_of d)
  held = read_back (remove_at i k (model_of d)) (without i k d) (laid_lies (remove_at i k (model_of d)) d) (remove_ok 0 i k (model_of d) s.good)

  pub lies_without : Lies (model_of (without i k d)) (without i k d)
  lies_without = subst (λ os. Lies os (without i k d)) (sym held) (laid_lies (remove_at i k (model_of d)) d)

  module _ (h : i + k ≤ number_of d.objects) (o : Obj) where
    there : length (take i (model_of d)) ≡ i
    there = length-take-le i (model_of d) (omega (arith, h, length_objs d (number_of d.objects) 0))

    pub together : insert_at i o (remove_at i k (model_of d)) ≡ replace_at i k o (model_of d)
    together =
        let xs = take i (model_of d) in
        let ys = drop (i + k) (model_of d) in
        rw (take_at xs ys i there, drop_at xs ys i there)

    -- what is laid first is laid over again
    words_more : (xs ys : List Obj) → length (all_words (xs ++ ys)) ≤ length (all_words (xs ++ (o ∷ ys)))
    unfolding all_words
    words_more xs ys =
        rw (words_append xs ys, words_append xs (o ∷ ys), length-append (all_words xs) (all_words ys), length-append (all_words xs) (words_of o.values ++ all_words ys), length-append (words_of o.values) (all_words ys)) (omega arith)

    bytes_more : (xs ys : List Obj) → length (all_bytes (xs ++ ys)) ≤ length (all_bytes (xs ++ (o ∷ ys)))
    unfolding all_bytes
    bytes_more xs ys =
        rw (bytes_append xs ys, bytes_append xs (o ∷ ys), length-append (all_bytes xs) (all_bytes ys), length-append (all_bytes xs) (bytes_of o ++ all_bytes ys), length-append (bytes_of o) (all_bytes ys)) (omega arith)

    slots_more : (xs ys : List Obj) → length (all_slots 0 (xs ++ ys)) ≤ length (all_slots 0 (xs ++ (o ∷ ys)))
    slots_more xs ys = omega (arith, length_slots 0 (xs ++ ys), length_slots 0 (xs ++ (o ∷ ys)), words_more xs ys)

    rows_more : (xs ys : List Obj) → length (all_objects (edition_of d.objects) (xs ++ ys)) ≤ length (all_objects (edition_of d.objects) (xs ++ (o ∷ ys)))
    rows_more xs ys =
        omega (arith, length-append (header (edition_of d.objects) (xs ++ ys)) (rows_of 0 0 (xs ++ ys)), length-append (header (edition_of d.objects) (xs ++ (o ∷ ys))) (rows_of 0 0 (xs ++ (o ∷ ys))), length_rows 0 0 (xs ++ ys), length_rows 0 0 (xs ++ (o ∷ ys)), length-append xs ys, length-append xs (o ∷ ys))

    pub replaced_is : inserted i o (without i k d) ≡ replaced i k o d
    unfolding over
    replaced_is =
        let xs = take i (model_of d) in
        let ys = drop (i + k) (model_of d) in
        ap (λ os. laid (insert_at i o os) (without i k d)) held ∙ ap (λ os. laid os (without i k d)) together
        ∙ dict_is (over_longer d.objects (all_objects (edition_of d.objects) (xs ++ ys)) (all_objects (edition_of d.objects) (xs ++ (o ∷ ys))) (rows_more xs ys)) (over_longer d.slots (all_slots 0 (xs ++ ys)) (all_slots 0 (xs ++ (o ∷ ys))) (slots_more xs ys))
        (over_longer d.words (all_words (xs ++ ys)) (all_words (xs ++ (o ∷ ys))) (words_more xs ys)) (over_longer d.bytes (all_bytes (xs ++ ys)) (all_bytes (xs ++ (o ∷ ys))) (bytes_more xs ys))

-- ---- nothing removed
pub without_none : (d : Dict) → Lies (model_of d) d → (i : ℕ) → without i 0 d ≡ d
without_none d l i =
    ap (λ os. laid os d) (ap (λ j. take i (model_of d) ++ drop j (model_of d)) (add-zero i) ∙ take-append-drop i (model_of d))
    ∙ dict_is l.objects l.slots l.words l.bytes

pub replaced_none : (d : Dict) (i : ℕ) (o : Obj) → replaced i 0 o d ≡ inserted i o d
replaced_none d i o = ap (λ j. laid (take i (model_of d) ++ (o ∷ drop j (model_of d))) d) (add-zero i)

-- ---- the theorem for replacement: with q in o's place the memory holds q and all the others, and is well-formed again
pub replaced_kept : (xs : List Obj) (o q : Obj) (ys : List Obj) (d : Dict) → Sound d → model_of d ≡ xs ++ (o ∷ ys) → q.index ≡ o.index → obj_ok q ≡ true → Few (xs ++ (q ∷ ys))
    → (model_of (laid (xs ++ (q ∷ ys)) d) ≡ xs ++ (q ∷ ys)) × (well_formed (laid (xs ++ (q ∷ ys)) d) ≡ true)
replaced_kept xs o q ys d s m i g f =
    let h = objs_swap 0 xs ys o q i (λ k. g) (rw m at s.good) in
    let l = laid_lies (xs ++ (q ∷ ys)) d in
    (read_back (xs ++ (q ∷ ys)) (laid (xs ++ (q ∷ ys)) d) l h, complete (xs ++ (q ∷ ys)) (laid (xs ++ (q ∷ ys)) d) (laid_edition (xs ++ (q ∷ ys)) d s.edition) l h f)
