-- The place of an index among the rows, and whether it is there already.
-- Assumes nothing.
use mathlib.Core.Path.{◌≡◌, refl, ◌∙◌}
use mathlib.Core.Bool.{Bool, true, false, cond, ◌||◌}
use mathlib.Core.List.{List, [], ◌∷◌}
use Prim.Native.Nat.{ℕ, zero, suc, ◌+◌, ◌-◌, ◌<◌, ◌≤◌}
use native.Mathlib.Nat.{add-zero, zero-add}
use native.Mathlib.Omega.{arith}
use native.Mathlib.Decide.{dec_lt}
use borrow.Author.Tests.{leb-true, ne_eqb, lt-ltb, le-ltb}
use lib.Dec.{eqb, ltb}
use lib.ListN.{length, drop}
use Rattle.entry.specs.Model.{Obj}
use Rattle.entry.specs.Table.{Dict, objs_from, model_of, number_of, index_at}
use Rattle.entry.specs.Rules.{objs_ok}
use Rattle.entry.specs.Find.{Lower}
use Rattle.entry.specs.Judge.{well_formed}
use Rattle.insertion.specs.Insert.{below, taken}
use Rattle.entry.proofs.JudgeLaws.{sound}
use Rattle.entry.proofs.BackLaws.{FirstOk, first_ok}

-- ---- the place
lower_from : (d : Dict) (x r : ℕ) → Lower d.objects x r → (k i : ℕ) → i + k ≡ number_of d.objects → i ≤ r → i + below x (objs_from d k i) ≡ r
unfolding below objs_from
lower_from d x r l zero i e h = omega (arith, l.within)
lower_from d x r l (suc k) i e h = go (λ q. lower_from d x r l k (suc i) (omega arith) q) (dec_lt i r)
  where
    go : (suc i ≤ r → suc i + below x (objs_from d k (suc i)) ≡ r) → Dec (i < r) → i + cond (ltb (index_at d.objects i) x) (suc (below x (objs_from d k (suc i)))) 0 ≡ r
    go later (yes q) = rw (lt-ltb (index_at d.objects i) x (l.before i q)) (omega (arith, later q))
    go later (no q) = rw (le-ltb (index_at d.objects i) x (l.behind i (omega arith) (omega arith))) (omega arith)

pub lower_is : (d : Dict) (x i : ℕ) → Lower d.objects x i → i ≡ below x (model_of d)
lower_is d x i l = omega (arith, lower_from d x i l (number_of d.objects) 0 (zero-add (number_of d.objects)) (omega arith))

pub below_small : (x : ℕ) (os : List Obj) → below x os ≤ length os
unfolding below
below_small x [] = omega arith
below_small x (o ∷ os) = go (ltb o.index x) (below_small x os)
  where
    go : (w : Bool) → below x os ≤ length os → cond w (suc (below x os)) 0 ≤ suc (length os)
    go true h = omega arith
    go false h = omega arith

-- ---- whether the index is there: only the object at the place can have it
unfoldable pub first_has : ℕ → List Obj → Bool
first_has x [] = false
first_has x (o ∷ os) = eqb o.index x

pub none_above : (x low : ℕ) (os : List Obj) → objs_ok low os ≡ true → x < low → taken x os ≡ false
unfolding taken
none_above x low [] g h = refl
none_above x low (o ∷ os) g h =
    let k = first_ok low o os g in
    let l : low ≤ o.index = leb-true _ _ k.rises in
    let n : o.index ≡ x → ⊥ = λ e. omega arith in
    rw (ne_eqb o.index x n) (none_above x (o.index + 1) os k.rest (omega arith))

or_unit : (a : Bool) → (a || false) ≡ a
or_unit true = refl
or_unit false = refl

pub taken_at : (x low : ℕ) (os : List Obj) → objs_ok low os ≡ true → taken x os ≡ first_has x (drop (below x os) os)
unfolding taken below first_has
taken_at x low [] g = refl
taken_at x low (o ∷ os) g = go (first_ok low o os g) (taken_at x (o.index + 1) os) (dec_lt o.index x)
  where
    go : FirstOk low o os → (objs_ok (o.index + 1) os ≡ true → taken x os ≡ first_has x (drop (below x os) os)) → Dec (o.index < x) → (eqb o.index x || taken x os) ≡ first_has x (drop (cond (ltb o.index x) (suc (below x os)) 0) (o ∷ os))
    go k ih (yes h) = rw (lt-ltb o.index x h, ne_eqb o.index x (λ e. omega arith)) (ih k.rest)
    go k ih (no h) =
        let l : x ≤ o.index = omega arith in
        rw (le-ltb o.index x l, none_above x (o.index + 1) os k.rest (omega arith)) (or_unit (eqb o.index x))

drop_objs : (d : Dict) (n j i : ℕ) → drop i (objs_from d n j) ≡ objs_from d (n - i) (j + i)
unfolding objs_from
drop_objs d n j zero = let e : n - 0 ≡ n = omega arith in rw (e, add-zero)
drop_objs d zero j (suc i) = let e : 0 - suc i ≡ 0 = omega arith in rw e
drop_objs d (suc n) j (suc i) =
    let e : suc n - suc i ≡ n - i = omega arith in
    let f : j + suc i ≡ suc j + i = omega arith in
    rw (e, f) (drop_objs d n (suc j) i)

first_has_lem : (d : Dict) (x k i : ℕ) → 0 < k → first_has x (objs_from d k i) ≡ eqb (index_at d.objects i) x
unfolding first_has objs_from
first_has_lem d x zero i h = absurd (omega arith)
first_has_lem d x (suc k) i h = refl

none_has : (d : Dict) (x i : ℕ) → first_has x (objs_from d 0 i) ≡ false
unfolding first_has objs_from
none_has d x i = refl

pub has_at : (d : Dict) (x n i : ℕ) → first_has x (drop i (objs_from d n 0)) ≡ cond (ltb i n) (eqb (index_at d.objects i) x) false
has_at d x n i = rw (drop_objs d n 0 i, zero-add i) (go (dec_lt i n))
  where
    go : Dec (i < n) → first_has x (objs_from d (n - i) i) ≡ cond (ltb i n) (eqb (index_at d.objects i) x) false
    go (yes h) = rw (lt-ltb i n h) (first_has_lem d x (n - i) i (omega arith))
    go (no h) =
        let l : n ≤ i = omega arith in
        let e : n - i ≡ 0 = omega arith in
        rw (le-ltb i n l, e) (none_has d x i)

pub taken_is : (d : Dict) (x i : ℕ) → well_formed d ≡ true → Lower d.objects x i → taken x (model_of d) ≡ cond (ltb i (number_of d.objects)) (eqb (index_at d.objects i) x) false
taken_is d x i w l =
    let e = lower_is d x i l in
    taken_at x 0 (model_of d) (sound d w).good ∙ rw (← e) (has_at d x (number_of d.objects) i)
