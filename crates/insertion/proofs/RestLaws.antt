-- The objects without the one that has an index: what is left of them.
-- Assumes nothing.
use Rattle.std.specs.Prelude.{Some}
use mathlib.Core.Path.{◌≡◌, refl, sym, ap, ◌∙◌}
use mathlib.Core.Bool.{Bool, true, false, cond}
use mathlib.Core.List.{List, [], ◌∷◌}
use Prim.Native.Nat.{ℕ, suc, ◌+◌, ◌<◌, ◌≤◌}
use native.Mathlib.Nat.{suc-add}
use native.Mathlib.Omega.{arith}
use native.Mathlib.Decide.{dec_lt}
use borrow.Author.Tests.{leb-true, ne_eqb, lt-ltb, le-ltb, eqb-true, eqb-false}
use lib.Dec.{eqb}
use lib.ListN.{length}
use Rattle.entry.specs.Model.{Obj}
use Rattle.entry.specs.Rules.{objs_ok}
use Rattle.entry.specs.Find.{object_of}
use Rattle.entry.proofs.BackLaws.{FirstOk, first_ok}
use Rattle.insertion.specs.Insert.{below, taken}
use Rattle.insertion.specs.Replace.{remove_at, having}
use Rattle.insertion.proofs.IndexLaws.{none_above}

below_none : (x low : ℕ) (os : List Obj) → objs_ok low os ≡ true → x < low → below x os ≡ 0
unfolding below
below_none x low [] g h = refl
below_none x low (o ∷ os) g h = let l : low ≤ o.index = leb-true _ _ (first_ok low o os g).rises in rw (le-ltb o.index x (omega arith))

-- none of it is left, its place is where it was, and every other object is found as before
pub record Rest (x : ℕ) (os left : List Obj) : Type 0 where
  pub free : taken x left ≡ false
  pub place : below x left ≡ below x os
  pub inside : below x os + having x os ≤ length os
  pub others : (y : ℕ) → (x ≡ y → ⊥) → object_of y left ≡ object_of y os

pub rest : (x low : ℕ) (os : List Obj) → objs_ok low os ≡ true → Rest x os (remove_at (below x os) (having x os) os)
unfolding below taken object_of
rest x low [] g = record { free = refl; place = refl; inside = omega arith; others = λ y n. refl }
rest x low (o ∷ os) g = go (rest x (o.index + 1) os k.rest) (dec_lt o.index x) (eqb o.index x) refl
  where
    k : FirstOk low o os
    k = first_ok low o os g

    go : Rest x os (remove_at (below x os) (having x os) os) → Dec (o.index < x) → (b : Bool) → eqb o.index x ≡ b → Rest x (o ∷ os) (remove_at (below x (o ∷ os)) (having x (o ∷ os)) (o ∷ os))
    go ih (yes h) b e =
        let n = ne_eqb o.index x (λ q. omega (arith, q, h)) in
        rw (lt-ltb o.index x h, n, suc-add (below x os) (having x os))
        (record { free = rw n ih.free; place = rw (lt-ltb o.index x h) (ap suc ih.place); inside = rw (lt-ltb o.index x h, n) (omega (arith, ih.inside)); others = λ y m. ap (λ r. cond (eqb o.index y) (Some o) r) (ih.others y m) })
    go ih (no h) true e =
        let q : o.index ≡ x = eqb-true o.index x e in
        let z : below x (o ∷ os) ≡ 0 = rw (le-ltb o.index x (omega arith)) in
        rw (le-ltb o.index x (omega arith), e)
        (record { free = none_above x (o.index + 1) os k.rest (omega (arith, q)); place = below_none x (o.index + 1) os k.rest (omega (arith, q)) ∙ sym z; inside = rw (le-ltb o.index x (omega arith), e) (omega arith); others = λ y m. sym (rw (ne_eqb o.index y (λ p. m (sym q ∙ p)))) })
    go ih (no h) false e =
        let q : o.index ≡ x → ⊥ = eqb-false o.index x e in
        let t = none_above x (o.index + 1) os k.rest (omega (arith, q)) in
        rw (le-ltb o.index x (omega arith), e, t)
        (record { free = rw (e, t); place = rw (le-ltb o.index x (omega arith)); inside = rw (le-ltb o.index x (omega arith), e, t) (omega arith); others = λ y m. refl })
