-- Laws on the starts that fall in the rows and the slots.
-- Assumes nothing.
use mathlib.Core.Path.{◌≡◌, refl, ap}
use mathlib.Core.List.{List, [], ◌∷◌, ◌++◌, append_assoc}
use Prim.Native.Nat.{ℕ, suc, ◌+◌, ◌-◌, ◌*◌}
use native.Mathlib.Omega.{arith}
use lib.ListN.{length, length-append}
use Rattle.lists.specs.Lists.{fallen}
use Rattle.lists.proofs.SpliceLaws.{fallen_end, fallen-turn}
use Rattle.entry.specs.Model.{Val, Obj, words_of, slots_of, used, size, row, rows_of, all_slots, all_words}
use Rattle.entry.proofs.ModelLaws.{length-words_of, length-slots_of}

back : (v u : ℕ) → (v + u) - u ≡ v
back v u = omega arith

pub fallen_first : (xs zs : List ℕ) (u v b : ℕ) (os : List Obj) (n p : ℕ) → n ≡ length os → p ≡ length xs + 4 → fallen 12 u n p (xs ++ (rows_of (v + u) b os ++ zs)) ≡ xs ++ (rows_of v b os ++ zs)
unfolding rows_of
fallen_first xs zs u v b [] n p e q = fallen_end 12 u n p _ e
fallen_first xs zs u v b (o ∷ os) n p e q =
    let f : (v + u) + used o ≡ (v + used o) + u = omega arith in
    let rest = rows_of ((v + used o) + u) (b + size o) os ++ zs in
    let i = fallen_first (xs ++ row v b o) zs u (v + used o) (b + size o) os (length os) (p + 12) refl (rw length-append (omega arith)) in
    rw (e, f, fallen-turn 12 u (length os) p 4 xs _ (row v b o ++ rest) q (ap (λ t. row t b o ++ rest) (back v u)))
    (rw (append_assoc, append_assoc) at i)

pub fallen_name : (xs zs : List ℕ) (g v b : ℕ) (os : List Obj) (n p : ℕ) → n ≡ length os → p ≡ length xs + 5 → fallen 12 g n p (xs ++ (rows_of v (b + g) os ++ zs)) ≡ xs ++ (rows_of v b os ++ zs)
unfolding rows_of
fallen_name xs zs g v b [] n p e q = fallen_end 12 g n p _ e
fallen_name xs zs g v b (o ∷ os) n p e q =
    let f : (b + g) + size o ≡ (b + size o) + g = omega arith in
    let rest = rows_of (v + used o) ((b + size o) + g) os ++ zs in
    let i = fallen_name (xs ++ row v b o) zs g (v + used o) (b + size o) os (length os) (p + 12) refl (rw length-append (omega arith)) in
    rw (e, f, fallen-turn 12 g (length os) p 5 xs _ (row v b o ++ rest) q (ap (λ t. row v t o ++ rest) (back b g)))
    (rw (append_assoc, append_assoc) at i)

fallen-slots_of : (xs zs : List ℕ) (g b : ℕ) (vs : List Val) (n p k : ℕ) → n ≡ length vs + k → p ≡ length xs + 1 → fallen 3 g n p (xs ++ (slots_of (b + g) vs ++ zs)) ≡ fallen 3 g k (p + 3 * length vs) (xs ++ (slots_of b vs ++ zs))
unfolding slots_of
fallen-slots_of xs zs g b [] n p k e q =
    let f : p + 3 * 0 ≡ p = omega arith in
    let h : n ≡ k = omega arith in
    rw (f, h)
fallen-slots_of xs zs g b (x ∷ vs) n p k e q =
    let s : List ℕ = x.type ∷ b ∷ length x.room ∷ [] in
    let h : n ≡ suc (length vs + k) = omega arith in
    let f : (b + g) + length x.room ≡ (b + length x.room) + g = omega arith in
    let m : (p + 3) + 3 * length vs ≡ p + 3 * suc (length vs) = omega arith in
    let rest = slots_of ((b + length x.room) + g) vs ++ zs in
    let i = fallen-slots_of (xs ++ s) zs g (b + length x.room) vs (length vs + k) (p + 3) k refl (rw length-append (omega arith)) in
    rw (h, f, fallen-turn 3 g (length vs + k) p 1 xs _ (s ++ rest) q (ap (λ t. x.type ∷ t ∷ length x.room ∷ rest) (back b g)))
    (rw (append_assoc, append_assoc, m) at i)

pub fallen_start : (xs zs : List ℕ) (g b : ℕ) (os : List Obj) (n p : ℕ) → n ≡ length (all_words os) → p ≡ length xs + 1 → fallen 3 g n p (xs ++ (all_slots (b + g) os ++ zs)) ≡ xs ++ (all_slots b os ++ zs)
unfolding all_slots all_words
fallen_start xs zs g b [] n p e q = fallen_end 3 g n p _ e
fallen_start xs zs g b (o ∷ os) n p e q =
    let s = slots_of (b + length o.name) o.values in
    let f : (b + g) + length o.name ≡ (b + length o.name) + g = omega arith in
    let h : (b + g) + size o ≡ (b + size o) + g = omega arith in
    let w : n ≡ length o.values + length (all_words os) = omega (arith, length-append (words_of o.values) (all_words os), length-words_of o.values) in
    let l : length s ≡ 3 * length o.values = length-slots_of (b + length o.name) o.values in
    let i = fallen_start (xs ++ s) zs g (b + size o) os (length (all_words os)) (p + 3 * length o.values) refl (rw length-append (omega arith)) in
    rw (append_assoc, f, h, fallen-slots_of xs (all_slots ((b + size o) + g) os ++ zs) g (b + length o.name) o.values n p (length (all_words os)) w q, append_assoc)
    (rw (append_assoc, append_assoc) at i)
