-- Laws on parts of a list that are moved up and down, and on elements that grow and fall.
-- Assumes nothing.
use mathlib.Core.Path.{◌≡◌, refl, sym, ap, ◌∙◌}
use mathlib.Core.List.{List, [], ◌∷◌, ◌++◌, append_assoc}
use Prim.Native.Nat.{ℕ, zero, suc, ◌+◌, ◌-◌, ◌*◌, ◌<◌, ◌≤◌}
use native.Mathlib.Nat.{mul-suc, mul-le-mul_left, zero-add, suc-add}
use native.Mathlib.Numerals.{add-one}
use native.Mathlib.Omega.{arith}
use lib.ListN.{length, take, drop, get_or, set, length-append, length-set, length-drop}
use lib.Seq.{length-take-le, take_at, drop_at, drop-drop, slice, length-slice, take-append-le, get_or-append-add, take-take, take-add, drop-append-add, set-append_left}
use Rattle.lists.specs.Lists.{over, grown, fallen, spliced}
use Rattle.lists.proofs.ListLaws.{over-same}

pub grown_more : (d x n j a : ℕ) (xs : List ℕ) → j < n → grown d x (n - j) (a + d * j) xs ≡ grown d x (n - (j + 1)) (a + d * (j + 1)) (set xs (a + d * j) (get_or xs (a + d * j) 0 + x))
unfolding grown
grown_more d x n j a xs h =
    let e : n - j ≡ suc (n - (j + 1)) = omega arith in
    let p : a + d * (j + 1) ≡ a + d * j + d = rw add-one (omega (arith, mul-suc d j)) in
    rw (e, p)

pub grown_end : (d x k p : ℕ) (xs : List ℕ) → k ≡ 0 → grown d x k p xs ≡ xs
unfolding grown
grown_end d x k p xs e = rw e

pub fallen_more : (d x n j a : ℕ) (xs : List ℕ) → j < n → fallen d x (n - j) (a + d * j) xs ≡ fallen d x (n - (j + 1)) (a + d * (j + 1)) (set xs (a + d * j) (get_or xs (a + d * j) 0 - x))
unfolding fallen
fallen_more d x n j a xs h =
    let e : n - j ≡ suc (n - (j + 1)) = omega arith in
    let p : a + d * (j + 1) ≡ a + d * j + d = rw add-one (omega (arith, mul-suc d j)) in
    rw (e, p)

pub fallen_end : (d x k p : ℕ) (xs : List ℕ) → k ≡ 0 → fallen d x k p xs ≡ xs
unfolding fallen
fallen_end d x k p xs e = rw e

pub length-grown : (d x n p : ℕ) (xs : List ℕ) → length (grown d x n p xs) ≡ length xs
unfolding grown
length-grown d x zero p xs = refl
length-grown d x (suc n) p xs = length-grown d x n (p + d) (set xs p (get_or xs p 0 + x)) ∙ length-set xs p (get_or xs p 0 + x)

pub stride : (d j i : ℕ) → j < i → d * j + d ≤ d * i
stride d j i h = omega (arith, mul-suc d j, mul-le-mul_left d h)

pub set-append_add : (xs ys : List ℕ) (n a : ℕ) → set (xs ++ ys) (length xs + n) a ≡ xs ++ set ys n a
set-append_add [] ys n a = rw zero-add
set-append_add (x ∷ xs) ys n a = rw suc-add (ap (λ l. x ∷ l) (set-append_add xs ys n a))

pub grown-turn : (d x n p c : ℕ) (xs ys zs : List ℕ) → p ≡ length xs + c → set ys c (get_or ys c 0 + x) ≡ zs → grown d x (suc n) p (xs ++ ys) ≡ grown d x n (p + d) (xs ++ zs)
unfolding grown
grown-turn d x n p c xs ys zs e q =
    let g : get_or (xs ++ ys) p 0 ≡ get_or ys c 0 = rw e (get_or-append-add xs ys c 0) in
    let s : set (xs ++ ys) p (get_or ys c 0 + x) ≡ xs ++ zs = rw e (set-append_add xs ys c (get_or ys c 0 + x) ∙ ap (λ l. xs ++ l) q) in
    rw (g, s)

pub fallen-turn : (d x n p c : ℕ) (xs ys zs : List ℕ) → p ≡ length xs + c → set ys c (get_or ys c 0 - x) ≡ zs → fallen d x (suc n) p (xs ++ ys) ≡ fallen d x n (p + d) (xs ++ zs)
unfolding fallen
fallen-turn d x n p c xs ys zs e q =
    let g : get_or (xs ++ ys) p 0 ≡ get_or ys c 0 = rw e (get_or-append-add xs ys c 0) in
    let s : set (xs ++ ys) p (get_or ys c 0 - x) ≡ xs ++ zs = rw e (set-append_add xs ys c (get_or ys c 0 - x) ∙ ap (λ l. xs ++ l) q) in
    rw (g, s)

pub fill_gap : (xs : List ℕ) (a e k : ℕ) (ys : List ℕ) → length ys ≡ k → a ≤ e → e + k ≤ length xs → over (over xs (a + k) (slice a e xs)) a ys ≡ spliced a e ys xs
unfolding over spliced
fill_gap xs a e k ys l h r =
    let z = slice a e xs ++ drop ((a + k) + length (slice a e xs)) xs in
    let m : length (take (a + k) xs) ≡ a + k = length-take-le (a + k) xs (omega arith) in
    let n : (a + k) + length (slice a e xs) ≡ e + length ys = rw (length-slice a e xs (omega arith)) (omega arith) in
    let t : take a (take (a + k) xs ++ z) ≡ take a xs = take-append-le a (take (a + k) xs) z (omega arith) ∙ take-take a (a + k) xs (omega arith) in
    let d : drop (a + length ys) (take (a + k) xs ++ z) ≡ z = drop_at (take (a + k) xs) z (a + length ys) (omega arith) in
    rw (t, d, n)

pub spliced_parts : (xs ys zs ns : List ℕ) (a e : ℕ) → a ≡ length xs → e ≡ length xs + length ys → spliced a e ns (xs ++ (ys ++ zs)) ≡ xs ++ (ns ++ (ys ++ drop (length ns) zs))
unfolding spliced
spliced_parts xs ys zs ns a e p q =
    let t = take_at xs (ys ++ zs) a (sym p) in
    let s : take e (xs ++ (ys ++ zs)) ≡ xs ++ ys = rw (← append_assoc) (take_at (xs ++ ys) zs e (rw length-append (omega arith))) in
    let d = drop_at xs ys a (sym p) in
    let r : drop (e + length ns) (xs ++ (ys ++ zs)) ≡ drop (length ns) zs =
    rw (← drop-drop, ← append_assoc) (ap (λ l. drop (length ns) l) (drop_at (xs ++ ys) zs e (rw length-append (omega arith)))) in
    rw (t, s, d, r)

pub over_parts : (xs ys zs ns xs' ys' : List ℕ) → length xs' ≡ length xs → length ys' ≡ length ys → over (xs ++ (ys ++ zs)) 0 (xs' ++ (ns ++ ys')) ≡ xs' ++ (ns ++ (ys' ++ drop (length ns) zs))
unfolding over
over_parts xs ys zs ns xs' ys' p q =
    let l : 0 + length (xs' ++ (ns ++ ys')) ≡ length (xs ++ ys) + length ns = rw (length-append, length-append, length-append) (omega arith) in
    let r : drop (length (xs ++ ys) + length ns) (xs ++ (ys ++ zs)) ≡ drop (length ns) zs = rw (← append_assoc) (drop-append-add (xs ++ ys) zs (length ns)) in
    rw (l, r) (simp append_assoc)

pub over_longer : (s l k : List ℕ) → length l ≤ length k → over (over s 0 l) 0 k ≡ over s 0 k
unfolding over
over_longer s l k h =
    let e : 0 + length k ≡ length l + (length k - length l) = omega arith in
    let f : length l + (length k - length l) ≡ length k = omega arith in
    let z : 0 + length l ≡ length l = omega arith in
    rw (e, z) (ap (λ t. k ++ t) (drop-append-add l (drop (length l) s) (length k - length l) ∙ drop-drop (length k - length l) (length l) s))

-- ---- a part that is taken out
pub taken_out : (s ls ns cs : List ℕ) (a e m : ℕ) → s ≡ (ls ++ (ns ++ cs)) ++ drop (length (ls ++ (ns ++ cs))) s → a ≡ length ls → e ≡ length ls + length ns → m ≡ length (ls ++ (ns ++ cs)) → over s a (slice e m s) ≡ over s 0 (ls ++ cs)
unfolding over
taken_out s ls ns cs a e m w p q r =
    let l = ls ++ (ns ++ cs) in
    let z = drop (length l) s in
    let k : slice e m s ≡ cs = ap (λ t. drop e (take m t)) w ∙ ap (drop e) (take_at l z m (sym r)) ∙ rw (← append_assoc) (drop_at (ls ++ ns) cs e (rw (length-append ls ns) (omega arith))) in
    let t : take a s ≡ ls = ap (take a) (w ∙ append_assoc ls (ns ++ cs) z) ∙ take_at ls ((ns ++ cs) ++ z) a (sym p) in
    let n : 0 + length (ls ++ cs) ≡ a + length cs = rw (length-append ls cs) (omega arith) in
    rw (k, t, n) (sym (append_assoc ls cs (drop (a + length cs) s)))

-- what was laid, with another part as long in place of cs
pub laid_other : (s ls cs bs : List ℕ) → length bs ≡ length cs → ls ++ (bs ++ drop (length (ls ++ cs)) s) ≡ over s 0 (ls ++ bs)
unfolding over
laid_other s ls cs bs e =
    let n : 0 + length (ls ++ bs) ≡ length (ls ++ cs) = rw (length-append ls bs, length-append ls cs) (omega arith) in
    rw n (sym (append_assoc ls bs (drop (length (ls ++ cs)) s)))

pub laid_parts : (s ls cs : List ℕ) → over s 0 (ls ++ cs) ≡ ls ++ (cs ++ drop (length (ls ++ cs)) s)
unfolding over
laid_parts s ls cs = rw (zero-add (length (ls ++ cs))) (append_assoc ls cs (drop (length (ls ++ cs)) s))

-- ---- one element of a laid part
set-over : (xs : List ℕ) (a : ℕ) (ys : List ℕ) (k v : ℕ) → a ≤ length xs → k < length ys → set (over xs a ys) (a + k) v ≡ over xs a (set ys k v)
unfolding over
set-over xs a ys k v h l =
    let e : a + k ≡ length (take a xs) + k = omega (arith, length-take-le a xs h) in
    rw (e, set-append_add (take a xs) (ys ++ drop (a + length ys) xs) k v, set-append_left ys (drop (a + length ys) xs) k v l, length-set ys k v)

pub set-part : (xs : List ℕ) (a n k v : ℕ) → a + n ≤ length xs → k < n → over xs a (set (take n (drop a xs)) k v) ≡ set xs (a + k) v
set-part xs a n k v h l =
    let m : length (take n (drop a xs)) ≡ n = length-take-le n (drop a xs) (rw length-drop (omega arith)) in
    sym (set-over xs a (take n (drop a xs)) k v (omega arith) (omega (arith, m))) ∙ ap (λ s. set s (a + k) v) (over-same xs a n h)

-- a part in the middle
pub slice-part : (l : List ℕ) (a n : ℕ) → a ≤ length l → slice a (a + n) l ≡ take n (drop a l)
slice-part l a n h = ap (drop a) (take-add a n l) ∙ drop_at (take a l) (take n (drop a l)) a (length-take-le a l h)
