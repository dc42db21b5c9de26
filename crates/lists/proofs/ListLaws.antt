-- Laws on lists: what is laid over another, and what it leaves.
-- Assumes nothing.
use mathlib.Core.Path.{◌≡◌, sym, ap, ◌∙◌}
use mathlib.Core.List.{List, [], ◌∷◌, ◌++◌, append_assoc}
use Prim.Native.Nat.{ℕ, suc, ◌+◌, ◌-◌, ◌<◌, ◌≤◌}
use native.Mathlib.Nat.{add-zero}
use native.Mathlib.Numerals.{add-one}
use Rattle.std.proofs.Common.{append-nil}
use native.Mathlib.Omega.{arith}
use native.Mathlib.Decide.{dec_lt}
use lib.ListN.{drop_of_length-le, length, take, drop, get_or, set, length-append, length-take, length-drop, take-append-drop, get_or-append}
use lib.Seq.{drop-cons, get_or-take, get_or-drop, length-take-le, take-suc, take_at, drop_at, set_at, drop-drop, take-append-le, drop-append-le, get_or-append-add, drop-append-add, take-append_seam, ext_get_or, take-add, take-suc-set, drop-set-lt, paste, slice, length-slice}
use borrow.Rule.Slice.PartMut.{put_mid}
use Rattle.std.proofs.lemmas.Slice.{between_is}
use Rattle.lists.specs.Lists.{over}

-- ---- how long it is, and what stands where
pub length_over : (xs : List ℕ) (a : ℕ) (ys : List ℕ) → a + length ys ≤ length xs → length (over xs a ys) ≡ length xs
unfolding over
length_over xs a ys h = simp (length-append, length-take, length-drop) (omega arith)

pub over_none : {A : Type 0} (xs : List A) (a : ℕ) → over xs a [] ≡ xs
unfolding over
over_none xs a = rw add-zero (take-append-drop a xs)

-- as many as there are
pub over_all : (xs ys : List ℕ) → length ys ≡ length xs → over xs 0 ys ≡ ys
unfolding over
over_all xs ys h =
    let n : length xs ≤ 0 + length ys = omega arith in
    rw (drop_of_length-le xs n) (append-nil ys)

pub get_or-over-below : (xs : List ℕ) (a : ℕ) (ys : List ℕ) (i : ℕ) → i < a → a ≤ length xs → get_or (over xs a ys) i 0 ≡ get_or xs i 0
unfolding over
get_or-over-below xs a ys i h k =
    let l : i < length (take a xs) = rw (length-take-le a xs k) h in
    get_or-append (take a xs) (ys ++ drop (a + length ys) xs) 0 i l ∙ get_or-take a xs i 0 h

pub get_or-over-inside : (xs : List ℕ) (a : ℕ) (ys : List ℕ) (i : ℕ) → i < length ys → a ≤ length xs → get_or (over xs a ys) (a + i) 0 ≡ get_or ys i 0
unfolding over
get_or-over-inside xs a ys i h k =
    let e : a + i ≡ length (take a xs) + i = omega (arith, length-take-le a xs k) in
    ap (λ n. get_or (take a xs ++ (ys ++ drop (a + length ys) xs)) n 0) e
    ∙ get_or-append-add (take a xs) (ys ++ drop (a + length ys) xs) i 0
    ∙ get_or-append ys (drop (a + length ys) xs) 0 i h

pub get_or-over_above : (xs : List ℕ) (a : ℕ) (ys : List ℕ) (i : ℕ) → a + length ys ≤ i → a ≤ length xs → get_or (over xs a ys) i 0 ≡ get_or xs i 0
unfolding over
get_or-over_above xs a ys i h k =
    let l : length (take a xs ++ ys) ≡ a + length ys = simp (length-append, length-take) (omega arith) in
    let e : i ≡ length (take a xs ++ ys) + (i - (a + length ys)) = omega arith in
    let f : (a + length ys) + (i - (a + length ys)) ≡ i = omega arith in
    rw (← append_assoc)
    (ap (λ n. get_or ((take a xs ++ ys) ++ drop (a + length ys) xs) n 0) e
    ∙ get_or-append-add (take a xs ++ ys) (drop (a + length ys) xs) (i - (a + length ys)) 0
    ∙ get_or-drop (a + length ys) xs (i - (a + length ys)) 0
    ∙ ap (λ n. get_or xs n 0) f)

-- ---- parts
-- what was laid is read back
pub over_read : (xs : List ℕ) (a : ℕ) (ys : List ℕ) → a ≤ length xs → take (length ys) (drop a (over xs a ys)) ≡ ys
unfolding over
over_read xs a ys h = rw (drop_at (take a xs) (ys ++ drop (a + length ys) xs) a (length-take-le a xs h), take-append_seam)

-- a part that ends before it stays
pub over-before : (xs : List ℕ) (a : ℕ) (ys : List ℕ) (b n : ℕ) → b + n ≤ a → a ≤ length xs → take n (drop b (over xs a ys)) ≡ take n (drop b xs)
unfolding over
over-before xs a ys b n h k =
    let l = length-take-le a xs k in
    front (take a xs) (ys ++ drop (a + length ys) xs) (omega arith) ∙ sym (rw take-append-drop at (front (take a xs) (drop a xs) (omega arith)))
  where
    front : (p q : List ℕ) → b + n ≤ length p → take n (drop b (p ++ q)) ≡ take n (drop b p)
    front p q m =
        let r : n ≤ length (drop b p) = simp length-drop (omega arith) in
        rw (drop-append-le b p q (omega arith), take-append-le n (drop b p) q r)

-- what lies behind it stays
pub over-behind : (xs : List ℕ) (a : ℕ) (ys : List ℕ) (b : ℕ) → a + length ys ≤ b → a ≤ length xs → drop b (over xs a ys) ≡ drop b xs
unfolding over
over-behind xs a ys b h k =
    let l : length (take a xs ++ ys) ≡ a + length ys = simp (length-append, length-take) (omega arith) in
    let e : b ≡ length (take a xs ++ ys) + (b - (a + length ys)) = omega arith in
    let f : (a + length ys) + (b - (a + length ys)) ≡ b = omega arith in
    rw (← append_assoc)
    (ap (λ n. drop n ((take a xs ++ ys) ++ drop (a + length ys) xs)) e
    ∙ drop-append-add (take a xs ++ ys) (drop (a + length ys) xs) (b - (a + length ys))
    ∙ drop-drop (b - (a + length ys)) (a + length ys) xs
    ∙ ap (λ n. drop n xs) f)

-- what stands there already changes nothing when it is laid
pub over-same : (xs : List ℕ) (a n : ℕ) → a + n ≤ length xs → over xs a (take n (drop a xs)) ≡ xs
unfolding over
over-same xs a n h =
    let l : length (take n (drop a xs)) ≡ n = length-take-le n (drop a xs) (simp length-drop (omega arith)) in
    rw (l, ← append_assoc, ← take-add) (take-append-drop (a + n) xs)

-- ---- one more
pub over_snoc : {A : Type 0} (xs : List A) (a : ℕ) (ys : List A) (n : ℕ) (y : A) → n ≡ a + length ys → n < length xs → set (over xs a ys) n y ≡ over xs a (ys ++ (y ∷ []))
unfolding over
over_snoc xs a ys n y e h =
    let k : length (take a xs ++ ys) ≡ n = simp (length-append, length-take) (omega arith) in
    let g : a + length (ys ++ (y ∷ [])) ≡ suc n = simp length-append (omega arith) in
    rw (g, ← e, drop-cons xs n y h, ← append_assoc, set_at (take a xs ++ ys) _ _ y n k) (simp append_assoc)

pub over_first : (xs : List ℕ) (a y : ℕ) (ys : List ℕ) → a < length xs → over xs a (y ∷ ys) ≡ over (set xs a y) (suc a) ys
unfolding over
over_first xs a y ys h =
    let n : a + suc (length ys) ≡ suc a + length ys = omega arith in
    rw (n, take-suc-set xs a y h, drop-set-lt (suc a + length ys) xs a y (omega arith)) (simp append_assoc)

-- the next of src
pub lay_more : {A : Type 0} (xs ys src : List A) (a j : ℕ) (v : A) → j < length src → a + length src ≤ length xs → v ≡ get_or src j v → ys ≡ over xs a (take j src)
    → set ys (a + j) v ≡ over xs a (take (j + 1) src)
lay_more xs ys src a j v h l w e =
    let k : length (take j src) ≡ j = length-take-le j src (omega arith) in
    rw (add-one, take-suc src j v h, ← w, e) (over_snoc xs a (take j src) (a + j) v (omega arith) (omega arith))

-- ---- two that don't meet
-- laid behind what was laid
pub over-over : (xs : List ℕ) (a : ℕ) (ys : List ℕ) (n : ℕ) (zs : List ℕ) → n ≡ a + length ys → n ≤ length xs → over (over xs a ys) n zs ≡ over xs a (ys ++ zs)
unfolding over
over-over xs a ys n zs e h =
    let k : length (take a xs ++ ys) ≡ n = simp (length-append, length-take) (omega arith) in
    let t : take n (take a xs ++ (ys ++ drop (a + length ys) xs)) ≡ take a xs ++ ys = rw (← append_assoc) (take_at (take a xs ++ ys) (drop (a + length ys) xs) n k) in
    let d : drop n (take a xs ++ (ys ++ drop (a + length ys) xs)) ≡ drop (a + length ys) xs = rw (← append_assoc) (drop_at (take a xs ++ ys) (drop (a + length ys) xs) n k) in
    let f : a + length (ys ++ zs) ≡ (a + length ys) + length zs = simp length-append (omega arith) in
    rw (t, ← drop-drop, d, drop-drop, f) (simp append_assoc)

-- in two lists that agree at a place, the same laid over both agrees there too
over_agree : (xs xs' : List ℕ) (a : ℕ) (ys : List ℕ) (i : ℕ) → a ≤ length xs → a ≤ length xs' → get_or xs i 0 ≡ get_or xs' i 0 → get_or (over xs a ys) i 0 ≡ get_or (over xs' a ys) i 0
over_agree xs xs' a ys i h h' e = go (dec_lt i a) (dec_lt i (a + length ys))
  where
    go : Dec (i < a) → Dec (i < a + length ys) → get_or (over xs a ys) i 0 ≡ get_or (over xs' a ys) i 0
    go (yes l) m = get_or-over-below xs a ys i l h ∙ e ∙ sym (get_or-over-below xs' a ys i l h')
    go (no l) (yes m) =
        let j : i ≡ a + (i - a) = omega arith in
        rw j (get_or-over-inside xs a ys (i - a) (omega arith) h ∙ sym (get_or-over-inside xs' a ys (i - a) (omega arith) h'))
    go (no l) (no m) = get_or-over_above xs a ys i (omega arith) h ∙ e ∙ sym (get_or-over_above xs' a ys i (omega arith) h')

-- in either order
pub over_comm : (xs : List ℕ) (a : ℕ) (ys : List ℕ) (b : ℕ) (zs : List ℕ) → a + length ys ≤ b → b + length zs ≤ length xs → over (over xs a ys) b zs ≡ over (over xs b zs) a ys
over_comm xs a ys b zs h k = ext_get_or 0 _ _ (length_over (over xs a ys) b zs (omega (arith, la)) ∙ la ∙ sym (length_over (over xs b zs) a ys (omega (arith, lb)) ∙ lb)) (λ i l. at i (dec_lt i b))
  where
    la : length (over xs a ys) ≡ length xs
    la = length_over xs a ys (omega arith)

    lb : length (over xs b zs) ≡ length xs
    lb = length_over xs b zs k

    at : (i : ℕ) → Dec (i < b) → get_or (over (over xs a ys) b zs) i 0 ≡ get_or (over (over xs b zs) a ys) i 0
    at i (yes l) =
        get_or-over-below (over xs a ys) b zs i l (omega (arith, la))
        ∙ over_agree xs (over xs b zs) a ys i (omega arith) (omega (arith, lb)) (sym (get_or-over-below xs b zs i l (omega arith)))
    at i (no l) =
        over_agree (over xs a ys) xs b zs i (omega (arith, la)) (omega arith) (get_or-over_above xs a ys i (omega arith) (omega arith))
        ∙ sym (get_or-over_above (over xs b zs) a ys i (omega arith) (omega (arith, lb)))

-- ---- a list laid in two parts
pub lay_two : (s : List ℕ) (a : ℕ) (xs ys : List ℕ) (b : ℕ) → b ≡ a + length xs → b ≤ length s → over s a (xs ++ ys) ≡ over (over s a xs) b ys
lay_two s a xs ys b e h = sym (over-over s a xs b ys e h)

pub lay_next : (s : List ℕ) {s' : List ℕ} (a : ℕ) (xs ys : List ℕ) (b : ℕ) → s' ≡ over s a xs → b ≡ a + length xs → b ≤ length s
    → (over s a (xs ++ ys) ≡ over s' b ys) × (length s' ≡ length s)
lay_next s {s'} a xs ys b q e h = (lay_two s a xs ys b e h ∙ ap (λ t. over t b ys) (sym q), ap length q ∙ length_over s a xs (omega arith))

-- ---- by the library's methods
-- after a write to the part from a up to e
pub over_part : {A : Type 0} (xs : List A) (a e : ℕ) (ys : List A) → e ≡ a + length ys → put_mid a (e - a) xs ys ≡ over xs a ys
unfolding over
over_part xs a e ys h =
    let k : e - a ≡ length ys = omega arith in
    rw (k, drop-drop (length ys) a xs)

-- after `copy_within`
pub over_moved : {A : Type 0} (xs : List A) (a i j : ℕ) → j ≤ length xs → paste xs a (drop i xs) (j - i) ≡ over xs a (slice i j xs)
unfolding over
over_moved xs a i j h = rw (length-slice i j xs h) (append_assoc (take a xs) (take (j - i) (drop i xs)) (drop (a + (j - i)) xs) ∙ ap (λ t. take a xs ++ (t ++ drop (a + (j - i)) xs)) (between_is xs i j))
