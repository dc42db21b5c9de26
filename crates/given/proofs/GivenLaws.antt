-- Laws on what is given: its totals, one value after the other; what is laid of it.
-- Assumes nothing.
use mathlib.Core.Path.{◌≡◌, refl, sym, ap, ◌∙◌}
use mathlib.Core.Bool.{Bool, true, false, cond}
use mathlib.Core.List.{List, [], ◌∷◌, ◌++◌}
use Prim.Native.Nat.{ℕ, zero, suc, ◌+◌, ◌-◌, ◌*◌, ◌<◌, ◌≤◌}
use native.Mathlib.Omega.{arith}
use lib.ListN.{length, take, drop, set, replicate, length-append, length-drop, length-set, length-replicate}
use lib.Seq.{take-append-add, length-take-le}
use Rattle.lists.specs.Lists.{over}
use Rattle.lists.proofs.ListLaws.{over_first, over-over, over_none}
use Rattle.value.specs.Codec.{is_text}
use Rattle.entry.specs.Model.{rooms, words_of, slots_of, size}
use Rattle.given.specs.Given.{type_in, room_in, length_in, word_in, held, room_of, given, rooms_in, lengths_in, slots_in, count_in, obj_in, held_in}
use Rattle.given.specs.declared.Head.{Head}

-- ---- a room has its size
pub length-room_of : (r : ℕ) (xs : List ℕ) → length (room_of r xs) ≡ r
unfolding room_of
length-room_of r xs = rw (length-take-le r (xs ++ replicate {A = ℕ} r 0) (rw (length-append xs (replicate {A = ℕ} r 0), length-replicate {A = ℕ} r 0) (omega arith)))

take-replicate : (n m : ℕ) → n ≤ m → take n (replicate {A = ℕ} m 0) ≡ replicate n 0
take-replicate zero m h = refl
take-replicate (suc n) zero h = absurd (omega arith)
take-replicate (suc n) (suc m) h = ap (λ l. 0 ∷ l) (take-replicate n m (omega arith))

pub room_of_is : (r : ℕ) (xs : List ℕ) → length xs ≤ r → room_of r xs ≡ xs ++ replicate (r - length xs) 0
unfolding room_of
room_of_is r xs h =
    let e : r ≡ length xs + (r - length xs) = omega arith in
    ap (λ n. take n (xs ++ replicate {A = ℕ} r 0)) e ∙ take-append-add xs (replicate {A = ℕ} r 0) (r - length xs) ∙ ap (λ l. xs ++ l) (take-replicate (r - length xs) r (omega arith))

-- ---- the given values, laid out
pub given-length : (vals encodings : List ℕ) (k j t : ℕ) → length (given vals encodings k j t) ≡ k
unfolding given
given-length vals encodings zero j t = refl
given-length vals encodings (suc k) j t = ap suc (given-length vals encodings k (suc j) (t + length_in vals j))

pub given_slots : (vals encodings : List ℕ) (k j t b : ℕ) → slots_of b (given vals encodings k j t) ≡ slots_in vals k j b
unfolding slots_of given slots_in
given_slots vals encodings zero j t b = refl
given_slots vals encodings (suc k) j t b =
    rw (length-room_of, given_slots vals encodings k (suc j) (t + length_in vals j) (b + room_in vals j))

pub length-slots_in : (vals : List ℕ) (k j b : ℕ) → length (slots_in vals k j b) ≡ 3 * k
unfolding slots_in
length-slots_in vals zero j b = refl
length-slots_in vals (suc k) j b = omega (arith, length-slots_in vals k (suc j) (b + room_in vals j))

pub length-rooms : (vals encodings : List ℕ) (k j t : ℕ) → length (rooms (given vals encodings k j t)) ≡ rooms_in vals k j
unfolding rooms given rooms_in
length-rooms vals encodings zero j t = refl
length-rooms vals encodings (suc k) j t =
    length-append (room_of (room_in vals j) (held (type_in vals j) (take (length_in vals j) (drop t encodings)))) (rooms (given vals encodings k (suc j) (t + length_in vals j)))
    ∙ rw (length-room_of, length-rooms vals encodings k (suc j) (t + length_in vals j))

pub size_is : (hd : Head) (name vals encodings : List ℕ) → size (obj_in hd name vals encodings) ≡ length name + rooms_in vals (count_in vals) 0
size_is hd name vals encodings =
    length-append name (rooms (given vals encodings (count_in vals) 0 0)) ∙ ap (λ k. length name + k) (length-rooms vals encodings (count_in vals) 0 0)

-- ---- one value more
next : (u j : ℕ) → j < u → u - j ≡ suc (u - suc j)
next u j h = omega arith

one : (j : ℕ) → j + 1 ≡ suc j
one j = omega arith

pub rooms_more : (vals : List ℕ) (u j : ℕ) → j < u → rooms_in vals (u - j) j ≡ room_in vals j + rooms_in vals (u - (j + 1)) (j + 1)
unfolding rooms_in
rooms_more vals u j h = rw (one j, next u j h)

pub lengths_more : (vals : List ℕ) (u j : ℕ) → j < u → lengths_in vals (u - j) j ≡ length_in vals j + lengths_in vals (u - (j + 1)) (j + 1)
unfolding lengths_in
lengths_more vals u j h = rw (one j, next u j h)

pub slots_more : (vals xs : List ℕ) (v u j b : ℕ) → j < u → 3 * (v + u) ≤ length xs → over xs (3 * (v + j)) (slots_in vals (u - j) j b) ≡ over (set (set (set xs (3 * (v + j)) (type_in vals j)) (3 * (v + j) + 1) b) (3 * (v + j) + 2) (room_in vals j)) (3 * (v + (j + 1))) (slots_in vals (u - (j + 1)) (j + 1) (b + room_in vals j))
unfolding slots_in
slots_more vals xs v u j b h l =
    let p = 3 * (v + j) in
    let e : u - j ≡ suc (u - (j + 1)) = omega arith in
    let e₁ : suc p ≡ p + 1 = omega arith in
    let e₂ : suc (p + 1) ≡ p + 2 = omega arith in
    let e₃ : suc (p + 2) ≡ 3 * (v + (j + 1)) = omega arith in
    let f : j + 1 ≡ suc j = omega arith in
    let a = set xs p (type_in vals j) in
    let c = set a (p + 1) b in
    let r = slots_in vals (u - suc j) (suc j) (b + room_in vals j) in
    let la : p + 1 < length a = rw length-set (omega arith) in
    let lc : p + 2 < length c = rw (length-set, length-set) (omega arith) in
    rw (e, f) (over_first xs p (type_in vals j) (b ∷ room_in vals j ∷ r) (omega arith)
    ∙ ap (λ n. over a n (b ∷ room_in vals j ∷ r)) e₁ ∙ over_first a (p + 1) b (room_in vals j ∷ r) la
    ∙ ap (λ n. over c n (room_in vals j ∷ r)) e₂ ∙ over_first c (p + 2) (room_in vals j) r lc
    ∙ ap (λ n. over (set c (p + 2) (room_in vals j)) n r) (rw f at e₃))

pub words_more : (vals encodings xs : List ℕ) (v u j t : ℕ) → j < u → v + u ≤ length xs → over xs (v + j) (words_of (given vals encodings (u - j) j t)) ≡ over (set xs (v + j) (word_in (type_in vals j) (take (length_in vals j) (drop t encodings)))) (v + (j + 1)) (words_of (given vals encodings (u - (j + 1)) (j + 1) (t + length_in vals j)))
unfolding words_of given
words_more vals encodings xs v u j t h l =
    let g : suc (v + j) ≡ v + suc j = omega arith in
    rw (one j, next u j h, over_first xs (v + j) _ _ (omega arith), g)

-- a room, laid in two parts
pub room-laid : (s xs : List ℕ) (p r t n : ℕ) → n ≤ r → t + n ≤ length s → p + r ≤ length xs → over (over xs p (take n (drop t s))) (p + n) (replicate (r - n) 0) ≡ over xs p (room_of r (take n (drop t s)))
room-laid s xs p r t n m l k =
    let w = take n (drop t s) in
    let z = replicate {A = ℕ} (r - n) 0 in
    let e : length w ≡ n = length-take-le n (drop t s) (rw length-drop (omega arith)) in
    let q : room_of r w ≡ w ++ z = rw e at (room_of_is r w (omega arith)) in
    over-over xs p w (p + n) z (omega arith) (omega arith) ∙ ap (λ w. over xs p w) (sym q)

pub held-take : (t n : ℕ) (s : List ℕ) → held t (take n s) ≡ take (cond (is_text t) n 0) s
held-take t n s = go (is_text t)
  where
    go : (x : Bool) → cond x (take n s) [] ≡ take (cond x n 0) s
    go true = refl
    go false = refl

pub rooms-laid : (vals encodings xs : List ℕ) (u j p t : ℕ) → j < u → p + room_in vals j ≤ length xs
    → over xs p (rooms (given vals encodings (u - j) j t)) ≡ over (over xs p (room_of (room_in vals j) (take (held_in vals j) (drop t encodings)))) (p + room_in vals j) (rooms (given vals encodings (u - (j + 1)) (j + 1) (t + length_in vals j)))
unfolding rooms given
rooms-laid vals encodings xs u j p t h k =
    let s = room_of (room_in vals j) (take (held_in vals j) (drop t encodings)) in
    let n : length s ≡ room_in vals j = length-room_of (room_in vals j) (take (held_in vals j) (drop t encodings)) in
    rw (one j, next u j h, held-take (type_in vals j) (length_in vals j) (drop t encodings))
    (sym (over-over xs p s (p + room_in vals j) (rooms (given vals encodings (u - suc j) (suc j) (t + length_in vals j))) (omega arith) (omega arith)))

pub none_left : (xs : List ℕ) (p : ℕ) (ys : List ℕ) → length ys ≡ 0 → over xs p ys ≡ xs
none_left xs p [] e = over_none xs p
none_left xs p (y ∷ ys) e = absurd (omega arith)

pub rooms_none : (vals : List ℕ) (k j : ℕ) → k ≡ 0 → rooms_in vals k j ≡ 0
unfolding rooms_in
rooms_none vals k j e = rw e

pub held_few : (vals : List ℕ) (j : ℕ) → held_in vals j ≤ length_in vals j
held_few vals j = go (is_text (type_in vals j))
  where
    go : (x : Bool) → cond x (length_in vals j) 0 ≤ length_in vals j
    go true = omega arith
    go false = omega arith
