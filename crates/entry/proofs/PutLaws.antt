-- Putting a value keeps a dictionary well-formed.
-- Assumes nothing.
use mathlib.Core.Path.{◌≡◌, refl, sym, ap, ◌∙◌, subst}
use mathlib.Core.Bool.{true, false, ◌&&◌}
use mathlib.Core.List.{List, [], ◌∷◌, ◌++◌, append_assoc}
use Prim.Native.Nat.{ℕ, zero, suc, ◌+◌, ◌-◌, ◌*◌, ◌<◌}
use native.Mathlib.Nat.{add-zero, zero-add}
use native.Mathlib.Omega.{arith}
use borrow.Author.Tests.{lt-ltb}
use lib.Dec.{leb}
use lib.ListN.{length, take, drop, get_or, set, length-append, length-set}
use lib.Seq.{set_at, take_at, drop_at, get_or-append-add, set-append_left}
use Rattle.lists.specs.Lists.{over}
use Rattle.entry.specs.Model.{Val, Obj, rooms, words_of, slots_of, used, size, rows_of, all_objects, all_slots, all_words, all_bytes}
use Rattle.entry.specs.Table.{edition_of, Dict, Lies, model_of, val_at, vals_from, obj_at, objs_from, number_of, count_at, first_at, default_at, type_at, start_at, room_at}
use Rattle.entry.specs.Rules.{is_edition, extra_ok, val_ok, held_ok, vals_ok, obj_ok, objs_ok, head_ok, is_good, Few}
use Rattle.entry.specs.Judge.{well_formed}
use Rattle.lists.specs.Numbers.{number}
use Rattle.value.specs.Codec.{is_text, size_of}
use Rattle.entry.specs.Put.{Contents, contents, put_in, put_as}
use Rattle.text.specs.Machine.{judge}
use Rattle.entry.proofs.JudgeLaws.{and_true, length_vals, length_objs, sound}
use Rattle.entry.proofs.ModelLaws.{length-words_of, length-slots_of, length_slots, words_append, bytes_append, rows_append, slots_append, begins, first_at_lem}
use Rattle.entry.proofs.BackLaws.{complete}

-- ---- the two ways of a put
module _ (slots : List ℕ) (c : Contents) (p : ℕ) (s : List ℕ) where
  pub put_text : is_text (type_at slots p) ≡ true → put_in slots c p s ≡ contents (set c.words p (length s)) (over c.bytes (start_at slots p) s)
  unfolding put_in
  put_text e = rw e

  pub put_fixed : is_text (type_at slots p) ≡ false → put_in slots c p s ≡ contents (set c.words p (number (take (size_of (type_at slots p)) s))) c.bytes
  unfolding put_in
  put_fixed e = rw e

-- ---- a value among values, by parts
words_of-append : (us vs : List Val) → words_of (us ++ vs) ≡ words_of us ++ words_of vs
unfolding words_of
words_of-append [] vs = refl
words_of-append (u ∷ us) vs = ap (λ l. u.word ∷ l) (words_of-append us vs)

rooms-append : (us vs : List Val) → rooms (us ++ vs) ≡ rooms us ++ rooms vs
unfolding rooms
rooms-append [] vs = refl
rooms-append (u ∷ us) vs = rw (rooms-append us vs) (simp append_assoc)

slots_of-append : (b : ℕ) (us vs : List Val) → slots_of b (us ++ vs) ≡ slots_of b us ++ slots_of (b + length (rooms us)) vs
unfolding slots_of rooms
slots_of-append b [] vs = rw add-zero
slots_of-append b (u ∷ us) vs =
    let e : (b + length u.room) + length (rooms us) ≡ b + length (u.room ++ rooms us) = omega (arith, length-append u.room (rooms us)) in
    rw (slots_of-append (b + length u.room) us vs, e)

-- a part laid over its equal in length
over_middle : (a b c z : List ℕ) (n : ℕ) → n ≡ length a → length z ≡ length b → over (a ++ (b ++ c)) n z ≡ a ++ (z ++ c)
unfolding over
over_middle a b c z n e h =
    let t = take_at a (b ++ c) n (sym e) in
    let d : drop (n + length z) (a ++ (b ++ c)) ≡ c = rw (← append_assoc a b c) (drop_at (a ++ b) c (n + length z) (rw (length-append a b) (omega arith))) in
    rw (t, d)

-- another value in a value's place
vals_swap : (n : ℕ) (us vs : List Val) (x y : Val) → held_ok (n - length us) y.type y.word (length y.room) y.room ≡ true → vals_ok n (us ++ (x ∷ vs)) ≡ true → vals_ok n (us ++ (y ∷ vs)) ≡ true
unfolding vals_ok
vals_swap n [] vs x y g h =
    let e : n - 0 ≡ n = omega arith in
    rw (rw e at g) (and_true (held_ok n x.type x.word (length x.room) x.room) (vals_ok (n - 1) vs) h).1
vals_swap n (u ∷ us) vs x y g h =
    let k = and_true (held_ok n u.type u.word (length u.room) u.room) (vals_ok (n - 1) (us ++ (x ∷ vs))) h in
    let e : n - suc (length us) ≡ n - 1 - length us = omega arith in
    rw k.0 (vals_swap (n - 1) us vs x y (rw e at g) k.1)

pub objs_swap : (low : ℕ) (xs ys : List Obj) (o q : Obj) → q.index ≡ o.index → (obj_ok o ≡ true → obj_ok q ≡ true) → objs_ok low (xs ++ (o ∷ ys)) ≡ true → objs_ok low (xs ++ (q ∷ ys)) ≡ true
unfolding objs_ok
objs_swap low [] ys o q i f h =
    let a = and_true (leb low o.index) (obj_ok o && objs_ok (o.index + 1) ys) h in
    let b = and_true (obj_ok o) (objs_ok (o.index + 1) ys) a.1 in
    rw (f b.0, i, a.0) b.1
objs_swap low (x ∷ xs) ys o q i f h =
    let a = and_true (leb low x.index) (obj_ok x && objs_ok (x.index + 1) (xs ++ (o ∷ ys))) h in
    let b = and_true (obj_ok x) (objs_ok (x.index + 1) (xs ++ (o ∷ ys))) a.1 in
    rw (a.0, b.0) (objs_swap (x.index + 1) xs ys o q i f b.1)

-- ---- the layout around that value
module _ (xs : List Obj) (o : Obj) (ys : List Obj) (us vs : List Val) where
  -- the object with y as its value there
  abbrev with_it : Val → Obj
  with_it y = record { index = o.index; kind = o.kind; access = o.access; default = o.default; extra = o.extra; name = o.name; values = us ++ (y ∷ vs) }

  abbrev all : Val → List Obj
  all y = xs ++ (with_it y ∷ ys)

  words_form : (y : Val) → all_words (all y) ≡ (all_words xs ++ words_of us) ++ (y.word ∷ (words_of vs ++ all_words ys))
  unfolding all_words words_of
  words_form y = words_append xs (with_it y ∷ ys) ∙ rw (words_of-append us (y ∷ vs)) (simp append_assoc)

  bytes_form : (y : Val) → all_bytes (all y) ≡ (all_bytes xs ++ (o.name ++ rooms us)) ++ (y.room ++ (rooms vs ++ all_bytes ys))
  unfolding all_bytes rooms
  bytes_form y = bytes_append xs (with_it y ∷ ys) ∙ rw (rooms-append us (y ∷ vs)) (simp append_assoc)

  slots_form : (y : Val) → all_slots 0 (all y) ≡ (all_slots 0 xs ++ slots_of (length (all_bytes xs) + length o.name) us) ++ (y.type ∷ (length (all_bytes xs) + length o.name + length (rooms us)) ∷ length y.room ∷ (slots_of (length (all_bytes xs) + length o.name + length (rooms us) + length y.room) vs ++ all_slots (length (all_bytes xs) + size (with_it y)) ys))
  unfolding all_slots slots_of
  slots_form y =
      rw zero-add at (slots_append 0 xs (with_it y ∷ ys)) ∙ rw (slots_of-append (length (all_bytes xs) + length o.name) us (y ∷ vs)) (simp append_assoc)

  slots_before : (p : ℕ) → p ≡ length (all_words xs) + length us → length (all_slots 0 xs ++ slots_of (length (all_bytes xs) + length o.name) us) ≡ 3 * p
  slots_before p q =
      rw (length-append (all_slots 0 xs) (slots_of (length (all_bytes xs) + length o.name) us)) (omega (arith, length_slots 0 xs, length-slots_of (length (all_bytes xs) + length o.name) us, q))

  module _ (x y : Val) (e : length y.room ≡ length x.room) where
    same_size : size (with_it y) ≡ size (with_it x)
    unfolding rooms
    same_size =
        let a = length-append o.name (rooms (us ++ (y ∷ vs))) in
        let b = length-append o.name (rooms (us ++ (x ∷ vs))) in
        let c = ap length (rooms-append us (y ∷ vs)) ∙ length-append (rooms us) (y.room ++ rooms vs) in
        let d = ap length (rooms-append us (x ∷ vs)) ∙ length-append (rooms us) (x.room ++ rooms vs) in
        omega (arith, a, b, c, d, length-append y.room (rooms vs), length-append x.room (rooms vs))

    same-used : used (with_it y) ≡ used (with_it x)
    same-used = omega (arith, length-append us (y ∷ vs), length-append us (x ∷ vs))

    slots_put : (p : ℕ) → p ≡ length (all_words xs) + length us → all_slots 0 (all y) ≡ set (all_slots 0 (all x)) (3 * p) y.type
    slots_put p q =
        let f = all_slots 0 xs ++ slots_of (length (all_bytes xs) + length o.name) us in
        slots_form y ∙ rw (same_size, e) (sym (ap (λ l. set l (3 * p) y.type) (slots_form x) ∙ set_at f x.type _ y.type (3 * p) (slots_before p q)))

    rows_same : rows_of 0 0 (all y) ≡ rows_of 0 0 (all x)
    unfolding rows_of
    rows_same =
        rows_append 0 0 xs (with_it y ∷ ys) ∙ rw (same_size, same-used) (sym (rows_append 0 0 xs (with_it x ∷ ys)))

    words_put : (p : ℕ) → p ≡ length (all_words xs) + length us → all_words (all y) ≡ set (all_words (all x)) p y.word
    words_put p q =
        let n : length (all_words xs ++ words_of us) ≡ p = rw (length-append (all_words xs) (words_of us), length-words_of us) (sym q) in
        words_form y ∙ sym (ap (λ l. set l p y.word) (words_form x) ∙ set_at (all_words xs ++ words_of us) x.word (words_of vs ++ all_words ys) y.word p n)

  -- ---- the rules: the value is one of the object's elements
  ok_all : (low : ℕ) (x y : Val) → length us < length (us ++ (x ∷ vs)) - o.default → val_ok y.type y.word (length y.room) y.room ≡ true → objs_ok low (all x) ≡ true → objs_ok low (all y) ≡ true
  unfolding held_ok
  ok_all low x y e g h = objs_swap low xs ys (with_it x) (with_it y) refl (λ k. obj_swap k) h
    where
      held : held_ok (length (us ++ (x ∷ vs)) - o.default - length us) y.type y.word (length y.room) y.room ≡ true
      held = rw (g, lt-ltb 0 (length (us ++ (x ∷ vs)) - o.default - length us) (omega arith))

      obj_swap : obj_ok (with_it x) ≡ true → obj_ok (with_it y) ≡ true
      obj_swap k =
          let u : length (us ++ (y ∷ vs)) ≡ length (us ++ (x ∷ vs)) = omega (arith, length-append us (y ∷ vs), length-append us (x ∷ vs)) in
          let a = and_true (head_ok o.index o.kind o.access (length (us ++ (x ∷ vs)) - o.default) o.default (length o.name)) _ k in
          let b = and_true (leb o.default (length (us ++ (x ∷ vs)))) _ a.1 in
          let c = and_true (is_good (judge o.name)) _ b.1 in
          let w = and_true (extra_ok (length (us ++ (x ∷ vs)) - o.default) o.extra) _ c.1 in
          rw (u, a.0, b.0, c.0, w.0) (vals_swap (length (us ++ (x ∷ vs)) - o.default) us vs x y held w.1)

-- ---- the memory
lies_front : (l t : List ℕ) → over (l ++ t) 0 l ≡ l ++ t
unfolding over
lies_front l t = rw (zero-add (length l)) (ap (λ k. l ++ k) (drop_at l t (length l) refl))

module _ (d : Dict) (xs : List Obj) (o : Obj) (ys : List Obj) (us vs : List Val) (x : Val) (l : Lies (all xs o ys us vs x) d) (p : ℕ) (q : p ≡ length (all_words xs) + length us) where
  abbrev bottom : ℕ
  bottom = length (all_bytes xs) + length o.name + length (rooms us)

  cell_is : (c n : ℕ) → n ≡ 3 * p + c → get_or d.slots n 0 ≡ get_or (x.type ∷ bottom ∷ length x.room ∷ ((slots_of (bottom + length x.room) vs ++ all_slots (length (all_bytes xs) + size (with_it xs o ys us vs x)) ys) ++ drop (length (all_slots 0 (all xs o ys us vs x))) d.slots)) c 0
  cell_is c n e =
      let f = all_slots 0 xs ++ slots_of (length (all_bytes xs) + length o.name) us in
      let m : length f ≡ 3 * p = slots_before xs o ys us vs p q in
      let k : n ≡ length f + c = omega arith in
      let z = drop (length (all_slots 0 (all xs o ys us vs x))) d.slots in
      ap (λ s. get_or s n 0) (begins d.slots (all_slots 0 (all xs o ys us vs x)) l.slots ∙ ap (λ s. s ++ z) (slots_form xs o ys us vs x) ∙ append_assoc f _ z)
      ∙ rw k (get_or-append-add f _ c 0)

  type_is : type_at d.slots p ≡ x.type
  type_is = cell_is 0 (3 * p) (omega arith)

  start_is : start_at d.slots p ≡ bottom
  start_is = cell_is 1 (3 * p + 1) refl

  room_is : room_at d.slots p ≡ length x.room
  room_is = cell_is 2 (3 * p + 2) refl

  module _ (t w : ℕ) (r : List ℕ) (e : length r ≡ length x.room) where
    abbrev y : Val
    y = record { type = t; word = w; room = r }

    put_lies : Lies (all xs o ys us vs y) (put_as p t w r d)
    put_lies =
        let wx = all_words (all xs o ys us vs x) in
        let wy = all_words (all xs o ys us vs y) in
        let bx = all_bytes (all xs o ys us vs x) in
        let by = all_bytes (all xs o ys us vs y) in
        let tw = drop (length wx) d.words in
        let tb = drop (length bx) d.bytes in
        let f = all_bytes xs ++ (o.name ++ rooms us) in
        let lf : bottom ≡ length f = rw (length-append (all_bytes xs) (o.name ++ rooms us), length-append o.name (rooms us)) (omega arith) in
        let pw = words_put xs o ys us vs x y e p q in
        let lw : length wy ≡ length wx = ap length pw ∙ length-set wx p w in
        let c = rooms vs ++ all_bytes ys in
        let lb : length by ≡ length bx =
        ap length (bytes_form xs o ys us vs y) ∙ length-append f (r ++ c) ∙ ap (λ n. length f + n) (length-append r c ∙ ap (λ n. n + length c) e ∙ sym (length-append x.room c))
        ∙ sym (length-append f (x.room ++ c)) ∙ sym (ap length (bytes_form xs o ys us vs x)) in
        let pl : p < length wx =
        omega (arith, ap length (words_form xs o ys us vs x), length-append (all_words xs ++ words_of us) (x.word ∷ (words_of vs ++ all_words ys)), length-append (all_words xs) (words_of us), length-words_of us, q) in
        let ln : length (all xs o ys us vs y) ≡ length (all xs o ys us vs x) = length-append xs (with_it xs o ys us vs y ∷ ys) ∙ sym (length-append xs (with_it xs o ys us vs x ∷ ys)) in
        let ew : set d.words p w ≡ wy ++ tw =
        ap (λ s. set s p w) (begins d.words wx l.words) ∙ set-append_left wx tw p w pl ∙ ap (λ s. s ++ tw) (sym pw) in
        let sx = all_slots 0 (all xs o ys us vs x) in
        let sy = all_slots 0 (all xs o ys us vs y) in
        let ts = drop (length sx) d.slots in
        let ps = slots_put xs o ys us vs x y e p q in
        let sl : 3 * p < length sx = omega (arith, length_slots 0 (all xs o ys us vs x), pl) in
        let es : set d.slots (3 * p) t ≡ sy ++ ts =
        ap (λ s. set s (3 * p) t) (begins d.slots sx l.slots) ∙ set-append_left sx ts (3 * p) t sl ∙ ap (λ s. s ++ ts) (sym ps) in
        let eb : over d.bytes (start_at d.slots p) r ≡ by ++ tb =
        ap (λ s. over s (start_at d.slots p) r) (begins d.bytes bx l.bytes ∙ ap (λ s. s ++ tb) (bytes_form xs o ys us vs x) ∙ append_assoc f (x.room ++ c) tb ∙ ap (λ s. f ++ s) (append_assoc x.room c tb))
        ∙ over_middle f x.room (c ++ tb) r (start_at d.slots p) (start_is ∙ lf) e
        ∙ sym (ap (λ s. s ++ tb) (bytes_form xs o ys us vs y) ∙ append_assoc f (r ++ c) tb ∙ ap (λ s. f ++ s) (append_assoc r c tb)) in
        record {
          objects = rw (rows_same xs o ys us vs x y e, ln, lw, lb) l.objects;
          slots = rw es (lies_front sy ts);
          words = rw ew (lies_front wy tw);
          bytes = rw eb (lies_front by tb);
        }

    put_again : is_edition (edition_of d.objects) ≡ true → length us < length (us ++ (x ∷ vs)) - o.default → objs_ok 0 (all xs o ys us vs x) ≡ true → Few (all xs o ys us vs x) → val_ok t w (length r) r ≡ true → well_formed (put_as p t w r d) ≡ true
    put_again ed i g f k =
        let wx = all_words (all xs o ys us vs x) in
        let lw = ap length (words_put xs o ys us vs x y e p q) ∙ length-set wx p w in
        let ln : length (all xs o ys us vs y) ≡ length (all xs o ys us vs x) = length-append xs (with_it xs o ys us vs y ∷ ys) ∙ sym (length-append xs (with_it xs o ys us vs x ∷ ys)) in
        let c = rooms vs ++ all_bytes ys in
        let h = all_bytes xs ++ (o.name ++ rooms us) in
        let lb = ap length (bytes_form xs o ys us vs y) ∙ length-append h (r ++ c) in
        let lb₂ = ap length (bytes_form xs o ys us vs x) ∙ length-append h (x.room ++ c) in
        complete (all xs o ys us vs y) (put_as p t w r d) ed put_lies (ok_all xs o ys us vs 0 x y i k g)
        (record { objects = omega (arith, ln, f.objects); values = omega (arith, lw, f.values); bytes = omega (arith, lb, lb₂, length-append r c, length-append x.room c, f.bytes) })

-- ---- element k of row i among all values
vals_split : (d : Dict) (n p k : ℕ) → k < n → vals_from d n p ≡ vals_from d k p ++ (val_at d (p + k) ∷ vals_from d (n - suc k) (p + suc k))
unfolding vals_from
vals_split d zero p k h = absurd (omega arith)
vals_split d (suc n) p zero h = let e : p + 1 ≡ suc p = omega arith in let f : suc n - 1 ≡ n = omega arith in rw (add-zero, e, f)
vals_split d (suc n) p (suc k) h =
    let e : p + suc k ≡ suc p + k = omega arith in
    let f : p + suc (suc k) ≡ suc p + suc k = omega arith in
    let g : suc n - suc (suc k) ≡ n - suc k = omega arith in
    rw (e, f, g) (ap (λ l. val_at d p ∷ l) (vals_split d n (suc p) k (omega arith)))

objs_split : (d : Dict) (n j i : ℕ) → i < n → objs_from d n j ≡ objs_from d i j ++ (obj_at d (j + i) ∷ objs_from d (n - suc i) (j + suc i))
unfolding objs_from
objs_split d zero j i h = absurd (omega arith)
objs_split d (suc n) j zero h = let e : j + 1 ≡ suc j = omega arith in let f : suc n - 1 ≡ n = omega arith in rw (add-zero, e, f)
objs_split d (suc n) j (suc i) h =
    let e : j + suc i ≡ suc j + i = omega arith in
    let f : j + suc (suc i) ≡ suc j + suc i = omega arith in
    let g : suc n - suc (suc i) ≡ n - suc i = omega arith in
    rw (e, f, g) (ap (λ l. obj_at d j ∷ l) (objs_split d n (suc j) i (omega arith)))

-- ---- the theorem: a word that keeps the rules of a type, with a room of its size, may be put at any element
pub put_kept : (d : Dict) (i k t w : ℕ) (r : List ℕ) → well_formed d ≡ true → i < number_of d.objects → k < count_at d.objects i
    → length r ≡ room_at d.slots (first_at d.objects i + k) → val_ok t w (length r) r ≡ true
    → well_formed (put_as (first_at d.objects i + k) t w r d) ≡ true
put_kept d i k t w r e hi hk lr v =
    let s = sound d e in
    let c = count_at d.objects i in
    let f = default_at d.objects i in
    let q = first_at d.objects i in
    let n = number_of d.objects in
    let xs = objs_from d i 0 in
    let o = obj_at d i in
    let ys = objs_from d (n - suc i) (suc i) in
    let us = vals_from d k q in
    let x = val_at d (q + k) in
    let vs = vals_from d (c + f - suc k) (q + suc k) in
    let m : model_of d ≡ xs ++ (o ∷ ys) = rw (zero-add, zero-add) at (objs_split d n 0 i hi) in
    let ov : o.values ≡ us ++ (x ∷ vs) = vals_split d (c + f) q k (omega arith) in
    let a : model_of d ≡ all xs o ys us vs x =
    m ∙ ap (λ ws. xs ++ (record { index = o.index; kind = o.kind; access = o.access; default = o.default; extra = o.extra; name = o.name; values = ws } ∷ ys)) ov in
    let l : Lies (all xs o ys us vs x) d = subst (λ (os : List Obj). Lies os d) a s.lies in
    let g : objs_ok 0 (all xs o ys us vs x) ≡ true = subst (λ (os : List Obj). objs_ok 0 os ≡ true) a s.good in
    let few : Few (all xs o ys us vs x) = subst (λ (os : List Obj). Few os) a s.few in
    let lu : length us ≡ k = length_vals d k q in
    let la : length (us ++ (x ∷ vs)) ≡ c + f = sym (ap length ov) ∙ length_vals d (c + f) q in
    let lx : length xs ≡ i = length_objs d i 0 in
    let fa : q ≡ length (all_words xs) = rw lx at (first_at_lem (edition_of d.objects) xs (o ∷ ys) d.objects (subst (λ (os : List Obj). over d.objects 0 (all_objects (edition_of d.objects) os) ≡ d.objects) m s.lies.objects) (omega arith)) in
    let pl : q + k ≡ length (all_words xs) + length us = omega arith in
    let z = room_is d xs o ys us vs x l (q + k) pl in
    put_again d xs o ys us vs x l (q + k) pl t w r (lr ∙ z) s.edition (omega arith) g few v
