-- What a put changes: its value, and nothing else. Two puts at different values commute.
-- Assumes nothing.
use mathlib.Core.Path.{◌≡◌, refl, sym, ap, ◌∙◌}
use mathlib.Core.Bool.{Bool, true, false}
use mathlib.Core.Logic.{inl, inr, ⊎_elim, ◌≢◌}
use mathlib.Core.List.{List, ◌∷◌, ◌++◌}
use Prim.Native.Nat.{ℕ, zero, suc, ◌+◌, ◌-◌, ◌<◌, ◌≤◌}
use native.Mathlib.Nat.{add-zero, zero-add}
use native.Mathlib.Omega.{arith}
use native.Mathlib.Decide.{dec_lt}
use lib.ListN.{length, take, drop, get_or, set, length-set, length-drop}
use lib.Seq.{get_or-set_same, get_or-set_other, set_comm, length-take-le, take-add, take-append-add, drop_at, drop-drop}
use Rattle.lists.specs.Lists.{over}
use Rattle.lists.specs.Numbers.{number}
use Rattle.lists.proofs.ListLaws.{length_over, over_read, over-before, over-behind, over_comm}
use Rattle.value.specs.Codec.{is_text, size_of}
use Rattle.entry.specs.Table.{Dict, model_of, val_at, vals_from, obj_at, objs_from, number_of, values_of, used_of, first_at, name_at, name_len_at, type_at, start_at, room_at}
use Rattle.entry.specs.Judge.{used_at, well_formed}
use Rattle.entry.specs.Put.{Contents, contents, put_in, filled, put_at}
use Rattle.entry.proofs.PutLaws.{put_text, put_fixed}
use Rattle.entry.proofs.FactLaws.{row_facts}
use Rattle.entry.proofs.ApartLaws.{Apart, apart, name_apart, firsts_rise}
use Rattle.entry.proofs.ValueLaws.{Element, every_value}
use Rattle.entry.proofs.KeepLaws.{Fits, takes_text, takes_fixed}

-- ---- a part of the bytes that lies apart from what is laid
pub part_stays : (xs : List ℕ) (a : ℕ) (ys : List ℕ) (b n : ℕ) → Apart b n a (length ys) → a ≤ length xs → take n (drop b (over xs a ys)) ≡ take n (drop b xs)
part_stays xs a ys b n (inl h) k = over-before xs a ys b n h k
part_stays xs a ys b n (inr h) k = ap (take n) (over-behind xs a ys b h k)

laid : (xs : List ℕ) (a : ℕ) (ys : List ℕ) → a ≤ length xs → drop a (over xs a ys) ≡ ys ++ drop (a + length ys) xs
unfolding over
laid xs a ys h = drop_at (take a xs) (ys ++ drop (a + length ys) xs) a (length-take-le a xs h)

-- ---- one put
module _ (d : Dict) (e : well_formed d ≡ true) (p : ℕ) (s : List ℕ) (w : ℕ) (h : p < values_of d.objects) (g : Fits d p s w) where
  text_is_lem : is_text (type_at d.slots p) ≡ true → put_at d p s ≡ filled d (contents (set d.words p w) (over d.bytes (start_at d.slots p) s))
  text_is_lem t =
      ap (filled d) (put_text d.slots (contents d.words d.bytes) p s t) ∙ rw (takes_text (type_at d.slots p) s w t g.taken).0

  fixed_is : is_text (type_at d.slots p) ≡ false → put_at d p s ≡ filled d (contents (set d.words p w) d.bytes)
  fixed_is t =
      ap (filled d) (put_fixed d.slots (contents d.words d.bytes) p s t) ∙ rw (takes_fixed (type_at d.slots p) s w t g.taken).1

  -- the words: that of value p
  pub put_words : (put_at d p s).words ≡ set d.words p w
  put_words = go (is_text (type_at d.slots p)) refl
    where
      go : (x : Bool) → is_text (type_at d.slots p) ≡ x → (put_at d p s).words ≡ set d.words p w
      go true q = ap (λ c. c.words) (text_is_lem q)
      go false q = ap (λ c. c.words) (fixed_is q)

  pub put_text_bytes : is_text (type_at d.slots p) ≡ true → (put_at d p s).bytes ≡ over d.bytes (start_at d.slots p) s
  put_text_bytes q = ap (λ c. c.bytes) (text_is_lem q)

  pub put_fixed_bytes : is_text (type_at d.slots p) ≡ false → (put_at d p s).bytes ≡ d.bytes
  put_fixed_bytes q = ap (λ c. c.bytes) (fixed_is q)

  inside : is_text (type_at d.slots p) ≡ true → start_at d.slots p + length s ≤ length d.bytes
  inside q = let f = every_value d e p h in omega (arith, g.room q, f.within, f.bytes)

  -- value p reads as s
  pub put_word_lem : get_or (put_at d p s).words p 0 ≡ w
  put_word_lem = ap (λ l. get_or l p 0) put_words ∙ get_or-set_same d.words p w 0 (every_value d e p h).word

  pub put_reads : is_text (type_at d.slots p) ≡ true → take (length s) (drop (start_at d.slots p) (put_at d p s).bytes) ≡ s
  put_reads q =
      ap (λ l. take (length s) (drop (start_at d.slots p) l)) (put_text_bytes q) ∙ over_read d.bytes (start_at d.slots p) s (omega (arith, inside q))

  -- all behind it in its room stays, and all behind the room
  pub put_behind : is_text (type_at d.slots p) ≡ true → drop (start_at d.slots p + length s) (put_at d p s).bytes ≡ drop (start_at d.slots p + length s) d.bytes
  put_behind q =
      ap (drop (start_at d.slots p + length s)) (put_text_bytes q) ∙ over-behind d.bytes (start_at d.slots p) s (start_at d.slots p + length s) (omega arith) (omega (arith, inside q))

  pub put_unused : drop (used_of d.objects) (put_at d p s).bytes ≡ drop (used_of d.objects) d.bytes
  put_unused = go (is_text (type_at d.slots p)) refl
    where
      go : (x : Bool) → is_text (type_at d.slots p) ≡ x → drop (used_of d.objects) (put_at d p s).bytes ≡ drop (used_of d.objects) d.bytes
      go true q =
          ap (drop (used_of d.objects)) (put_text_bytes q) ∙ over-behind d.bytes (start_at d.slots p) s (used_of d.objects) (omega (arith, g.room q, (every_value d e p h).within)) (omega (arith, inside q))
      go false q = ap (drop (used_of d.objects)) (put_fixed_bytes q)

  -- the lengths
  pub put_length_words : length (put_at d p s).words ≡ length d.words
  put_length_words = ap length put_words ∙ length-set d.words p w

  pub put_length_bytes : length (put_at d p s).bytes ≡ length d.bytes
  put_length_bytes = go (is_text (type_at d.slots p)) refl
    where
      go : (x : Bool) → is_text (type_at d.slots p) ≡ x → length (put_at d p s).bytes ≡ length d.bytes
      go true q = ap length (put_text_bytes q) ∙ length_over d.bytes (start_at d.slots p) s (inside q)
      go false q = ap length (put_fixed_bytes q)

  -- a part of the bytes that lies apart from the room stays
  pub put_apart : (a n : ℕ) → Apart a n (start_at d.slots p) (room_at d.slots p) → take n (drop a (put_at d p s).bytes) ≡ take n (drop a d.bytes)
  put_apart a n m = go (is_text (type_at d.slots p)) refl
    where
      go : (x : Bool) → is_text (type_at d.slots p) ≡ x → take n (drop a (put_at d p s).bytes) ≡ take n (drop a d.bytes)
      go true q =
          let l = g.room q in
          ap (λ b. take n (drop a b)) (put_text_bytes q)
          ∙ part_stays d.bytes (start_at d.slots p) s a n (⊎_elim (λ y. inl y) (λ y. inr (omega arith)) m) (omega (arith, inside q))
      go false q = ap (λ b. take n (drop a b)) (put_fixed_bytes q)

  rooms_apart : (q : ℕ) → q ≢ p → q < values_of d.objects → Apart (start_at d.slots q) (room_at d.slots q) (start_at d.slots p) (room_at d.slots p)
  rooms_apart q n l = go (dec_lt q p)
    where
      go : Dec (q < p) → Apart (start_at d.slots q) (room_at d.slots q) (start_at d.slots p) (room_at d.slots p)
      go (yes m) = inl (apart d e q p m h)
      go (no m) = inr (apart d e p q (omega arith) l)

  -- every other value stays, its room too; so does every name
  pub put_other : (q : ℕ) → q ≢ p → q < values_of d.objects → val_at (put_at d p s) q ≡ val_at d q
  put_other q n l =
      let a : get_or (put_at d p s).words q 0 ≡ get_or d.words q 0 = ap (λ b. get_or b q 0) put_words ∙ get_or-set_other d.words p q w 0 n in
      let b = put_apart (start_at d.slots q) (room_at d.slots q) (rooms_apart q n l) in
      rw (a, b)

  pub put_name : (i : ℕ) → i < number_of d.objects → take (name_len_at d.objects i) (drop (name_at d.objects i) (put_at d p s).bytes) ≡ take (name_len_at d.objects i) (drop (name_at d.objects i) d.bytes)
  put_name i l = put_apart (name_at d.objects i) (name_len_at d.objects i) (name_apart d e i p l h)

  -- ---- the new value: the word w; s at the room's start, and what stood behind it
  pub put_room : is_text (type_at d.slots p) ≡ true → (val_at (put_at d p s) p).room ≡ s ++ drop (length s) (val_at d p).room
  put_room q =
      let a = start_at d.slots p in
      let n = room_at d.slots p in
      let f = every_value d e p h in
      let r : n ≡ length s + (n - length s) = omega (arith, g.room q) in
      let l : length (take (length s) (drop a d.bytes)) ≡ length s = length-take-le (length s) (drop a d.bytes) (simp length-drop (omega (arith, inside q))) in
      let m : drop a (over d.bytes a s) ≡ s ++ drop (a + length s) d.bytes = laid d.bytes a s (omega (arith, inside q)) in
      let x : drop (length s) (take n (drop a d.bytes)) ≡ take (n - length s) (drop (a + length s) d.bytes) =
      ap (λ k. drop (length s) (take k (drop a d.bytes))) r
      ∙ ap (drop (length s)) (take-add (length s) (n - length s) (drop a d.bytes))
      ∙ drop_at (take (length s) (drop a d.bytes)) (take (n - length s) (drop (length s) (drop a d.bytes))) (length s) l
      ∙ ap (take (n - length s)) (drop-drop (length s) a d.bytes) in
      ap (λ b. take n (drop a b)) (put_text_bytes q)
      ∙ ap (take n) m
      ∙ ap (λ k. take k (s ++ drop (a + length s) d.bytes)) r
      ∙ take-append-add s (drop (a + length s) d.bytes) (n - length s)
      ∙ ap (λ k. s ++ k) (sym x)

  pub put_fixed_room : is_text (type_at d.slots p) ≡ false → (val_at (put_at d p s) p).room ≡ (val_at d p).room
  put_fixed_room q = ap (λ b. take (room_at d.slots p) (drop (start_at d.slots p) b)) (put_fixed_bytes q)

-- ---- values and objects, all but one of which stay
vals_same : (d d' : Dict) (n p : ℕ) → ((j : ℕ) → j < n → val_at d' (p + j) ≡ val_at d (p + j)) → vals_from d' n p ≡ vals_from d n p
unfolding vals_from
vals_same d d' zero p h = refl
vals_same d d' (suc n) p h =
    let z = rw add-zero at (h 0 (omega arith)) in
    let t = vals_same d d' n (suc p) (λ j l. let f : p + suc j ≡ suc p + j = omega arith in rw f at (h (suc j) (omega arith))) in
    rw (z, t)

vals_set : (d d' : Dict) (n p k : ℕ) → k < n → ((j : ℕ) → j < n → j ≢ k → val_at d' (p + j) ≡ val_at d (p + j)) → vals_from d' n p ≡ set (vals_from d n p) k (val_at d' (p + k))
unfolding vals_from
vals_set d d' zero p k l h = absurd (omega arith)
vals_set d d' (suc n) p zero l h =
    let t = vals_same d d' n (suc p) (λ j m. let f : p + suc j ≡ suc p + j = omega arith in rw f at (h (suc j) (omega arith) (λ z. omega arith))) in
    rw (add-zero, t)
vals_set d d' (suc n) p (suc k) l h =
    let z = rw add-zero at (h 0 (omega arith) (λ x. omega arith)) in
    let g : p + suc k ≡ suc p + k = omega arith in
    let t = vals_set d d' n (suc p) k (omega arith) (λ j m x. let f : p + suc j ≡ suc p + j = omega arith in rw f at (h (suc j) (omega arith) (λ y. x (omega arith)))) in
    rw (z, g, t)

objs_same : (d d' : Dict) (n i : ℕ) → ((j : ℕ) → j < n → obj_at d' (i + j) ≡ obj_at d (i + j)) → objs_from d' n i ≡ objs_from d n i
unfolding objs_from
objs_same d d' zero i h = refl
objs_same d d' (suc n) i h =
    let z : obj_at d' i ≡ obj_at d i = rw add-zero at (h 0 (omega arith)) in
    let t = objs_same d d' n (suc i) (λ j l. let f : i + suc j ≡ suc i + j = omega arith in rw f at (h (suc j) (omega arith))) in
    ap (λ o. o ∷ objs_from d' n (suc i)) z ∙ ap (λ l. obj_at d i ∷ l) t

objs_set : (d d' : Dict) (n i k : ℕ) → k < n → ((j : ℕ) → j < n → j ≢ k → obj_at d' (i + j) ≡ obj_at d (i + j)) → objs_from d' n i ≡ set (objs_from d n i) k (obj_at d' (i + k))
unfolding objs_from
objs_set d d' zero i k l h = absurd (omega arith)
objs_set d d' (suc n) i zero l h =
    let t = objs_same d d' n (suc i) (λ j m. let f : i + suc j ≡ suc i + j = omega arith in rw f at (h (suc j) (omega arith) (λ z. omega arith))) in
    rw add-zero (ap (λ l. obj_at d' i ∷ l) t)
objs_set d d' (suc n) i (suc k) l h =
    let z : obj_at d' i ≡ obj_at d i = rw add-zero at (h 0 (omega arith) (λ x. omega arith)) in
    let g : i + suc k ≡ suc i + k = omega arith in
    let t = objs_set d d' n (suc i) k (omega arith) (λ j m x. let f : i + suc j ≡ suc i + j = omega arith in rw f at (h (suc j) (omega arith) (λ y. x (omega arith)))) in
    rw g (ap (λ o. o ∷ objs_from d' n (suc i)) z ∙ ap (λ l. obj_at d i ∷ l) t)

-- ---- the model: value k of object i is another, and that is all
module _ (d : Dict) (e : well_formed d ≡ true) (i k : ℕ) (hi : i < number_of d.objects) (hk : k < used_at d.objects i) (s : List ℕ) (w : ℕ) (g : Fits d (first_at d.objects i + k) s w) where
  abbrev d' : Dict
  d' = put_at d (first_at d.objects i + k) s

  inner : (j m : ℕ) → j < number_of d.objects → m < used_at d.objects j → first_at d.objects j + m < values_of d.objects
  inner j m l h = omega (arith, (row_facts d e j l).values)

  stays : (j m : ℕ) → j < number_of d.objects → m < used_at d.objects j → first_at d.objects j + m ≢ first_at d.objects i + k → val_at d' (first_at d.objects j + m) ≡ val_at d (first_at d.objects j + m)
  stays j m l h n =
      put_other d e (first_at d.objects i + k) s w (inner i k hi hk) g (first_at d.objects j + m) n (inner j m l h)

  elsewhere : (j m : ℕ) → j < number_of d.objects → m < used_at d.objects j → j ≢ i → first_at d.objects j + m ≢ first_at d.objects i + k
  elsewhere j m l h n q = go (dec_lt j i)
    where
      go : Dec (j < i) → ⊥
      go (yes x) = omega (arith, firsts_rise d e j i x hi)
      go (no x) = omega (arith, firsts_rise d e i j (omega arith) l)

  pub put_object_other : (j : ℕ) → j < number_of d.objects → j ≢ i → obj_at d' j ≡ obj_at d j
  put_object_other j l n =
      rw (put_name d e (first_at d.objects i + k) s w (inner i k hi hk) g j l, vals_same d d' (used_at d.objects j) (first_at d.objects j) (λ m h. stays j m l h (elsewhere j m l h n)))

  pub put_object_name : (obj_at d' i).name ≡ (obj_at d i).name
  put_object_name = put_name d e (first_at d.objects i + k) s w (inner i k hi hk) g i hi

  pub put_object_values : (obj_at d' i).values ≡ set (obj_at d i).values k (val_at d' (first_at d.objects i + k))
  put_object_values =
      vals_set d d' (used_at d.objects i) (first_at d.objects i) k hk (λ j h n. stays i j hi h (λ q. n (omega arith)))

  pub put_model : model_of d' ≡ set (model_of d) i (obj_at d' i)
  put_model = objs_set d d' (number_of d.objects) 0 i hi (λ j h n. rw zero-add (put_object_other j h n)) ∙ rw zero-add

-- ---- a put leaves what was looked up, and what fits
pub element_stays : (d : Dict) (p : ℕ) (s : List ℕ) {x sub q : ℕ} → Element d x sub q → Element (put_at d p s) x sub q
element_stays d p s o =
    record { row = o.row; k = o.k; below = o.below; inside = o.inside; place = o.place; index = o.index; found = o.found; variable = o.variable; list = o.list }

pub fits_stays : (d : Dict) (p : ℕ) (s : List ℕ) {q : ℕ} {t : List ℕ} {u : ℕ} → Fits d q t u → Fits (put_at d p s) q t u
fits_stays d p s g = record { taken = g.taken; room = g.room }

-- ---- two puts
puts_in_commute : (slots : List ℕ) (c : Contents) (p q : ℕ) (s t : List ℕ) → p ≢ q
    → (is_text (type_at slots p) ≡ true → is_text (type_at slots q) ≡ true → over (over c.bytes (start_at slots p) s) (start_at slots q) t ≡ over (over c.bytes (start_at slots q) t) (start_at slots p) s)
    → put_in slots (put_in slots c p s) q t ≡ put_in slots (put_in slots c q t) p s
puts_in_commute slots c p q s t n h = go (is_text (type_at slots p)) (is_text (type_at slots q)) refl refl
  where
    go : (x y : Bool) → is_text (type_at slots p) ≡ x → is_text (type_at slots q) ≡ y → put_in slots (put_in slots c p s) q t ≡ put_in slots (put_in slots c q t) p s
    go true true a b =
        rw (put_text slots c p s a, put_text slots c q t b, put_text slots _ q t b, put_text slots _ p s a, set_comm c.words p q (length s) (length t) n, h a b)
    go true false a b =
        rw (put_text slots c p s a, put_fixed slots c q t b, put_fixed slots _ q t b, put_text slots _ p s a, set_comm c.words p q (length s) (number (take (size_of (type_at slots q)) t)) n)
    go false true a b =
        rw (put_fixed slots c p s a, put_text slots c q t b, put_text slots _ q t b, put_fixed slots _ p s a, set_comm c.words p q (number (take (size_of (type_at slots p)) s)) (length t) n)
    go false false a b =
        rw (put_fixed slots c p s a, put_fixed slots c q t b, put_fixed slots _ q t b, put_fixed slots _ p s a, set_comm c.words p q (number (take (size_of (type_at slots p)) s)) (number (take (size_of (type_at slots q)) t)) n)

pub puts_commute : (d : Dict) → well_formed d ≡ true → (p q : ℕ) (s t : List ℕ) → p < values_of d.objects → q < values_of d.objects → p ≢ q
    → (is_text (type_at d.slots p) ≡ true → length s ≤ room_at d.slots p) → (is_text (type_at d.slots q) ≡ true → length t ≤ room_at d.slots q)
    → put_at (put_at d p s) q t ≡ put_at (put_at d q t) p s
puts_commute d e p q s t hp hq n fs ft =
    ap (filled d) (puts_in_commute d.slots (contents d.words d.bytes) p q s t n (λ a b. go (dec_lt p q) (fs a) (ft b)))
  where
    go : Dec (p < q) → length s ≤ room_at d.slots p → length t ≤ room_at d.slots q
        → over (over d.bytes (start_at d.slots p) s) (start_at d.slots q) t ≡ over (over d.bytes (start_at d.slots q) t) (start_at d.slots p) s
    go (yes l) x y =
        let f = every_value d e q hq in
        over_comm d.bytes (start_at d.slots p) s (start_at d.slots q) t (omega (arith, apart d e p q l hq)) (omega (arith, f.within, f.bytes))
    go (no l) x y =
        let f = every_value d e p hp in
        sym (over_comm d.bytes (start_at d.slots q) t (start_at d.slots p) s (omega (arith, apart d e q p (omega arith) hp)) (omega (arith, f.within, f.bytes)))
