-- The act of insertion, over a memory in canonical layout: what its steps need, and what they leave.
-- Assumes nothing.
use mathlib.Core.Path.{◌≡◌, refl, sym, ap, ◌∙◌}
use mathlib.Core.List.{List, ◌++◌}
use Prim.Native.Nat.{ℕ, ◌+◌, ◌-◌, ◌*◌, ◌<◌, ◌≤◌}
use native.Mathlib.Nat.{zero-add}
use native.Mathlib.Omega.{arith}
use lib.ListN.{length, take, drop, get_or, set, length-append, take-append-drop}
use lib.Seq.{length-take-le}
use Rattle.lists.specs.Lists.{over, grown, spliced}
use Rattle.entry.specs.Model.{Obj, used, size, row, words_of, rooms, all_objects, all_slots, all_words, all_bytes, insert_at}
use Rattle.given.specs.Given.{given, slots_in, rooms_in, count_in, obj_in}
use Rattle.entry.specs.Table.{Dict, dict, Lies, edition_of, number_of, values_of, used_of, before}
use Rattle.placing.specs.Place.{row_in}
use Rattle.given.specs.declared.Head.{Head}
use Rattle.given.proofs.GivenLaws.{given_slots, given-length, size_is}
use Rattle.entry.proofs.ModelLaws.{length_slots, words_append, bytes_append, slots_append, start_within, Totals, totals}
use Rattle.placing.proofs.InsertLaws.{same_parts, words_inserted, slots_inserted, bytes_inserted, objects_inserted}
use Rattle.placing.proofs.PlaceLaws.{Place, place}

-- what was read off the header, and how many values and bytes lie before place i
pub record Read (d : Dict) (i n m w x y : ℕ) : Type 0 where
  pub number : n ≡ number_of d.objects
  pub values : m ≡ values_of d.objects
  pub bytes : w ≡ used_of d.objects
  pub first : x ≡ before d.objects i 16 1
  pub start : y ≡ before d.objects i 17 2

module _ (os : List Obj) (d : Dict) (l : Lies os d) (i : ℕ) (h : i ≤ number_of d.objects) where
  abbrev ed : ℕ
  ed = edition_of d.objects

  joined : take i os ++ drop i os ≡ os
  joined = take-append-drop i os

  total : Totals os d.objects
  total = totals ed os d.objects l.objects

  at : i ≡ length (take i os)
  at = sym (length-take-le i os (omega (arith, total.number)))

  split : (f : List Obj → List ℕ) (s : List ℕ) → over s 0 (f os) ≡ s → over s 0 (f (take i os ++ drop i os)) ≡ s
  split f s e = rw joined e

  there : Place (take i os) (drop i os) d.objects i
  there = place ed (take i os) (drop i os) d.objects i at (split (all_objects ed) d.objects l.objects)

  words_two : length (all_words os) ≡ length (all_words (take i os)) + length (all_words (drop i os))
  words_two = ap (λ k. length (all_words k)) (sym joined) ∙ ap length (words_append (take i os) (drop i os)) ∙ length-append (all_words (take i os)) (all_words (drop i os))

  bytes_two : length (all_bytes os) ≡ length (all_bytes (take i os)) + length (all_bytes (drop i os))
  bytes_two = ap (λ k. length (all_bytes k)) (sym joined) ∙ ap length (bytes_append (take i os) (drop i os)) ∙ length-append (all_bytes (take i os)) (all_bytes (drop i os))

  abbrev v : ℕ
  v = before d.objects i 16 1

  abbrev b : ℕ
  b = before d.objects i 17 2

  pub values_before_lem : v ≤ values_of d.objects
  values_before_lem = omega (arith, there.values, words_two, total.values)

  pub bytes_before_lem : b ≤ used_of d.objects
  bytes_before_lem = omega (arith, there.bytes, bytes_two, total.bytes)

  pub first_small : (j : ℕ) → j < number_of d.objects - i → get_or d.objects (12 * i + 16 + 12 * j) 0 ≤ values_of d.objects
  first_small j k = omega (arith, there.first 0 j k, ap (λ k. length (all_words k)) joined, total.values)

  pub name_small : (u j : ℕ) → j < number_of d.objects - i → get_or (grown 12 u (number_of d.objects - i) (12 * i + 16) d.objects) (12 * i + 17 + 12 * j) 0 ≤ used_of d.objects
  name_small u j k = omega (arith, there.name u j k, ap (λ k. length (all_bytes k)) joined, total.bytes)

  pub start_small : (j : ℕ) → j < values_of d.objects - v → get_or d.slots (3 * v + 1 + 3 * j) 0 ≤ used_of d.objects
  start_small j k =
      let xs = take i os in
      let ys = drop i os in
      let f : all_slots 0 os ≡ all_slots 0 xs ++ all_slots (length (all_bytes xs)) ys = ap (all_slots 0) (sym joined) ∙ rw zero-add at (slots_append 0 xs ys) in
      let s = same_parts d.slots (all_slots 0 xs) (all_slots (length (all_bytes xs)) ys) (rw f at l.slots) in
      let p : 3 * v + 1 + 3 * j ≡ length (all_slots 0 xs) + 1 + 3 * j = omega (arith, there.values, length_slots 0 xs) in
      let w = start_within (all_slots 0 xs) (drop (length (all_slots 0 xs ++ all_slots (length (all_bytes xs)) ys)) d.slots) (length (all_bytes xs)) ys j (3 * v + 1 + 3 * j) p (omega (arith, there.values, words_two, total.values)) in
      rw (ap (λ t. get_or t (3 * v + 1 + 3 * j) 0) s) (omega (arith, w, bytes_two, total.bytes))

  -- ---- what is left is the layout with the new object
  module _ (hd : Head) (name vals encodings : List ℕ) where
    abbrev o : Obj
    o = obj_in hd name vals encodings

    words_left : spliced v (values_of d.objects) (words_of (given vals encodings (count_in vals) 0 0)) d.words ≡ over d.words 0 (all_words (insert_at i o os))
    words_left =
        words_inserted (take i os) (drop i os) o d.words v (values_of d.objects) (split all_words d.words l.words) there.values (total.values ∙ ap (λ k. length (all_words k)) (sym joined))

    bytes_left : spliced b (used_of d.objects) (name ++ rooms (given vals encodings (count_in vals) 0 0)) d.bytes ≡ over d.bytes 0 (all_bytes (insert_at i o os))
    bytes_left =
        bytes_inserted (take i os) (drop i os) o d.bytes b (used_of d.objects) (split all_bytes d.bytes l.bytes) there.bytes (total.bytes ∙ ap (λ k. length (all_bytes k)) (sym joined))

    module _ (g : ℕ) (e : g ≡ length name + rooms_in vals (count_in vals) 0) where
      sized : g ≡ size o
      sized = e ∙ sym (size_is hd name vals encodings)

      slots_left : spliced (3 * v) (3 * values_of d.objects) (slots_in vals (count_in vals) 0 (b + length name)) (grown 3 g (values_of d.objects - v) (3 * v + 1) d.slots) ≡ over d.slots 0 (all_slots 0 (insert_at i o os))
      slots_left =
          rw (sized, ← given_slots vals encodings (count_in vals) 0 0 (b + length name))
          (slots_inserted (take i os) (drop i os) o d.slots v (values_of d.objects) b (split (all_slots 0) d.slots l.slots) there.values (total.values ∙ ap (λ k. length (all_words k)) (sym joined)) there.bytes)

      objects_left : let n = number_of d.objects in
          set (set (set (spliced (12 * i + 12) (12 * n + 12) (row_in hd v b (length name) (count_in vals)) (grown 12 g (n - i) (12 * i + 17) (grown 12 (count_in vals) (n - i) (12 * i + 16) d.objects))) 0 (n + 1)) 1 (values_of d.objects + count_in vals)) 2 (used_of d.objects + g)
          ≡ over d.objects 0 (all_objects ed (insert_at i o os))
      objects_left =
          rw sized
          (rw (given-length vals encodings (count_in vals) 0 0) at
          (objects_inserted (take i os) (drop i os) o ed d.objects (spliced (12 * i + 12) (12 * number_of d.objects + 12) (row v b o) (grown 12 (size o) (number_of d.objects - i) (12 * i + 17) (grown 12 (used o) (number_of d.objects - i) (12 * i + 16) d.objects))) i (number_of d.objects) (values_of d.objects) (used_of d.objects) v b (split (all_objects ed) d.objects l.objects) at
          (total.number ∙ ap length (sym joined)) (total.values ∙ ap (λ k. length (all_words k)) (sym joined)) (total.bytes ∙ ap (λ k. length (all_bytes k)) (sym joined)) there.values there.bytes refl))

      module _ (n m w x y : ℕ) (f : Read d i n m w x y) where
        pub words_read : spliced x m (words_of (given vals encodings (count_in vals) 0 0)) d.words ≡ over d.words 0 (all_words (insert_at i o os))
        words_read = rw (f.values, f.first) words_left

        pub slots_read : spliced (3 * x) (3 * m) (slots_in vals (count_in vals) 0 (y + length name)) (grown 3 g (m - x) (3 * x + 1) d.slots) ≡ over d.slots 0 (all_slots 0 (insert_at i o os))
        slots_read = rw (f.values, f.first, f.start) slots_left

        pub bytes_read : spliced y w (name ++ rooms (given vals encodings (count_in vals) 0 0)) d.bytes ≡ over d.bytes 0 (all_bytes (insert_at i o os))
        bytes_read = rw (f.bytes, f.start) bytes_left

        pub objects_read : set (set (set (spliced (12 * i + 12) (12 * n + 12) (row_in hd x y (length name) (count_in vals)) (grown 12 g (n - i) (12 * i + 17) (grown 12 (count_in vals) (n - i) (12 * i + 16) d.objects))) 0 (n + 1)) 1 (values_of d.objects + count_in vals)) 2 (used_of d.objects + g)
            ≡ over d.objects 0 (all_objects ed (insert_at i o os))
        objects_read = rw (f.number, f.first, f.start) objects_left

pub dict_is : {a b c e a' b' c' e' : List ℕ} → a ≡ a' → b ≡ b' → c ≡ c' → e ≡ e' → dict a b c e ≡ dict a' b' c' e'
dict_is p q r s = rw (p, q, r, s)
