-- What is left once the k objects at place i are gone: the totals, and the lengths of the slices.
-- Assumes nothing.
use mathlib.Core.Path.{◌≡◌, sym, ap, ◌∙◌}
use mathlib.Core.Bool.{true, ◌&&◌}
use mathlib.Core.List.{List, ◌++◌}
use Prim.Native.Nat.{ℕ, ◌+◌, ◌-◌, ◌≤◌}
use native.Mathlib.Omega.{arith}
use lib.Dec.{leb, ltb}
use lib.ListN.{length, take, drop, length-append, length-drop, take-append-drop}
use lib.Seq.{length-take-le, take-add}
use Rattle.lists.proofs.ListLaws.{length_over}
use Rattle.entry.specs.Model.{Obj, rows_of, header, all_slots, all_words, all_bytes}
use Rattle.entry.specs.Table.{Dict, edition_of, model_of, number_of, values_of, used_of, values_before, bytes_before, row_end, slot_place}
use Rattle.entry.specs.Judge.{well_formed}
use Rattle.entry.proofs.JudgeLaws.{sound, headed, length_objs}
use Rattle.entry.proofs.ModelLaws.{length_rows, length_slots, words_append, bytes_append, Totals, totals}
use Rattle.placing.proofs.PlaceLaws.{Place, place}
use Rattle.insertion.specs.Insert.{fits_in}
use Rattle.insertion.specs.Replace.{remove_at, without}
use Rattle.insertion.proofs.KeepLaws.{laid_lies}

module _ (d : Dict) (w : well_formed d ≡ true) where
  abbrev os : List Obj
  os = model_of d

  counted : length os ≡ number_of d.objects
  counted = length_objs d (number_of d.objects) 0

  all : Totals os d.objects
  all = totals (edition_of d.objects) os d.objects (sound d w).lies.objects

  words_two : (j : ℕ) → length (all_words os) ≡ length (all_words (take j os)) + length (all_words (drop j os))
  words_two j = ap (λ l. length (all_words l)) (sym (take-append-drop j os)) ∙ ap length (words_append (take j os) (drop j os)) ∙ length-append (all_words (take j os)) (all_words (drop j os))

  bytes_two : (j : ℕ) → length (all_bytes os) ≡ length (all_bytes (take j os)) + length (all_bytes (drop j os))
  bytes_two j = ap (λ l. length (all_bytes l)) (sym (take-append-drop j os)) ∙ ap length (bytes_append (take j os) (drop j os)) ∙ length-append (all_bytes (take j os)) (all_bytes (drop j os))

  at : (j : ℕ) → j ≤ number_of d.objects → Place (take j os) (drop j os) d.objects j
  at j h = place (edition_of d.objects) (take j os) (drop j os) d.objects j (sym (length-take-le j os (omega (arith, counted, h)))) (rw (take-append-drop j os) (sound d w).lies.objects)

  -- no more lies before a place than there is
  pub values_within : (j : ℕ) → j ≤ number_of d.objects → values_before d.objects j ≤ values_of d.objects
  values_within j h = omega (arith, (at j h).values, words_two j, all.values)

  pub bytes_within : (j : ℕ) → j ≤ number_of d.objects → bytes_before d.objects j ≤ used_of d.objects
  bytes_within j h = omega (arith, (at j h).bytes, bytes_two j, all.bytes)

  module _ (i k : ℕ) (h : i + k ≤ number_of d.objects) where
    abbrev left : List Obj
    left = remove_at i k os

    total : Totals left (without i k d).objects
    total = totals (edition_of (without i k d).objects) left (without i k d).objects (laid_lies left d).objects

    fewer : length left ≡ number_of d.objects - k
    fewer = length-append (take i os) (drop (i + k) os) ∙ omega (arith, length-take-le i os (omega (arith, counted, h)), length-drop (i + k) os, counted, h)

    words_left : length (all_words left) ≡ length (all_words (take i os)) + length (all_words (drop (i + k) os))
    words_left = ap length (words_append (take i os) (drop (i + k) os)) ∙ length-append (all_words (take i os)) (all_words (drop (i + k) os))

    bytes_left : length (all_bytes left) ≡ length (all_bytes (take i os)) + length (all_bytes (drop (i + k) os))
    bytes_left = ap length (bytes_append (take i os) (drop (i + k) os)) ∙ length-append (all_bytes (take i os)) (all_bytes (drop (i + k) os))

    pub number-gone : number_of (without i k d).objects ≡ number_of d.objects - k
    number-gone = total.number ∙ fewer

    pub values_gone : values_of (without i k d).objects ≡ values_of d.objects - values_before d.objects (i + k) + values_before d.objects i
    values_gone = total.values ∙ words_left ∙ omega (arith, (at i (omega arith)).values, (at (i + k) h).values, words_two (i + k), all.values)

    pub bytes_gone : used_of (without i k d).objects ≡ used_of d.objects - bytes_before d.objects (i + k) + bytes_before d.objects i
    bytes_gone = total.bytes ∙ bytes_left ∙ omega (arith, (at i (omega arith)).bytes, (at (i + k) h).bytes, bytes_two (i + k), all.bytes)

    -- and no slice is shorter
    words_before : length (all_words (take i os)) ≤ length (all_words (take (i + k) os))
    words_before = rw (take-add i k os, words_append (take i os) (take k (drop i os)), length-append (all_words (take i os)) (all_words (take k (drop i os)))) (omega arith)

    bytes_before_lem : length (all_bytes (take i os)) ≤ length (all_bytes (take (i + k) os))
    bytes_before_lem = rw (take-add i k os, bytes_append (take i os) (take k (drop i os)), length-append (all_bytes (take i os)) (all_bytes (take k (drop i os)))) (omega arith)

    words_fewer : length (all_words left) ≤ values_of d.objects
    words_fewer = omega (arith, words_left, words_before, words_two (i + k), all.values)

    bytes_fewer : length (all_bytes left) ≤ used_of d.objects
    bytes_fewer = omega (arith, bytes_left, bytes_before_lem, bytes_two (i + k), all.bytes)

    pub objects_long : length (without i k d).objects ≡ length d.objects
    objects_long =
        let hd = header (edition_of d.objects) left in
        length_over d.objects 0 (hd ++ rows_of 0 0 left) (rw (length-append hd (rows_of 0 0 left)) (omega (arith, length_rows 0 0 left, fewer, (headed d w).rows)))

    pub slots_long : length (without i k d).slots ≡ length d.slots
    slots_long = length_over d.slots 0 (all_slots 0 left) (omega (arith, length_slots 0 left, words_fewer, (headed d w).slots))

    pub words_long : length (without i k d).words ≡ length d.words
    words_long = length_over d.words 0 (all_words left) (omega (arith, words_fewer, (headed d w).words))

    pub bytes_long : length (without i k d).bytes ≡ length d.bytes
    bytes_long = length_over d.bytes 0 (all_bytes left) (omega (arith, bytes_fewer, (headed d w).bytes))

    -- whether there is room then, by the numbers that are left
    pub fits-left : (u g n m b : ℕ) → n ≡ number_of d.objects - k → m ≡ values_of d.objects - values_before d.objects (i + k) + values_before d.objects i + u → b ≡ used_of d.objects - bytes_before d.objects (i + k) + bytes_before d.objects i + g
        → fits_in (without i k d) u g ≡ (ltb n 1024 && (leb (row_end n) (length d.objects) && (leb m 6144 && (leb (slot_place m) (length d.slots) && (leb m (length d.words) && (leb b 32768 && leb b (length d.bytes)))))))
    unfolding fits_in
    fits-left u g n m b p q r = rw (number-gone, values_gone, bytes_gone, objects_long, slots_long, words_long, bytes_long, p, q, r)
