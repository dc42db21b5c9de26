-- What removing an object leaves in each slice is the canonical layout of the others.
-- Assumes nothing.
use mathlib.Core.Path.{◌≡◌, refl, sym, ap, ◌∙◌}
use mathlib.Core.List.{List, [], ◌∷◌, ◌++◌, append-nil, append_assoc}
use Prim.Native.Nat.{ℕ, zero, suc, ◌+◌, ◌-◌, ◌*◌, ◌<◌, ◌≤◌}
use native.Mathlib.Nat.{zero-add}
use native.Mathlib.Omega.{arith}
use lib.ListN.{length, take, drop, set, length-append}
use lib.Seq.{slice, length-take-le}
use Rattle.lists.specs.Lists.{over, fallen}
use Rattle.lists.proofs.SpliceLaws.{taken_out, laid_other, laid_parts}
use Rattle.entry.specs.Model.{Obj, words_of, slots_of, used, size, bytes_of, row, rows_of, header, all_objects, all_slots, all_words, all_bytes}
use Rattle.entry.specs.Table.{Dict, Lies, edition_of, number_of, values_of, used_of, before}
use Rattle.entry.proofs.ModelLaws.{length_rows, length_slots, length-words_of, length-slots_of, words_append, bytes_append, rows_append, slots_append, begins, totals}
use Rattle.insertion.specs.Replace.{remove_at}
use Rattle.placing.proofs.PlaceLaws.{place}
use Rattle.insertion.proofs.FallLaws.{fallen_first, fallen_name, fallen_start}

-- ---- the four slices, where o lies between xs and ys
module _ (xs ys : List Obj) (o : Obj) where
  abbrev all : List Obj
  all = xs ++ (o ∷ ys)

  words_removed : (s : List ℕ) (v e m : ℕ) → over s 0 (all_words all) ≡ s → v ≡ length (all_words xs) → e ≡ v + used o → m ≡ length (all_words all) → over s v (slice e m s) ≡ over s 0 (all_words (xs ++ ys))
  unfolding all_words
  words_removed s v e m h p q r =
      let f : all_words all ≡ all_words xs ++ (words_of o.values ++ all_words ys) = words_append xs (o ∷ ys) in
      taken_out s (all_words xs) (words_of o.values) (all_words ys) v e m (begins s _ (rw f at h)) p (omega (arith, length-words_of o.values)) (rw f at r) ∙ ap (over s 0) (sym (words_append xs ys))

  bytes_removed : (s : List ℕ) (b f n : ℕ) → over s 0 (all_bytes all) ≡ s → b ≡ length (all_bytes xs) → f ≡ b + size o → n ≡ length (all_bytes all) → over s b (slice f n s) ≡ over s 0 (all_bytes (xs ++ ys))
  unfolding all_bytes
  bytes_removed s b f n h p q r =
      let w : all_bytes all ≡ all_bytes xs ++ (bytes_of o ++ all_bytes ys) = bytes_append xs (o ∷ ys) in
      taken_out s (all_bytes xs) (bytes_of o) (all_bytes ys) b f n (begins s _ (rw w at h)) p (omega arith) (rw w at r) ∙ ap (over s 0) (sym (bytes_append xs ys))

  slots_removed : (s : List ℕ) (v e m b g : ℕ) → over s 0 (all_slots 0 all) ≡ s → v ≡ length (all_words xs) → e ≡ v + used o → m ≡ length (all_words all) → b ≡ length (all_bytes xs) → g ≡ size o
      → fallen 3 g (m - e) (3 * v + 1) (over s (3 * v) (slice (3 * e) (3 * m) s)) ≡ over s 0 (all_slots 0 (xs ++ ys))
  unfolding all_slots all_words
  slots_removed s v e m b g h p q r t k =
      let ls = all_slots 0 xs in
      let ns = slots_of (b + length o.name) o.values in
      let cs = all_slots (b + size o) ys in
      let bs = all_slots b ys in
      let f : all_slots 0 all ≡ ls ++ (ns ++ cs) = rw t (rw zero-add at (slots_append 0 xs (o ∷ ys))) in
      let la = length_slots 0 xs in
      let ln = length-slots_of (b + length o.name) o.values in
      let lc = length_slots (b + size o) ys in
      let lb = length_slots b ys in
      let lw : length (all_words all) ≡ length (all_words xs) + (used o + length (all_words ys)) =
      ap length (words_append xs (o ∷ ys)) ∙ length-append (all_words xs) (words_of o.values ++ all_words ys) ∙ ap (λ j. length (all_words xs) + j) (length-append (words_of o.values) (all_words ys) ∙ ap (λ j. j + length (all_words ys)) (length-words_of o.values)) in
      let l₃ : length (ls ++ (ns ++ cs)) ≡ length ls + (length ns + length cs) = length-append ls (ns ++ cs) ∙ ap (λ j. length ls + j) (length-append ns cs) in
      let out = taken_out s ls ns cs (3 * v) (3 * e) (3 * m) (begins s _ (rw f at h)) (omega arith) (omega arith) (omega arith) in
      rw k (ap (fallen 3 (size o) (m - e) (3 * v + 1)) (out ∙ laid_parts s ls cs)
      ∙ fallen_start ls (drop (length (ls ++ cs)) s) (size o) b ys (m - e) (3 * v + 1) (omega arith) (omega arith)
      ∙ laid_other s ls cs bs (omega arith)
      ∙ ap (over s 0) (sym (rw (← t) at (rw zero-add at (slots_append 0 xs ys)))))

  -- the rows, still under the old header
  rows_removed : (ed : ℕ) (s : List ℕ) (i n v b u g : ℕ) → over s 0 (all_objects ed all) ≡ s → i ≡ length xs → n ≡ length all → v ≡ length (all_words xs) → b ≡ length (all_bytes xs) → u ≡ used o → g ≡ size o
      → fallen 12 g (n - (i + 1)) (12 * i + 17) (fallen 12 u (n - (i + 1)) (12 * i + 16) (over s (12 * i + 12) (slice (12 * i + 24) (12 * n + 12) s))) ≡ over s 0 (header ed all ++ rows_of 0 0 (xs ++ ys))
  unfolding rows_of
  rows_removed ed s i n v b u g h p q r t k j =
      let hd = header ed all in
      let ls = hd ++ rows_of 0 0 xs in
      let cs = rows_of (v + used o) (b + size o) ys in
      let ds = rows_of v (b + size o) ys in
      let bs = rows_of v b ys in
      let f : all_objects ed all ≡ ls ++ (row v b o ++ cs) = rw (r, t) (ap (λ l. hd ++ l) (rw (zero-add (length (all_words xs)), zero-add (length (all_bytes xs))) at (rows_append 0 0 xs (o ∷ ys))) ∙ sym (append_assoc hd (rows_of 0 0 xs) (rows_of (length (all_words xs)) (length (all_bytes xs)) (o ∷ ys)))) in
      let lx = length_rows 0 0 xs in
      let lc = length_rows (v + used o) (b + size o) ys in
      let lb = length_rows v b ys in
      let ll : length ls ≡ 12 * i + 12 = rw (length-append hd (rows_of 0 0 xs)) (omega arith) in
      let ln : n ≡ length xs + suc (length ys) = q ∙ length-append xs (o ∷ ys) in
      let l₃ : length (ls ++ (row v b o ++ cs)) ≡ length ls + (12 + length cs) = length-append ls (row v b o ++ cs) ∙ ap (λ j. length ls + j) (length-append (row v b o) cs) in
      let z = drop (length (ls ++ cs)) s in
      let out = taken_out s ls (row v b o) cs (12 * i + 12) (12 * i + 24) (12 * n + 12) (begins s _ (rw f at h)) (omega arith) (omega arith) (omega arith) in
      rw (k, j) (ap (λ l. fallen 12 (size o) (n - (i + 1)) (12 * i + 17) (fallen 12 (used o) (n - (i + 1)) (12 * i + 16) l)) (out ∙ laid_parts s ls cs)
      ∙ ap (fallen 12 (size o) (n - (i + 1)) (12 * i + 17)) (fallen_first ls z (used o) v (b + size o) ys (n - (i + 1)) (12 * i + 16) (omega arith) (omega arith))
      ∙ fallen_name ls z (size o) v b ys (n - (i + 1)) (12 * i + 17) (omega arith) (omega arith)
      ∙ laid_other s ls cs bs (omega arith)
      ∙ ap (over s 0) (append_assoc hd (rows_of 0 0 xs) bs ∙ rw (r, t) (ap (λ l. hd ++ l) (sym (rw (zero-add (length (all_words xs)), zero-add (length (all_bytes xs))) at (rows_append 0 0 xs ys))))))

  objects_removed : (ed : ℕ) (s l : List ℕ) (i n m k v b u g : ℕ) → over s 0 (all_objects ed all) ≡ s → i ≡ length xs → n ≡ length all → m ≡ length (all_words all) → k ≡ length (all_bytes all) → v ≡ length (all_words xs) → b ≡ length (all_bytes xs) → u ≡ used o → g ≡ size o
      → l ≡ fallen 12 g (n - (i + 1)) (12 * i + 17) (fallen 12 u (n - (i + 1)) (12 * i + 16) (over s (12 * i + 12) (slice (12 * i + 24) (12 * n + 12) s)))
      → set (set (set l 0 (n - 1)) 1 (m - u)) 2 (k - g) ≡ over s 0 (all_objects ed (xs ++ ys))
  unfolding over all_words all_bytes
  objects_removed ed s l i n m k v b u g e p q q₂ q₃ r w ue ge f =
      let a : n - 1 ≡ length (xs ++ ys) = rw (length-append xs ys) (omega (arith, length-append xs (o ∷ ys))) in
      let c : m - u ≡ length (all_words (xs ++ ys)) = rw (words_append xs ys, length-append (all_words xs) (all_words ys)) (omega (arith, ap length (words_append xs (o ∷ ys)), length-append (all_words xs) (words_of o.values ++ all_words ys), length-append (words_of o.values) (all_words ys), length-words_of o.values)) in
      let d : k - g ≡ length (all_bytes (xs ++ ys)) = rw (bytes_append xs ys, length-append (all_bytes xs) (all_bytes ys)) (omega (arith, ap length (bytes_append xs (o ∷ ys)), length-append (all_bytes xs) (bytes_of o ++ all_bytes ys), length-append (bytes_of o) (all_bytes ys))) in
      rw (f, rows_removed ed s i n v b u g e p q r w ue ge, a, c, d)

-- ---- object i of os
record Split (i : ℕ) (os : List Obj) : Type 0 where
  o : Obj
  whole : take i os ++ (o ∷ drop (i + 1) os) ≡ os

split : (i : ℕ) (os : List Obj) → i < length os → Split i os
split zero [] h = absurd (omega arith)
split zero (x ∷ os) h = record { o = x; whole = refl }
split (suc i) [] h = absurd (omega arith)
split (suc i) (x ∷ os) h =
    let k = split i os (omega arith) in
    let e : suc i + 1 ≡ suc (i + 1) = omega arith in
    record { o = k.o; whole = rw e (ap (λ l. x ∷ l) k.whole) }

-- what was read off the header, and how many values and bytes lie before object i and behind it
pub record Spot (d : Dict) (i n m w v e b f : ℕ) : Type 0 where
  pub number : n ≡ number_of d.objects
  pub values : m ≡ values_of d.objects
  pub bytes : w ≡ used_of d.objects
  pub first : v ≡ before d.objects i 16 1
  pub next : e ≡ before d.objects (i + 1) 16 1
  pub start : b ≡ before d.objects i 17 2
  pub stop : f ≡ before d.objects (i + 1) 17 2

record Where (xs ys : List Obj) (o : Obj) (d : Dict) (i n m w v e b f : ℕ) : Type 0 where
  at : i ≡ length xs
  n_is : n ≡ length (xs ++ (o ∷ ys))
  m_is : m ≡ length (all_words (xs ++ (o ∷ ys)))
  w_is : w ≡ length (all_bytes (xs ++ (o ∷ ys)))
  v_is : v ≡ length (all_words xs)
  e_is : e ≡ v + used o
  b_is : b ≡ length (all_bytes xs)
  f_is : f ≡ b + size o

spot : (xs ys : List Obj) (o : Obj) (d : Dict) (i n m w v e b f : ℕ) → over d.objects 0 (all_objects (edition_of d.objects) (xs ++ (o ∷ ys))) ≡ d.objects → i ≡ length xs → Spot d i n m w v e b f → Where xs ys o d i n m w v e b f
unfolding all_words all_bytes
spot xs ys o d i n m w v e b f l p s =
    let t = totals (edition_of d.objects) (xs ++ (o ∷ ys)) d.objects l in
    let q = place (edition_of d.objects) xs (o ∷ ys) d.objects i p l in
    let a : (xs ++ (o ∷ [])) ++ ys ≡ xs ++ (o ∷ ys) = append_assoc xs (o ∷ []) ys in
    let j : i + 1 ≡ length (xs ++ (o ∷ [])) = rw (length-append xs (o ∷ [])) (omega arith) in
    let k = place (edition_of d.objects) (xs ++ (o ∷ [])) ys d.objects (i + 1) j (rw a l) in
    let x : length (all_words (xs ++ (o ∷ []))) ≡ length (all_words xs) + used o =
    ap length (words_append xs (o ∷ [])) ∙ length-append (all_words xs) (words_of o.values ++ []) ∙ rw (append-nil, length-words_of) in
    let y : length (all_bytes (xs ++ (o ∷ []))) ≡ length (all_bytes xs) + size o =
    ap length (bytes_append xs (o ∷ [])) ∙ length-append (all_bytes xs) (bytes_of o ++ []) ∙ ap (λ l. length (all_bytes xs) + length l) (append-nil (bytes_of o)) in
    let v_is : v ≡ length (all_words xs) = s.first ∙ q.values in
    let b_is : b ≡ length (all_bytes xs) = s.start ∙ q.bytes in
    record {
      at = p;
      n_is = s.number ∙ t.number;
      m_is = s.values ∙ t.values;
      w_is = s.bytes ∙ t.bytes;
      v_is = v_is;
      e_is = s.next ∙ k.values ∙ x ∙ ap (λ j. j + used o) (sym v_is);
      b_is = b_is;
      f_is = s.stop ∙ k.bytes ∙ y ∙ ap (λ j. j + size o) (sym b_is);
    }

pub record Within (v e m b f w : ℕ) : Type 0 where
  pub values : v ≤ e
  pub last : e ≤ m
  pub bytes : b ≤ f
  pub end : f ≤ w

module _ (os : List Obj) (d : Dict) (l : Lies os d) (i n m w v e b f : ℕ) (h : i < number_of d.objects) (s : Spot d i n m w v e b f) where
  small : i < length os
  small = omega (arith, h, (totals (edition_of d.objects) os d.objects l.objects).number)

  abbrev k : Split i os
  k = split i os small

  there : Where (take i os) (drop (i + 1) os) k.o d i n m w v e b f
  there = spot (take i os) (drop (i + 1) os) k.o d i n m w v e b f (rw k.whole l.objects) (sym (length-take-le i os (omega (arith, small)))) s

  pub within : Within v e m b f w
  unfolding all_words all_bytes
  within =
      let xs = take i os in
      let ys = drop (i + 1) os in
      let o = k.o in
      let x = ap length (words_append xs (o ∷ ys)) ∙ length-append (all_words xs) (words_of o.values ++ all_words ys) in
      let y = length-append (words_of o.values) (all_words ys) in
      let p = ap length (bytes_append xs (o ∷ ys)) ∙ length-append (all_bytes xs) (bytes_of o ++ all_bytes ys) in
      let q = length-append (bytes_of o) (all_bytes ys) in
      record {
        values = omega (arith, there.e_is);
        last = omega (arith, there.e_is, there.v_is, there.m_is, x, y, length-words_of o.values);
        bytes = omega (arith, there.f_is);
        end = omega (arith, there.f_is, there.b_is, there.w_is, p, q);
      }

  pub words_gone : over d.words v (slice e m d.words) ≡ over d.words 0 (all_words (remove_at i 1 os))
  words_gone = words_removed (take i os) (drop (i + 1) os) k.o d.words v e m (rw k.whole l.words) there.v_is there.e_is there.m_is

  pub bytes_gone : over d.bytes b (slice f w d.bytes) ≡ over d.bytes 0 (all_bytes (remove_at i 1 os))
  bytes_gone = bytes_removed (take i os) (drop (i + 1) os) k.o d.bytes b f w (rw k.whole l.bytes) there.b_is there.f_is there.w_is

  pub slots_gone : fallen 3 (f - b) (m - e) (3 * v + 1) (over d.slots (3 * v) (slice (3 * e) (3 * m) d.slots)) ≡ over d.slots 0 (all_slots 0 (remove_at i 1 os))
  slots_gone = slots_removed (take i os) (drop (i + 1) os) k.o d.slots v e m b (f - b) (rw k.whole l.slots) there.v_is there.e_is there.m_is there.b_is (omega (arith, there.f_is))

  pub objects_gone : set (set (set (fallen 12 (f - b) (n - (i + 1)) (12 * i + 17) (fallen 12 (e - v) (n - (i + 1)) (12 * i + 16) (over d.objects (12 * i + 12) (slice (12 * i + 24) (12 * n + 12) d.objects)))) 0 (n - 1)) 1 (values_of d.objects - (e - v))) 2 (used_of d.objects - (f - b)) ≡ over d.objects 0 (all_objects (edition_of d.objects) (remove_at i 1 os))
  objects_gone =
      rw (← s.values, ← s.bytes)
      (objects_removed (take i os) (drop (i + 1) os) k.o (edition_of d.objects) d.objects (fallen 12 (f - b) (n - (i + 1)) (12 * i + 17) (fallen 12 (e - v) (n - (i + 1)) (12 * i + 16) (over d.objects (12 * i + 12) (slice (12 * i + 24) (12 * n + 12) d.objects)))) i n m w v b (e - v) (f - b) (rw k.whole l.objects) there.at there.n_is there.m_is there.w_is there.v_is there.b_is (omega (arith, there.e_is)) (omega (arith, there.f_is)) refl)
