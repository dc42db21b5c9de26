-- What insertion leaves in each slice is the canonical layout of the objects with the new one among them.
-- Assumes nothing.
use mathlib.Core.Path.{◌≡◌, refl, sym, ap, ◌∙◌}
use mathlib.Core.List.{List, ◌∷◌, ◌++◌, append_assoc}
use Prim.Native.Nat.{ℕ, ◌+◌, ◌-◌, ◌*◌}
use native.Mathlib.Nat.{zero-add}
use native.Mathlib.Omega.{arith}
use lib.ListN.{length, drop, set, length-append}
use Rattle.lists.specs.Lists.{over, grown, spliced}
use Rattle.lists.proofs.SpliceLaws.{spliced_parts, over_parts}
use Rattle.entry.specs.Model.{Obj, words_of, slots_of, used, size, bytes_of, row, rows_of, header, all_objects, all_slots, all_words, all_bytes}
use Rattle.entry.proofs.ModelLaws.{length_rows, length_slots, length-words_of, words_append, bytes_append, rows_append, slots_append, grown_first, grown_name, grown_start, begins}

-- ns put in between ls and bs, once bs have become cs
put_in : (s ls bs cs ns g : List ℕ) (a e : ℕ) → over s 0 (ls ++ bs) ≡ s → length cs ≡ length bs → a ≡ length ls → e ≡ length (ls ++ bs) → g ≡ ls ++ (cs ++ drop (length (ls ++ bs)) s) → spliced a e ns g ≡ over s 0 (ls ++ (ns ++ cs))
put_in s ls bs cs ns g a e h l p q f =
    let z = drop (length (ls ++ bs)) s in
    let w : s ≡ ls ++ (bs ++ z) = begins s (ls ++ bs) h ∙ append_assoc ls bs z in
    let n : e ≡ length ls + length cs = rw (q, length-append ls bs) (omega arith) in
    ap (spliced a e ns) f ∙ spliced_parts ls cs z ns a e p n ∙ sym (over_parts ls bs z ns ls cs refl l) ∙ ap (λ t. over t 0 (ls ++ (ns ++ cs))) (sym w)

pub same_parts : (s ls bs : List ℕ) → over s 0 (ls ++ bs) ≡ s → s ≡ ls ++ (bs ++ drop (length (ls ++ bs)) s)
same_parts s ls bs h = begins s (ls ++ bs) h ∙ append_assoc ls bs _

-- ---- the four slices, at the place between xs and ys
module _ (xs ys : List Obj) (o : Obj) where
  pub words_inserted : (s : List ℕ) (v m : ℕ) → over s 0 (all_words (xs ++ ys)) ≡ s → v ≡ length (all_words xs) → m ≡ length (all_words (xs ++ ys)) → spliced v m (words_of o.values) s ≡ over s 0 (all_words (xs ++ (o ∷ ys)))
  unfolding all_words
  words_inserted s v m e p q =
      let h = rw (words_append xs ys) at e in
      put_in s (all_words xs) (all_words ys) (all_words ys) (words_of o.values) s v m h refl p (rw (words_append xs ys) at q) (same_parts s (all_words xs) (all_words ys) h)
      ∙ ap (over s 0) (sym (words_append xs (o ∷ ys)))

  pub bytes_inserted : (s : List ℕ) (b n : ℕ) → over s 0 (all_bytes (xs ++ ys)) ≡ s → b ≡ length (all_bytes xs) → n ≡ length (all_bytes (xs ++ ys)) → spliced b n (bytes_of o) s ≡ over s 0 (all_bytes (xs ++ (o ∷ ys)))
  unfolding all_bytes
  bytes_inserted s b n e p q =
      let h = rw (bytes_append xs ys) at e in
      put_in s (all_bytes xs) (all_bytes ys) (all_bytes ys) (bytes_of o) s b n h refl p (rw (bytes_append xs ys) at q) (same_parts s (all_bytes xs) (all_bytes ys) h)
      ∙ ap (over s 0) (sym (bytes_append xs (o ∷ ys)))

  pub slots_inserted : (s : List ℕ) (v m b : ℕ) → over s 0 (all_slots 0 (xs ++ ys)) ≡ s → v ≡ length (all_words xs) → m ≡ length (all_words (xs ++ ys)) → b ≡ length (all_bytes xs) → spliced (3 * v) (3 * m) (slots_of (b + length o.name) o.values) (grown 3 (size o) (m - v) (3 * v + 1) s) ≡ over s 0 (all_slots 0 (xs ++ (o ∷ ys)))
  unfolding all_slots
  slots_inserted s v m b e p q r =
      let ls = all_slots 0 xs in
      let bs = all_slots b ys in
      let cs = all_slots (b + size o) ys in
      let f : all_slots 0 (xs ++ ys) ≡ ls ++ bs = rw r (rw zero-add at (slots_append 0 xs ys)) in
      let h = rw f at e in
      let la = length_slots 0 xs in
      let lb = length_slots b ys in
      let lc = length_slots (b + size o) ys in
      let lw : length (all_words (xs ++ ys)) ≡ length (all_words xs) + length (all_words ys) = ap length (words_append xs ys) ∙ length-append (all_words xs) (all_words ys) in
      let g : grown 3 (size o) (m - v) (3 * v + 1) s ≡ ls ++ (cs ++ drop (length (ls ++ bs)) s) =
      ap (grown 3 (size o) (m - v) (3 * v + 1)) (same_parts s ls bs h) ∙ grown_start ls (drop (length (ls ++ bs)) s) (size o) b ys (m - v) (3 * v + 1) (omega arith) (omega arith) in
      put_in s ls bs cs (slots_of (b + length o.name) o.values) _ (3 * v) (3 * m) h (omega arith) (omega arith) (rw (length-append ls bs) (omega arith)) g
      ∙ ap (over s 0) (sym (rw (← r) at (rw zero-add at (slots_append 0 xs (o ∷ ys)))))

  -- the rows, still under the old header
  rows_between : (ed : ℕ) (s : List ℕ) (i n v b : ℕ) → over s 0 (all_objects ed (xs ++ ys)) ≡ s → i ≡ length xs → n ≡ length (xs ++ ys) → v ≡ length (all_words xs) → b ≡ length (all_bytes xs)
      → spliced (12 * i + 12) (12 * n + 12) (row v b o) (grown 12 (size o) (n - i) (12 * i + 17) (grown 12 (used o) (n - i) (12 * i + 16) s)) ≡ over s 0 (header ed (xs ++ ys) ++ rows_of 0 0 (xs ++ (o ∷ ys)))
  unfolding rows_of
  rows_between ed s i n v b e p q r t =
      let hd = header ed (xs ++ ys) in
      let ls = hd ++ rows_of 0 0 xs in
      let bs = rows_of v b ys in
      let ds = rows_of (v + used o) b ys in
      let cs = rows_of (v + used o) (b + size o) ys in
      let f : all_objects ed (xs ++ ys) ≡ ls ++ bs = rw (r, t) (ap (λ l. hd ++ l) (rw (zero-add (length (all_words xs)), zero-add (length (all_bytes xs))) at (rows_append 0 0 xs ys)) ∙ sym (append_assoc hd (rows_of 0 0 xs) (rows_of (length (all_words xs)) (length (all_bytes xs)) ys))) in
      let h = rw f at e in
      let z = drop (length (ls ++ bs)) s in
      let lx = length_rows 0 0 xs in
      let lb = length_rows v b ys in
      let lc = length_rows (v + used o) (b + size o) ys in
      let ll : length ls ≡ 12 * i + 12 = rw (length-append hd (rows_of 0 0 xs)) (omega arith) in
      let ln : n ≡ length xs + length ys = q ∙ length-append xs ys in
      let g : grown 12 (used o) (n - i) (12 * i + 16) s ≡ ls ++ (ds ++ z) =
      ap (grown 12 (used o) (n - i) (12 * i + 16)) (same_parts s ls bs h) ∙ grown_first ls z (used o) v b ys (n - i) (12 * i + 16) (omega arith) (omega arith) in
      let g₂ : grown 12 (size o) (n - i) (12 * i + 17) (grown 12 (used o) (n - i) (12 * i + 16) s) ≡ ls ++ (cs ++ z) =
      ap (grown 12 (size o) (n - i) (12 * i + 17)) g ∙ grown_name ls z (size o) (v + used o) b ys (n - i) (12 * i + 17) (omega arith) (omega arith) in
      let w : ls ++ (row v b o ++ cs) ≡ hd ++ rows_of 0 0 (xs ++ (o ∷ ys)) = rw (r, t) (append_assoc hd (rows_of 0 0 xs) _ ∙ ap (λ l. hd ++ l) (sym (rw (zero-add (length (all_words xs)), zero-add (length (all_bytes xs))) at (rows_append 0 0 xs (o ∷ ys))))) in
      put_in s ls bs cs (row v b o) _ (12 * i + 12) (12 * n + 12) h (omega arith) (omega arith) (rw (length-append ls bs) (omega arith)) g₂ ∙ ap (over s 0) w

  pub objects_inserted : (ed : ℕ) (s t : List ℕ) (i n m k v b : ℕ) → over s 0 (all_objects ed (xs ++ ys)) ≡ s → i ≡ length xs → n ≡ length (xs ++ ys) → m ≡ length (all_words (xs ++ ys)) → k ≡ length (all_bytes (xs ++ ys)) → v ≡ length (all_words xs) → b ≡ length (all_bytes xs)
      → t ≡ spliced (12 * i + 12) (12 * n + 12) (row v b o) (grown 12 (size o) (n - i) (12 * i + 17) (grown 12 (used o) (n - i) (12 * i + 16) s))
      → set (set (set t 0 (n + 1)) 1 (m + used o)) 2 (k + size o) ≡ over s 0 (all_objects ed (xs ++ (o ∷ ys)))
  unfolding over all_words all_bytes
  objects_inserted ed s t i n m k v b e p q q₂ q₃ r w f =
      let ns = xs ++ (o ∷ ys) in
      let a : n + 1 ≡ length ns = rw (length-append xs (o ∷ ys)) (omega (arith, length-append xs ys)) in
      let c : m + used o ≡ length (all_words ns) = rw (words_append xs (o ∷ ys), length-append (all_words xs) (words_of o.values ++ all_words ys), length-append (words_of o.values) (all_words ys), length-words_of o.values) (omega (arith, ap length (words_append xs ys), length-append (all_words xs) (all_words ys))) in
      let d : k + size o ≡ length (all_bytes ns) = rw (bytes_append xs (o ∷ ys), length-append (all_bytes xs) (bytes_of o ++ all_bytes ys), length-append (bytes_of o) (all_bytes ys)) (omega (arith, ap length (bytes_append xs ys), length-append (all_bytes xs) (all_bytes ys))) in
      rw (f, rows_between ed s i n v b e p q r w, a, c, d)
