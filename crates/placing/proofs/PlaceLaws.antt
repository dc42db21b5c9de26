-- What a memory in canonical layout has at a place between its objects xs and ys.
-- Assumes nothing.
use mathlib.Core.Path.{◌≡◌, ap, ◌∙◌}
use mathlib.Core.List.{List, [], ◌∷◌, ◌++◌}
use Prim.Native.Nat.{ℕ, ◌+◌, ◌-◌, ◌*◌, ◌<◌, ◌≤◌}
use native.Mathlib.Omega.{arith}
use native.Mathlib.Decide.{dec_lt}
use borrow.Author.Tests.{lt-ltb, le-ltb}
use lib.ListN.{length, drop, get_or, length-append}
use Rattle.lists.specs.Lists.{over, grown}
use Rattle.entry.specs.Model.{Obj, rows_of, header, all_objects, all_words, all_bytes}
use Rattle.entry.specs.Table.{number_of, before}
use Rattle.entry.proofs.ModelLaws.{length_rows, words_append, bytes_append, grown_first, first_is, name_is, first_within, name_within, totals, rows_parts}

none_words : (xs ys : List Obj) → length (all_words (xs ++ ys)) ≡ length (all_words xs) + length (all_words ys) → length ys ≡ 0 → length (all_words (xs ++ ys)) ≡ length (all_words xs)
unfolding all_words
none_words xs [] w h = omega arith
none_words xs (y ∷ ys) w h = absurd (omega arith)

none_bytes : (xs ys : List Obj) → length (all_bytes (xs ++ ys)) ≡ length (all_bytes xs) + length (all_bytes ys) → length ys ≡ 0 → length (all_bytes (xs ++ ys)) ≡ length (all_bytes xs)
unfolding all_bytes
none_bytes xs [] w h = omega arith
none_bytes xs (y ∷ ys) w h = absurd (omega arith)

-- what stands at place i, before ys
pub record Place (xs ys : List Obj) (s : List ℕ) (i : ℕ) : Type 0 where
  pub values : before s i 16 1 ≡ length (all_words xs)
  pub bytes : before s i 17 2 ≡ length (all_bytes xs)
  pub first : (u j : ℕ) → j < number_of s - i → get_or s (12 * i + 16 + 12 * j) 0 ≤ length (all_words (xs ++ ys))
  pub name : (u j : ℕ) → j < number_of s - i → get_or (grown 12 u (number_of s - i) (12 * i + 16) s) (12 * i + 17 + 12 * j) 0 ≤ length (all_bytes (xs ++ ys))

pub place : (ed : ℕ) (xs ys : List Obj) (s : List ℕ) (i : ℕ) → i ≡ length xs → over s 0 (all_objects ed (xs ++ ys)) ≡ s → Place xs ys s i
place ed xs ys s i p e =
    let t = totals ed (xs ++ ys) s e in
    let n : number_of s ≡ length xs + length ys = t.number ∙ length-append xs ys in
    let f = rows_parts ed xs ys s e in
    let ls = header ed (xs ++ ys) ++ rows_of 0 0 xs in
    let l : length ls ≡ 12 * i + 12 = rw (length-append (header ed (xs ++ ys)) (rows_of 0 0 xs)) (omega (arith, length_rows 0 0 xs)) in
    let w : length (all_words (xs ++ ys)) ≡ length (all_words xs) + length (all_words ys) = ap length (words_append xs ys) ∙ length-append (all_words xs) (all_words ys) in
    let b : length (all_bytes (xs ++ ys)) ≡ length (all_bytes xs) + length (all_bytes ys) = ap length (bytes_append xs ys) ∙ length-append (all_bytes xs) (all_bytes ys) in
    let z = drop (length (all_objects ed (xs ++ ys))) s in
    let va = length (all_words xs) in
    let ba = length (all_bytes xs) in
    record {
      values = at 16 1 va (λ h. ap (λ k. get_or k (12 * i + 16) 0) f ∙ first_is ls z va ba ys (12 * i + 16) (omega arith) (omega arith)) (λ h. t.values ∙ none_words xs ys w (omega arith)) (dec_lt i (number_of s));
      bytes = at 17 2 ba (λ h. ap (λ k. get_or k (12 * i + 17) 0) f ∙ name_is ls z va ba ys (12 * i + 17) (omega arith) (omega arith)) (λ h. t.bytes ∙ none_bytes xs ys b (omega arith)) (dec_lt i (number_of s));
      first = λ u j h. rw (ap (λ k. get_or k (12 * i + 16 + 12 * j) 0) f) (omega (arith, first_within ls z va ba ys j (12 * i + 16 + 12 * j) (omega arith) (omega arith)));
      name = λ u j h.
          let g : grown 12 u (number_of s - i) (12 * i + 16) s ≡ ls ++ (rows_of (va + u) ba ys ++ z) =
          ap (grown 12 u (number_of s - i) (12 * i + 16)) f ∙ grown_first ls z u va ba ys (number_of s - i) (12 * i + 16) (omega arith) (omega arith) in
          rw g (omega (arith, name_within ls z (va + u) ba ys j (12 * i + 17 + 12 * j) (omega arith) (omega arith)));
    }
  where
    at : (column total x : ℕ) → (i < number_of s → get_or s (12 * i + column) 0 ≡ x) → (number_of s ≤ i → get_or s total 0 ≡ x) → Dec (i < number_of s) → before s i column total ≡ x
    at column total x f g (yes h) = rw (lt-ltb _ _ h) (f h)
    at column total x f g (no h) = let k : number_of s ≤ i = omega arith in rw (le-ltb _ _ k) (g k)
