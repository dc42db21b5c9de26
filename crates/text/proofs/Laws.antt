-- What a loop over the bytes uses of the machine and of the tables.
-- Assumes nothing.
use Rattle.std.specs.Prelude.{Option, Some, None, Ok, Err}
use Prim.Native.Nat.{ℕ, zero, suc, ◌+◌, ◌≤◌, ◌<◌, zero-le}
use mathlib.Core.Path.{◌≡◌, refl, sym, ap, ap₂, ◌∙◌}
use mathlib.Core.Bool.{Bool, true, false, cond, ◌&&◌}
use mathlib.Core.List.{List, [], ◌∷◌}
use native.Mathlib.Numerals.{add-one}
use native.Mathlib.Omega.{arith}
use borrow.Author.Tests.{le-leb, lt-leb}
use lib.Dec.{T, eqb, eqb→eq, ltb, ltb→lt}
use lib.ListN.{length, get_or, drop, drop_of_length-le}
use lib.Seq.{drop-cons}
use Rattle.std.specs.Bool.{then_some}
use Rattle.std.specs.Option.{option_map}
use Rattle.lists.specs.Tests.{and_left, and_right, below, below_at}
use Rattle.text.specs.Utf8.{Range, ◌to◌}
use Rattle.text.specs.Machine.{step, onward, judge_at, Skipped}
use Rattle.text.specs.Tables.{asks, reach, same, same?, entry, agrees, tables}

-- ---- one byte: that at i is the first of what is left
pub turn : (s : List ℕ) (i : ℕ) → i < length s → (rs : List Range) {o : Option (List Range)} → step rs (get_or s i 0) ≡ o
    → judge_at i rs (drop i s) ≡ onward (Err i) (λ ts. judge_at (i + 1) ts (drop (i + 1) s)) o
unfolding judge_at
turn s i h rs e =
    let first : drop i s ≡ get_or s i 0 ∷ drop (i + 1) s = rw (add-one, drop-cons s i 0) in
    ap (judge_at i rs) first ∙ ap (onward (Err i) (λ ts. judge_at (i + 1) ts (drop (i + 1) s))) e

-- ---- ASCII between characters
pub more : (s : List ℕ) (from i j : ℕ) → Skipped s from i → i + 1 ≡ j → i < length s → get_or s i 0 ≤ 127 → Skipped s from j
more s from i j k e h a =
    let t : step [] (get_or s i 0) ≡ Some [] = simp (le-leb 0 (get_or s i 0) zero-le, le-leb (get_or s i 0) 127 a) in
    record {
      on = omega arith;
      inside = omega arith;
      same = ap (λ (n : ℕ). judge_at n [] (drop n s)) (sym e) ∙ sym (turn s i h [] t) ∙ k.same;
    }

-- ---- what may be skipped: one part behind another, and a character of two bytes
pub skip_on : (s : List ℕ) (a b c : ℕ) → Skipped s a b → Skipped s b c → Skipped s a c
skip_on s a b c p q = record { on = omega (arith, p.on, q.on); inside = q.inside; same = q.same ∙ p.same }

pub skip_pair : (s : List ℕ) (i : ℕ) → i + 2 ≤ length s → 0xC2 ≤ get_or s i 0 → get_or s i 0 ≤ 0xDF → 0x80 ≤ get_or s (i + 1) 0 → get_or s (i + 1) 0 ≤ 0xBF → Skipped s i (i + 2)
skip_pair s i l b₀ b₁ c₀ c₁ =
    let b = get_or s i 0 in
    let c = get_or s (i + 1) 0 in
    let t : step [] b ≡ Some (0x80 to 0xBF ∷ []) = simp (le-leb 0 b zero-le, lt-leb b 0x7F (omega arith), le-leb 0xC2 b b₀, le-leb b 0xDF b₁) in
    let u : step (0x80 to 0xBF ∷ []) c ≡ Some [] = simp (le-leb 0x80 c c₀, le-leb c 0xBF c₁) in
    let e : i + 1 + 1 ≡ i + 2 = omega arith in
    record {
      on = omega arith;
      inside = l;
      same = ap (λ (n : ℕ). judge_at n [] (drop n s)) (sym e) ∙ sym (turn s (i + 1) (omega arith) (0x80 to 0xBF ∷ []) u) ∙ sym (turn s i (omega arith) [] t);
    }

-- ---- the end
pub whole : (s : List ℕ) (i q : ℕ) → length s ≤ i → q ≡ 0 → judge_at i (asks q) (drop i s) ≡ Ok tt
unfolding judge_at asks
whole s i q h z = rw (z, drop_of_length-le s h)

-- each state but the first asks for something: a test that antt computes
asking : List Range → Bool
asking [] = false
asking (r ∷ rs) = true

cut : (k : ℕ) (rs : List Range) → T (asking rs) → judge_at k rs [] ≡ Err k
unfolding judge_at asking
cut k [] t = absurd t
cut k (r ∷ rs) t = refl

pub early : (s : List ℕ) (i q : ℕ) → length s ≤ i → (q ≡ 0 → ⊥) → q < 8 → judge_at i (asks q) (drop i s) ≡ Err i
unfolding asks below asking
early s i zero h n l = absurd (n refl)
early s i (suc q) h n l = rw (drop_of_length-le s h) (cut i (asks (suc q)) (below_at 7 (λ p. asking (asks (suc p))) tt q (omega arith)))

-- ---- an entry's state, where its number is below 8
pub reached : (n : ℕ) → option_map asks (then_some (ltb n 8) n) ≡ reach n
unfolding reach
reached n = go (ltb n 8)
  where
    go : (b : Bool) → option_map asks (then_some b n) ≡ cond b (Some (asks n)) None
    go true = refl
    go false = refl

-- ---- the tables
same_eq : (rs ts : List Range) → T (same rs ts) → rs ≡ ts
unfolding same
same_eq [] [] t = refl
same_eq [] (r ∷ ts) t = absurd t
same_eq (r ∷ rs) [] t = absurd t
same_eq ((a to b) ∷ rs) ((c to d) ∷ ts) t =
    let h = and_left (eqb a c && eqb b d) (same rs ts) t in
    ap₂ (λ (r : Range) (l : List Range). r ∷ l)
    (ap₂ ◌to◌ (eqb→eq a c (and_left (eqb a c) (eqb b d) h)) (eqb→eq b d (and_right (eqb a c) (eqb b d) h)))
    (same_eq rs ts (and_right (eqb a c && eqb b d) (same rs ts) t))

same?_eq : (x y : Option (List Range)) → T (same? x y) → x ≡ y
unfolding same same?
same?_eq None None t = refl
same?_eq None (Some ts) t = absurd t
same?_eq (Some rs) None t = absurd t
same?_eq (Some rs) (Some ts) t = ap Some (same_eq rs ts t)

module _ (class after : List ℕ) (t : T (tables class after)) (b : ℕ) (h : b < 256) where
  pub class_lt : get_or class b 0 < 12
  unfolding tables agrees
  class_lt = ltb→lt (get_or class b 0) 12 (and_left (ltb (get_or class b 0) 12) _ (below_at 256 (agrees class after) t b h))

  pub rule : (q : ℕ) → q < 8 → reach (entry class after q b) ≡ step (asks q) b
  unfolding tables agrees
  rule q l =
      same?_eq (reach (entry class after q b)) (step (asks q) b)
      (below_at 8 (λ k. same? (reach (entry class after k b)) (step (asks k) b))
      (and_right (ltb (get_or class b 0) 12) _ (below_at 256 (agrees class after) t b h)) q l)
