-- A dictionary without its ranges has rows that are alike, and is well-formed where it was with them.
-- Assumes nothing.
use Prim.Native.Nat.{ℕ, zero, suc, ◌+◌, ◌*◌, ◌%◌, ◌≤◌, ◌<◌}
use mathlib.Core.Path.{◌≡◌, refl, sym, ap, ◌∙◌}
use mathlib.Core.Bool.{true}
use mathlib.Core.List.{List, [], ◌∷◌}
use native.Mathlib.Omega.{arith}
use borrow.Author.Tests.{lt-ltb, le-ltb}
use lib.Dec.{eqb, leb}
use lib.ListN.{get_or, length}
use Rattle.entry.specs.Table.{Dict, count_at, extra_at, kept_at}
use Rattle.entry.specs.Rules.{range_ok, extra_ok, is_edition}
use Rattle.entry.specs.Judge.{reserved, well_formed}
use Rattle.entry.proofs.JudgeLaws.{and_true, headed}
use Rattle.entry.proofs.FactLaws.{row_facts}
use Rattle.entry.proofs.BesideLaws.{Beside, beside_well_formed}
use Rattle.ranges.specs.Alike.{Alike, cleared, rangeless}

-- ---- the words
stays : (k : ℕ) (l : List ℕ) (j : ℕ) → (k + j) % 12 ≤ 8 → get_or (cleared k l) j 0 ≡ get_or l j 0
unfolding cleared
stays k [] j h = refl
stays k (w ∷ ws) zero h = rw (le-ltb 8 (k % 12) (omega (arith, h))) refl
stays k (w ∷ ws) (suc j) h = stays (suc k) ws j (omega (arith, h))

goes : (k : ℕ) (l : List ℕ) (j : ℕ) → 8 < (k + j) % 12 → get_or (cleared k l) j 0 ≡ 0
unfolding cleared
goes k [] zero h = refl
goes k [] (suc j) h = refl
goes k (w ∷ ws) zero h = rw (lt-ltb 8 (k % 12) (omega (arith, h))) refl
goes k (w ∷ ws) (suc j) h = goes (suc k) ws j (omega (arith, h))

length-cleared : (k : ℕ) (l : List ℕ) → length (cleared k l) ≡ length l
unfolding cleared
length-cleared k [] = refl
length-cleared k (w ∷ ws) = ap suc (length-cleared (suc k) ws)

pub cleared_alike : (l : List ℕ) → Alike l (cleared 0 l)
cleared_alike l =
    record {
      rows = record { number = sym (stays 0 l 0 (omega arith)); column = λ i c h. sym (stays 0 l (12 * i + (12 + c)) (omega (arith, h))) };
      edition = sym (stays 0 l 3 (omega arith));
      kept = λ i. sym (stays 0 l (12 * i + 20) (omega arith));
    }

-- ---- what is judged
no_range : (n : ℕ) (l : List ℕ) (i : ℕ) → extra_ok n (extra_at l i) ≡ true → extra_ok n (extra_at (cleared 0 l) i) ≡ true
unfolding extra_ok range_ok
no_range n l i e =
    rw (goes 0 l (12 * i + 21) (omega arith))
    (rw (goes 0 l (12 * i + 22) (omega arith))
    (rw (goes 0 l (12 * i + 23) (omega arith)) (rw (stays 0 l (12 * i + 20) (omega arith), (and_true (leb (kept_at l i) n) _ e).0) refl)))

reserved-cleared : (l : List ℕ) → reserved l ≡ true → reserved (cleared 0 l) ≡ true
unfolding reserved
reserved-cleared l e =
    let e₃ = and_true (is_edition (get_or l 3 0)) _ e in
    let e₄ = and_true (eqb (get_or l 4 0) 0) _ e₃.1 in
    let e₅ = and_true (eqb (get_or l 5 0) 0) _ e₄.1 in
    let e₆ = and_true (eqb (get_or l 6 0) 0) _ e₅.1 in
    let e₇ = and_true (eqb (get_or l 7 0) 0) _ e₆.1 in
    let e₈ = and_true (eqb (get_or l 8 0) 0) _ e₇.1 in
    rw (stays 0 l 3 (omega arith), stays 0 l 4 (omega arith), stays 0 l 5 (omega arith), stays 0 l 6 (omega arith), stays 0 l 7 (omega arith), stays 0 l 8 (omega arith), goes 0 l 9 (omega arith), goes 0 l 10 (omega arith), goes 0 l 11 (omega arith))
    (rw (e₃.0, e₄.0, e₅.0, e₆.0, e₇.0, e₈.0) refl)

-- ---- the theorem
pub rangeless_well_formed : (d : Dict) → well_formed d ≡ true → well_formed (rangeless d) ≡ true
rangeless_well_formed d w =
    let l = d.objects in
    beside_well_formed d (cleared 0 l)
    (record {
      long = length-cleared 0 l;
      values = stays 0 l 1 (omega arith);
      bytes = stays 0 l 2 (omega arith);
      rows = record { number = stays 0 l 0 (omega arith); column = λ i c h. stays 0 l (12 * i + (12 + c)) (omega (arith, h)) };
      rest = reserved-cleared l (headed d w).rest;
      extra = λ i h. no_range (count_at l i) l i (row_facts d w i h).extra;
    })
    w
