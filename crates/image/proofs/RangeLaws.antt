-- The rows of a range, of rows that rise: a walk over all rows, to which those outside the range add nothing, begins at the range's
-- first row and has nothing left behind its last.
-- Assumes nothing.
use mathlib.Core.Path.{◌≡◌, ap, ◌∙◌}
use mathlib.Core.Bool.{true, false}
use mathlib.Core.List.{List}
use Prim.Native.Nat.{ℕ, zero, suc, ◌+◌, ◌-◌, ◌<◌, ◌≤◌}
use native.Mathlib.Omega.{arith}
use borrow.Author.Tests.{le-leb, lt-leb}
use lib.Dec.{leb}
use Rattle.entry.specs.Table.{number_of, index_at}
use Rattle.entry.proofs.WalkLaws.{and_false}
use Rattle.image.specs.Ranges.{covers, Spans}
use Rattle.std.specs.declared.ops.Range.{Range}

pub covers_below : (first last x : ℕ) → x < first → covers first last x ≡ false
unfolding covers
covers_below first last x h = rw (lt-leb first x h)

pub covers_above : (first last x : ℕ) → last < x → covers first last x ≡ false
unfolding covers
covers_above first last x h = rw (lt-leb x last h) (and_false (leb first x))

pub covers-between : (first last x : ℕ) → first ≤ x → x ≤ last → covers first last x ≡ true
unfolding covers
covers-between first last x h k = rw (le-leb first x h, le-leb x last k)

module _ {objects : List ℕ} {first last : ℕ} {s : Range ℕ} (c : Spans objects first last s) where
  -- a row of the span has an index of the range
  pub row_covered : (i : ℕ) → s.start ≤ i → i < s.end → covers first last (index_at objects i) ≡ true
  row_covered i h k =
      covers-between first last (index_at objects i) (c.low.behind i h (omega (arith, c.high.within))) (omega (arith, c.high.before i k))

  module _ {A : Type 0} (walk : ℕ → ℕ → A) (skips : (n i : ℕ) → covers first last (index_at objects i) ≡ false → walk (suc n) i ≡ walk n (suc i)) where
    before : (k i : ℕ) → i + k ≡ s.start → walk (number_of objects - i) i ≡ walk (number_of objects - s.start) s.start
    before zero i e = let q : i ≡ s.start = omega arith in ap (λ j. walk (number_of objects - j) j) q
    before (suc k) i e =
        let q : number_of objects - i ≡ suc (number_of objects - suc i) = omega (arith, c.low.within) in
        ap (λ n. walk n i) q
        ∙ skips (number_of objects - suc i) i (covers_below first last (index_at objects i) (c.low.before i (omega arith)))
        ∙ before k (suc i) (omega arith)

    -- the walk over all rows is the walk from the span's first row on
    pub walk_from : walk (number_of objects) 0 ≡ walk (number_of objects - s.start) s.start
    walk_from = let q : number_of objects ≡ number_of objects - 0 = omega arith in ap (λ n. walk n 0) q ∙ before s.start 0 (omega arith)

    behind : (k i : ℕ) → i + k ≡ number_of objects → s.end ≤ i → walk k i ≡ walk 0 (number_of objects)
    behind zero i e h = let q : i ≡ number_of objects = omega arith in ap (walk 0) q
    behind (suc k) i e h =
        skips k i (covers_above first last (index_at objects i) (omega (arith, c.high.behind i h (omega arith))))
        ∙ behind k (suc i) (omega arith) (omega arith)

    -- behind the span nothing is left
    pub walk_end : (i : ℕ) → s.end ≤ i → i ≤ number_of objects → walk (number_of objects - i) i ≡ walk 0 (number_of objects)
    walk_end i h k = behind (number_of objects - i) i (omega arith) h
