-- A kept count that is set: the rows name the same objects, and the dictionary stays well-formed.
-- Assumes nothing.
use mathlib.Core.Path.{◌≡◌, ◌∙◌}
use mathlib.Core.Bool.{true}
use mathlib.Core.List.{List}
use mathlib.Core.Logic.{◌≢◌}
use Prim.Native.Nat.{ℕ, ◌+◌, ◌*◌, ◌<◌, ◌≤◌}
use native.Mathlib.Omega.{arith}
use native.Mathlib.Decide.{ℕ_discrete}
use borrow.Author.Tests.{le-leb}
use lib.Dec.{leb}
use lib.ListN.{length, get_or, length-set}
use lib.Seq.{get_or-set_same, get_or-set_other}
use Rattle.entry.specs.Table.{Dict, dict, edition_of, number_of, count_at, kept_at, extra_at}
use Rattle.entry.specs.Rules.{extra_ok}
use Rattle.entry.specs.Judge.{reserved, well_formed}
use Rattle.entry.specs.Same.{SameRows}
use Rattle.entry.proofs.JudgeLaws.{and_true, headed}
use Rattle.entry.proofs.FactLaws.{row_facts}
use Rattle.entry.proofs.BesideLaws.{beside_well_formed}
use Rattle.rows.specs.Rows.{kept_in}

module _ (i n : ℕ) (objects : List ℕ) where
  -- a word that is not that one
  pub kept_else : (k : ℕ) → k ≢ 12 * i + 20 → get_or (kept_in i n objects) k 0 ≡ get_or objects k 0
  kept_else k h = get_or-set_other objects (12 * i + 20) k n 0 (λ e. h (omega (arith, e)))

  pub kept_edition : edition_of (kept_in i n objects) ≡ edition_of objects
  kept_edition = kept_else 3 (λ e. omega (arith, e))

  pub kept_rows : SameRows (kept_in i n objects) objects
  kept_rows = record { number = kept_else 0 (λ e. omega (arith, e)); column = λ j c h. kept_else (12 * j + (12 + c)) (λ e. omega (arith, h, e)) }

  pub kept_other : (j : ℕ) → j ≢ i → kept_at (kept_in i n objects) j ≡ kept_at objects j
  kept_other j h = kept_else (12 * j + 20) (λ e. h (omega (arith, e)))

  reserved_kept : reserved (kept_in i n objects) ≡ reserved objects
  unfolding reserved
  reserved_kept =
      rw (kept_else 3 (λ e. omega (arith, e)), kept_else 4 (λ e. omega (arith, e)), kept_else 5 (λ e. omega (arith, e)), kept_else 6 (λ e. omega (arith, e)), kept_else 7 (λ e. omega (arith, e)), kept_else 8 (λ e. omega (arith, e)), kept_else 9 (λ e. omega (arith, e)), kept_else 10 (λ e. omega (arith, e)), kept_else 11 (λ e. omega (arith, e)))

-- ---- the theorem: a count of no more than a row's elements may be kept there
pub kept_well_formed : (d : Dict) (i n : ℕ) → well_formed d ≡ true → i < number_of d.objects → n ≤ count_at d.objects i → well_formed (dict (kept_in i n d.objects) d.slots d.words d.bytes) ≡ true
unfolding extra_ok
kept_well_formed d i n w l h =
    let a = d.objects in
    beside_well_formed d (kept_in i n a)
    (record {
      long = length-set a (12 * i + 20) n;
      values = kept_else i n a 1 (λ e. omega (arith, e));
      bytes = kept_else i n a 2 (λ e. omega (arith, e));
      rows = kept_rows i n a;
      rest = reserved_kept i n a ∙ (headed d w).rest;
      extra = λ j b. at j b (ℕ_discrete j i);
    })
    w
  where
    away : (j : ℕ) → j ≢ 12 * i + 20 → get_or (kept_in i n d.objects) j 0 ≡ get_or d.objects j 0
    away = kept_else i n d.objects

    at : (j : ℕ) → j < number_of d.objects → Dec (j ≡ i) → extra_ok (count_at d.objects j) (extra_at (kept_in i n d.objects) j) ≡ true
    at j b (yes e) =
        let x = (row_facts d w j b).extra in
        let m : 12 * i + 20 < length d.objects = omega (arith, (headed d w).rows, l) in
        rw (away (12 * j + 21) (λ q. omega (arith, q)), away (12 * j + 22) (λ q. omega (arith, q)), away (12 * j + 23) (λ q. omega (arith, q)))
        (rw (e, get_or-set_same d.objects (12 * i + 20) n 0 m, le-leb n (count_at d.objects i) h) (and_true (leb (kept_at d.objects i) (count_at d.objects i)) _ (rw e at x)).1)
    at j b (no e) =
        rw (away (12 * j + 21) (λ q. omega (arith, q)), away (12 * j + 22) (λ q. omega (arith, q)), away (12 * j + 23) (λ q. omega (arith, q)), kept_other i n d.objects j e)
        (row_facts d w j b).extra
