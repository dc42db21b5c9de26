-- On rows that rise, halving gives what the walk from the first row on gives: of an index that is there its row, of one that is not
-- there none. `lower` ends at a row of which `Lower` holds, and `find` looks whether that has the index.
-- Assumes nothing.
use Rattle.std.specs.Prelude.{Some, None}
use mathlib.Core.Path.{◌≡◌, refl, sym, ◌∙◌}
use mathlib.Core.Bool.{Bool, true, false, cond}
use mathlib.Core.List.{List}
use mathlib.Core.Logic.{◌≢◌}
use Prim.Native.Nat.{ℕ, ◌<◌}
use native.Mathlib.Omega.{arith}
use borrow.Author.Tests.{eqb-true, eqb-false, ltb-true, ltb-false}
use lib.Dec.{eqb, ltb}
use Rattle.entry.specs.Table.{number_of, index_at}
use Rattle.entry.specs.Find.{find_row, halved, Rows, Lower}
use Rattle.entry.proofs.FindLaws.{find_at, find_none, lower_found, lower_none}

module _ {objects : List ℕ} {x r : ℕ} (s : Rows objects) (l : Lower objects x r) where
  pub halving_walk : halved objects x r ≡ find_row objects x
  halving_walk = go (ltb r (number_of objects)) (eqb (index_at objects r) x) refl refl
    where
      go : (w v : Bool) → ltb r (number_of objects) ≡ w → eqb (index_at objects r) x ≡ v → cond w (cond v (Some r) None) None ≡ find_row objects x
      go true true p q = sym (lower_found objects x r l (ltb-true r (number_of objects) p) (eqb-true (index_at objects r) x q))
      go true false p q = sym (lower_none objects x r l (λ h. eqb-false (index_at objects r) x q) s.rises)
      go false v p q = sym (lower_none objects x r l (λ h. absurd (omega (arith, ltb-false r (number_of objects) p, h))) s.rises)

  pub halving_there : (i : ℕ) → i < number_of objects → index_at objects i ≡ x → halved objects x r ≡ Some i
  halving_there i h e =
      halving_walk ∙ find_at objects x i (number_of objects) 0 (omega arith) (omega (arith, h)) e (λ j k q. omega (arith, s.rises j i k h, e, q))

  pub halving_absent : ((i : ℕ) → i < number_of objects → index_at objects i ≢ x) → halved objects x r ≡ None
  halving_absent f = halving_walk ∙ find_none objects x (number_of objects) 0 (λ j a b. f j (omega (arith, b)))
