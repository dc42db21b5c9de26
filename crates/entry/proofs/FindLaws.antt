-- The table's lookup is the model's, whatever the memory.
-- Assumes nothing.
use Rattle.std.specs.Prelude.{Some, None}
use mathlib.Core.Path.{◌≡◌, refl, sym, ap, ◌∙◌}
use mathlib.Core.Bool.{Bool, true, false, cond}
use mathlib.Core.List.{List}
use mathlib.Core.Logic.{◌≢◌}
use Prim.Native.Nat.{ℕ, zero, suc, ◌+◌, ◌<◌, ◌≤◌}
use native.Mathlib.Nat.{add-zero}
use native.Mathlib.Omega.{arith}
use native.Mathlib.Decide.{dec_lt}
use borrow.Author.Tests.{eqb-true, eq-eqb, ne_eqb}
use lib.Dec.{eqb}
use Rattle.entry.specs.Table.{Dict, val_at, vals_from, obj_at, objs_from, number_of, index_at}
use Rattle.entry.specs.Find.{object_of, find_from, find_row, object_in, nth, Lower}

pub found : (d : Dict) (x k i : ℕ) → object_of x (objs_from d k i) ≡ object_in d (find_from d.objects x k i)
unfolding object_of find_from objs_from
found d x zero i = refl
found d x (suc k) i = go (eqb (index_at d.objects i) x) (found d x k (suc i))
  where
    go : (w : Bool) → object_of x (objs_from d k (suc i)) ≡ object_in d (find_from d.objects x k (suc i)) → cond w (Some (obj_at d i)) (object_of x (objs_from d k (suc i))) ≡ object_in d (cond w (Some i) (find_from d.objects x k (suc i)))
    go true h = refl
    go false h = h

-- value j of the object of row i is the table's value firstAt i + j, whatever the memory
pub value_there : (d : Dict) (k p j : ℕ) → j < k → nth (vals_from d k p) j ≡ Some (val_at d (p + j))
unfolding nth vals_from
value_there d zero p j h = absurd (omega arith)
value_there d (suc k) p zero h = rw add-zero
value_there d (suc k) p (suc j) h =
    let e : p + suc j ≡ suc p + j = omega arith in
    rw e (value_there d k (suc p) j (omega arith))

-- ---- a row that has the index, or none
pub find_at : (objects : List ℕ) (x r n i : ℕ) → i ≤ r → r < i + n → index_at objects r ≡ x → ((j : ℕ) → j < r → index_at objects j ≢ x) → find_from objects x n i ≡ Some r
unfolding find_from
find_at objects x r zero i a b e f = absurd (omega arith)
find_at objects x r (suc n) i a b e f = go (dec_lt i r) (λ l. find_at objects x r n (suc i) l (omega arith) e f)
  where
    go : Dec (i < r) → (suc i ≤ r → find_from objects x n (suc i) ≡ Some r) → cond (eqb (index_at objects i) x) (Some i) (find_from objects x n (suc i)) ≡ Some r
    go (yes l) ih = rw (ne_eqb _ _ (f i l)) (ih (omega (arith, l)))
    go (no l) ih = let q : r ≡ i = omega (arith, l) in let z : eqb (index_at objects i) x ≡ true = eq-eqb _ _ (ap (index_at objects) (sym q) ∙ e) in rw z (ap Some (sym q))

pub find_none : (objects : List ℕ) (x n i : ℕ) → ((j : ℕ) → i ≤ j → j < i + n → index_at objects j ≢ x) → find_from objects x n i ≡ None
unfolding find_from
find_none objects x zero i f = refl
find_none objects x (suc n) i f =
    rw (ne_eqb _ _ (f i (omega arith) (omega arith))) (find_none objects x n (suc i) (λ j a b. f j (omega arith) (omega arith)))

-- ---- a row that was found is one of the rows, and has the index
pub record IsRow (objects : List ℕ) (x n r : ℕ) : Type 0 where
  pub below : r < n
  pub index : index_at objects r ≡ x

pub found_row : (objects : List ℕ) (x k i r : ℕ) → find_from objects x k i ≡ Some r → IsRow objects x (i + k) r
unfolding find_from
found_row objects x zero i r e = let z : ◌≡◌ {A = ℕ} 0 1 = cc in absurd (omega arith)
found_row objects x (suc k) i r e = go (eqb (index_at objects i) x) refl (found_row objects x k (suc i) r) e
  where
    go : (w : Bool) → eqb (index_at objects i) x ≡ w → (find_from objects x k (suc i) ≡ Some r → IsRow objects x (suc i + k) r)
        → cond w (Some i) (find_from objects x k (suc i)) ≡ Some r → IsRow objects x (i + suc k) r
    go true p ih q = let h : i ≡ r = cc in record { below = omega arith; index = ap (index_at objects) (sym h) ∙ eqb-true (index_at objects i) x p }
    go false p ih q = let t = ih q in record { below = omega (arith, t.below); index = t.index }

-- the row that halving ends at has the index, or none has
module _ (objects : List ℕ) (x r : ℕ) (l : Lower objects x r) where
  pub lower_found : r < number_of objects → index_at objects r ≡ x → find_row objects x ≡ Some r
  lower_found h e = find_at objects x r (number_of objects) 0 (omega arith) (omega (arith, h)) e (λ j k q. omega (arith, l.before j k, q))

  pub lower_none : (r < number_of objects → index_at objects r ≢ x) → ((i j : ℕ) → i < j → j < number_of objects → index_at objects i < index_at objects j) → find_row objects x ≡ None
  lower_none h rises = find_none objects x (number_of objects) 0 (λ j a b q. absurd (other j (omega (arith, b)) q (dec_lt j r)))
    where
      behind : (j : ℕ) → j < number_of objects → index_at objects j ≡ x → r ≤ j → Dec (r < j) → ⊥
      behind j b q k (yes m) = omega (arith, rises r j m b, l.behind r (omega arith) (omega (arith, m, b)), q)
      behind j b q k (no m) = let e : r ≡ j = omega (arith, k, m) in h (omega (arith, e, b)) (ap (index_at objects) e ∙ q)

      other : (j : ℕ) → j < number_of objects → index_at objects j ≡ x → Dec (j < r) → ⊥
      other j b q (yes k) = omega (arith, l.before j k, q)
      other j b q (no k) = behind j b q (omega (arith, k)) (dec_lt r j)
