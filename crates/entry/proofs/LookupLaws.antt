-- Looking up in the table is looking up in the model: the first object with an index, and its values by sub-index.
-- Assumes nothing.
use Rattle.std.specs.Prelude.{Option, Some, None, Ok}
use mathlib.Core.Path.{◌≡◌, refl, sym, ap, ◌∙◌}
use mathlib.Core.Bool.{Bool, true, false, cond}
use Prim.Native.Nat.{ℕ, ◌+◌, ◌-◌, ◌<◌, ◌≤◌}
use native.Mathlib.Nat.{add-zero}
use native.Mathlib.Omega.{arith}
use borrow.Author.Tests.{eqb-true, eqb-false, leb-true}
use lib.Dec.{eqb, leb}
use Rattle.entry.specs.Table.{Dict, edition_of, list_count, model_of, obj_at, number_of, kind_at, count_at, first_at}
use Rattle.entry.specs.Rules.{count}
use Rattle.entry.specs.Judge.{used_at, well_formed}
use Rattle.entry.specs.Find.{find_row, sub_at, or_no_sub, on_row, place_of, object_of, object_in, nth, no_sub, counts, held_as, sub_of, on_object, named_of, named_at}
use Rattle.entry.specs.declared.Place.TheVariants.{Count, Value}
use Rattle.entry.proofs.JudgeLaws.{head_ok_lem, length_vals}
use Rattle.entry.proofs.FactLaws.{row_facts}
use Rattle.entry.proofs.FindLaws.{found, found_row, value_there}

-- the row that is found holds the first object with that index, whatever the memory
pub lookup_object : (d : Dict) (x : ℕ) → object_in d (find_row d.objects x) ≡ object_of x (model_of d)
lookup_object d x = sym (found d x (number_of d.objects) 0)

-- the place that is found holds the value that the object has under that sub-index
pub lookup_value : (d : Dict) → well_formed d ≡ true → (x sub : ℕ) → named_at d (place_of d.objects x sub) ≡ named_of (edition_of d.objects) x sub (model_of d)
unfolding sub_at sub_of list_count
lookup_value d e x sub = go (find_row d.objects x) refl ∙ ap (on_object (edition_of d.objects) sub) (lookup_object d x)
  where
    there : (i k : ℕ) → k < used_at d.objects i → held_as (nth (obj_at d i).values k) ≡ named_at d (Ok (Value (first_at d.objects i + k)))
    there i k l = ap held_as (value_there d (used_at d.objects i) (first_at d.objects i) k l)

    at : (n i : ℕ) → i < number_of d.objects → (k s l : Bool) → eqb (kind_at d.objects i) 0 ≡ k → eqb sub 0 ≡ s → leb sub (count_at d.objects i) ≡ l
        → named_at d (or_no_sub (cond k (cond s (Some (Value (first_at d.objects i))) None) (cond s (Some (Count n)) (cond l (Some (Value (first_at d.objects i + (sub - 1)))) None))))
        ≡ cond k (cond s (held_as (nth (obj_at d i).values 0)) no_sub) (cond s (counts n) (cond l (held_as (nth (obj_at d i).values (sub - 1))) no_sub))
    at n i h true true l a b c =
        let one : count_at d.objects i ≡ 1 = (head_ok_lem _ _ _ _ _ _ (row_facts d e i h).head).variable (eqb-true (kind_at d.objects i) 0 a) in
        sym (rw add-zero at (there i 0 (omega arith)))
    at n i h true false l a b c = refl
    at n i h false true l a b c = refl
    at n i h false false true a b c =
        let ne : sub ≡ 0 → ⊥ = eqb-false sub 0 b in
        let m : sub ≤ count_at d.objects i = leb-true sub (count_at d.objects i) c in
        sym (there i (sub - 1) (omega arith))
    at n i h false false false a b c = refl

    go : (f : Option ℕ) → find_row d.objects x ≡ f → named_at d (on_row d.objects sub f) ≡ on_object (edition_of d.objects) sub (object_in d f)
    go (Some i) q =
        let r = found_row d.objects x (number_of d.objects) 0 i q in
        let c : count (obj_at d i) ≡ count_at d.objects i = omega (arith, length_vals d (used_at d.objects i) (first_at d.objects i)) in
        rw c (at (list_count d.objects i) i (omega (arith, r.below)) (eqb (kind_at d.objects i) 0) (eqb sub 0) (leb sub (count_at d.objects i)) refl refl refl)
    go None q = refl
