-- `channel::checking::check_elements` meets its contract: how far the elements reach comes last. Assumes nothing.
use mathlib.Core.List.{List}
use mathlib.Core.Path.{◌≡◌, sym, ap}
use Prim.Native.Nat.{ℕ, ◌+◌, ◌-◌, ◌<◌, ◌≤◌}
use lib.ListN.{length, take, drop, length-drop}
use lib.Seq.{length-take-le}
use native.Mathlib.Omega.{arith}
use Rattle.entry.specs.Table.{Dict, number_of, slot_place}
use Rattle.entry.specs.Find.{Elements}
use Rattle.entry.proofs.ValueLaws.{row_lies}
use Rattle.channel.proofs.CheckLaws.{list_lies}
use Rattle.channel.proofs.checking.check_elements.Goals as goal

-- as far as the words between the list's ends reach
reaches : (slots words : List ℕ) (n first : ℕ) → Elements slots words n first
    → (first + length (take (first + n - first) (drop first words)) ≤ 6144) × (slot_place (first + length (take (first + n - first) (drop first words))) ≤ length slots)
reaches slots words n first e =
    let z : first + n - first ≡ n = omega arith in
    let l : length (take n (drop first words)) ≡ n = length-take-le n _ (rw length-drop (omega (arith, e.worded))) in
    rw (z, l) (e.low, e.slotted)

-- the row is one of the columns' rows
below : (d v : Dict) (r : ℕ) → d ≡ v → r < number_of v.objects → r < number_of d.objects
below d v r s h = omega (arith, ap (λ (e : Dict). number_of e.objects) s, h)

pub invariant_of-row : goal.invariant_of-row
invariant_of-row c =
    let l = row_lies _ c.d.invariant c.args.r (below _ _ c.args.r c.d.view_is c.requires) in
    (l.small, l.inside)

pub ends-requires : goal.ends-requires
ends-requires c = list_lies _ c.d.invariant c.args.r (below _ _ c.args.r c.d.view_is c.requires) _ _ c.list_count-n.ensures c.first-first.ensures

pub overflow_add-list : goal.overflow_add-list
overflow_add-list c =
    let e = list_lies _ c.d.invariant c.args.r (below _ _ c.args.r c.d.view_is c.requires) _ _ c.list_count-n.ensures c.first-first.ensures in
    omega (arith, e.low)

pub offset_bounds-d-inside-first : goal.offset_bounds-d-inside-first
offset_bounds-d-inside-first c =
    let e = list_lies _ c.d.invariant c.args.r (below _ _ c.args.r c.d.view_is c.requires) _ _ c.list_count-n.ensures c.first-first.ensures in
    omega (arith, e.low)

pub slice_bounds-list-end : goal.slice_bounds-list-end
slice_bounds-list-end c =
    let e = list_lies _ c.d.invariant c.args.r (below _ _ c.args.r c.d.view_is c.requires) _ _ c.list_count-n.ensures c.first-first.ensures in
    omega (arith, e.worded)

pub first_fault-requires : goal.first_fault-requires
first_fault-requires c =
    let e = list_lies _ c.d.invariant c.args.r (below _ _ c.args.r c.d.view_is c.requires) _ _ c.list_count-n.ensures c.first-first.ensures in
    rw (sym c.d.view_is) (reaches _ _ _ _ e)
