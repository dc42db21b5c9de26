-- `placing::insert_slots` meets its contract. Assumes nothing.
use mathlib.Core.Path.{◌≡◌, ◌∙◌}
use Prim.Native.Nat.{◌-◌}
use native.Mathlib.Omega.{arith}
use lib.ListN.{length}
use Rattle.lists.proofs.SpliceLaws.{fill_gap, length-grown}
use Rattle.entry.specs.Table.{slot_place, start_place}
use Rattle.rows.specs.Rows.{starts_grown}
use Rattle.given.specs.Given.{slots_in}
use Rattle.given.proofs.GivenLaws.{length-slots_in}
use Rattle.placing.proofs.insert_slots.Goals as goal

pub returns : goal.returns
returns c =
    let a = c.args in
    let s = starts_grown a.v (a.m - a.v) a.g a.slots.now in
    let l : length s ≡ length a.slots.now = length-grown 3 a.g (a.m - a.v) (start_place a.v) a.slots.now in
    c.fill_slots.ensures
    ∙ rw c.open_slots.ensures (fill_gap s (slot_place a.v) (slot_place a.m) (slot_place a.u) (slots_in a.vals.now a.u 0 a.b) (length-slots_in a.vals.now a.u 0 a.b) (omega (arith, c.requires.u_bound)) (omega (arith, c.requires.u_bound, l)))
