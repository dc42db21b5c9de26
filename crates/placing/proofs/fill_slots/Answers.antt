-- `placing::fill_slots` meets its contract. Assumes nothing.
use mathlib.Core.Path.{sym, ◌∙◌}
use native.Mathlib.Omega.{arith}
use Prim.Native.Nat.{◌≤◌, ◌+◌}
use Rattle.given.specs.Given.{room_in}
use Rattle.given.proofs.GivenLaws.{rooms_more, slots_more, none_left, length-slots_in}
use Rattle.placing.proofs.fill_slots.Goals as goal
use Rattle.placing.proofs.fill_slots.Goals.{In-loop-j}

room_fits : (c : In-loop-j) → c.loop-j.start + room_in c.args.vals.now c.loop-j.j ≤ 32768
room_fits c = omega (arith, rooms_more c.args.vals.now c.args.u c.loop-j.j c.loop-j-test.true, c.loop-j.invariant.0, c.requires.u_bound_2)

pub overflow_add-start : goal.overflow_add-start
overflow_add-start c = omega (arith, room_fits (goal.at.overflow_add-start c).In-loop-j)

pub loop-j-preserved : goal.loop-j-preserved
loop-j-preserved c =
    let l = c.loop-j in
    let a = c.args in (
      omega (arith, rooms_more a.vals.now a.u l.j c.loop-j-test.true, l.invariant.0),
      l.invariant.1 ∙ slots_more a.vals.now l.slots a.v a.u l.j l.start (omega arith) (omega arith) ∙ rw (c.set_slot.ensures, c.type_in.ensures, c.room_in-room.ensures),
    )

pub returns : goal.returns
returns c = sym (c.loop-j.invariant.1 ∙ none_left _ _ _ (length-slots_in _ _ _ _ ∙ omega arith))
