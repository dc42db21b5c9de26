-- `placing::fill_rooms` meets its contract. Assumes nothing.
use mathlib.Core.Path.{◌≡◌, sym, ap, ◌∙◌}
use mathlib.Core.List.{List}
use Rattle.entry.specs.Model.{Val, rooms}
use Prim.Native.Nat.{◌≤◌, ◌+◌}
use lib.ListN.{length}
use Rattle.given.specs.Given.{room_in, length_in, held_in, count_in}
use Rattle.given.proofs.GivenLaws.{rooms_more, lengths_more, rooms-laid, none_left, length-rooms, rooms_none, held_few}
use native.Mathlib.Omega.{arith}
use Rattle.placing.proofs.fill_rooms.Goals as goal
use Rattle.placing.proofs.fill_rooms.Goals.{In-loop-j, After-held_in-held}

fits : (c : In-loop-j) → (c.loop-j.p + room_in c.values.inside.vals.now c.loop-j.j ≤ length c.args.bytes.now) × (c.loop-j.t + length_in c.values.inside.vals.now c.loop-j.j ≤ length c.values.inside.encodings.now)
fits c =
    let a = c.args in
    let l = c.loop-j in (
      omega (arith, rooms_more c.values.inside.vals.now (count_in c.values.inside.vals.now) l.j c.loop-j-test.true, l.invariant.0, c.requires, sym (ap (λ (x : List Val). length (rooms x)) c.values.view_is) ∙ length-rooms _ _ _ _ _),
      omega (arith, lengths_more c.values.inside.vals.now (count_in c.values.inside.vals.now) l.j c.loop-j-test.true, l.invariant.1, c.values.invariant.encoded),
    )

-- how many bytes of its room the value takes
held-is : (c : After-held_in-held) → c.held_in-held.result ≡ held_in c.values.inside.vals.now c.loop-j.j
held-is c = rw (c.type_in.ensures, c.length_in-len.ensures) at c.held_in-held.ensures

pub fill_room-requires : goal.fill_room-requires
fill_room-requires c =
    let p = goal.at.fill_room-requires c in
    let f = fits p.In-loop-j in
    let r = c.room_in-room.ensures in
    let n = held-is p.After-held_in-held in
    (omega (arith, f.0, r), omega (arith, f.1, held_few c.values.inside.vals.now c.loop-j.j, n), omega (arith, c.values.invariant.within c.loop-j.j c.loop-j-test.true, n, r))

pub overflow_add-p : goal.overflow_add-p
overflow_add-p c = omega (arith, (fits (goal.at.overflow_add-p c).In-loop-j).0)

pub overflow_add-t : goal.overflow_add-t
overflow_add-t c = omega (arith, (fits (goal.at.overflow_add-t c).In-loop-j).1)

pub loop-j-preserved : goal.loop-j-preserved
loop-j-preserved c =
    let p = goal.at.loop-j-preserved c in
    let l = c.loop-j in
    let a = c.args in
    let h = c.loop-j-test.true in
    let n = held-is p.After-held_in-held in (
      omega (arith, rooms_more c.values.inside.vals.now (count_in c.values.inside.vals.now) l.j h, l.invariant.0),
      omega (arith, lengths_more c.values.inside.vals.now (count_in c.values.inside.vals.now) l.j h, l.invariant.1),
      l.invariant.2 ∙ rooms-laid c.values.inside.vals.now c.values.inside.encodings.now l.bytes (count_in c.values.inside.vals.now) l.j l.p l.t h (omega (arith, (fits p.In-loop-j).0)) ∙ rw (c.fill_room.ensures, n, c.room_in-room.ensures, c.length_in-len.ensures),
    )

pub returns : goal.returns
returns c = rw (sym c.values.view_is) (sym (c.loop-j.invariant.2 ∙ none_left _ _ _ (length-rooms _ _ _ _ _ ∙ rooms_none _ _ _ (omega arith))))
