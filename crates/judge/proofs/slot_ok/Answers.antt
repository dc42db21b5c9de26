-- `judge::slot_ok` meets its contract: each branch is a case of it. Assumes nothing.
use native.Mathlib.Omega.{arith}
use borrow.Author.Tests.{eq-eqb, ne_eqb}
use Prim.Native.Nat.{◌-◌}
use mathlib.Core.Path.{sym}
use lib.Dec.{eqb, leb}
use lib.ListN.{drop}
use Rattle.entry.specs.Table.{type_at, start_at, room_at}
use Rattle.judge.proofs.RoomLaws.{behind, beyond, too_long}
use Rattle.judge.proofs.slot_ok.Goals as goal

pub returns-then-start-b : goal.returns-then-start-b
returns-then-start-b c = simp (ne_eqb _ _ (rw c.start-start.ensures at c.if-start-b.true))

pub returns-then-room-gt1490 : goal.returns-then-room-gt1490
returns-then-room-gt1490 c =
    let a = c.args in
    let s = a.slot.now.slots in
    let p = a.slot.now.p in
    sym (too_long (eqb (start_at s p) a.b) (leb (room_at s p) (a.used - a.b)) (type_at s p) a.w (room_at s p) (drop a.b a.bytes.now) (omega (arith, c.room-room.ensures, c.if-room-gt1490.true)))

pub overflow_add-b : goal.overflow_add-b
overflow_add-b c = omega (arith, c.if-room-gt1490.false, c.requires)

pub returns-then-used-b : goal.returns-then-used-b
returns-then-used-b c =
    simp (eq-eqb _ _ (rw c.start-start.ensures at c.if-start-b.false), beyond (room_at c.args.slot.now.slots c.args.slot.now.p) c.args.b c.args.used (omega (arith, c.requires)) (omega (arith, c.if-used-b.true, c.room-room.ensures)))

pub val_ok-requires-clause-w_in_bounds : goal.val_ok-requires-clause-w_in_bounds
val_ok-requires-clause-w_in_bounds c = λ h t. omega (arith, h, c.if-used-b.false, c.requires)

pub val_ok-requires-clause-room_bound : goal.val_ok-requires-clause-room_bound
val_ok-requires-clause-room_bound c = c.if-room-gt1490.false

pub returns : goal.returns
returns c =
    simp (eq-eqb _ _ (rw c.start-start.ensures at c.if-start-b.false), behind (room_at c.args.slot.now.slots c.args.slot.now.p) c.args.b c.args.used (omega (arith, c.if-used-b.false, c.room-room.ensures)))
    (rw (c.value_type-t.ensures, c.room-room.ensures) at c.val_ok.ensures)
