-- `given::vals_in` meets its contract. Assumes nothing.
use Rattle.std.specs.Prelude.{None}
use mathlib.Core.Path.{◌≡◌, sym, ◌∙◌}
use mathlib.Core.Bool.{true, cond, ◌&&◌}
use Prim.Native.Nat.{◌-◌, ◌+◌}
use borrow.Author.Tests.{eq-eqb, ne_eqb, lt-leb, le-leb}
use lib.Dec.{leb, ltb}
use lib.ListN.{length, take, drop}
use Rattle.given.specs.Given.{type_in, room_in, length_in, value_ok, vals_in}
use Rattle.given.proofs.RightLaws.{vals_step, vals_end, value_room}
use native.Mathlib.Nat.{add-sub_cancel_left}
use native.Mathlib.Omega.{arith}
use Rattle.given.proofs.vals_in.Goals as goal
use Rattle.given.proofs.vals_in.Goals.{In-loop-j, After-value_ok, Else-left-len}

step : (c : In-loop-j) → let a = c.args in let l = c.loop-j in
    vals_in a.vals.now a.encodings.now a.count a.u 0 0 a.g ≡ cond (leb (length_in a.vals.now l.j) (length a.encodings.now - l.t) && value_ok (ltb l.j a.count) (type_in a.vals.now l.j) (room_in a.vals.now l.j) (take (length_in a.vals.now l.j) (drop l.t a.encodings.now))) (vals_in a.vals.now a.encodings.now a.count (a.u - (l.j + 1)) (l.j + 1) (l.t + length_in a.vals.now l.j) (l.size + room_in a.vals.now l.j)) None
step c =
    let a = c.args in
    let l = c.loop-j in
    l.invariant.2 ∙ vals_step a.vals.now a.encodings.now a.count a.u l.j l.t l.size c.loop-j-test.true

-- what the tests before and at the value say
known : (c : After-value_ok) → let a = c.args in let l = c.loop-j in
    c.value_ok.result ≡ value_ok (ltb l.j a.count) (type_in a.vals.now l.j) (room_in a.vals.now l.j) (take (length_in a.vals.now l.j) (drop l.t a.encodings.now))
known c = rw (add-sub_cancel_left, c.type_in-kind.ensures, c.room_in-room.ensures, c.length_in-len.ensures) at c.value_ok.ensures

within : (c : Else-left-len) → leb (length_in c.args.vals.now c.loop-j.j) (length c.args.encodings.now - c.loop-j.t) ≡ true
within c = le-leb _ _ (rw c.length_in-len.ensures at c.if-left-len.false)

pub returns-then-left-len : goal.returns-then-left-len
returns-then-left-len c =
    sym (step (goal.at.returns-then-left-len c).In-loop-j ∙ simp (lt-leb _ _ (rw c.length_in-len.ensures at c.if-left-len.true)))

pub returns-then-not-value_ok : goal.returns-then-not-value_ok
returns-then-not-value_ok c =
    let p = goal.at.returns-then-not-value_ok c in
    sym (step p.In-loop-j ∙ simp (within p.Else-left-len, sym (known p.After-value_ok) ∙ c.if-not-value_ok.true))

pub overflow_add-size : goal.overflow_add-size
overflow_add-size c = omega (arith, c.loop-j.invariant.1, value_room _ _ _ _ (sym c.value_ok.ensures ∙ c.if-not-value_ok.false), c.requires)

pub loop-j-preserved : goal.loop-j-preserved
loop-j-preserved c =
    let p = goal.at.loop-j-preserved c in
    let v = sym (known p.After-value_ok) ∙ c.if-not-value_ok.false in
    let n = c.length_in-len.ensures in
    let r = c.room_in-room.ensures in (
      omega (arith, c.if-left-len.false, c.loop-j.invariant.0),
      omega (arith, c.loop-j.invariant.1, value_room _ _ _ _ v, r),
      rw (n, r) (step p.In-loop-j ∙ simp (within p.Else-left-len, v)),
    )

pub returns-then-t-encodings : goal.returns-then-t-encodings
returns-then-t-encodings c = sym (c.loop-j.invariant.2 ∙ vals_end _ _ _ _ _ _ _ (omega arith) ∙ simp (eq-eqb _ _ c.if-t-encodings.true))

pub returns : goal.returns
returns c = sym (c.loop-j.invariant.2 ∙ vals_end _ _ _ _ _ _ _ (omega arith) ∙ simp (ne_eqb _ _ c.if-t-encodings.false))
