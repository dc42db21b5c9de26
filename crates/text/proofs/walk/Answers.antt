-- `text::walk` meets its contract. The loop's invariant: the answer from here, in this state, is the answer from the start. Assumes nothing.
use borrow.Author.Rules.{rules}
use Prim.Native.Nat.{◌+◌}
use mathlib.Core.Path.{◌≡◌, refl, sym, ap, ◌∙◌}
use mathlib.Core.List.{[]}
use native.Mathlib.Omega.{arith}
use native.Mathlib.Nat.{le_refl}
use borrow.Author.Tests.{ltb-true}
use Rattle.std.specs.Option.{option_map}
use Rattle.text.specs.Tables.{asks}
use Rattle.text.proofs.Laws.{turn, more, whole, early}
use Rattle.text.proofs.walk.Goals as goal

pub loop-i-init : goal.loop-i-init
unfolding asks
loop-i-init c = (search rules, omega arith, refl)

pub bounds-s-i : goal.bounds-s-i
bounds-s-i c = omega arith

pub overflow_add-i : goal.overflow_add-i
overflow_add-i c = omega arith

pub ascii-i-requires : goal.ascii-i-requires
ascii-i-requires c = omega arith

pub loop-i-smaller-then-b-lt128 : goal.loop-i-smaller-then-b-lt128
loop-i-smaller-then-b-lt128 c = omega arith

pub loop-i-preserved-then-b-lt128 : goal.loop-i-preserved-then-b-lt128
unfolding asks
loop-i-preserved-then-b-lt128 c =
    let l = c.loop-i in
    let s = c.args.s.now in
    let z : asks l.q ≡ [] = ap asks c.if-q-eq0.true in
    let k = more s l.i l.i (l.i + 1) (record { on = le_refl _; inside = omega arith; same = refl }) refl (omega arith) (omega (arith, ltb-true)) in
    (omega arith, omega arith, cc)

pub returns-in_default : goal.returns-in_default
returns-in_default c =
    let l = c.loop-i in
    let s = c.args.s.now in
    sym (turn s l.i (omega arith) (asks l.q) (sym c.next.ensures.state ∙ ap (option_map asks) c.in_default.is)) ∙ l.invariant.2

pub overflow_add-i-else-q-eq0 : goal.overflow_add-i-else-q-eq0
overflow_add-i-else-q-eq0 c = omega arith

pub loop-i-smaller : goal.loop-i-smaller
loop-i-smaller c = omega arith

pub loop-i-preserved : goal.loop-i-preserved
loop-i-preserved c =
    let l = c.loop-i in
    let s = c.args.s.now in (
      omega arith,
      c.in-Some.ensures.bound,
      sym (turn s l.i (omega arith) (asks l.q) (sym c.next.ensures.state ∙ ap (option_map asks) c.in-Some.is)) ∙ l.invariant.2,
    )

pub returns-then-q-eq0-2 : goal.returns-then-q-eq0-2
returns-then-q-eq0-2 c =
    let l = c.loop-i in
    sym (whole c.args.s.now l.i l.q (omega arith) c.if-q-eq0-2.true) ∙ l.invariant.2

pub returns-else-q-eq0-2 : goal.returns-else-q-eq0-2
returns-else-q-eq0-2 c =
    let l = c.loop-i in
    sym (early c.args.s.now l.i l.q (omega arith) c.if-q-eq0-2.false l.invariant.1) ∙ l.invariant.2
