-- `given::value_ok` meets its contract: by `value-exact`. Assumes nothing.
use Rattle.std.specs.Prelude.{Result, is_ok}
use mathlib.Core.Path.{◌≡◌, sym, ap, ◌∙◌}
use mathlib.Core.Bool.{Bool, cond, not, ◌&&◌, ◌||◌}
use mathlib.Core.List.{List}
use Prim.Native.Nat.{ℕ}
use native.Mathlib.Omega.{arith}
use lib.Dec.{eqb, leb}
use lib.ListN.{length}
use Rattle.value.specs.Codec.{is_text, exactly_of, exact}
use Rattle.value.specs.declared.Inexact.{Inexact}
use Rattle.given.specs.Given.{value_ok}
use Rattle.given.proofs.RightLaws.{value-exact}
use Rattle.given.proofs.value_ok.Goals as goal
use Rattle.given.proofs.value_ok.Goals.{After-is_err}

means : (c : After-is_err) → let a = c.args in let h = cond (is_text a.t) (length a.s.now) 0 in
    value_ok a.element a.t a.room a.s.now ≡ (exact a.t a.s.now && (leb a.room 1490 && (leb h a.room && (a.element || eqb a.room h))))
means c = let a = c.args in value-exact a.element a.t a.room a.s.now (λ i. omega (arith, c.type_inv.s i))

said : (t : ℕ) (s : List ℕ) (y : Result (Unit {0}) Inexact) (b : Bool) → y ≡ exactly_of t s → is_ok y ≡ not b → exact t s ≡ not b
unfolding exact
said t s y b e f = ap is_ok (sym e) ∙ f

told : (c : After-is_err) → exact c.args.t c.args.s.now ≡ not c.is_err.result
told c = said c.args.t c.args.s.now c.exactly.result c.is_err.result c.exactly.ensures c.is_err.ensures.negation

pub returns-then-is_err : goal.returns-then-is_err
returns-then-is_err c =
    let x = (goal.at.returns-then-is_err c).After-is_err in
    sym (means x ∙ rw (told x, c.if-is_err.true))

pub returns : goal.returns
returns c =
    let x = (goal.at.returns c).After-is_err in
    rw c.held_in-held.ensures (sym (means x ∙ rw (told x, c.if-is_err.false)))
