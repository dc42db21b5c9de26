-- `od::empty::new` meets its contract. Assumes nothing.
use Rattle.std.specs.Prelude.{Ok}
use mathlib.Core.Path.{◌≡◌, refl, sym, ap, ◌∙◌}
use mathlib.Core.Bool.{Bool, true, false, not, ◌&&◌, ◌||◌}
use Prim.Native.Nat.{ℕ}
use borrow.Author.Tests.{lt-ltb, le-ltb, not-true, not-false}
use lib.Dec.{eqb}
use Rattle.entry.specs.Rules.{is_edition}
use Rattle.od.specs.New.{made}
use Rattle.od.proofs.empty.new.Goals as goal

-- neither 1 nor 2 is no edition
no-edition : (e : ℕ) → (not (eqb e 1) && not (eqb e 2)) ≡ not (is_edition e)
unfolding is_edition
no-edition e = go (eqb e 1) (eqb e 2)
  where
    go : (a b : Bool) → (not a && not b) ≡ not (a || b)
    go true b = refl
    go false b = refl

an-edition : (e : ℕ) → (not (eqb e 1) && not (eqb e 2)) ≡ false → is_edition e ≡ true
an-edition e h = not-false (is_edition e) (sym (no-edition e) ∙ h)

pub returns-then-edition : goal.returns-then-edition
returns-then-edition c = simp (not-true (is_edition c.args.edition) (sym (no-edition c.args.edition) ∙ c.if-edition.true))

pub returns-then-objects-header : goal.returns-then-objects-header
returns-then-objects-header c = simp (an-edition c.args.edition c.if-edition.false, lt-ltb _ _ (rw c.row_place-header.ensures at c.if-objects-header.true))

pub returns : goal.returns
returns c = simp (an-edition c.args.edition c.if-edition.false, le-ltb _ _ (rw c.row_place-header.ensures at c.if-objects-header.false)) (ap (made (Ok tt)) c.lay_header.ensures)
