-- `judge::text_ok` meets its contract: each branch is a case of `text_word`. Assumes nothing.
-- a VisibleString, and the other three types
use Rattle.std.specs.Prelude.{Result, Ok, Err}
use mathlib.Core.Path.{◌≡◌, refl, ◌∙◌}
use mathlib.Core.Bool.{Bool, true, false, cond, not, ◌&&◌}
use mathlib.Core.List.{List}
use Prim.Native.Nat.{ℕ, ◌%◌}
use borrow.Author.Tests.{ne_eqb}
use lib.Dec.{eqb}
use lib.ListN.{length}
use Rattle.text.specs.Machine.{judge}
use Rattle.value.specs.declared.CodecFault.TheVariants.{Odd}
use Rattle.value.specs.Codec.{takes, text_is, text_word}
use Rattle.entry.specs.Rules.{is_good}
use Rattle.judge.proofs.text_ok.Goals as goal

visible : (t : ℕ) (s : List ℕ) → t ≡ 11 → is_good (judge s) ≡ takes (text_word t s)
unfolding text_word
visible t s e = rw e (go (judge s))
  where
    go : (j : Result (Unit {0}) ℕ) → is_good j ≡ takes (text_is (length s) j)
    go (Ok _) = refl
    go (Err k) = refl

other : (t : ℕ) (s : List ℕ) → (t ≡ 11 → ⊥) → not (eqb t 13 && eqb (length s % 2) 1) ≡ takes (text_word t s)
unfolding text_word
other t s h = rw (ne_eqb t 11 h) (go (eqb t 13 && eqb (length s % 2) 1))
  where
    go : (b : Bool) → not b ≡ takes (cond b (Err Odd) (Ok (length s)))
    go true = refl
    go false = refl

pub returns-then-t-eq11 : goal.returns-then-t-eq11
returns-then-t-eq11 c = c.is_good.ensures ∙ visible c.args.t c.args.s.now c.if-t-eq11.true

pub returns : goal.returns
returns c = other c.args.t c.args.s.now c.if-t-eq11.false
