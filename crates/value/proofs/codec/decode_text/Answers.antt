-- `value::codec::decode_text` meets its contract: each branch is a case of `text_word`. Assumes nothing.
use borrow.Author.Tests.{eq-eqb, ne_eqb}
use mathlib.Core.Path.{sym, ◌∙◌}
use Rattle.value.specs.Codec.{text_word}
use Rattle.value.proofs.codec.decode_text.Goals as goal

pub returns-in-Ok : goal.returns-in-Ok
unfolding text_word
returns-in-Ok c =
    simp (eq-eqb _ _ c.if-t-eq11.true, sym c.text_ok.ensures ∙ c.in-Ok.is)

pub returns-in-Err : goal.returns-in-Err
unfolding text_word
returns-in-Err c =
    simp (eq-eqb _ _ c.if-t-eq11.true, sym c.text_ok.ensures ∙ c.in-Err.is)

pub returns-then-t-odd : goal.returns-then-t-odd
unfolding text_word
returns-then-t-odd c = simp (ne_eqb _ _ c.if-t-eq11.false, c.if-t-odd.true)

pub returns : goal.returns
unfolding text_word
returns c = simp (ne_eqb _ _ c.if-t-eq11.false, c.if-t-odd.false)
