-- `judge::val_ok` meets its contract: each branch is a case of `val_ok`. Assumes nothing.
use borrow.Author.Tests.{le-leb, lt-leb}
use mathlib.Core.Path.{sym, ◌∙◌}
use native.Mathlib.Nat.{add-sub_cancel_left}
use native.Mathlib.Omega.{arith}
use Rattle.entry.specs.Rules.{word_ok, val_ok}
use Rattle.judge.proofs.val_ok.Goals as goal

pub returns-then-t-gt20 : goal.returns-then-t-gt20
unfolding val_ok
returns-then-t-gt20 c = simp (lt-leb _ _ c.if-t-gt20.true)

pub returns-then-room-w : goal.returns-then-room-w
unfolding val_ok word_ok
returns-then-room-w c =
    simp (le-leb _ _ c.if-t-gt20.false, le-leb _ _ c.requires.room_bound, sym c.is_text.ensures ∙ c.if-is_text.true, lt-leb _ _ c.if-room-w.true)

pub overflow_add-end : goal.overflow_add-end
overflow_add-end c = omega (arith, c.requires.w_in_bounds c.if-room-w.false (sym c.is_text.ensures ∙ c.if-is_text.true))

pub slice_bounds-text_ok-end : goal.slice_bounds-text_ok-end
slice_bounds-text_ok-end c = omega (arith, c.requires.w_in_bounds c.if-room-w.false (sym c.is_text.ensures ∙ c.if-is_text.true))

pub returns-then-is_text : goal.returns-then-is_text
unfolding val_ok word_ok
returns-then-is_text c =
    simp (le-leb _ _ c.if-t-gt20.false, le-leb _ _ c.requires.room_bound, sym c.is_text.ensures ∙ c.if-is_text.true, le-leb _ _ c.if-room-w.false) (rw add-sub_cancel_left at c.text_ok.ensures)

pub returns : goal.returns
unfolding val_ok word_ok
returns c =
    simp (le-leb _ _ c.if-t-gt20.false, le-leb _ _ c.requires.room_bound, sym c.is_text.ensures ∙ c.if-is_text.false) c.fits.ensures
