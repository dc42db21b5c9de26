-- `judge::header_ok` meets its contract: each branch is a case of `header_ok`. Assumes nothing.
use borrow.Author.Tests.{le-leb, lt-leb}
use mathlib.Core.Path.{sym}
use Rattle.entry.specs.Judge.{header_ok}
use Rattle.entry.proofs.WalkLaws.{header_short, header-rest}
use Rattle.judge.proofs.header_ok.Goals as goal

pub returns-then-objects-lt12 : goal.returns-then-objects-lt12
returns-then-objects-lt12 c = sym (header_short _ c.if-objects-lt12.true)

pub returns-then-n-gt1024 : goal.returns-then-n-gt1024
unfolding header_ok
returns-then-n-gt1024 c = simp (lt-leb _ _ (rw c.number_of-n.ensures at c.if-n-gt1024.true))

pub returns-then-objects-row_place : goal.returns-then-objects-row_place
unfolding header_ok
returns-then-objects-row_place c =
    let n = c.number_of-n.ensures in
    simp (le-leb _ _ (rw n at c.if-n-gt1024.false), lt-leb _ _ (rw (c.row_place.ensures, n) at c.if-objects-row_place.true))

pub returns-then-m-gt6144 : goal.returns-then-m-gt6144
unfolding header_ok
returns-then-m-gt6144 c =
    let n = c.number_of-n.ensures in
    simp (le-leb _ _ (rw n at c.if-n-gt1024.false), le-leb _ _ (rw (c.row_place.ensures, n) at c.if-objects-row_place.false), lt-leb _ _ (rw c.values_of-m.ensures at c.if-m-gt6144.true))

pub returns : goal.returns
returns c =
    let n = c.number_of-n.ensures in
    let m = c.values_of-m.ensures in
    rw (c.slot_place.ensures, m, c.used_of-b.ensures, c.reserved.ensures)
    (sym (header-rest _ (rw n at c.if-n-gt1024.false) (rw (c.row_place.ensures, n) at c.if-objects-row_place.false) (rw m at c.if-m-gt6144.false)))
