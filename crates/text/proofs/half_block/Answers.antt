-- `text::half_block` meets its contract: four bytes that are ASCII may be skipped. Assumes nothing.
use native.Mathlib.Omega.{arith}
use borrow.Author.Rules.{rules}
use Rattle.text.proofs.AsciiLaws.{skip_low}
use Rattle.text.proofs.half_block.Goals as goal

pub returns-then-s-from-lt4 : goal.returns-then-s-from-lt4
returns-then-s-from-lt4 c = search rules

pub returns-then-four_ascii : goal.returns-then-four_ascii
returns-then-four_ascii c =
    let a = c.args in
    skip_low a.s.now a.from 4 (omega arith) (c.four_ascii.ensures c.if-four_ascii.true)

pub returns-else-four_ascii : goal.returns-else-four_ascii
returns-else-four_ascii c = search rules
