-- `text::part_ok` meets its contract: ASCII is text, and of the rest `text_ok` answers. Assumes nothing.
use mathlib.Core.Path.{sym}
use Rattle.text.proofs.AsciiLaws.{low_good}
use Rattle.text.proofs.part_ok.Goals as goal

pub returns-then-short_ascii : goal.returns-then-short_ascii
returns-then-short_ascii c = sym (low_good c.args.s.now (c.short_ascii.ensures c.if-short_ascii.true))
