-- `judge::row_ok` meets its contract: it asks what `row_ok` asks. Assumes nothing.
use Rattle.entry.specs.Judge.{row_ok}
use Rattle.judge.proofs.row_ok.Goals as goal

pub returns : goal.returns
unfolding row_ok
returns c = rw (c.extra_ok.ensures, c.extra.ensures, c.name-name.ensures, c.first-first.ensures, c.head_ok-head.ensures, c.name_len.ensures, c.default.ensures, c.access.ensures, c.kind.ensures, c.count-count.ensures, c.index-index.ensures)
