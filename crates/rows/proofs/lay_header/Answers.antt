-- `rows::lay_header` meets its contract. Assumes nothing.
use Rattle.entry.specs.Model.{all_words, all_bytes}
use Rattle.rows.proofs.lay_header.Goals as goal

pub returns : goal.returns
unfolding all_words all_bytes
returns c = c.lay.ensures
