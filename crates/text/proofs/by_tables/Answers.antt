-- `text::by_tables` meets its contract. Here antt computes the rule of the two tables, at every byte in every state: `tt`. Assumes nothing.
use Rattle.text.specs.Tables.{tables}
use Rattle.text.proofs.by_tables.Goals as goal

pub walk-requires-clause-t : goal.walk-requires-clause-t
unfolding tables
walk-requires-clause-t c = tt
