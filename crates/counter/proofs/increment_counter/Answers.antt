-- `counter::increment_counter` meets its contract: the dictionary is judged, then counted in. Assumes nothing.
use Rattle.std.proofs.Common.{sym, ◌∙◌}
use Rattle.counter.specs.Counter.{counter_of}
use Rattle.counter.proofs.increment_counter.Goals as goal

pub returns-then-not-well_formed : goal.returns-then-not-well_formed
unfolding counter_of
returns-then-not-well_formed c = simp (sym c.well_formed-2.ensures ∙ c.if-not-well_formed.true)
