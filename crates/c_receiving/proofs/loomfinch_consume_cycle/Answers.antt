-- `c_receiving::loomfinch_consume_cycle` meets its contract: the answer as its number, and what the call leaves. Assumes nothing.
use mathlib.Core.Path.{ap, ◌∙◌}
use Rattle.entry.specs.Put.{contents}
use Rattle.pdo_cycle.specs.Cycle.{AfterCycle}
use Rattle.c_receiving.specs.Receiving.{Counted, heard, cycle_numbers}
use Rattle.c_receiving.proofs.loomfinch_consume_cycle.Goals as goal

pub returns : goal.returns
unfolding cycle_numbers
returns c =
    let l = c.consume_cycle-a.new in
    ap (λ (t : Counted). heard t.answer (contents l.words l.bytes) l.log t.consumed t.count) c.cycled.ensures
    ∙ ap (λ (a : AfterCycle). cycle_numbers a c.args.consumed.now c.args.count.now) c.consume_cycle-a.ensures
