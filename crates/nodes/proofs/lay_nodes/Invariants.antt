-- `nodes::lay_nodes` meets its contract. The loop's invariant: what is found from here, laid over what was written, is the whole laid over
-- what was lent. Assumes nothing.
use Rattle.nodes.proofs.NodeLaws.{Laid}
use Rattle.nodes.proofs.lay_nodes.Given as goal

abbrev pub invariant-loop-k : goal.invariant-loop-k
invariant-loop-k l = Laid l.slots l.words l.count l.first l.initial.out l.out l.m l.k
