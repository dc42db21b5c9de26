-- `nodes::lay_nodes` meets its contract: an element that was looked at is laid or not. Assumes nothing.
use Prim.Native.Nat.{◌+◌, zero-le}
use mathlib.Core.Path.{◌≡◌, sym, ap, ◌∙◌}
use lib.ListN.{length, get_or}
use Rattle.lists.specs.Lists.{over}
use Rattle.lists.proofs.ListLaws.{over_none, over_read}
use Rattle.nodes.proofs.NodeLaws.{laid_yes, laid-no, walked_end, rest_end}
use native.Mathlib.Omega.{arith}
use Rattle.nodes.specs.Nodes.{configured, nodes_from}
use Rattle.nodes.proofs.lay_nodes.Goals as goal
use Rattle.nodes.proofs.lay_nodes.Goals.{then-is_configured, else-is_configured}

pub loop-k-preserved : goal.loop-k-preserved
loop-k-preserved c =
    elim c.if-is_configured.branch [
      | then-is_configured w ↦
          laid_yes c.args.slots.now c.args.words.now c.args.count c.args.first c.args.out.now c.loop-k.out c.loop-k.m c.loop-k.k c.if-is_configured.out c.if-is_configured.m c.loop-k.invariant (omega arith)
          (ap (λ t. configured t (get_or c.args.words.now (c.args.first + c.loop-k.k) 0)) (sym c.value_type.ensures) ∙ sym c.is_configured.ensures ∙ w.if-is_configured.true) (omega (arith, c.loop-k.invariant.walked.below, c.loop-k.invariant.same, c.requires.few)) w.out-is w.m-is
      | else-is_configured w ↦
          laid-no c.args.slots.now c.args.words.now c.args.count c.args.first c.args.out.now c.loop-k.out c.loop-k.m c.loop-k.k c.if-is_configured.out c.if-is_configured.m c.loop-k.invariant (omega arith)
          (ap (λ t. configured t (get_or c.args.words.now (c.args.first + c.loop-k.k) 0)) (sym c.value_type.ensures) ∙ sym c.is_configured.ensures ∙ w.if-is_configured.false) w.out-is w.m-is
    ]

pub returns-clause-count : goal.returns-clause-count
returns-clause-count c = walked_end c.args.slots.now c.args.words.now c.args.count c.args.first _ _ c.loop-k.invariant.walked (omega arith)

pub returns-clause-bound : goal.returns-clause-bound
returns-clause-bound c = omega (arith, c.loop-k.invariant.walked.below, c.requires.few)

pub returns-clause-laid : goal.returns-clause-laid
returns-clause-laid c =
    let a = c.args in
    let l = c.loop-k in
    let found = nodes_from a.slots.now a.words.now a.count 1 a.first in
    let counted : l.m ≡ length found = walked_end a.slots.now a.words.now a.count a.first _ _ l.invariant.walked (omega arith) in
    let laid : l.out ≡ over a.out.now 0 found = sym (over_none l.out l.m) ∙ ap (over l.out l.m) (sym (rest_end a.slots.now a.words.now a.count a.first l.k (omega arith))) ∙ l.invariant.laid in
    rw (counted, laid) (over_read a.out.now 0 found zero-le)
