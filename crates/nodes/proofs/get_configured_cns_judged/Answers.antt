-- `nodes::get_configured_cns_judged` meets its contract: the list is laid aside first, so that a short output stays as it was. Assumes nothing.
use Rattle.std.specs.Prelude.{Ok}
use mathlib.Core.Path.{◌≡◌, sym, ap, ap₂, ◌∙◌}
use borrow.Author.Tests.{lt-ltb, le-ltb}
use lib.ListN.{length, take}
use Rattle.lists.specs.Lists.{over}
use Rattle.entry.specs.Table.{dict}
use Rattle.nodes.specs.Nodes.{nodes_of, after_listing, cns_of}
use Rattle.nodes.proofs.NodeLaws.{nodes_lie}
use Rattle.nodes.proofs.get_configured_cns_judged.Goals as goal

pub lay_nodes-m-requires : goal.lay_nodes-m-requires
lay_nodes-m-requires c = rw (c.elements-span.ensures, sym c.d.view_is) (nodes_lie _ c.d.invariant)

pub returns-then-out-m : goal.returns-then-out-m
unfolding cns_of nodes_of
returns-then-out-m c =
    let counted : c.lay_nodes-m.result ≡ length (nodes_of (dict c.d.inside.objects.now c.d.inside.slots.now c.d.inside.words.now c.d.inside.bytes.now)) = rw (c.elements-span.ensures, sym c.d.view_is) at c.lay_nodes-m.ensures.count in
    rw (sym c.d.view_is) (simp (c.d.invariant, lt-ltb _ _ (rw counted at c.if-out-m.true)))

pub returns : goal.returns
unfolding cns_of nodes_of
returns c =
    let counted : c.lay_nodes-m.result ≡ length (nodes_of (dict c.d.inside.objects.now c.d.inside.slots.now c.d.inside.words.now c.d.inside.bytes.now)) = rw (c.elements-span.ensures, sym c.d.view_is) at c.lay_nodes-m.ensures.count in
    let laid : take c.lay_nodes-m.result c.lay_nodes-m.new.out ≡ nodes_of (dict c.d.inside.objects.now c.d.inside.slots.now c.d.inside.words.now c.d.inside.bytes.now) = rw (c.elements-span.ensures, sym c.d.view_is) at c.lay_nodes-m.ensures.laid in
    rw (sym c.d.view_is) (simp (c.d.invariant, le-ltb _ _ (rw counted at c.if-out-m.false)) (ap₂ (λ m out. after_listing (Ok m) out) counted (c.lay.ensures ∙ ap (over c.args.out.now 0) laid)))
