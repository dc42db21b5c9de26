-- `commands::offering::row_bytes` meets its contract: what was counted and what is left make up the whole. Assumes nothing.
use Rattle.std.proofs.Common.{sym, arith}
use Rattle.entry.specs.Table.{dict}
use Rattle.entry.proofs.ValueLaws.{row_lies}
use Rattle.commands.proofs.WalkLaws.{left_step, left_end, value_few, value_there, value-length, value_small}
use Rattle.commands.proofs.offering.row_bytes.Goals as goal

pub invariant_of-first : goal.invariant_of-first
invariant_of-first c =
    let l = row_lies (dict c.d.inside.objects.now c.d.inside.slots.now c.d.inside.words.now c.d.inside.bytes.now) c.d.invariant c.args.i (rw (sym c.d.view_is) at c.requires.below) in
    (l.small, l.inside)

pub overflow_add-first : goal.overflow_add-first
overflow_add-first c =
    omega (arith, value_there _ _ c.d.view_is c.d.invariant c.args.i c.args.n c.requires c.loop-k.k c.loop-k-test.true _ c.first-first.ensures)

pub length_at-sum-requires : goal.length_at-sum-requires
length_at-sum-requires c =
    value_there _ _ c.d.view_is c.d.invariant c.args.i c.args.n c.requires c.loop-k.k c.loop-k-test.true _ c.first-first.ensures

pub overflow_add-sum : goal.overflow_add-sum
overflow_add-sum c =
    let small = value_small _ _ c.d.view_is c.d.invariant c.args.i c.args.n c.requires c.loop-k.k c.loop-k-test.true _ c.first-first.ensures _ c.length_at-sum.ensures in
    omega (arith, small, value_few _ _ c.d.view_is c.d.invariant c.args.i c.args.n c.requires c.loop-k.k c.loop-k-test.true _ c.first-first.ensures)

pub loop-k-preserved : goal.loop-k-preserved
loop-k-preserved c =
    let small = value_small _ _ c.d.view_is c.d.invariant c.args.i c.args.n c.requires c.loop-k.k c.loop-k-test.true _ c.first-first.ensures _ c.length_at-sum.ensures in
    let long = value-length _ _ c.d.view_is c.d.invariant c.args.i c.args.n c.requires c.loop-k.k c.loop-k-test.true _ c.first-first.ensures _ c.length_at-sum.ensures in
    (omega (arith, small), omega (arith, long, left_step c.args.d.now c.args.i c.args.n c.loop-k.k c.loop-k-test.true))

pub returns : goal.returns
returns c = omega (arith, left_end c.args.d.now c.args.i c.args.n c.loop-k.k (omega arith))
