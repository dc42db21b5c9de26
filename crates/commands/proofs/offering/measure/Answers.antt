-- `commands::offering::measure` meets its contract: what was counted and what the rows from here on offer make up the whole. Assumes nothing.
use Rattle.std.proofs.Common.{arith, ap, ap₂, length}
use Rattle.entry.specs.Table.{dict}
use Rattle.entry.proofs.ValueLaws.{rows_of, row_lies}
use Rattle.image.specs.Image.{bodies}
use Rattle.commands.proofs.OfferLaws.{offered_from_lem}
use Rattle.commands.proofs.WalkLaws.{turned, spanned, records_end, bytes_end}
use Rattle.commands.proofs.offering.measure.Goals as goal

pub rows_in-rows-requires : goal.rows_in-rows-requires
rows_in-rows-requires c = rows_of (dict c.d.inside.objects.now c.d.inside.slots.now c.d.inside.words.now c.d.inside.bytes.now) c.d.invariant

pub loop-i-init : goal.loop-i-init
loop-i-init c =
    let e = offered_from_lem c.args.d.now c.args.first c.args.last (spanned _ _ c.d.view_is _ _ c.rows_in-rows.ensures) in
    ((spanned _ _ c.d.view_is _ _ c.rows_in-rows.ensures).low.within, omega arith, omega arith, omega (arith, ap length e), omega (arith, ap (λ rs. length (bodies rs)) e))

pub invariant_of-to_store : goal.invariant_of-to_store
invariant_of-to_store c =
    let l = row_lies (dict c.d.inside.objects.now c.d.inside.slots.now c.d.inside.words.now c.d.inside.bytes.now) c.d.invariant c.loop-i.i (omega (arith, c.rows_in-rows.ensures.high.within)) in
    (l.small, l.inside)

pub row_bytes-requires : goal.row_bytes-requires
row_bytes-requires c =
    (turned _ _ c.d.view_is c.d.invariant c.args.first c.args.last c.rows_in-rows.ensures c.loop-i.i _ c.loop-i.auto.i c.loop-i-test.true c.to_store-n.ensures).row

pub overflow_add-size : goal.overflow_add-size
overflow_add-size c =
    let t = turned _ _ c.d.view_is c.d.invariant c.args.first c.args.last c.rows_in-rows.ensures c.loop-i.i _ c.loop-i.auto.i c.loop-i-test.true c.to_store-n.ensures in
    omega (arith, t)

pub overflow_add-size-in-loop-i : goal.overflow_add-size-in-loop-i
overflow_add-size-in-loop-i c =
    let t = turned _ _ c.d.view_is c.d.invariant c.args.first c.args.last c.rows_in-rows.ensures c.loop-i.i _ c.loop-i.auto.i c.loop-i-test.true c.to_store-n.ensures in
    omega (arith, t)

pub loop-i-preserved : goal.loop-i-preserved
loop-i-preserved c =
    let t = turned _ _ c.d.view_is c.d.invariant c.args.first c.args.last c.rows_in-rows.ensures c.loop-i.i _ c.loop-i.auto.i c.loop-i-test.true c.to_store-n.ensures in
    (omega (arith, t), omega (arith, t), omega (arith, t), omega (arith, t), omega (arith, t))

pub returns : goal.returns
returns c =
    let d = c.args.d.now in
    let h = records_end d c.args.first c.args.last (spanned _ _ c.d.view_is _ _ c.rows_in-rows.ensures) c.loop-i.i (omega arith) c.loop-i.invariant.0 in
    let b = bytes_end d c.args.first c.args.last (spanned _ _ c.d.view_is _ _ c.rows_in-rows.ensures) c.loop-i.i (omega arith) c.loop-i.invariant.0 in
    ap₂ (λ m b. record { records = m; bytes = b }) (omega (arith, h)) (omega (arith, b))
