-- `commands::laying::lay` meets its contract: each row is laid behind the one before it. Assumes nothing.
use Rattle.std.proofs.Common.{arith, refl, sym, ap, ◌∙◌, length}
use Rattle.entry.specs.Table.{dict}
use Rattle.entry.proofs.ValueLaws.{rows_of, row_lies}
use Rattle.image.specs.Image.{bodies}
use Rattle.commands.specs.Save.{recs_laid}
use Rattle.commands.proofs.ImageLaws.{laid_none}
use Rattle.commands.proofs.OfferLaws.{offered_from_lem, offered_end}
use Rattle.commands.proofs.WalkLaws.{turned, spanned, laid_rows}
use Rattle.commands.proofs.laying.lay.Goals as goal

pub rows_in-rows-requires : goal.rows_in-rows-requires
rows_in-rows-requires c = rows_of (dict c.d.inside.objects.now c.d.inside.slots.now c.d.inside.words.now c.d.inside.bytes.now) c.d.invariant

pub loop-i-init : goal.loop-i-init
loop-i-init c =
    let e = offered_from_lem c.args.d.now c.args.first c.args.last (spanned _ _ c.d.view_is _ _ c.rows_in-rows.ensures) in (
      (spanned _ _ c.d.view_is _ _ c.rows_in-rows.ensures).low.within,
      omega (arith, ap length e),
      omega (arith, ap (λ rs. length (bodies rs)) e),
      ap (recs_laid c.args.store.now 2 c.args.bodies_at 0) (sym e),
    )

pub invariant_of-to_store : goal.invariant_of-to_store
invariant_of-to_store c =
    let l = row_lies (dict c.d.inside.objects.now c.d.inside.slots.now c.d.inside.words.now c.d.inside.bytes.now) c.d.invariant c.loop-i.i (omega (arith, c.rows_in-rows.ensures.high.within)) in
    (l.small, l.inside)

pub lay_row-start-requires-clause-row : goal.lay_row-start-requires-clause-row
lay_row-start-requires-clause-row c =
    let t = turned _ _ c.d.view_is c.d.invariant c.args.first c.args.last c.rows_in-rows.ensures c.loop-i.i _ c.loop-i.auto.i c.loop-i-test.true c.to_store-n.ensures in
    (t.row, omega (arith, t))

pub lay_row-start-requires-clause-room : goal.lay_row-start-requires-clause-room
lay_row-start-requires-clause-room c =
    let t = turned _ _ c.d.view_is c.d.invariant c.args.first c.args.last c.rows_in-rows.ensures c.loop-i.i _ c.loop-i.auto.i c.loop-i-test.true c.to_store-n.ensures in
    omega (arith, t)

pub overflow_mul-at : goal.overflow_mul-at
overflow_mul-at c =
    let t = turned _ _ c.d.view_is c.d.invariant c.args.first c.args.last c.rows_in-rows.ensures c.loop-i.i _ c.loop-i.auto.i c.loop-i-test.true c.to_store-n.ensures in
    omega (arith, t)

pub overflow_add-at : goal.overflow_add-at
overflow_add-at c =
    let t = turned _ _ c.d.view_is c.d.invariant c.args.first c.args.last c.rows_in-rows.ensures c.loop-i.i _ c.loop-i.auto.i c.loop-i-test.true c.to_store-n.ensures in
    omega (arith, t)

pub loop-i-preserved : goal.loop-i-preserved
loop-i-preserved c =
    let d = c.args.d.now in
    let l = c.loop-i in
    let t = turned _ _ c.d.view_is c.d.invariant c.args.first c.args.last c.rows_in-rows.ensures c.loop-i.i _ c.loop-i.auto.i c.loop-i-test.true c.to_store-n.ensures in (
      omega (arith, t),
      omega (arith, t),
      omega (arith, t),
      sym (laid_rows d c.args.first c.args.last l.i t.below _ t.offer l.store _ l.at _ c.args.bodies_at l.start _ (omega (arith, t)) (omega (arith, t)) refl c.lay_row-start.ensures.value c.lay_row-start.ensures.store_after) ∙ l.invariant.3,
    )

pub returns : goal.returns
returns c =
    let d = c.args.d.now in
    let l = c.loop-i in
    sym (laid_none l.store l.at c.args.bodies_at l.start _ (offered_end d c.args.first c.args.last (spanned _ _ c.d.view_is _ _ c.rows_in-rows.ensures) l.i (omega arith) l.invariant.0)) ∙ l.invariant.3
