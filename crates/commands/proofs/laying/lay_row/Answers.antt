-- `commands::laying::lay_row` meets its contract: each value is laid behind the one before it. Assumes nothing.
use Rattle.std.proofs.Common.{arith, refl, sym, ◌∙◌}
use Rattle.commands.proofs.ImageLaws.{laid_none}
use Rattle.commands.proofs.OfferLaws.{recs_end, one_body}
use Rattle.commands.proofs.WalkLaws.{left_step, left_end, laid_more}
use Rattle.commands.proofs.laying.lay_row.Goals as goal

pub lay_value-s-requires-clause-room : goal.lay_value-s-requires-clause-room
lay_value-s-requires-clause-room c =
    let d = c.args.d.now in
    omega (arith, left_step d c.args.i c.args.n c.loop-k.k c.loop-k-test.true, one_body d c.args.i c.loop-k.k)

pub overflow_add-s : goal.overflow_add-s
overflow_add-s c =
    let d = c.args.d.now in
    omega (arith, left_step d c.args.i c.args.n c.loop-k.k c.loop-k-test.true, one_body d c.args.i c.loop-k.k)

pub loop-k-preserved : goal.loop-k-preserved
loop-k-preserved c =
    let d = c.args.d.now in
    let a = c.args in
    let l = c.loop-k in (
      omega (arith, left_step d a.i a.n l.k c.loop-k-test.true, one_body d a.i l.k),
      sym (laid_more d a.i l.store _ a.at a.bodies_at a.n l.k l.s _ _ c.loop-k-test.true c.requires.row.1 (omega arith) c.lay_value-s.ensures.value refl c.lay_value-s.ensures.store_after) ∙ l.invariant.1,
    )

pub returns-clause-value : goal.returns-clause-value
returns-clause-value c =
    omega (arith, left_end c.args.d.now c.args.i c.args.n c.loop-k.k (omega arith))

pub returns-clause-store_after : goal.returns-clause-store_after
returns-clause-store_after c =
    let d = c.args.d.now in
    let l = c.loop-k in
    sym (laid_none l.store _ c.args.bodies_at l.s _ (recs_end d c.args.i c.args.n l.k (omega arith))) ∙ l.invariant.1
