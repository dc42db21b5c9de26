-- `commands::saving::save` meets its contract: all is measured first, so that a store that is too short stays as it was. Assumes nothing.
use mathlib.Core.Path.{ap}
use Rattle.commands.specs.declared.offering.Size.{Size}
use Rattle.commands.proofs.SaveLaws.{laid}
use native.Mathlib.Omega.{arith}
use Rattle.commands.proofs.saving.save.Goals as goal

pub put_number-requires : goal.put_number-requires
put_number-requires c = omega arith

pub lay-requires-clause-records : goal.lay-requires-clause-records
lay-requires-clause-records c = omega (arith, ap (λ (z : Size). z.records) c.measure-r.ensures)

pub lay-requires-clause-room : goal.lay-requires-clause-room
lay-requires-clause-room c = omega (arith, ap (λ (z : Size). z.bytes) c.measure-r.ensures)

pub returns : goal.returns
returns c =
    laid c.args.d.now c.args.store.now c.args.list _ c.range_of.ensures _ _ c.into_inner-first.ensures.start c.into_inner-first.ensures.end _ c.measure-r.ensures (omega arith) (omega arith) (omega arith) _ _ c.put_number.ensures c.lay.ensures
