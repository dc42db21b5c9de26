-- `entry::lookup::locate` meets its contract: the row, and the sub-index in it. Assumes nothing.
use mathlib.Core.Path.{sym, ◌∙◌}
use native.Mathlib.Omega.{arith}
use Rattle.entry.specs.Table.{number_of}
use Rattle.entry.proofs.FindLaws.{found_row}
use Rattle.entry.proofs.lookup.locate.Goals as goal

pub sub_at-requires-clause-i_bound : goal.sub_at-requires-clause-i_bound
sub_at-requires-clause-i_bound c =
    let objects = c.args.objects.now in
    omega (arith, (found_row objects c.args.index (number_of objects) 0 _ (sym c.find.ensures ∙ c.in-Some.is)).below)
