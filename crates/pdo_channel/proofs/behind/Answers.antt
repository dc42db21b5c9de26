-- `pdo_channel::behind` meets its contract: a row that was found is one of the rows. Assumes nothing.
use mathlib.Core.Path.{sym, ◌∙◌}
use Rattle.pdo_channel.proofs.ChannelLaws.{row_below}
use native.Mathlib.Omega.{arith}
use Rattle.pdo_channel.proofs.behind.Goals as goal

pub overflow_add-result : goal.overflow_add-result
overflow_add-result c = omega (arith, row_below c.args.objects.now c.args.index c.in-Some.i (sym c.requires.2 ∙ c.in-Some.is), c.requires.0.few)

pub returns-in-Some : goal.returns-in-Some
returns-in-Some c = omega (arith, row_below c.args.objects.now c.args.index c.in-Some.i (sym c.requires.2 ∙ c.in-Some.is))
