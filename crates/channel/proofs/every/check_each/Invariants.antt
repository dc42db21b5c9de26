-- `channel::every::check_each` meets its contract: what the channels from here on lay is what all lay. Assumes nothing.
use mathlib.Core.Path.{◌≡◌}
use Prim.Native.Nat.{◌*◌, ◌-◌, ◌≤◌}
use Rattle.channel.specs.All.{lines_from, laid_on}
use Rattle.channel.proofs.every.check_each.Given as goal

abbrev pub invariant-loop-i : goal.invariant-loop-i
invariant-loop-i l = record {
  few : l.n ≤ 3 * l.i;
  rest_is : laid_on (lines_from l.d (256 - l.i) l.i) l.out l.n ≡ laid_on (lines_from l.d 256 0) l.initial.out 0;
}
