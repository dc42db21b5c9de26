-- `pdo_channel::first_match` meets its contract: the scan from here on gives what the whole scan gives. Assumes nothing.
use mathlib.Core.Path.{◌≡◌}
use Prim.Native.Nat.{◌-◌, ◌≤◌}
use Rattle.entry.specs.Table.{number_of}
use Rattle.pdo_channel.specs.Channel.{channel_from, first_match}
use Rattle.pdo_channel.proofs.first_match.Given as goal

abbrev pub invariant-loop-i : goal.invariant-loop-i
invariant-loop-i l = record {
  row_in_range : l.r ≤ number_of l.d.objects;
  rest_is : channel_from l.d l.sender (256 - l.i) l.i ≡ first_match l.d l.sender;
}
