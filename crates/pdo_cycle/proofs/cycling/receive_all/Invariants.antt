-- `pdo_cycle::cycling::receive_all` meets its contract: what the payloads from here on leave is what all leave. Assumes nothing.
use mathlib.Core.Path.{◌≡◌}
use Prim.Native.Nat.{◌-◌, ◌≤◌}
use lib.ListN.{length}
use Rattle.pdo_step.specs.Receiving.{held_in, Same}
use Rattle.pdo_cycle.specs.Payloads.{payloads_in}
use Rattle.pdo_cycle.specs.Cycle.{delivery, cycle_from, ended}
use Rattle.pdo_cycle.proofs.cycling.receive_all.Given as goal

abbrev pub invariant-loop-i : goal.invariant-loop-i
invariant-loop-i l = record {
  room : l.n ≤ length l.log;
  same : Same l.initial.d l.d;
  run : ended (cycle_from (delivery l.initial.d.objects.now l.initial.d.slots.now l.delivered l.payloads) (payloads_in l.payloads - l.i) l.i (held_in l.d) (length l.log - l.n)) l.log l.n l.i
      ≡ ended (cycle_from (delivery l.initial.d.objects.now l.initial.d.slots.now l.delivered l.payloads) (payloads_in l.payloads) 0 (held_in l.initial.d) (length l.initial.log)) l.initial.log 0 0;
}
