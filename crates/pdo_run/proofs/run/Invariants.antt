-- `pdo_run::run` meets its contract: what the words from here on leave is what all leave. Assumes nothing.
use mathlib.Core.Path.{◌≡◌}
use Prim.Native.Nat.{◌≤◌}
use lib.ListN.{drop}
use Rattle.pdo_step.specs.Receiving.{held_in, Same}
use Rattle.pdo_run.specs.Run.{framed, run_from, finished}
use Rattle.pdo_run.proofs.run.Given as goal

abbrev pub invariant-loop-j : goal.invariant-loop-j
invariant-loop-j l = record {
  few : l.n ≤ l.j;
  same : Same l.initial.d l.d;
  run : finished (run_from (framed l.initial.d l.payload) l.first (drop l.j l.list) l.j (held_in l.d)) l.log l.n
      ≡ finished (run_from (framed l.initial.d l.payload) l.first l.list 0 (held_in l.initial.d)) l.initial.log 0;
}
