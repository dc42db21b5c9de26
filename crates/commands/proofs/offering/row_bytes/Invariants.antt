-- `commands::offering::row_bytes`: what was counted and what is left make up the whole. Assumes nothing.
use Rattle.std.proofs.Common.{◌≡◌, ◌+◌, ◌*◌, ◌≤◌, length}
use Rattle.image.specs.Image.{recs_in, bodies}
use Rattle.commands.proofs.WalkLaws.{left}
use Rattle.commands.proofs.offering.row_bytes.Given as goal

abbrev pub invariant-loop-k : goal.invariant-loop-k
invariant-loop-k l =
    (l.sum ≤ 1490 * l.k) × (l.sum + left l.d l.i l.n l.k ≡ length (bodies (recs_in l.d l.i l.n 0)))
