-- `commands::laying::lay_row`: the values from here on, laid over what was written, are the whole laid over what was lent. Assumes nothing.
use Rattle.std.proofs.Common.{◌≡◌, ◌+◌, ◌-◌, ◌*◌, length}
use Rattle.image.specs.Image.{recs_in, bodies}
use Rattle.commands.specs.Save.{recs_laid}
use Rattle.commands.proofs.WalkLaws.{left}
use Rattle.commands.proofs.laying.lay_row.Given as goal

abbrev pub invariant-loop-k : goal.invariant-loop-k
invariant-loop-k l =
    (l.s + left l.d l.i l.n l.k ≡ l.start + length (bodies (recs_in l.d l.i l.n 0)))
    × (recs_laid l.store (l.at + 8 * l.k) l.bodies_at l.s (recs_in l.d l.i (l.n - l.k) l.k) ≡ recs_laid l.fn.store l.at l.bodies_at l.start (recs_in l.d l.i l.n 0))
