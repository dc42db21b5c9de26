-- `commands::laying::lay`: the rows from here on, laid over what was written, are the whole laid over what was lent. Assumes nothing.
use Rattle.std.proofs.Common.{◌≡◌, ◌+◌, ◌*◌, ◌≤◌, length}
use Rattle.entry.specs.Table.{number_of}
use Rattle.image.specs.Image.{offered_in, bodies}
use Rattle.commands.specs.Save.{recs_laid}
use Rattle.commands.proofs.WalkLaws.{rest, records, room}
use Rattle.commands.proofs.laying.lay.Given as goal

abbrev pub invariant-loop-i : goal.invariant-loop-i
invariant-loop-i l =
    let all = offered_in l.d l.first l.last in
    (l.i ≤ number_of l.d.objects)
    × (l.at + 8 * records l.d l.first l.last l.i ≡ 2 + 8 * length all)
    × (l.start + room l.d l.first l.last l.i ≡ length (bodies all))
    × (recs_laid l.store l.at l.bodies_at l.start (rest l.d l.first l.last l.i) ≡ recs_laid l.fn.store 2 l.bodies_at 0 all)
