-- `commands::offering::measure`: what was counted and what the rows from here on offer make up the whole. Assumes nothing.
use Rattle.std.proofs.Common.{◌≡◌, ◌+◌, ◌*◌, ◌≤◌, length}
use Rattle.entry.specs.Table.{number_of}
use Rattle.image.specs.Image.{offered_in, bodies}
use Rattle.commands.proofs.WalkLaws.{records, room}
use Rattle.commands.proofs.offering.measure.Given as goal

abbrev pub invariant-loop-i : goal.invariant-loop-i
invariant-loop-i l =
    let all = offered_in l.d l.first l.last in
    (l.i ≤ number_of l.d.objects)
    × (l.size.records ≤ 254 * l.i)
    × (l.size.bytes ≤ 378460 * l.i)
    × (l.size.records + records l.d l.first l.last l.i ≡ length all)
    × (l.size.bytes + room l.d l.first l.last l.i ≡ length (bodies all))
