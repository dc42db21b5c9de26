-- `pdo_channel::row_near` meets its contract: the row is the one, or none has the index; else it was looked for. Assumes nothing.
use mathlib.Core.Path.{sym, ◌∙◌}
use Prim.Native.Nat.{◌-◌, ◌<◌}
use Rattle.entry.specs.Table.{index_at}
use Rattle.pdo_channel.proofs.ChannelLaws.{row_is, no_row}
use native.Mathlib.Omega.{arith}
use Rattle.pdo_channel.proofs.row_near.Goals as goal
use Rattle.pdo_channel.proofs.row_near.Goals.{else-r-gt0-via-then-r-gt0+else-x-index, else-r-gt0-via-else-r-gt0}

pub returns-then-y-x : goal.returns-then-y-x
returns-then-y-x c = sym (row_is c.args.objects.now c.requires.0 c.args.index c.args.r (omega (arith, c.number_of-n.ensures, c.if-r-n.true)) (sym c.index-y.ensures ∙ c.if-y-x.true))

pub returns-else-y-x-2 : goal.returns-else-y-x-2
returns-else-y-x-2 c =
    let below : 0 < c.args.r → index_at c.args.objects.now (c.args.r - 1) < c.args.index = λ h. elim c.else-r-gt0.branch [ else-r-gt0-via-then-r-gt0+else-x-index w ↦ omega (arith, w.index.ensures, w.if-x-index.false) | else-r-gt0-via-else-r-gt0 w ↦ absurd (omega (arith, h, w.if-r-gt0.false)) ] in
    sym (no_row c.args.objects.now c.requires.0 c.args.index c.args.r c.requires.1 below (λ h. omega (arith, c.index-y.ensures, c.if-y-x.false, c.if-y-x-2.false)))

pub returns-else-r-n : goal.returns-else-r-n
returns-else-r-n c =
    let below : 0 < c.args.r → index_at c.args.objects.now (c.args.r - 1) < c.args.index = λ h. elim c.else-r-gt0.branch [ else-r-gt0-via-then-r-gt0+else-x-index w ↦ omega (arith, w.index.ensures, w.if-x-index.false) | else-r-gt0-via-else-r-gt0 w ↦ absurd (omega (arith, h, w.if-r-gt0.false)) ] in
    sym (no_row c.args.objects.now c.requires.0 c.args.index c.args.r c.requires.1 below (λ h. absurd (omega (arith, h, c.if-r-n.false, c.number_of-n.ensures))))
