-- `pdo_step::bits::set_bit` meets its contract: the bit at its place. Assumes nothing.
use mathlib.Core.Path.{ap, ◌∙◌, sym}
use Rattle.entry.specs.Table.{dict}
use Rattle.pdo_step.specs.Bits.{marked_at, marked_in}
use Rattle.pdo_step.proofs.BitLaws.{bit_lies}
use Rattle.pdo_step.proofs.bits.set_bit.Goals as goal

pub set_at-requires : goal.set_at-requires
set_at-requires c a e =
    let g = c.args in
    let l = bit_lies (dict g.objects.now g.slots.now g.words.now g.bytes.now) c.requires g.index g.node a (sym c.bit_place-place.ensures ∙ e) in
    (l.inside, l.node)

pub returns : goal.returns
unfolding marked_in
returns c = c.set_at.ensures ∙ ap (marked_at c.args.bytes.now c.args.node) c.bit_place-place.ensures
