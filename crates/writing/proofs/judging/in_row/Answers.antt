-- `writing::judging::in_row` meets its contract: the row lies in what is lent, and so does its value. Assumes nothing.
use Rattle.std.specs.Prelude.{Some}
use mathlib.Core.Path.{◌≡◌, sym, ap, subst, ◌∙◌}
use mathlib.Core.Bool.{true}
use Rattle.entry.specs.Table.{dict}
use Rattle.entry.specs.declared.Extra.{Extra}
use Rattle.entry.specs.Rules.{range_ok}
use Rattle.entry.proofs.ValueLaws.{rows_of, found_lies, value_lies}
use Rattle.writing.proofs.WriteLaws.{range_right}
use Rattle.writing.proofs.judging.in_row.Goals as goal

pub invariant_of-row : goal.invariant_of-row
invariant_of-row c =
    let l = found_lies (dict c.d.inside.objects.now c.d.inside.slots.now c.d.inside.words.now c.d.inside.bytes.now) c.d.invariant c.args.index c.args.i (rw (sym c.d.view_is) at c.requires) in
    (l.small, l.inside)

pub sub_at-requires-clause-rows : goal.sub_at-requires-clause-rows
sub_at-requires-clause-rows c = rows_of (dict c.d.inside.objects.now c.d.inside.slots.now c.d.inside.words.now c.d.inside.bytes.now) c.d.invariant

pub sub_at-requires-clause-i_bound : goal.sub_at-requires-clause-i_bound
sub_at-requires-clause-i_bound c =
    (found_lies (dict c.d.inside.objects.now c.d.inside.slots.now c.d.inside.words.now c.d.inside.bytes.now) c.d.invariant c.args.index c.args.i (rw (sym c.d.view_is) at c.requires)).below

pub at_value-requires-clause-p_bound : goal.at_value-requires-clause-p_bound
at_value-requires-clause-p_bound c =
    let f = value_lies (dict c.d.inside.objects.now c.d.inside.slots.now c.d.inside.words.now c.d.inside.bytes.now) c.d.invariant c.args.index c.args.sub _ _ (rw (sym c.d.view_is) at c.requires) (sym c.in-Some-Value.ensures ∙ ap Some c.in-Some-Value.field-0-is) in
    (f.low, f.slot)

pub at_value-requires-clause-range : goal.at_value-requires-clause-range
at_value-requires-clause-range c =
    let d = dict c.d.inside.objects.now c.d.inside.slots.now c.d.inside.words.now c.d.inside.bytes.now in
    let l = found_lies d c.d.invariant c.args.index c.args.i (rw (sym c.d.view_is) at c.requires) in
    subst (λ (x : Extra). range_ok x.ranged x.low x.high ≡ true) (sym c.extra.ensures) (range_right d c.d.invariant c.args.i l.below)
