-- `od::reading::read_in` meets its contract: each place is a case of `read_at`. Assumes nothing.
use Rattle.std.specs.Prelude.{Some}
use mathlib.Core.Path.{sym, ap, ◌∙◌}
use Rattle.entry.proofs.ValueLaws.{rows_of, found_lies, value_lies}
use Rattle.od.specs.Read.{read_of}
use native.Mathlib.Omega.{arith}
use Rattle.od.proofs.reading.read_in.Goals as goal

pub sub_at-requires-clause-rows : goal.sub_at-requires-clause-rows
sub_at-requires-clause-rows c = rows_of _ c.d.invariant

pub sub_at-requires-clause-i_bound : goal.sub_at-requires-clause-i_bound
sub_at-requires-clause-i_bound c = (found_lies _ c.d.invariant _ _ (rw (sym c.d.view_is) at c.requires)).below

pub invariant_of-slot : goal.invariant_of-slot
invariant_of-slot c =
    let f = value_lies _ c.d.invariant _ _ _ _ (rw (sym c.d.view_is) at c.requires) (sym c.in-Some-Value.ensures ∙ ap Some c.in-Some-Value.field-0-is) in
    (f.low, f.slot)

pub offset_bounds-d-inside-p : goal.offset_bounds-d-inside-p
offset_bounds-d-inside-p c = omega (arith, (value_lies _ c.d.invariant _ _ _ _ (rw (sym c.d.view_is) at c.requires) (sym c.in-Some-Value.ensures ∙ ap Some c.in-Some-Value.field-0-is)).low)

pub bounds-d-inside-p : goal.bounds-d-inside-p
bounds-d-inside-p c = (value_lies _ c.d.invariant _ _ _ _ (rw (sym c.d.view_is) at c.requires) (sym c.in-Some-Value.ensures ∙ ap Some c.in-Some-Value.field-0-is)).word

pub returns-in-None : goal.returns-in-None
unfolding read_of
returns-in-None c = rw (sym c.d.view_is) (simp (c.d.invariant, rw (sym c.d.view_is) at c.requires, sym c.sub_at.ensures ∙ c.in-None.is))

pub returns-in-Some-Count : goal.returns-in-Some-Count
unfolding read_of
returns-in-Some-Count c = rw (sym c.d.view_is) (simp (c.d.invariant, rw (sym c.d.view_is) at c.requires, sym c.in-Some-Count.ensures ∙ ap Some c.in-Some-Count.field-0-is))

pub returns-in-Some-Value : goal.returns-in-Some-Value
unfolding read_of
returns-in-Some-Value c = rw (c.value_type.ensures, c.start.ensures, sym c.d.view_is) (simp (c.d.invariant, rw (sym c.d.view_is) at c.requires, sym c.in-Some-Value.ensures ∙ ap Some c.in-Some-Value.field-0-is))
