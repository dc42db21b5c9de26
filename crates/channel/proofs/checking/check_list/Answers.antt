-- `channel::checking::check_list` meets its contract: a list with an element is judged by its elements. Assumes nothing.
use mathlib.Core.Path.{sym, ◌∙◌, subst}
use Prim.Native.Nat.{◌<◌}
use Rattle.entry.specs.Table.{Dict, number_of}
use Rattle.entry.proofs.ValueLaws.{rows_of, found_lies}
use Rattle.channel.proofs.checking.check_list.Goals as goal

pub find-requires : goal.find-requires
find-requires c = rows_of _ c.d.invariant

pub invariant_of-row : goal.invariant_of-row
invariant_of-row c =
    let l = found_lies _ c.d.invariant c.args.index c.in-Some.r (sym c.find.ensures ∙ c.in-Some.is) in
    (l.small, l.inside)

pub check_elements-requires : goal.check_elements-requires
check_elements-requires c =
    subst (λ (d : Dict). c.in-Some.r < number_of d.objects) c.d.view_is (found_lies _ c.d.invariant c.args.index c.in-Some.r (sym c.find.ensures ∙ c.in-Some.is)).below
