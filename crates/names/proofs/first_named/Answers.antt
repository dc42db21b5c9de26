-- `names::first_named` meets its contract. The loop's invariant: the walk over all rows finds what the walk from here finds. Assumes nothing.
use mathlib.Core.Path.{sym, ap, ◌∙◌}
use Rattle.entry.specs.Table.{Dict, number_of, index_at}
use Rattle.entry.proofs.ValueLaws.{rows_of}
use Rattle.names.proofs.NameLaws.{name_lies, name_step, name_end}
use native.Mathlib.Omega.{arith}
use Rattle.names.proofs.first_named.Goals as goal

pub number_of-i-end-requires : goal.number_of-i-end-requires
number_of-i-end-requires c = omega (arith, (rows_of _ c.d.invariant).long)

pub invariant_of-index : goal.invariant_of-index
invariant_of-index c =
    let l = name_lies _ c.d.invariant c.loop-i.i (omega arith) in
    (l.small, l.row)

pub overflow_cast-result : goal.overflow_cast-result
overflow_cast-result c = record { fits = omega (arith, c.index.ensures, (name_lies _ c.d.invariant c.loop-i.i (omega arith)).index) }

pub returns-then-has_name : goal.returns-then-has_name
returns-then-has_name c =
    let step = c.loop-i.invariant ∙ name_step c.args.d.now c.args.name.now (number_of c.args.d.now.objects) c.loop-i.i (omega (arith, ap (λ (m : Dict). number_of m.objects) c.d.view_is)) in
    simp (step, sym c.has_name.ensures ∙ c.if-has_name.true, c.index.ensures ∙ ap (λ (m : Dict). index_at m.objects c.loop-i.i) c.d.view_is)

pub loop-i-preserved : goal.loop-i-preserved
loop-i-preserved c =
    let step = c.loop-i.invariant ∙ name_step c.args.d.now c.args.name.now (number_of c.args.d.now.objects) c.loop-i.i (omega (arith, ap (λ (m : Dict). number_of m.objects) c.d.view_is)) in
    step ∙ simp (sym c.has_name.ensures ∙ c.if-has_name.false)

pub returns : goal.returns
returns c = sym (c.loop-i.invariant ∙ name_end c.args.d.now _ _ _ (omega (arith, ap (λ (m : Dict). number_of m.objects) c.d.view_is)))
