-- `pdo_run::run_list` meets its contract: a list is run, and nothing else is. Assumes nothing.
use Rattle.std.specs.Prelude.{Option, Some}
use mathlib.Core.Path.{◌≡◌, sym, ap, ◌∙◌}
use mathlib.Core.Bool.{true}
use mathlib.Core.List.{List}
use Prim.Native.Nat.{ℕ}
use borrow.Author.Tests.{eq-eqb, ne_eqb}
use Rattle.entry.specs.Table.{Dict}
use Rattle.entry.specs.Find.{find_row}
use Rattle.entry.specs.Judge.{well_formed}
use Rattle.entry.specs.Put.{Contents}
use Rattle.entry.proofs.ValueLaws.{RowLies, rows_of, found_lies}
use Rattle.pdo_step.specs.Receiving.{dict_of, held_in}
use Rattle.pdo_run.specs.Run.{Frame, framed, run_on, finished}
use Rattle.pdo_run.proofs.RunLaws.{finished_none}
use Rattle.pdo_run.proofs.run_list.Goals as goal

found : (g : Frame) (k : Contents) (log : List ℕ) (x : ℕ) (r f : Option ℕ) → r ≡ find_row g.objects x → r ≡ f → finished (run_on g k f) log 0 ≡ finished (run_on g k (find_row g.objects x)) log 0
found g k log x r f h e = ap (λ x. finished (run_on g k x) log 0) (sym e ∙ h)

lies : (d : Dict) (x i : ℕ) (r : Option ℕ) → well_formed d ≡ true → r ≡ find_row d.objects x → r ≡ Some i → RowLies d i
lies d x i r w h e = found_lies d w x i (sym h ∙ e)

pub find-requires : goal.find-requires
find-requires c = rows_of (dict_of c.args.d.now) c.args.d.now.judged

pub returns-in_default-clause-left : goal.returns-in_default-clause-left
returns-in_default-clause-left c =
    let a = c.args in
    let f = framed a.d.now a.payload.now in
    sym (finished_none a.log.now 0 (held_in a.d.now)) ∙ found f _ _ _ _ _ c.find.ensures c.in_default.is

pub invariant_of-kind : goal.invariant_of-kind
invariant_of-kind c =
    let a = c.args in
    let l = lies (dict_of a.d.now) _ _ _ a.d.now.judged c.find.ensures c.in-Some.is in (l.small, l.inside)

pub returns-then-kind-eq0-clause-left : goal.returns-then-kind-eq0-clause-left
returns-then-kind-eq0-clause-left c =
    let a = c.args in
    let f = framed a.d.now a.payload.now in
    sym (finished_none a.log.now 0 (held_in a.d.now)) ∙ sym (rw (eq-eqb _ 0 (sym c.kind.ensures ∙ c.if-kind-eq0.true))) ∙ found f _ _ _ _ _ c.find.ensures c.in-Some.is

pub run_row-requires : goal.run_row-requires
run_row-requires c =
    let a = c.args in
    let l = lies (dict_of a.d.now) _ _ _ a.d.now.judged c.find.ensures c.in-Some.is in
    (l.below, c.requires)

pub returns-clause-left : goal.returns-clause-left
returns-clause-left c =
    let a = c.args in
    let f = framed a.d.now a.payload.now in
    c.run_row.ensures.left ∙ sym (rw (ne_eqb _ 0 (λ z. c.if-kind-eq0.false (c.kind.ensures ∙ z)))) ∙ found f _ _ _ _ _ c.find.ensures c.in-Some.is
