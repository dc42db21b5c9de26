-- `pdo_validator::judge_count` meets its contract: each branch is a case of `count_of`. Assumes nothing.
use Rattle.std.specs.Prelude.{Ok}
use mathlib.Core.Path.{sym, ap, ◌∙◌}
use mathlib.Core.Bool.{cond, not, ◌||◌}
use Rattle.entry.specs.Table.{dict}
use lib.Dec.{eqb}
use Rattle.entry.specs.Find.{find_row}
use Rattle.entry.proofs.ValueLaws.{rows_of, found_lies}
use Rattle.pdo_validator.specs.Counting.{count_on, count_of}
use Rattle.std.specs.Result.{result_ok}
use Rattle.std.proofs.lemmas.Result.{err_from_is_err_and}
use Rattle.pdo_validator.proofs.CountLaws.{refused}
use Rattle.pdo_validator.proofs.judge_count.Goals as goal

pub returns-then-n-is_mapping : goal.returns-then-n-is_mapping
unfolding count_of
returns-then-n-is_mapping c =
    let d = c.args.d.now in
    sym
    (ap (λ b. cond b (Ok tt) (count_on d c.args.index c.args.n (find_row d.objects c.args.index)))
    (ap (λ m. eqb c.args.n 0 || not m) (sym c.is_mapping.ensures) ∙ c.if-n-is_mapping.true))

pub find-requires : goal.find-requires
find-requires c = rows_of (dict c.d.inside.objects.now c.d.inside.slots.now c.d.inside.words.now c.d.inside.bytes.now) c.d.invariant

pub returns-in_err-i : goal.returns-in_err-i
unfolding count_of count_on
returns-in_err-i c =
    let p = err_from_is_err_and c.from_residual.result c.from_residual.ensures.1 in
    let n = refused c.find.result _ _ (sym c.ok_or.ensures.value ∙ c.in_err-i.was) in
    rw (p.1, p.2, n.1, sym c.d.view_is)
    (simp (ap (λ m. eqb c.args.n 0 || not m) (sym c.is_mapping.ensures) ∙ c.if-n-is_mapping.false)
    (ap (count_on (dict c.d.inside.objects.now c.d.inside.slots.now c.d.inside.words.now c.d.inside.bytes.now) c.args.index c.args.n) (sym n.0 ∙ c.find.ensures)))

pub count_in-requires : goal.count_in-requires
count_in-requires c =
    rw (sym c.d.view_is)
    (found_lies (dict c.d.inside.objects.now c.d.inside.slots.now c.d.inside.words.now c.d.inside.bytes.now) c.d.invariant c.args.index _ (sym c.find.ensures ∙ c.ok_or.ensures.ok_part ∙ ap result_ok c.in_ok-i.was)).below

pub returns : goal.returns
unfolding count_of
returns c =
    rw (sym c.d.view_is)
    (simp (ap (λ m. eqb c.args.n 0 || not m) (sym c.is_mapping.ensures) ∙ c.if-n-is_mapping.false)
    (rw (sym c.d.view_is) at c.count_in.ensures ∙ ap (count_on (dict c.d.inside.objects.now c.d.inside.slots.now c.d.inside.words.now c.d.inside.bytes.now) c.args.index c.args.n) (sym (c.ok_or.ensures.ok_part ∙ ap result_ok c.in_ok-i.was) ∙ c.find.ensures)))
