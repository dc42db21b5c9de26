-- `c_checking::loomfinch_explain` meets its contract: a refusal; too few numbers or eleven of them is found. Assumes nothing.
use mathlib.Core.Path.{ap, sym, ◌∙◌}
use Rattle.std.specs.Prelude.{Result}
use Rattle.answers.specs.declared.Refusal.{Refusal}
use Rattle.element.specs.declared.Explained.{Explained}
use Rattle.c_answers.specs.Answers.{lent}
use Rattle.c_checking.specs.Checking.{explain_numbers}
use Rattle.c_checking.proofs.loomfinch_explain.Goals as goal

pub returns-in-Err : goal.returns-in-Err
unfolding explain_numbers
returns-in-Err c =
    let ns = c.args.numbers.now in
    ap (λ n. lent n ns) c.number.ensures ∙ ap (λ (e : Result Explained Refusal). explain_numbers e ns) (sym c.in-Err.is ∙ c.explain-e.ensures)
