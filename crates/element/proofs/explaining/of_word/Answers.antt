-- `element::explaining::of_word` meets its contract: whole bytes or not. Assumes nothing.
use mathlib.Core.Path.{sym, ap, ◌∙◌}
use native.Mathlib.Omega.{arith}
use Rattle.mapping.specs.Word.{entry_of}
use Rattle.mapping.proofs.WordLaws.{entry_in_range, whole_field}
use Rattle.aim.specs.declared.Aim.{Aim}
use Rattle.entry.proofs.ValueLaws.{rows_of}
use Rattle.pdo_step.proofs.OutcomeLaws.{shape_of}
use borrow.Author.Rules.{rules}
use Rattle.element.proofs.explaining.of_word.Goals as goal

pub aim_of-a-requires : goal.aim_of-a-requires
aim_of-a-requires c = rows_of _ c.d.invariant

pub target_at-target-requires : goal.target_at-target-requires
target_at-target-requires c = λ p e. (shape_of _ c.d.invariant).value _ _ p (sym (ap (λ (z : Aim). z.place) c.aim_of-a.ensures) ∙ e)

pub overflow_cast-result : goal.overflow_cast-result
overflow_cast-result c = omega (arith, (whole_field (entry_of c.args.word) (entry_in_range c.args.word) _ _ (sym (ap (λ (z : Aim). z.field) c.aim_of-a.ensures) ∙ c.in-Some.is)).start_small)

pub overflow_cast-result-2 : goal.overflow_cast-result-2
overflow_cast-result-2 c = omega (arith, (whole_field (entry_of c.args.word) (entry_in_range c.args.word) _ _ (sym (ap (λ (z : Aim). z.field) c.aim_of-a.ensures) ∙ c.in-Some.is)).length_small)

pub returns-in_default : goal.returns-in_default
returns-in_default c = rw (sym c.d.view_is) (search rules)

pub returns : goal.returns
returns c = rw (sym c.d.view_is) (search rules)
