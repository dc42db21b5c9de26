-- `element::numbers::explained_numbers` meets its contract: each arm is a case of the definition. Assumes nothing.
use mathlib.Core.Path.{sym, ap, ◌∙◌}
use Rattle.std.specs.Prelude.{Ok}
use Rattle.element.specs.Numbers.{verdict_number, explained_numbers}
use Rattle.element.proofs.numbers.explained_numbers.Goals as goal

pub returns-in_default : goal.returns-in_default
unfolding explained_numbers
returns-in_default c = ap explained_numbers (sym c.in_default.is)

pub returns-in-Other : goal.returns-in-Other
unfolding explained_numbers
returns-in-Other c = ap explained_numbers (sym (c.in-Ok.is ∙ ap Ok c.in-Other.is))

pub returns-in-Misaligned : goal.returns-in-Misaligned
unfolding explained_numbers
returns-in-Misaligned c = rw (c.there_holds.ensures, c.there_type.ensures, c.there.ensures) (ap explained_numbers (sym (c.in-Ok.is ∙ ap Ok c.in-Misaligned.is)))

pub returns-in-Field : goal.returns-in-Field
unfolding explained_numbers
returns-in-Field c =
    rw (c.there_holds-in-Field.ensures, c.there_type-in-Field.ensures, c.there-in-Field.ensures, c.verdict_number.ensures ∙ ap verdict_number c.said.ensures) (ap explained_numbers (sym (c.in-Ok.is ∙ ap Ok c.in-Field.is)))
