-- `element::elements::word_verdict` meets its contract. Assumes nothing.
use mathlib.Core.Path.{ap, ◌∙◌}
use Rattle.element.specs.Elements.{said_of, word_verdict}
use Rattle.element.proofs.elements.word_verdict.Goals as goal

pub returns : goal.returns
unfolding word_verdict
returns c = c.said.ensures ∙ ap said_of c.of_word.ensures
