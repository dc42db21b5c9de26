-- `placing::insert_words` meets its contract. Assumes nothing.
use mathlib.Core.Path.{sym, ◌∙◌}
use Rattle.lists.proofs.SpliceLaws.{fill_gap}
use Rattle.entry.specs.Model.{words_of}
use Rattle.entry.proofs.ModelLaws.{length-words_of}
use Rattle.placing.proofs.insert_words.Goals as goal

pub returns : goal.returns
returns c =
    let a = c.args in
    c.fill_words.ensures ∙ rw c.move_up.ensures (fill_gap a.words.now a.v a.m a.u (words_of a.values.now) (length-words_of a.values.now ∙ sym c.requires.2) c.requires.0 c.requires.1)
