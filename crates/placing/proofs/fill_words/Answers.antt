-- `placing::fill_words` meets its contract. Assumes nothing.
use mathlib.Core.Path.{sym, ap, ◌∙◌}
use lib.ListN.{length}
use Rattle.entry.proofs.ModelLaws.{length-words_of}
use Rattle.given.specs.Given.{count_in}
use Rattle.given.proofs.GivenLaws.{words_more, lengths_more, none_left, given-length}
use native.Mathlib.Omega.{arith}
use Rattle.placing.proofs.fill_words.Goals as goal

pub word_in-requires : goal.word_in-requires
word_in-requires c =
    let l = c.loop-j in
    let v = c.values.invariant in (
      omega (arith, lengths_more c.values.inside.vals.now (count_in c.values.inside.vals.now) l.j c.loop-j-test.true, l.invariant.0, v.encoded, c.length_in-len.ensures),
      rw (c.type_in.ensures, c.length_in-len.ensures) (v.short l.j c.loop-j-test.true),
    )

pub overflow_add-t : goal.overflow_add-t
overflow_add-t c =
    let l = c.loop-j in
    omega (arith, lengths_more c.values.inside.vals.now (count_in c.values.inside.vals.now) l.j c.loop-j-test.true, l.invariant.0, c.values.invariant.encoded, c.length_in-len.ensures)

pub loop-j-preserved : goal.loop-j-preserved
loop-j-preserved c =
    let a = c.args in
    let l = c.loop-j in
    let h = c.loop-j-test.true in (
      omega (arith, lengths_more c.values.inside.vals.now (count_in c.values.inside.vals.now) l.j h, l.invariant.0, c.length_in-len.ensures),
      l.invariant.1 ∙ rw (c.word_in.ensures, c.type_in.ensures, c.length_in-len.ensures) (words_more c.values.inside.vals.now c.values.inside.encodings.now l.words a.v (count_in c.values.inside.vals.now) l.j l.t h (omega (arith, c.requires, sym (ap length c.values.view_is) ∙ given-length _ _ _ _ _))),
    )

pub returns : goal.returns
returns c = rw (sym c.values.view_is) (sym (c.loop-j.invariant.1 ∙ none_left _ _ _ (length-words_of _ ∙ given-length _ _ _ _ _ ∙ omega arith)))

pub bounds-words-v : goal.bounds-words-v
bounds-words-v c = omega (arith, c.requires, sym (ap length c.values.view_is) ∙ given-length _ _ _ _ _)
