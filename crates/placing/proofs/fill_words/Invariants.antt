-- `placing::fill_words` meets its contract. The loop's invariant: what is still to be laid, laid from here on, gives the same. Assumes nothing.
use mathlib.Core.Path.{◌≡◌}
use Prim.Native.Nat.{◌-◌, ◌+◌}
use Rattle.lists.specs.Lists.{over}
use Rattle.entry.specs.Model.{words_of}
use Rattle.given.specs.Given.{given, lengths_in, count_in}
use Rattle.placing.proofs.fill_words.Given as goal

abbrev pub invariant-loop-j : goal.invariant-loop-j
invariant-loop-j l =
    (l.t + lengths_in l.vals (count_in l.vals - l.j) l.j ≡ lengths_in l.vals (count_in l.vals) 0)
    × (over l.initial.words l.v (words_of (given l.vals l.encodings (count_in l.vals) 0 0)) ≡ over l.words (l.v + l.j) (words_of (given l.vals l.encodings (count_in l.vals - l.j) l.j l.t)))
