-- `value::codec::decode_word` meets its contract: each branch is a case of `word_at`. Assumes nothing.
use Rattle.std.specs.Prelude.{Ok, Err}
use native.Mathlib.Omega.{arith}
use borrow.Author.Tests.{lt-ltb, le-ltb}
use mathlib.Core.Path.{sym, ap, ◌∙◌}
use lib.ListN.{take, length}
use Rattle.lists.specs.Numbers.{number}
use Rattle.value.specs.declared.CodecFault.TheVariants.{Value}
use Rattle.value.specs.Codec.{word_at}
use Rattle.value.proofs.CodecLaws.{size_le}
use Rattle.value.proofs.codec.decode_word.Goals as goal

pub returns-then-is_text : goal.returns-then-is_text
unfolding word_at
returns-then-is_text c = simp (sym c.is_text.ensures ∙ c.if-is_text.true) c.decode_text.ensures

pub returns-then-data-n : goal.returns-then-data-n
unfolding word_at
returns-then-data-n c =
    simp (sym c.is_text.ensures ∙ c.if-is_text.false, lt-ltb _ _ (rw c.size_of-n.ensures at c.if-data-n.true))
    (ap (λ n. Err (Value n (length c.args.«data».now))) c.size_of-n.ensures)

pub number-requires : goal.number-requires
number-requires c = (omega (arith, c.size_of-n.ensures, size_le c.args.t), omega arith)

pub returns : goal.returns
unfolding word_at
returns c =
    simp (sym c.is_text.ensures ∙ c.if-is_text.false, le-ltb _ _ (rw c.size_of-n.ensures at c.if-data-n.false))
    (ap Ok (c.number.ensures ∙ ap (λ n. number (take n c.args.«data».now)) c.size_of-n.ensures))
