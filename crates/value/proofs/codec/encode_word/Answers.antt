-- `value::codec::encode_word` meets its contract: of a fixed type the part is not looked at. Assumes nothing.
use native.Mathlib.Omega.{arith}
use borrow.Author.Rules.{rules}
use mathlib.Core.Path.{sym, ◌∙◌}
use Rattle.value.proofs.CodecLaws.{encode_bad, encode_part, sayable_none}
use Rattle.value.proofs.codec.encode_word.Goals as goal

pub returns-then-t-gt20 : goal.returns-then-t-gt20
returns-then-t-gt20 c =
    let a = c.args in
    sym (encode_bad a.t a.word a.part.now a.out.now (sayable_none a.t a.word a.part.now c.if-t-gt20.true))

pub encode_text-requires : goal.encode_text-requires
encode_text-requires c =
    (omega arith, sym c.is_text.ensures ∙ c.if-is_text.true)

pub returns-then-is_text : goal.returns-then-is_text
returns-then-is_text c = search rules

pub encode_fixed-requires : goal.encode_fixed-requires
encode_fixed-requires c =
    (omega arith, sym c.is_text.ensures ∙ c.if-is_text.false)

pub returns : goal.returns
returns c =
    let a = c.args in
    c.encode_fixed.ensures ∙ sym (encode_part a.t a.word a.part.now a.out.now (sym c.is_text.ensures ∙ c.if-is_text.false))
