-- `value::codec::encode_text` meets its contract: each branch is a case of `encode_of`. Assumes nothing.
use Rattle.std.specs.Prelude.{Ok}
use borrow.Author.Tests.{eq-eqb, ne_eqb}
use mathlib.Core.Path.{◌≡◌, sym, ap, ap₂, ◌∙◌}
use mathlib.Core.Bool.{true}
use lib.ListN.{length}
use Rattle.lists.specs.Lists.{over}
use Rattle.value.specs.Codec.{sayable, after_encode}
use Rattle.value.proofs.CodecLaws.{encode_bad, encode_short, encode_done, sayable_text, encoding_text}
use Rattle.value.proofs.codec.encode_text.Goals as goal
use Rattle.value.proofs.codec.encode_text.Goals.{In-Ok}

pub returns-then-word-length : goal.returns-then-word-length
returns-then-word-length c =
    sym (encode_bad c.args.t c.args.word c.args.part.now c.args.out.now
    (sayable_text c.args.t c.args.word c.args.part.now c.requires.0 c.requires.1 ∙ simp (ne_eqb _ _ c.if-word-length.true)))

pub returns-in_default : goal.returns-in_default
returns-in_default c =
    sym (encode_bad c.args.t c.args.word c.args.part.now c.args.out.now
    (sayable_text c.args.t c.args.word c.args.part.now c.requires.0 c.requires.1
    ∙ simp (eq-eqb _ _ c.if-word-length.false, sym c.decode_text.ensures ∙ c.in_default.is)))

-- the text is one of its type
good : (c : In-Ok) → sayable c.args.t c.args.word c.args.part.now ≡ true
good c =
    sayable_text c.args.t c.args.word c.args.part.now c.requires.0 c.requires.1
    ∙ simp (eq-eqb _ _ c.if-word-length.false, sym c.decode_text.ensures ∙ c.in-Ok.is)

pub returns-then-out-part : goal.returns-then-out-part
returns-then-out-part c =
    let a = c.args in
    let e = encoding_text a.t a.word a.part.now c.requires.1 in
    sym (encode_short a.t a.word a.part.now a.out.now (good (goal.at.returns-then-out-part c).In-Ok) (rw e c.if-out-part.true))

-- the encoding is the part itself
pub returns : goal.returns
returns c =
    let a = c.args in
    let e = encoding_text a.t a.word a.part.now c.requires.1 in
    ap₂ (λ m l. after_encode (Ok m) l) (sym (ap length e)) (c.lay.ensures ∙ ap (over a.out.now 0) (sym e))
    ∙ sym (encode_done a.t a.word a.part.now a.out.now (good (goal.at.returns c).In-Ok) (rw e c.if-out-part.false))
