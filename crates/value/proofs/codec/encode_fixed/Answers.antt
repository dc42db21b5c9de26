-- `value::codec::encode_fixed` meets its contract: each branch is a case of `encode_of`. Assumes nothing.
use Rattle.std.specs.Prelude.{Ok}
use native.Mathlib.Omega.{arith}
use borrow.Author.Rules.{rules}
use mathlib.Core.Path.{◌≡◌, sym, ap, ap₂, ◌∙◌}
use mathlib.Core.Bool.{true}
use mathlib.Core.List.{[]}
use lib.ListN.{length}
use Rattle.lists.specs.Numbers.{bytes_of}
use Rattle.lists.specs.Lists.{over}
use Rattle.lists.proofs.NumberLaws.{length-bytes_of}
use Rattle.value.specs.Codec.{size_of, sayable, encoding, after_encode}
use Rattle.value.proofs.CodecLaws.{encode_bad, encode_short, encode_done, sayable_fixed, encoding_fixed}
use Rattle.value.proofs.codec.encode_fixed.Goals as goal
use Rattle.value.proofs.codec.encode_fixed.Goals.{After-size_of-n}

-- the encoding, and how long it is
bytes : (c : After-size_of-n) → encoding c.args.t c.args.word [] ≡ bytes_of (size_of c.args.t) c.args.word
bytes c = encoding_fixed c.args.t c.args.word [] c.requires.1

size : (c : After-size_of-n) → length (encoding c.args.t c.args.word []) ≡ c.size_of-n.result
size c = ap length (bytes c) ∙ length-bytes_of (size_of c.args.t) c.args.word ∙ sym c.size_of-n.ensures

fitting : (c : After-size_of-n) → sayable c.args.t c.args.word [] ≡ true
fitting c =
    sayable_fixed c.args.t c.args.word [] c.requires.0 c.requires.1 ∙ sym c.fits.ensures ∙ c.if-not-fits.false

pub returns-then-not-fits : goal.returns-then-not-fits
returns-then-not-fits c =
    sym (encode_bad c.args.t c.args.word [] c.args.out.now (sayable_fixed c.args.t c.args.word [] c.requires.0 c.requires.1 ∙ sym c.fits.ensures ∙ c.if-not-fits.true))

pub returns-then-out-n : goal.returns-then-out-n
returns-then-out-n c =
    let k = (goal.at.returns-then-out-n c).After-size_of-n in
    sym (encode_short c.args.t c.args.word [] c.args.out.now (fitting k) (omega (arith, size k)))

-- written, so that a refusal of it has an error of its own
pub put_number-requires : goal.put_number-requires
put_number-requires c = search rules

pub returns : goal.returns
returns c =
    let k = (goal.at.returns c).After-size_of-n in
    let t = c.args.t in
    let w = c.args.word in
    let o = c.args.out.now in
    let n = c.size_of-n.result in
    let e : bytes_of n w ≡ encoding t w [] = ap (λ m. bytes_of m w) c.size_of-n.ensures ∙ sym (bytes k) in
    ap₂ (λ m l. after_encode (Ok m) l) (sym (size k)) (c.put_number.ensures ∙ ap (over o 0) e)
    ∙ sym (encode_done t w [] o (fitting k) (omega (arith, size k)))
