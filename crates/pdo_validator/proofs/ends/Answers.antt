-- `pdo_validator::ends` meets its contract: the invariant says that what is found from here is what is found on the whole. Assumes nothing.
use mathlib.Core.Path.{sym, ap, ◌∙◌}
use Prim.Native.Nat.{◌+◌}
use borrow.Author.Tests.{eq-eqb, ne_eqb}
use Rattle.mapping.specs.Word.{end_of}
use Rattle.pdo_validator.specs.Counting.{most}
use Rattle.pdo_validator.proofs.CountLaws.{most_max, rest, rest-step, rest_end}
use native.Mathlib.Omega.{arith}
use Rattle.pdo_validator.proofs.ends.Goals as goal

pub returns-then-value_type-ne8 : goal.returns-then-value_type-ne8
returns-then-value_type-ne8 c =
    let z = ne_eqb _ 8 (λ q. c.if-value_type-ne8.true (c.value_type.ensures ∙ q)) in
    let step = rest-step c.args.slots.now c.args.words.now c.args.n c.args.first c.loop-k.k c.loop-k.end (omega arith) in
    sym (simp z at step) ∙ c.loop-k.invariant

pub loop-k-preserved : goal.loop-k-preserved
loop-k-preserved c =
    let z = eq-eqb _ 8 (sym c.value_type.ensures ∙ c.if-value_type-ne8.false) in
    let step = rest-step c.args.slots.now c.args.words.now c.args.n c.args.first c.loop-k.k c.loop-k.end (omega arith) in
    let largest = c.max-end.ensures ∙ most_max c.loop-k.end c.end.result ∙ ap (most c.loop-k.end) (c.end.ensures ∙ ap end_of c.from_u64.ensures) in
    ap (rest c.args.slots.now c.args.words.now c.args.n c.args.first (c.loop-k.k + 1)) largest ∙ sym (simp z at step) ∙ c.loop-k.invariant

pub returns : goal.returns
returns c = sym (rest_end c.args.slots.now c.args.words.now c.args.n c.args.first _ _ (omega arith)) ∙ c.loop-k.invariant
