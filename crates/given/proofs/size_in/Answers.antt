-- `given::size_in` meets its contract. Assumes nothing.
use Rattle.std.specs.Prelude.{None}
use mathlib.Core.Path.{◌≡◌, sym, ◌∙◌}
use mathlib.Core.Bool.{cond}
use Prim.Native.Nat.{◌-◌}
use lib.ListN.{length}
use borrow.Author.Tests.{eq-eqb, ne_eqb, lt-leb, le-leb}
use native.Mathlib.Omega.{arith}
use Rattle.entry.proofs.JudgeLaws.{head_ok_lem}
use Rattle.given.specs.Given.{count_in, range_in, size_in, vals_in}
use Rattle.given.proofs.RightLaws.{size_judged}
use Rattle.given.proofs.size_in.Goals as goal
use Rattle.given.proofs.size_in.Goals.{Else-not-is_good}

pub returns-then-m-vals : goal.returns-then-m-vals
returns-then-m-vals c = sym (size_judged _ _ _ _ ∙ simp (ne_eqb _ _ c.if-m-vals.true))

pub returns-then-u-flag : goal.returns-then-u-flag
returns-then-u-flag c = sym (size_judged _ _ _ _ ∙ simp (eq-eqb _ _ c.if-m-vals.false, lt-leb _ _ c.if-u-flag.true))

pub returns-then-not-head_ok : goal.returns-then-not-head_ok
returns-then-not-head_ok c = sym (size_judged _ _ _ _ ∙ simp (eq-eqb _ _ c.if-m-vals.false, le-leb _ _ c.if-u-flag.false, sym c.head_ok.ensures ∙ c.if-not-head_ok.true))

pub returns-then-not-is_good : goal.returns-then-not-is_good
returns-then-not-is_good c = sym (size_judged _ _ _ _ ∙ simp (eq-eqb _ _ c.if-m-vals.false, le-leb _ _ c.if-u-flag.false, sym c.head_ok.ensures ∙ c.if-not-head_ok.false, sym c.is_good.ensures ∙ c.if-not-is_good.true))

-- the words add up, the default is there, the head and the name are right
asked : (c : Else-not-is_good) → let a = c.args in size_in a.head a.name.now a.vals.now a.encodings.now ≡ cond (range_in a.head) (vals_in a.vals.now a.encodings.now (count_in a.vals.now - a.head.default) (count_in a.vals.now) 0 0 (length a.name.now)) None
asked c = size_judged _ _ _ _ ∙ simp (eq-eqb _ _ c.if-m-vals.false, le-leb _ _ c.if-u-flag.false, sym c.head_ok.ensures ∙ c.if-not-head_ok.false, sym c.is_good.ensures ∙ c.if-not-is_good.false)

pub returns-then-not-range_in : goal.returns-then-not-range_in
returns-then-not-range_in c =
    sym (asked (goal.at.returns-then-not-range_in c).Else-not-is_good ∙ rw (sym c.range_in.ensures ∙ c.if-not-range_in.true))

pub vals_in-requires : goal.vals_in-requires
vals_in-requires c =
    let k = head_ok_lem _ _ _ _ _ _ (sym c.head_ok.ensures ∙ c.if-not-head_ok.false) in
    (omega (arith, k.count_small, k.flag_small, c.if-u-flag.false), omega (arith, c.if-m-vals.false), k.len_small)

pub returns : goal.returns
returns c =
    c.vals_in.ensures ∙ sym (asked (goal.at.returns c).Else-not-is_good ∙ rw (sym c.range_in.ensures ∙ c.if-not-range_in.false))
