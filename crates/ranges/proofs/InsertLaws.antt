-- An insertion holds no value and no default against the range that it is given: it answers what it answers without one.
-- Assumes nothing.
use Prim.Native.Nat.{ℕ}
use mathlib.Core.Path.{◌≡◌, refl}
use mathlib.Core.Bool.{true}
use mathlib.Core.List.{List}
use lib.Dec.{eqb}
use Rattle.entry.specs.Table.{Dict}
use Rattle.entry.specs.Rules.{range_ok, extra_ok}
use Rattle.entry.proofs.JudgeLaws.{and_true}
use Rattle.given.specs.declared.Head.{Head}
use Rattle.given.specs.Given.{range_in, right_in}
use Rattle.insertion.specs.Insert.{answer_of}
use Rattle.ranges.specs.Unranged.{unranged}

none_right : range_ok 0 0 0 ≡ true
unfolding range_ok
none_right = refl

pub right_ignores : (h : Head) (name vals encodings : List ℕ) → range_in h ≡ true → right_in h name vals encodings ≡ right_in (unranged h) name vals encodings
unfolding right_in extra_ok
right_ignores h name vals encodings e =
    let p = and_true (eqb h.low_type h.high_type) (range_ok h.low_type h.low h.high) e in
    rw p.0 (rw p.1 (rw none_right refl))

pub insert_ignores : (h : Head) (name vals encodings : List ℕ) (d : Dict) → range_in h ≡ true → answer_of h name vals encodings d ≡ answer_of (unranged h) name vals encodings d
unfolding answer_of
insert_ignores h name vals encodings d e = rw (right_ignores h name vals encodings e) refl
