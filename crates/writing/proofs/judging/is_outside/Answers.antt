-- `writing::judging::is_outside` meets its contract: a range of the value's type, and its two ends. Assumes nothing.
use mathlib.Core.Path.{◌≡◌, sym, ap, ap₂, subst, ◌∙◌}
use mathlib.Core.Bool.{Bool, true, false, not, ◌&&◌, ◌||◌}
use mathlib.Core.List.{List}
use Prim.Native.Nat.{ℕ}
use native.Mathlib.Omega.{arith}
use lib.Dec.{eqb}
use lib.ListN.{length, take, drop}
use lib.Seq.{take_all}
use Rattle.lists.specs.Numbers.{number, Bytes}
use Rattle.value.specs.Codec.{exact}
use Rattle.entry.specs.declared.Extra.{Extra}
use Rattle.entry.specs.Rules.{range_ok}
use Rattle.writing.proofs.WriteLaws.{outside_none, Of, outside_of, Integer, integer-word, Ranged, ranged}
use Rattle.writing.proofs.judging.is_outside.Goals as goal

record Inside (x : Extra) (t : ℕ) (s : List ℕ) : Type 0 where
  of : Of x t (number s)
  range : Ranged t x.low x.high
  word : Integer t s

known : (x : Extra) (t : ℕ) (s : List ℕ) → Bytes s → exact t s ≡ true → range_ok x.ranged x.low x.high ≡ true → (eqb t 0 || not (eqb x.ranged t)) ≡ false → Inside x t s
known x t s b e k h =
    let o = outside_of x t (number s) h in
    let r = ranged t x.low x.high o.some (subst (λ n. range_ok n x.low x.high ≡ true) o.same k) in
    record { of = o; range = r; word = integer-word t s b o.some r.small e }

whole : (s : List ℕ) (w : ℕ) → w ≡ number (take (length s) (drop 0 s)) → w ≡ number s
whole s w e = e ∙ ap number (take_all (length s) s (omega arith))

pub returns-then-t-extra : goal.returns-then-t-extra
returns-then-t-extra c = let a = c.args in sym (outside_none a.extra a.v.now.value_type (number a.v.now.«data».now) c.if-t-extra.true)

pub number-w-requires : goal.number-w-requires
number-w-requires c =
    let v = c.args.v.now in
    let k = known c.args.extra v.value_type v.«data».now v.bytes v.is_value c.requires c.if-t-extra.false in
    (k.word.long, omega arith)

pub is_ordered-requires : goal.is_ordered-requires
is_ordered-requires c =
    let v = c.args.v.now in
    let k = known c.args.extra v.value_type v.«data».now v.bytes v.is_value c.requires c.if-t-extra.false in
    (k.of.some, k.range.low_fits, rw (whole v.«data».now c.number-w.result c.number-w.ensures) k.word.fits)

pub is_ordered-requires-2 : goal.is_ordered-requires-2
is_ordered-requires-2 c =
    let v = c.args.v.now in
    let k = known c.args.extra v.value_type v.«data».now v.bytes v.is_value c.requires c.if-t-extra.false in
    (k.of.some, rw (whole v.«data».now c.number-w.result c.number-w.ensures) k.word.fits, k.range.high_fits)

pub returns : goal.returns
returns c =
    let v = c.args.v.now in
    let k = known c.args.extra v.value_type v.«data».now v.bytes v.is_value c.requires c.if-t-extra.false in
    let e = whole v.«data».now c.number-w.result c.number-w.ensures in
    ap₂ (λ (x y : Bool). not (x && y)) (rw e at c.is_ordered.ensures) (rw e at c.is_ordered-2.ensures) ∙ sym k.of.test
