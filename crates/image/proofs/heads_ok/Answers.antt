-- `image::heads_ok` meets its contract. Assumes nothing.
use mathlib.Core.Path.{◌≡◌, sym, ap, ◌∙◌}
use mathlib.Core.Bool.{true}
use mathlib.Core.List.{List}
use lib.ListN.{length, take, drop}
use Prim.Native.Nat.{ℕ, ◌+◌, ◌*◌, ◌<◌, ◌≤◌}
use Rattle.lists.specs.Numbers.{number}
use Rattle.lists.proofs.NumberLaws.{part_lt}
use Rattle.value.specs.Codec.{exact}
use Rattle.image.specs.Readable.{key_in, type_in, size_at, head_in, stands, placed}
use Rattle.image.specs.declared.Head.{Head}
use Rattle.image.proofs.ReadLaws.{Placed, placed_true, key_lt, onward, onward_end, not_placed, not_exact, onward_more}
use native.Mathlib.Omega.{arith}
use Rattle.image.proofs.heads_ok.Goals as goal
use Rattle.image.proofs.heads_ok.Goals.{After-head_in-head, Else-not-placed, After-exact_at}

-- the tests of the head are those of the record
same_place : (s : List ℕ) (a b sum low : ℕ) (h : Head) → h ≡ head_in s a → stands (length s) h b sum low ≡ placed s a b sum low
unfolding placed
same_place s a b sum low h e = ap (λ h. stands (length s) h b sum low) e

same_value : (s : List ℕ) (a p : ℕ) (h : Head) → h ≡ head_in s a → exact h.value_type (take h.size (drop p s)) ≡ exact (type_in s a) (take (size_at s a) (drop p s))
same_value s a p h e = ap (λ (h : Head). exact h.value_type (take h.size (drop p s))) e

small : (c : After-head_in-head) → c.head_in-head.result.size < 65536
small c =
    let s = c.args.s.now in
    let l : 2 + 8 * c.loop-k.k + 6 + 2 ≤ length s = omega (arith, c.requires.1, c.loop-k-test.true) in
    let b : number (take 2 (drop (2 + 8 * c.loop-k.k + 6) s)) < 65536 = part_lt s (2 + 8 * c.loop-k.k + 6) 2 l (λ j. omega (arith, c.type_inv.s j)) in
    rw c.head_in-head.ensures b

-- the record stands in its place
stood : (c : Else-not-placed) → placed c.args.s.now (2 + 8 * c.loop-k.k) (2 + 8 * c.args.count) c.loop-k.sum c.loop-k.low ≡ true
stood c = sym (c.placed.ensures ∙ same_place c.args.s.now _ _ _ _ _ c.head_in-head.ensures) ∙ c.if-not-placed.false

place : (c : Else-not-placed) → Placed c.args.s.now (2 + 8 * c.loop-k.k) (2 + 8 * c.args.count) c.loop-k.sum c.loop-k.low
place c = placed_true c.args.s.now (2 + 8 * c.loop-k.k) (2 + 8 * c.args.count) c.loop-k.sum c.loop-k.low (stood c)

-- where its next body starts, and that its body is a value
next : (c : Else-not-placed) → c.loop-k.sum + c.head_in-head.result.size ≤ 16384
next c = rw c.head_in-head.ensures (place c).small

value_is : (c : After-exact_at) → c.exact_at.result ≡ exact (type_in c.args.s.now (2 + 8 * c.loop-k.k)) (take (size_at c.args.s.now (2 + 8 * c.loop-k.k)) (drop (2 + 8 * c.args.count + c.loop-k.sum) c.args.s.now))
value_is c = c.exact_at.ensures ∙ same_value c.args.s.now (2 + 8 * c.loop-k.k) (2 + 8 * c.args.count + c.loop-k.sum) _ c.head_in-head.ensures

pub placed-requires : goal.placed-requires
placed-requires c = (small (goal.at.placed-requires c).After-head_in-head, omega (arith, c.requires.0), c.loop-k.invariant.0)

pub returns-then-not-placed : goal.returns-then-not-placed
returns-then-not-placed c =
    let a = c.args in
    let l = c.loop-k in
    sym (l.invariant.1 ∙ not_placed a.s.now a.count (2 + 8 * a.count) l.k l.sum l.low c.loop-k-test.true (sym (c.placed.ensures ∙ same_place a.s.now _ _ _ _ _ c.head_in-head.ensures) ∙ c.if-not-placed.true))

pub exact_at-requires : goal.exact_at-requires
exact_at-requires c = let p = place (goal.at.exact_at-requires c).Else-not-placed in rw c.head_in-head.ensures (omega (arith, p.within))

pub returns-then-not-exact_at : goal.returns-then-not-exact_at
returns-then-not-exact_at c =
    let a = c.args in
    let l = c.loop-k in
    sym (l.invariant.1 ∙ not_exact a.s.now a.count (2 + 8 * a.count) l.k l.sum l.low c.loop-k-test.true (sym (value_is (goal.at.returns-then-not-exact_at c).After-exact_at) ∙ c.if-not-exact_at.true))

pub overflow_add-sum : goal.overflow_add-sum
overflow_add-sum c = omega (arith, next (goal.at.overflow_add-sum c).Else-not-placed)

pub overflow_add-low : goal.overflow_add-low
overflow_add-low c =
    let s = c.args.s.now in
    let k : key_in s (2 + 8 * c.loop-k.k) < 16777216 = key_lt s (2 + 8 * c.loop-k.k) (λ j. omega (arith, c.type_inv.s j)) (omega (arith, c.requires.1, c.loop-k-test.true)) in
    let h : c.head_in-head.result.key < 16777216 = rw c.head_in-head.ensures k in
    omega (arith, h)

pub loop-k-preserved : goal.loop-k-preserved
loop-k-preserved c =
    let a = c.args in
    let l = c.loop-k in
    let at = goal.at.loop-k-preserved c in (
      next at.Else-not-placed,
      l.invariant.1
          ∙ onward_more a.s.now a.count (2 + 8 * a.count) l.k l.sum l.low c.loop-k-test.true (stood at.Else-not-placed) (sym (value_is at.After-exact_at) ∙ c.if-not-exact_at.false)
          ∙ ap (λ (h : Head). onward a.s.now a.count (2 + 8 * a.count) (l.k + 1) (l.sum + h.size) (h.key + 1)) (sym c.head_in-head.ensures),
    )

pub returns : goal.returns
returns c =
    let l = c.loop-k in
    sym (l.invariant.1 ∙ onward_end c.args.s.now c.args.count (2 + 8 * c.args.count) l.k l.sum l.low c.loop-k-test.false)
