-- `fitting::looking::Image::seek` meets its contract: what is sought from here is what is sought on the whole. Assumes nothing.
use Rattle.std.proofs.Common.{ℕ, ◌≡◌, ◌-◌, List, arith, sym, ap, ◌∙◌}
use Rattle.image.specs.declared.Head.{Head}
use Rattle.fitting.specs.Records.{records, seek_from}
use Rattle.fitting.proofs.RisingLaws.{Lies, lies}
use Rattle.fitting.proofs.RecordLaws.{seek_step, seek_here, seek_end}
use Rattle.fitting.proofs.looking.Image.seek.Goals as goal
use Rattle.fitting.proofs.looking.Image.seek.Goals.{After-self, In-loop-j}

count_is : (c : After-self) → c.self.inside.count ≡ records c.args.self.now
count_is c = c.self.invariant.0 ∙ ap records c.self.view_is

there : (c : In-loop-j) → Lies c.args.self.now c.loop-j.j
there c = let n = c.self.invariant.0 ∙ ap records c.self.view_is in lies c.args.self.now c.loop-j.j (omega (arith, n))

-- by the count of the fields, and of the value
whole : (s : List ℕ) (n k key : ℕ) → n ≡ records s → seek_from s (n - k) k key ≡ seek_from s (records s - k) k key
whole s n k key e = ap (λ m. seek_from s (m - k) k key) e

pub overflow_mul-j : goal.overflow_mul-j
overflow_mul-j c = let n = count_is (goal.at.overflow_mul-j c).After-self in omega (arith, n, there (goal.at.overflow_mul-j c).In-loop-j)

pub overflow_add-j : goal.overflow_add-j
overflow_add-j c = let n = count_is (goal.at.overflow_add-j c).After-self in omega (arith, n, there (goal.at.overflow_add-j c).In-loop-j)

pub head-requires : goal.head-requires
head-requires c = omega (arith, there (goal.at.head-requires c).In-loop-j)

pub returns-then-key-head : goal.returns-then-key-head
returns-then-key-head c =
    let k = ap (λ (h : Head). h.key) c.head.ensures in
    sym (seek_here c.args.self.now c.self.inside.count c.loop-j.j c.args.key c.loop-j-test.true (omega (arith, k, c.if-key-head.true)))
    ∙ c.loop-j.invariant
    ∙ whole c.args.self.now _ c.args.k c.args.key (count_is (goal.at.returns-then-key-head c).After-self)

pub loop-j-preserved : goal.loop-j-preserved
loop-j-preserved c =
    let k = ap (λ (h : Head). h.key) c.head.ensures in
    sym (seek_step c.args.self.now c.self.inside.count c.loop-j.j c.args.key c.loop-j-test.true (omega (arith, k, c.if-key-head.false))) ∙ c.loop-j.invariant

pub returns : goal.returns
returns c =
    let n = count_is (goal.at.returns c).After-self in
    let e : c.self.inside.count ≡ c.loop-j.j = omega (arith, n, c.requires) in
    e ∙ sym (seek_end c.args.self.now c.self.inside.count c.loop-j.j c.args.key (omega arith)) ∙ c.loop-j.invariant ∙ whole c.args.self.now _ c.args.k c.args.key n
