-- `fitting::looking::Image::start_from` meets its contract: all records before the answer are below the key. Assumes nothing.
use Rattle.std.proofs.Common.{◌≡◌, ◌-◌, arith, refl, ap}
use Rattle.image.specs.declared.Head.{Head}
use Rattle.fitting.specs.Records.{records}
use Rattle.fitting.proofs.RisingLaws.{Lies, lies, cursor_near}
use Rattle.fitting.proofs.looking.Image.start_from.Goals as goal
use Rattle.fitting.proofs.looking.Image.start_from.Goals.{Else-self-eq0}

-- the record before
before : (c : Else-self-eq0) → Lies c.args.self.now (c.self.inside.near - 1)
before c =
    let v : records c.self.inside.store.now ≡ records c.args.self.now = ap records c.self.view_is in
    lies c.args.self.now (c.self.inside.near - 1) (omega (arith, v, c.if-self-eq0.false, c.self.invariant.0, c.self.invariant.1))

pub overflow_mul-self-inside : goal.overflow_mul-self-inside
overflow_mul-self-inside c =
    let v : records c.self.inside.store.now ≡ records c.args.self.now = ap records c.self.view_is in
    omega (arith, v, before (goal.at.overflow_mul-self-inside c).Else-self-eq0, c.self.invariant.0, c.self.invariant.1)

pub overflow_add-self-inside : goal.overflow_add-self-inside
overflow_add-self-inside c =
    let v : records c.self.inside.store.now ≡ records c.args.self.now = ap records c.self.view_is in
    omega (arith, v, before (goal.at.overflow_add-self-inside c).Else-self-eq0, c.self.invariant.0, c.self.invariant.1)

pub head-requires : goal.head-requires
head-requires c = omega (arith, (before (goal.at.head-requires c).Else-self-eq0).inside)

pub returns-then-head-key : goal.returns-then-head-key
returns-then-head-key c =
    let v : records c.self.inside.store.now ≡ records c.args.self.now = ap records c.self.view_is in
    let k = ap (λ (h : Head). h.key) c.head.ensures in
    cursor_near c.args.self.now _ c.self.inside.near c.args.key refl (omega (arith, c.if-self-eq0.false)) (omega (arith, v, c.self.invariant.0, c.self.invariant.1)) (omega (arith, k, c.if-head-key.true))
