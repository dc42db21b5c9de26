-- `fitting::looking::Image::look_up` meets its contract: the record where seeking ends is the one with the key, or there is none. Assumes nothing.
use Rattle.std.proofs.Common.{ℕ, ◌≡◌, ◌≢◌, ◌≤◌, ◌<◌, List, Some, None, arith, refl, sym, ap, ◌∙◌}
use borrow.Author.Tests.{lt-ltb, le-ltb, eq-eqb, ne_eqb}
use Rattle.fitting.specs.Records.{record_place, records, record_of}
use Rattle.lists.specs.Numbers.{Bytes}
use Rattle.image.specs.Readable.{key_in}
use Rattle.image.specs.declared.Head.{Head}
use Rattle.fitting.proofs.RecordLaws.{stopped}
use Rattle.fitting.proofs.RisingLaws.{Lies, lies, sought_within, looked_up}
use Rattle.fitting.proofs.looking.Image.look_up.Goals as goal
use Rattle.fitting.proofs.looking.Image.look_up.Goals.{After-seek-r, Then-r-self}

found : (c : After-seek-r) → record_of c.args.self.now c.args.key ≡ stopped c.args.self.now (records c.args.self.now) c.seek-r.result c.args.key
found c = looked_up c.args.self.now (records c.args.self.now) c.start_from.result c.args.key c.seek-r.result refl c.start_from.ensures c.seek-r.ensures

-- where seeking stops, by the fields
module _ (s t : List ℕ) (r key n : ℕ) where
  is_it : (k : ℕ) → s ≡ t → n ≡ records s → r < n → k ≡ key_in s (record_place r) → k ≡ key → stopped t (records t) r key ≡ Some (record_place r)
  is_it k e h l q z = rw (← e, ← h, lt-ltb _ _ l, eq-eqb _ _ (sym q ∙ z))

  is_other : (k : ℕ) → s ≡ t → n ≡ records s → r < n → k ≡ key_in s (record_place r) → k ≢ key → stopped t (records t) r key ≡ None
  is_other k e h l q z = rw (← e, ← h, lt-ltb _ _ l, ne_eqb _ _ (λ y. z (q ∙ y)))

  is_behind : s ≡ t → n ≡ records s → n ≤ r → stopped t (records t) r key ≡ None
  is_behind e h l = rw (← e, ← h, le-ltb _ _ l)

-- the record where it stops is the hint for the next one
moved : (c : After-seek-r) → (c.self.inside.count ≡ records c.self.inside.store.now) × (c.seek-r.result ≤ c.self.inside.count) × Bytes c.self.inside.store.now
moved c =
    let w = sought_within c.args.self.now (records c.args.self.now) c.start_from.result c.args.key c.start_from.ensures.here in
    let v : records c.self.inside.store.now ≡ records c.args.self.now = ap records c.self.view_is in
    (c.self.invariant.0, omega (arith, w, v, c.seek-r.ensures, c.self.invariant.0), c.self.invariant.2)

there : (c : Then-r-self) → Lies c.self.inside.store.now c.seek-r.result
there c = lies c.self.inside.store.now c.seek-r.result (omega (arith, c.self.invariant, c.if-r-self.true))

pub overflow_mul-a : goal.overflow_mul-a
overflow_mul-a c = omega (arith, there c, c.self.invariant, c.if-r-self.true)

pub overflow_add-a : goal.overflow_add-a
overflow_add-a c = omega (arith, there c, c.self.invariant, c.if-r-self.true)

pub invariant_of-self : goal.invariant_of-self
invariant_of-self c = moved (goal.at.invariant_of-self c).After-seek-r

pub head-requires : goal.head-requires
head-requires c = (there (goal.at.head-requires c).Then-r-self).inside

pub returns-then-head-key-clause-found : goal.returns-then-head-key-clause-found
returns-then-head-key-clause-found c =
    let f = found (goal.at.returns-then-head-key-clause-found c).After-seek-r in
    sym (f ∙ is_it _ _ c.seek-r.result c.args.key c.self.inside.count _ c.self.view_is c.self.invariant.0 c.if-r-self.true (ap (λ (h : Head). h.key) c.head.ensures) c.if-head-key.true)

pub returns-else-head-key-clause-found : goal.returns-else-head-key-clause-found
returns-else-head-key-clause-found c =
    let f = found (goal.at.returns-else-head-key-clause-found c).After-seek-r in
    sym (f ∙ is_other _ _ c.seek-r.result c.args.key c.self.inside.count _ c.self.view_is c.self.invariant.0 c.if-r-self.true (ap (λ (h : Head). h.key) c.head.ensures) c.if-head-key.false)

pub invariant_of-self-else-r-self : goal.invariant_of-self-else-r-self
invariant_of-self-else-r-self c = moved (goal.at.invariant_of-self-else-r-self c).After-seek-r

pub returns-else-r-self-clause-found : goal.returns-else-r-self-clause-found
returns-else-r-self-clause-found c =
    let f = found (goal.at.returns-else-r-self-clause-found c).After-seek-r in
    sym (f ∙ is_behind _ _ c.seek-r.result c.args.key c.self.inside.count c.self.view_is c.self.invariant.0 c.if-r-self.false)
