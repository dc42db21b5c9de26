-- `fitting::choosing::default_for` meets its contract: each way out is a case of the definition. Assumes nothing.
use mathlib.Core.Path.{◌≡◌, refl, sym, ap₂, ◌∙◌}
use mathlib.Core.Bool.{true}
use mathlib.Core.List.{List, []}
use Prim.Native.Nat.{ℕ, ◌+◌, ◌<◌}
use Rattle.entry.specs.Table.{Dict, number_of, count_at, default_at, first_at}
use Rattle.entry.specs.Judge.{well_formed}
use Rattle.entry.proofs.ValueLaws.{ValueFacts, every_value, row_lies}
use Rattle.fitting.specs.Fit.{default_in}
use Rattle.fitting.proofs.SlotLaws.{facts, default_slot}
use native.Mathlib.Omega.{arith}
use Rattle.fitting.proofs.choosing.default_for.Goals as goal

-- the default's slot
default-there : (d : Dict) → well_formed d ≡ true → (i k x : ℕ) → i < number_of d.objects → k < count_at d.objects i → x ≡ default_at d.objects i → x ≡ 1 → ValueFacts d (default_in d.objects i)
default-there d e i k x hi hk q h = every_value d e (default_in d.objects i) (default_slot d e [] i k hi hk (default_in d.objects i) (refl, sym q ∙ h)).0

named : (objects : List ℕ) (i f n : ℕ) → f ≡ first_at objects i → n ≡ count_at objects i → f + n ≡ default_in objects i
named objects i f n p q = ap₂ (λ x y. x + y) p q

pub invariant_of-row : goal.invariant_of-row
invariant_of-row c =
    let r = row_lies _ c.d.invariant c.args.i (rw (sym c.d.view_is) at c.requires.0) in
    (r.small, r.inside)

pub overflow_add-default : goal.overflow_add-default
overflow_add-default c =
    let f = default-there _ c.d.invariant c.args.i c.args.k _ (rw (sym c.d.view_is) at c.requires.0) (rw (sym c.d.view_is) at c.requires.1) c.default.ensures c.if-default-ne1.false in
    omega (arith, f.low, c.first-first.ensures, c.count.ensures)

pub overflow_add-first : goal.overflow_add-first
overflow_add-first c =
    let f = facts _ c.d.invariant [] c.args.i c.args.k (rw (sym c.d.view_is) at c.requires.0) (rw (sym c.d.view_is) at c.requires.1) in
    omega (arith, f.low, c.first-first.ensures)

pub invariant_of-value_type : goal.invariant_of-value_type
invariant_of-value_type c =
    let f = facts _ c.d.invariant [] c.args.i c.args.k (rw (sym c.d.view_is) at c.requires.0) (rw (sym c.d.view_is) at c.requires.1) in
    rw c.first-first.ensures (f.low, f.slot)

pub invariant_of-value_type-2 : goal.invariant_of-value_type-2
invariant_of-value_type-2 c =
    let f = default-there _ c.d.invariant c.args.i c.args.k _ (rw (sym c.d.view_is) at c.requires.0) (rw (sym c.d.view_is) at c.requires.1) c.default.ensures c.if-default-ne1.false in
    rw (named c.d.inside.objects.now c.args.i _ _ c.first-first.ensures c.count.ensures) (f.low, f.slot)
