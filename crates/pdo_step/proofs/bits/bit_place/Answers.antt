-- `pdo_step::bits::bit_place` meets its contract: each way out is a case of the definition. Assumes nothing.
use Rattle.std.specs.Prelude.{Option, Some}
use mathlib.Core.Path.{◌≡◌, sym, ap, ◌∙◌}
use mathlib.Core.Bool.{true, false, ◌&&◌, ◌||◌}
use mathlib.Core.List.{List}
use Prim.Native.Nat.{ℕ, ◌+◌}
use lib.Dec.{eqb, ltb}
use lib.ListN.{get_or}
use borrow.Author.Tests.{eq-eqb, ne_eqb}
use Rattle.entry.specs.Table.{Dict, kind_at, first_at, type_at, start_at}
use Rattle.entry.specs.Find.{find_row}
use Rattle.entry.specs.Judge.{well_formed}
use Rattle.entry.proofs.ValueLaws.{ValueFacts, RowLies, found_lies, rows_of}
use Rattle.pdo_step.specs.Bits.{byte_of, bit_in, bit_at}
use Rattle.pdo_step.proofs.BitLaws.{has_bit, variable_facts}
use native.Mathlib.Omega.{arith}
use Rattle.pdo_step.proofs.bits.bit_place.Goals as goal

found : (d v : Dict) (x n : ℕ) (r f : Option ℕ) → d ≡ v → (eqb n 0 || ltb 239 n) ≡ false → r ≡ find_row d.objects x → r ≡ f → bit_in d.objects d.slots d.words n f ≡ bit_at v.objects v.slots v.words x n
unfolding bit_at
found d v x n r f s t h e = ap (bit_in d.objects d.slots d.words n) (sym e ∙ h) ∙ sym (rw t) ∙ ap (λ (d : Dict). bit_at d.objects d.slots d.words x n) s

lies : (d : Dict) (x i : ℕ) (r : Option ℕ) → well_formed d ≡ true → r ≡ find_row d.objects x → r ≡ Some i → RowLies d i
lies d x i r w h e = found_lies d w x i (sym h ∙ e)

there : (d : Dict) (x i k : ℕ) (r : Option ℕ) → well_formed d ≡ true → r ≡ find_row d.objects x → r ≡ Some i → k ≡ kind_at d.objects i → k ≡ 0 → ValueFacts d (first_at d.objects i)
there d x i k r w h e f z = variable_facts d w x i (sym h ∙ e) (sym f ∙ z)

tested : (objects slots words : List ℕ) (n i p t : ℕ) → p ≡ first_at objects i → t ≡ type_at slots p
    → (eqb (type_at slots (first_at objects i)) 12 && ltb (byte_of n) (get_or words (first_at objects i) 0)) ≡ (eqb t 12 && ltb (byte_of n) (get_or words p 0))
tested objects slots words n i p t e f = rw (f, e)

pub returns-then-node : goal.returns-then-node
unfolding bit_at
returns-then-node c = rw c.if-node.true

pub find-requires : goal.find-requires
find-requires c = rows_of _ c.d.invariant

pub returns-in_err-i : goal.returns-in_err-i
returns-in_err-i c = c.from_residual.ensures ∙ found _ _ c.args.index c.args.node _ _ c.d.view_is c.if-node.false c.find.ensures c.in_err-i.was

pub invariant_of-row : goal.invariant_of-row
invariant_of-row c = let r = lies _ c.args.index _ _ c.d.invariant c.find.ensures c.in_ok-i.was in (r.small, r.inside)

pub returns-then-kind-ne0 : goal.returns-then-kind-ne0
returns-then-kind-ne0 c = sym (rw (ne_eqb _ 0 (λ z. c.if-kind-ne0.true (c.kind.ensures ∙ z)))) ∙ found _ _ c.args.index c.args.node _ _ c.d.view_is c.if-node.false c.find.ensures c.in_ok-i.was

pub overflow_sub-k : goal.overflow_sub-k
overflow_sub-k c = omega (arith, has_bit c.args.node c.if-node.false)

pub offset_bounds-d-inside-p : goal.offset_bounds-d-inside-p
offset_bounds-d-inside-p c = omega (arith, (there _ c.args.index _ _ _ c.d.invariant c.find.ensures c.in_ok-i.was c.kind.ensures c.if-kind-ne0.false).low, c.first-p.ensures)

pub bounds-d-inside-p : goal.bounds-d-inside-p
bounds-d-inside-p c = omega (arith, (there _ c.args.index _ _ _ c.d.invariant c.find.ensures c.in_ok-i.was c.kind.ensures c.if-kind-ne0.false).word, c.first-p.ensures)

pub invariant_of-slot : goal.invariant_of-slot
invariant_of-slot c = let v = there _ c.args.index _ _ _ c.d.invariant c.find.ensures c.in_ok-i.was c.kind.ensures c.if-kind-ne0.false in rw c.first-p.ensures (v.low, v.slot)

pub overflow_add-result : goal.overflow_add-result
overflow_add-result c =
    let v = there _ c.args.index _ _ _ c.d.invariant c.find.ensures c.in_ok-i.was c.kind.ensures c.if-kind-ne0.false in
    omega (arith, c.start.ensures ∙ ap (start_at c.d.inside.slots.now) c.first-p.ensures, v.within, v.total, c.well_formed)

pub returns-then-value_type-k : goal.returns-then-value_type-k
returns-then-value_type-k c =
    ap (λ n. Some (n + byte_of c.args.node)) (c.start.ensures ∙ ap (start_at c.d.inside.slots.now) c.first-p.ensures)
    ∙ sym (rw (eq-eqb _ 0 (sym c.kind.ensures ∙ c.if-kind-ne0.false), tested _ _ _ c.args.node c.in_ok-i.i _ _ c.first-p.ensures c.value_type.ensures ∙ c.if-value_type-k.true)) ∙ found _ _ c.args.index c.args.node _ _ c.d.view_is c.if-node.false c.find.ensures c.in_ok-i.was

pub returns : goal.returns
returns c =
    sym (rw (eq-eqb _ 0 (sym c.kind.ensures ∙ c.if-kind-ne0.false), tested _ _ _ c.args.node c.in_ok-i.i _ _ c.first-p.ensures c.value_type.ensures ∙ c.if-value_type-k.false)) ∙ found _ _ c.args.index c.args.node _ _ c.d.view_is c.if-node.false c.find.ensures c.in_ok-i.was
