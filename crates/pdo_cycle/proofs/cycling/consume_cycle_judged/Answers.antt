-- `pdo_cycle::cycling::consume_cycle_judged` meets its contract: each way out is a case of the definition. Assumes nothing.
use mathlib.Core.Path.{◌≡◌, sym, ap, ap₂, ◌∙◌}
use mathlib.Core.Bool.{Bool, ◌&&◌}
use mathlib.Core.List.{List}
use Prim.Native.Nat.{ℕ, ◌/◌}
use lib.ListN.{length}
use Rattle.std.specs.List.{list_all}
use Rattle.std.specs.Simd.{first_chunks}
use Rattle.entry.proofs.JudgeLaws.{and_true}
use Rattle.pdo_cycle.specs.Payloads.{is_placed, is_short, are_shaped, are_placed, are_short}
use Rattle.pdo_cycle.specs.Cycle.{cycle_of}
use Rattle.pdo_cycle.proofs.PayloadLaws.{each_placed, each_short}
use Rattle.pdo_cycle.proofs.cycling.consume_cycle_judged.Goals as goal

-- what was asked of each payload's five numbers is asked of all payloads
module _ (ps : List ℕ) (each : List (List ℕ)) (f : each ≡ first_chunks 5 (length ps / 5) ps) (b : Bool) where
  placed : (size : ℕ) (s p : Bool) → s ≡ are_shaped ps → p ≡ list_all (λ n. is_placed size n 0) each → (s && p) ≡ b → (are_shaped ps && are_placed size ps) ≡ b
  placed size s p h k e = sym (ap₂ ◌&&◌ h (k ∙ ap (list_all (λ n. is_placed size n 0)) f ∙ each_placed size (length ps / 5) ps)) ∙ e

  short : (s : Bool) → s ≡ list_all (λ n. is_short n 0) each → s ≡ b → are_short ps ≡ b
  short s k e = sym (k ∙ ap (list_all (λ n. is_short n 0)) f ∙ each_short (length ps / 5) ps) ∙ e

pub receive_all-requires : goal.receive_all-requires
receive_all-requires c =
    let f = c.as_chunks.ensures.front in
    let p = and_true _ _ (placed _ _ f _ _ _ _ c.shaped.ensures c.all_placed.ensures c.if-not-shaped-all_placed.false) in
    (p.0, p.1, short _ _ f _ _ c.all_short.ensures c.if-not-all_short.false)

pub returns-then-not-shaped-all_placed-clause-left : goal.returns-then-not-shaped-all_placed-clause-left
unfolding cycle_of
returns-then-not-shaped-all_placed-clause-left c =
    simp (c.args.d.now.judged, placed _ _ c.as_chunks.ensures.front _ _ _ _ c.shaped.ensures c.all_placed.ensures c.if-not-shaped-all_placed.true)

pub returns-then-not-all_short-clause-left : goal.returns-then-not-all_short-clause-left
unfolding cycle_of
returns-then-not-all_short-clause-left c =
    let f = c.as_chunks.ensures.front in
    simp (c.args.d.now.judged, placed _ _ f _ _ _ _ c.shaped.ensures c.all_placed.ensures c.if-not-shaped-all_placed.false, short _ _ f _ _ c.all_short.ensures c.if-not-all_short.true)

pub returns-clause-left : goal.returns-clause-left
unfolding cycle_of
returns-clause-left c =
    let f = c.as_chunks.ensures.front in
    c.receive_all.ensures.left
    ∙ sym (simp (c.args.d.now.judged, placed _ _ f _ _ _ _ c.shaped.ensures c.all_placed.ensures c.if-not-shaped-all_placed.false, short _ _ f _ _ c.all_short.ensures c.if-not-all_short.false))
