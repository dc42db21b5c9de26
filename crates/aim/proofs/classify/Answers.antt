-- `aim::classify` meets its contract: each way out is a case of the definition. Assumes nothing.
use Rattle.std.specs.Prelude.{Some}
use Rattle.mapping.specs.declared.Field.{Field}
use mathlib.Core.Path.{◌≡◌, sym, ap, ◌∙◌}
use mathlib.Core.Bool.{false}
use Prim.Native.Nat.{ℕ, ◌≤◌}
use native.Mathlib.Omega.{arith}
use Rattle.aim.specs.declared.Aim.{Aim}
use Rattle.aim.specs.Aims.{between, class_in, class_of}
use Rattle.aim.proofs.RangeLaws.{between_in, between_low, between_high}
use borrow.Author.Rules.{rules}
use Rattle.aim.proofs.classify.Goals as goal
use Rattle.aim.proofs.classify.Goals.{in_default-index-via-then-a-lt4608, in_default-index-via-else-a-lt4608+else-a-lt4736+else-a-lt4864}

-- with the field that was found
fielded : (a : Aim) (f : Field) → a.field ≡ Some f → class_in a.entry.index a.place (Some f) ≡ class_of a
unfolding class_of
fielded a f e = sym (ap (class_in a.entry.index a.place) e)

pub returns-in_default : goal.returns-in_default
unfolding class_of
returns-in_default c = search rules

pub returns-in-4608-to-4735 : goal.returns-in-4608-to-4735
returns-in-4608-to-4735 c =
    let x = c.args.a.entry.index in
    sym (rw (between_in 0x1200 0x127F x (omega arith) (omega arith))) ∙ fielded _ c.in-Some.field c.in-Some.is

pub returns-in-4736-to-4863 : goal.returns-in-4736-to-4863
returns-in-4736-to-4863 c =
    let x = c.args.a.entry.index in
    sym (rw (between_high 0x1200 0x127F x (omega arith), between_in 0x1280 0x12FF x (omega arith) (omega arith))) ∙ fielded _ c.in-Some.field c.in-Some.is

-- outside of both ranges
pub returns-in_default-index : goal.returns-in_default-index
returns-in_default-index c =
    let away : (low high : ℕ) → 0x1200 ≤ low → high ≤ 0x12FF → between low high c.args.a.entry.index ≡ false = λ low high a b.
    elim c.in_default-index.branch [
      | in_default-index-via-then-a-lt4608 w ↦ between_low low high _ (omega arith)
      | in_default-index-via-else-a-lt4608+else-a-lt4736+else-a-lt4864 w ↦ between_high low high _ (omega arith)
    ] in
    c.at_place.ensures ∙ sym (rw (away 0x1200 0x127F (omega arith) (omega arith), away 0x1280 0x12FF (omega arith) (omega arith))) ∙ fielded _ c.in-Some.field c.in-Some.is
