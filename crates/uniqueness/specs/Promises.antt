-- What is claimed of each public call's contract, as Rattle reads it off the source: it asks nothing of the caller, and leaves one outcome (FORMS.md
-- R15.1). Assumes nothing.
use Rattle.std.specs.Prelude.{ℕ, ◌≡◌, List}
use seplogic.Ra.Ura.{Ura}
use base.Logic.{SProp, emp}
use prog.Memory.{Memory}
use prog.Routine.{Routine}
use types.Logic.{Logic}
use contract.Monad.{Fun, fact}
use contract.Lifetimes.{Lfts}
use borrow.Fn.Kinds.{ParamKind, ResultKind, Dens, Out, res_t, ended_of}
use denote.Triple.Entry.{Args, Res}
use denote.Triple.Clauses.{Ended, Clauses, Lasts, AtExit, at_exit}

-- of a contract of n lifetimes, parameters ps and a result r: P relates the arguments, the answer and what is left in what was lent
abbrev pub Unique : (n : ℕ) (ps : List (ParamKind n)) (r : ResultKind n) → Out n ps r → Type 0
Unique n ps r P =
    (κs : Lfts n) (a : Dens κs ps) (z₁ z₂ : (res_t r κs).Denot) (w₁ w₂ : Lasts (ended_of n ps r) κs a)
    → P κs a z₁ (at_exit (ended_of n ps r) κs a w₁) → P κs a z₂ (at_exit (ended_of n ps r) κs a w₂) → (z₁ ≡ z₂) × (w₁ ≡ w₂)

-- ---- a contract, in every model of the logic
abbrev pub Contract : Ended → Type 2
Contract T = (M : Type 1) (𝓤 : Ura M) (𝓛 : Logic 𝓤) (mem : Memory → SProp 𝓤) (run : Routine → Fun 𝓤) → Clauses 𝓤 T

-- what it asks of the caller is nothing
abbrev pub AsksNothing : (T : Ended) → Contract T → Type 2
AsksNothing T c =
    (M : Type 1) (𝓤 : Ura M) (𝓛 : Logic 𝓤) (mem : Memory → SProp 𝓤) (run : Routine → Fun 𝓤) (κs : Lfts T.signature.lifetimes) (a : Args T.signature κs) (g : (c M 𝓤 𝓛 mem run κs a).ghost)
    → (c M 𝓤 𝓛 mem run κs a).requires g ≡ emp 𝓤

-- ---- of a call whose claim is written out in full: of the arguments, the result and the parameters at exit
abbrev pub Claim : Ended → Type 1
Claim T = (κs : Lfts T.signature.lifetimes) → Args T.signature κs → Res T.signature κs → AtExit T κs → Type 0

-- the contract says that claim, and no more
abbrev pub SaysJust : (T : Ended) → Contract T → Claim T → Type 2
SaysJust T c P =
    (M : Type 1) (𝓤 : Ura M) (𝓛 : Logic 𝓤) (mem : Memory → SProp 𝓤) (run : Routine → Fun 𝓤) (κs : Lfts T.signature.lifetimes) (a : Args T.signature κs) (g : (c M 𝓤 𝓛 mem run κs a).ghost) (r : Res T.signature κs) (e : AtExit T κs)
    → (c M 𝓤 𝓛 mem run κs a).ensures g r e ≡ fact 𝓤 (P κs a r e)

-- and the claim leaves one outcome
abbrev pub OneOutcome : (T : Ended) → Claim T → Type 0
OneOutcome T P =
    (κs : Lfts T.signature.lifetimes) (a : Args T.signature κs) (z₁ z₂ : Res T.signature κs) (w₁ w₂ : Lasts T κs a)
    → P κs a z₁ (at_exit T κs a w₁) → P κs a z₂ (at_exit T κs a w₂) → (z₁ ≡ z₂) × (w₁ ≡ w₂)
