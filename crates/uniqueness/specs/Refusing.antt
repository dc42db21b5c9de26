-- R13.2: "A refusal changes no lent slice." Assumes nothing.
use Rattle.std.specs.Prelude.{ℕ, ◌≡◌, List}
use contract.Lifetimes.{Lfts}
use borrow.Fn.Kinds.{ParamKind, ResultKind, Dens, Out, res_t, ended_of}
use denote.Triple.Entry.{Args, Res}
use denote.Triple.Clauses.{Ended, Lasts, at_exit}
use Rattle.uniqueness.specs.Promises.{Claim}

-- ---- of a definition: of an outcome x with an answer in it, where the answer is what is said of a refusal, the rest is what was lent; `same a` is the
-- outcome of answer a in which nothing has changed. R is `Refusal`, or `CodecFault` of a write's data that does not decode.
abbrev pub Refuses : {R : Type 0} → (A B : Type 0) → (A → B) → (R → B) → (B → A) → A → Type 0
Refuses {R} A B answer said same x = (r : R) → answer x ≡ said r → x ≡ same (said r)

-- ---- an answer is what is said of a refusal
abbrev pub RefusedBy : {R B : Type 0} → (R → B) → B → Type 0
RefusedBy {R} said z = (r : R) × (z ≡ said r)

-- ---- of a contract of n lifetimes, parameters ps and a result r, as Rattle reads it off the source: where the answer is a refusal, what is left in what was
-- lent is what was lent. `lent` has it for each parameter that may change, in order, and `tt` for the others.
abbrev pub Stays : (n : ℕ) (ps : List (ParamKind n)) (r : ResultKind n) → Out n ps r → ((κs : Lfts n) → (res_t r κs).Denot → Type 0) → ((κs : Lfts n) (a : Dens κs ps) → Lasts (ended_of n ps r) κs a) → Type 0
Stays n ps r P refused lent =
    (κs : Lfts n) (a : Dens κs ps) (z : (res_t r κs).Denot) (w : Lasts (ended_of n ps r) κs a)
    → P κs a z (at_exit (ended_of n ps r) κs a w) → refused κs z → w ≡ lent κs a

-- the same where two numbers are lent for what a fault tells (R13.5): they are part of the answer, and what is left in the slices is what was lent
abbrev pub SlicesStay : (n : ℕ) (ps : List (ParamKind n)) (r : ResultKind n) → Out n ps r → ((κs : Lfts n) → (res_t r κs).Denot → Type 0) → (B : Type 0) → ((κs : Lfts n) (a : Dens κs ps) → Lasts (ended_of n ps r) κs a → B) → ((κs : Lfts n) → Dens κs ps → B) → Type 0
SlicesStay n ps r P refused B slices lent =
    (κs : Lfts n) (a : Dens κs ps) (z : (res_t r κs).Denot) (w : Lasts (ended_of n ps r) κs a)
    → P κs a z (at_exit (ended_of n ps r) κs a w) → refused κs z → slices κs a w ≡ lent κs a

-- the same of a claim that a contract just says
abbrev pub ClaimStays : (T : Ended) → Claim T → ((κs : Lfts T.signature.lifetimes) → Res T.signature κs → Type 0) → ((κs : Lfts T.signature.lifetimes) (a : Args T.signature κs) → Lasts T κs a) → Type 0
ClaimStays T P refused lent =
    (κs : Lfts T.signature.lifetimes) (a : Args T.signature κs) (z : Res T.signature κs) (w : Lasts T κs a) → P κs a z (at_exit T κs a w) → refused κs z → w ≡ lent κs a
