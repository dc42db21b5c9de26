-- Setting an error bit as a call: RULES.md 11. Assumes nothing.
use Rattle.answers.specs.declared.Refusal.{Refusal}
use Rattle.std.specs.Prelude.{ℕ, cond, List, Result, Ok, Err}
use Rattle.answers.specs.declared.Refusal.TheVariants.{Malformed}
use Rattle.entry.specs.Table.{Dict}
use Rattle.entry.specs.Judge.{well_formed}
use Rattle.pdo_step.specs.Bits.{marked_in}

-- an answer, and the bytes after it
pub record AfterUpdate : Type 0 where
  pub answer : Result (Unit {0}) Refusal
  pub bytes : List ℕ

abbrev pub after_update : Result (Unit {0}) Refusal → List ℕ → AfterUpdate
after_update a bs = record { answer = a; bytes = bs }

-- R11.11: "Malformed (1), else always Done"
unfoldable pub update_of : Dict → ℕ → ℕ → AfterUpdate
update_of d x n = cond (well_formed d) (after_update (Ok tt) (marked_in d.objects d.slots d.words d.bytes x n)) (after_update (Err Malformed) d.bytes)
