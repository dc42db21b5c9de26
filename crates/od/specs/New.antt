-- An empty dictionary: RULES.md 5. Assumes nothing.
use Rattle.answers.specs.declared.Refusal.{Refusal}
use Rattle.std.specs.Prelude.{ℕ, cond, List, [], ltb, length, Result, Ok, Err}
use Rattle.lists.specs.Lists.{over}
use Rattle.answers.specs.declared.Refusal.TheVariants.{Malformed, Full}
use Rattle.entry.specs.Model.{header}
use Rattle.entry.specs.Table.{row_place}
use Rattle.entry.specs.Rules.{is_edition}

-- an answer, and the lent rows after it
pub record Made : Type 0 where
  pub answer : Result (Unit {0}) Refusal
  pub objects : List ℕ

abbrev pub made : Result (Unit {0}) Refusal → List ℕ → Made
made a os = record { answer = a; objects = os }

-- R5.14: the header of no object, of an edition; of another one: Malformed; where the rows cannot hold it: Full
abbrev pub new_of : ℕ → List ℕ → Made
new_of edition objects =
    cond (is_edition edition)
    (cond (ltb (length objects) (row_place 0)) (made (Err Full) objects) (made (Ok tt) (over objects 0 (header edition []))))
    (made (Err Malformed) objects)
