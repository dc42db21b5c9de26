-- The numbers of a fault and of an explanation: RULES.md R12.12 and R12.15. Assumes nothing.
use Rattle.std.specs.Prelude.{ℕ, ◌*◌, List, [], ◌∷◌, Result, Ok, Err}
use Rattle.answers.specs.declared.Refusal.{Refusal}
use Rattle.entry.specs.declared.Missing.{Missing}
use Rattle.entry.specs.declared.Missing.TheVariants.{NoObject, NoSub}
use Rattle.element.specs.declared.Fault.{Fault}
use Rattle.element.specs.declared.Fault.TheVariants as fault
use Rattle.element.specs.declared.Target.{Target}
use Rattle.element.specs.declared.Target.TheVariants as target
use Rattle.element.specs.declared.Explained.{Explained}
use Rattle.element.specs.declared.Explained.TheVariants as explained
use Rattle.element.specs.Elements.{said_of}

-- "the faults are 31 to 39, in the order of R12.2"
abbrev pub fault_number : Fault → ℕ
fault_number fault.NotMapping = 33
fault_number fault.Misaligned = 34
fault_number fault.HandOff = 35
fault_number fault.NoTarget = 36
fault_number fault.CountTarget = 37
fault_number fault.WrongLength = 38

-- ---- an explanation, in eleven numbers
-- "what the check says of the element by itself"
abbrev pub verdict_number : Result (Unit {0}) Fault → ℕ
verdict_number (Ok _) = 0
verdict_number (Err f) = fault_number f

-- "what is there", its type, and how many bytes it holds; a count is a U8
abbrev pub there_number : Result Target Missing → ℕ
there_number (Err NoObject) = 0
there_number (Err NoSub) = 1
there_number (Ok target.Count) = 2
there_number (Ok (target.Value t n)) = 3

abbrev pub there_type : Result Target Missing → ℕ
there_type (Err m) = 0
there_type (Ok target.Count) = 5
there_type (Ok (target.Value t n)) = t

abbrev pub there_holds : Result Target Missing → ℕ
there_holds (Err m) = 0
there_holds (Ok target.Count) = 1
there_holds (Ok (target.Value t n)) = n

unfoldable pub explained_numbers : Result Explained Refusal → List ℕ
explained_numbers (Ok (explained.Other t)) = 33 ∷ t ∷ 0 ∷ 0 ∷ 0 ∷ 0 ∷ 0 ∷ 0 ∷ 0 ∷ 0 ∷ 0 ∷ []
explained_numbers (Ok (explained.Misaligned x sub offset len t)) = 34 ∷ 8 ∷ x ∷ sub ∷ offset ∷ len ∷ 0 ∷ 0 ∷ there_number t ∷ there_type t ∷ there_holds t ∷ []
explained_numbers (Ok (explained.Field x sub start n t)) =
    verdict_number (said_of (explained.Field x sub start n t)) ∷ 8 ∷ x ∷ sub ∷ start * 8 ∷ n * 8 ∷ start ∷ n ∷ there_number t ∷ there_type t ∷ there_holds t ∷ []
explained_numbers (Err r) = 0 ∷ 0 ∷ 0 ∷ 0 ∷ 0 ∷ 0 ∷ 0 ∷ 0 ∷ 0 ∷ 0 ∷ 0 ∷ []
