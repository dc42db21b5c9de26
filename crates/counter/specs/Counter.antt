-- increment_counter: RULES.md 8. Assumes nothing.
use Rattle.answers.specs.declared.Refusal.{Refusal}
use Rattle.std.specs.Prelude.{ℕ, ◌+◌, ◌%◌, ◌^◌, cond, List, ◌==◌, slice_index, slice_set, Option, Some, None, Result, Ok, Err}
use Rattle.answers.specs.declared.Refusal.TheVariants.{Malformed}
use Rattle.entry.specs.Table.{Dict, kind_at, type_at}
use Rattle.entry.specs.Find.{find_row, sub_at}
use Rattle.entry.specs.Judge.{well_formed}
use Rattle.entry.specs.declared.Place.{Place}
use Rattle.entry.specs.declared.Place.TheVariants.{Count, Value}

-- R8.4: "A U32 Variable at sub-index 0, or a Record's U32 element"; "never an Array's"
abbrev pub of_u32 : Dict → Option Place → Option ℕ
of_u32 d (Some (Value p)) = cond (type_at d.slots p == 7) (Some p) None
of_u32 d (Some (Count n)) = None
of_u32 d None = None

abbrev pub in_row : Dict → ℕ → Option ℕ → Option ℕ
in_row d sub (Some i) = cond (kind_at d.objects i == 1) None (of_u32 d (sub_at d.objects i sub))
in_row d sub None = None

unfoldable pub counter_at : Dict → ℕ → ℕ → Option ℕ
counter_at d x sub = in_row d sub (find_row d.objects x)

-- "grows by 1 modulo 2^32"; "Elsewhere nothing happens."
abbrev pub counted : List ℕ → Option ℕ → List ℕ
counted words (Some p) = slice_set words p ((slice_index words p + 1) % 2 ^ 32)
counted words None = words

-- an answer, and the words after it
pub record AfterIncrement : Type 0 where
  pub answer : Result (Unit {0}) Refusal
  pub words : List ℕ

abbrev pub after_increment : Result (Unit {0}) Refusal → List ℕ → AfterIncrement
after_increment a ws = record { answer = a; words = ws }

unfoldable pub counter_of : Dict → ℕ → ℕ → AfterIncrement
counter_of d x sub = cond (well_formed d) (after_increment (Ok tt) (counted d.words (counter_at d x sub))) (after_increment (Err Malformed) d.words)
