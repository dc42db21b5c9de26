-- What the dictionary's calls for C answer and leave: 01's number of each answer, and its values. RULES.md 13.
-- Assumes nothing.
use Rattle.od.specs.declared.Stored.{Stored}
use Rattle.answers.specs.declared.Refusal.{Refusal}
use Rattle.std.specs.Prelude.{ℕ, List, [], ◌∷◌, Result, Ok, Err}
use Rattle.answers.specs.Numbers.{refusal_number}
use Rattle.entry.specs.Table.{Dict}
use Rattle.given.specs.declared.Head.{Head}
use Rattle.od.specs.Read.{read_of, of_type}
use Rattle.names.specs.Names.{by_name_of}
use Rattle.nodes.specs.Nodes.{cns_of}
use Rattle.c_answers.specs.Answers.{answer_number, Told, number_told, Lent, lent, results, Written, count_wrote}

abbrev pub inserted_number : Result (Unit {0}) Refusal → ℕ
inserted_number a = answer_number a

abbrev pub head_of : ℕ → ℕ → ℕ → ℕ → ℕ → ℕ → ℕ → ℕ → Head
head_of index kind access default s low t high =
    record { index = index; kind = kind; access = access; default = default; low_type = s; low = low; high_type = t; high = high }

-- a value's type, its word and where its room starts
abbrev pub stored_numbers : Result Stored Refusal → List ℕ → Lent
stored_numbers (Ok v) ns = results (v.value_type ∷ v.word ∷ v.start ∷ []) ns
stored_numbers (Err r) ns = lent (refusal_number r) ns

unfoldable pub read_numbers : Dict → ℕ → ℕ → List ℕ → Lent
read_numbers d x sub ns = stored_numbers (read_of d x sub) ns

unfoldable pub typed_told : ℕ → Dict → ℕ → ℕ → ℕ → Told
typed_told t d x sub m = number_told (of_type t (read_of d x sub)) m

unfoldable pub named_told : Dict → List ℕ → ℕ → Told
named_told d name m = number_told (by_name_of d name) m

unfoldable pub node_numbers : Dict → List ℕ → ℕ → Written
node_numbers d out m = let g = cns_of d out in count_wrote g.answer g.out m
