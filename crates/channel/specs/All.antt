-- The check of all channels: RULES.md R12.13. Assumes nothing.
use Rattle.answers.specs.declared.Refusal.{Refusal}
use Rattle.std.specs.Prelude.{ℕ, zero, suc, ◌+◌, cond, List, [], ◌∷◌, ltb, length, Option, Some, None, Result, Ok, Err}
use Rattle.lists.specs.Lists.{over}
use Rattle.answers.specs.declared.Refusal.TheVariants.{Malformed, BufferTooShort}
use Rattle.entry.specs.Table.{Dict}
use Rattle.entry.specs.Find.{find_row}
use Rattle.entry.specs.Judge.{well_formed}
use Rattle.pdo_channel.specs.Channel.{comm_index}
use Rattle.channel.specs.Check.{check_of}
use Rattle.channel.specs.Numbers.{answer_number, element_of}

-- "the channel, its answer's number, and the element"
abbrev pub line_of : Dict → ℕ → List ℕ → List ℕ
line_of d i rest = i ∷ answer_number (check_of d i) ∷ element_of (check_of d i) ∷ rest

-- "each channel that has an object 1400h+i"
abbrev pub on_comm : Dict → ℕ → List ℕ → Option ℕ → List ℕ
on_comm d i rest (Some r) = line_of d i rest
on_comm d i rest None = rest

-- n channels from channel i on
unfoldable pub lines_from : Dict → ℕ → ℕ → List ℕ
lines_from d zero i = []
lines_from d (suc n) i = on_comm d i (lines_from d n (i + 1)) (find_row d.objects (comm_index i))

-- the lent numbers, and how many were laid, where so many lay before
pub record Laid : Type 0 where
  pub out : List ℕ
  pub count : ℕ

abbrev pub laid_lines : List ℕ → ℕ → Laid
laid_lines out n = record { out = out; count = n }

abbrev pub laid_on : List ℕ → List ℕ → ℕ → Laid
laid_on ns out n = laid_lines (over out n ns) (n + length ns)

-- an answer, and the lent numbers after it
pub record AfterCheckAll : Type 0 where
  pub answer : Result ℕ Refusal
  pub out : List ℕ

abbrev pub after_check_all : Result ℕ Refusal → List ℕ → AfterCheckAll
after_check_all a out = record { answer = a; out = out }

abbrev pub check_all_done : Laid → AfterCheckAll
check_all_done l = after_check_all (Ok l.count) l.out

-- R12.13: "Malformed (1); under 768 numbers: BufferTooShort (12)"
unfoldable pub check_all_of : Dict → List ℕ → AfterCheckAll
check_all_of d out =
    cond (well_formed d)
    (cond (ltb (length out) 768) (after_check_all (Err BufferTooShort) out) (check_all_done (laid_on (lines_from d 256 0) out 0)))
    (after_check_all (Err Malformed) out)
