-- What the channel check answers for C: RULES.md R12.12, R12.13 and R12.15. Assumes nothing.
use Rattle.answers.specs.declared.Refusal.{Refusal}
use Rattle.std.specs.Prelude.{ℕ, List, Result, Ok, Err}
use Rattle.answers.specs.Numbers.{refusal_number}
use Rattle.channel.specs.declared.Checked.{Checked}
use Rattle.channel.specs.declared.Checked.TheVariants as checked
use Rattle.element.specs.declared.Explained.{Explained}
use Rattle.element.specs.Numbers.{explained_numbers}
use Rattle.channel.specs.Numbers.{answer_number, element_of}
use Rattle.channel.specs.All.{AfterCheckAll}
use Rattle.c_answers.specs.Answers.{Told, told, Lent, lent, results, Written, count_wrote}

-- R12.12: "The element goes into a lent number, which Malformed leaves."
abbrev pub checked_element : Checked → ℕ → ℕ
checked_element checked.Pass m = element_of checked.Pass
checked_element checked.NoSender m = element_of checked.NoSender
checked_element checked.NoList m = element_of checked.NoList
checked_element (checked.Element k f) m = element_of (checked.Element k f)
checked_element checked.TooFar m = element_of checked.TooFar
checked_element (checked.Refused r) m = m

abbrev pub checked_told : Checked → ℕ → Told
checked_told a m = told (answer_number a) (checked_element a m)

-- the answer, the lent numbers, and how many were laid
unfoldable pub check_all_numbers : AfterCheckAll → ℕ → Written
check_all_numbers a m = count_wrote a.answer a.out m

-- R12.15: "Done: eleven numbers .. fewer than 11 numbers: BufferTooShort (12)"
unfoldable pub explain_numbers : Result Explained Refusal → List ℕ → Lent
explain_numbers (Ok e) ns = results (explained_numbers (Ok e)) ns
explain_numbers (Err r) ns = lent (refusal_number r) ns
