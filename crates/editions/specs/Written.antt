-- What a write does to the rows: RULES.md R8.7, "at most that one word changes". Assumes nothing.
use Rattle.std.specs.Prelude.{ℕ, ◌+◌, ◌≤◌, ◌≡◌, true, List, get_or, Some, Ok}
use Rattle.entry.specs.Table.{Dict, edition_of, is_mapping, count_at}
use Rattle.entry.specs.Find.{find_row}
use Rattle.rows.specs.Rows.{kept_in}
use Rattle.writing.specs.declared.Wrote.TheVariants.{Done}
use Rattle.writing.specs.Writing.{AfterWrite}

-- a count was kept: the answer is Done, the dictionary of edition 2, the index a mapping's, and the count the data's one byte
pub record KeptCount (d : Dict) (x sub : ℕ) (s : List ℕ) (a : AfterWrite) : Type 0 where
  pub row : ℕ
  pub found : find_row d.objects x ≡ Some row
  pub edition : edition_of d.objects ≡ 2
  pub mapping : is_mapping x ≡ true
  pub count : sub ≡ 0
  pub few : get_or s 0 0 ≤ count_at d.objects row
  pub answer : a.answer ≡ Ok Done
  pub objects : a.objects ≡ kept_in row (get_or s 0 0) d.objects
  pub words : a.words ≡ d.words
  pub bytes : a.bytes ≡ d.bytes
