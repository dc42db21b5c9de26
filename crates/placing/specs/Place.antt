-- An object laid at its place: RULES.md 6. Assumes nothing.
use Rattle.std.specs.Prelude.{ℕ, ◌+◌, ◌-◌, ◌≤◌, ◌<◌, List, length}
use Rattle.entry.specs.Model.{Obj, insert_at}
use Rattle.entry.specs.Table.{Dict, model_of, laid, number_of, values_of, used_of, row_end, slot_place}
use Rattle.rows.specs.Rows.{row_of}
use Rattle.given.specs.Given.{extra_in}
use Rattle.given.specs.declared.Head.{Head}

-- the memory with the object o as the one at place i: R6.6
abbrev pub inserted : ℕ → Obj → Dict → Dict
inserted i o d = laid (insert_at i o (model_of d)) d

-- its row
abbrev pub row_in : Head → ℕ → ℕ → ℕ → ℕ → List ℕ
row_in h v b len u = row_of h.index h.kind h.access (u - h.default) v b len h.default (extra_in h (u - h.default))

-- there is room for one object more, of u values and g bytes
pub record Room (objects slots words bytes : List ℕ) (i u g : ℕ) : Type 0 where
  pub place : i ≤ number_of objects
  pub few : number_of objects < 1024
  pub rows : row_end (number_of objects) ≤ length objects
  pub values : values_of objects + u ≤ 6144
  pub slotted : slot_place (values_of objects + u) ≤ length slots
  pub worded : values_of objects + u ≤ length words
  pub total : used_of objects + g ≤ 32768
  pub arena : used_of objects + g ≤ length bytes
