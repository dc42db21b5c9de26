-- Writing: RULES.md 8. What was judged, and what it does.
-- Assumes nothing.
use Rattle.answers.specs.declared.Refusal.{Refusal}
use Rattle.std.specs.Prelude.{ℕ, cond, List, length, Result, Ok, Err}
use Rattle.answers.specs.declared.Refusal.TheVariants.{Malformed}
use Rattle.entry.specs.Table.{Dict, dict}
use Rattle.entry.specs.Put.{contents, put_in}
use Rattle.entry.specs.Judge.{well_formed}
use Rattle.rows.specs.Rows.{kept_in}
use Rattle.commands.specs.Save.{save_of}
use Rattle.writing.specs.declared.Act.{Act}
use Rattle.writing.specs.declared.Act.TheVariants.{Put, Accepted, Keep, Save, Restore}
use Rattle.writing.specs.declared.Wrote.{Wrote}
use Rattle.writing.specs.declared.Wrote.TheVariants.{Done, RestoreRequested}
use Rattle.writing.specs.declared.WriteFault.{WriteFault}
use Rattle.writing.specs.declared.WriteFault.TheVariants.{Refused}
use Rattle.writing.specs.Judging.{judge_of}

-- an answer, and what was lent after it
pub record AfterWrite : Type 0 where
  pub answer : Result Wrote WriteFault
  pub objects : List ℕ
  pub words : List ℕ
  pub bytes : List ℕ
  pub store : List ℕ

abbrev pub after_write : Result Wrote WriteFault → List ℕ → List ℕ → List ℕ → List ℕ → AfterWrite
after_write a os ws bs st = record { answer = a; objects = os; words = ws; bytes = bs; store = st }

-- the dictionary after it
abbrev pub written_in : Dict → AfterWrite → Dict
written_in d a = dict a.objects d.slots a.words a.bytes

abbrev pub saved_as : Result (Unit {0}) Refusal → Result Wrote WriteFault
saved_as (Ok _) = Ok Done
saved_as (Err r) = Err (Refused r)

-- R8.2, R8.3 and R8.7: "Else the value is put"; "the store only by a save"; "the rows only by a count that is kept"
unfoldable pub write_act_of : Dict → List ℕ → ℕ → List ℕ → Result Act WriteFault → AfterWrite
write_act_of d store sub s (Ok (Put p)) = let c = put_in d.slots (contents d.words d.bytes) p s in after_write (Ok Done) d.objects c.words c.bytes store
write_act_of d store sub s (Ok Accepted) = after_write (Ok Done) d.objects d.words d.bytes store
write_act_of d store sub s (Ok (Keep i n)) = after_write (Ok Done) (kept_in i n d.objects) d.words d.bytes store
write_act_of d store sub s (Ok Save) = let a = save_of d store sub in after_write (saved_as a.answer) d.objects d.words d.bytes a.store
write_act_of d store sub s (Ok Restore) = after_write (Ok RestoreRequested) d.objects d.words d.bytes store
write_act_of d store sub s (Err f) = after_write (Err f) d.objects d.words d.bytes store

unfoldable pub write_of : Dict → List ℕ → ℕ → ℕ → ℕ → List ℕ → AfterWrite
write_of d store x sub t s =
    cond (well_formed d)
    (write_act_of d store sub s (judge_of d (length store) x sub t s))
    (after_write (Err (Refused Malformed)) d.objects d.words d.bytes store)
