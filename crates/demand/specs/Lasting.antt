-- How long a pass lasts: RULES.md R12.9 to R12.11. Assumes nothing.
use Rattle.std.specs.Prelude.{ℕ, ◌+◌, ◌<◌, ◌≡◌, Bool, true, List, [], ◌∷◌, get_or, Some, Ok}
use Rattle.lists.specs.Numbers.{Bytes}
use Rattle.mapping.specs.Word.{entry_of}
use Rattle.entry.specs.Table.{Dict, kind_at, count_at, kept_at, list_count, first_at, type_at, room_at}
use Rattle.entry.specs.Find.{find_row, place_of}
use Rattle.entry.specs.Judge.{well_formed}
use Rattle.entry.specs.Put.{contents, filled}
use Rattle.entry.specs.declared.Place.TheVariants.{Value}
use Rattle.given.specs.declared.Head.{Head}
use Rattle.insertion.specs.Insert.{memory_of}
use Rattle.counter.specs.Counter.{counter_of}
use Rattle.writing.specs.Writing.{written_in, write_of}
use Rattle.restoring.specs.Restore.{restore_of}
use Rattle.pdo_run.specs.Run.{list_in}
use Rattle.pdo_handler.specs.Consume.{consume_of}
use Rattle.pdo_handler.specs.Errors.{update_of}
use Rattle.pdo_cycle.specs.Cycle.{cycle_of}

-- R12.11: "keeps each object's kind, element count, types and rooms". Rows and slots may have moved, since objects may have been let in.
pub record SameRow (d d' : Dict) (x r : ℕ) : Type 0 where
  pub row : ℕ
  pub found : find_row d'.objects x ≡ Some row
  pub kind : kind_at d'.objects row ≡ kind_at d.objects r
  pub count : count_at d'.objects row ≡ count_at d.objects r
  pub types : (k : ℕ) → k < count_at d.objects r → type_at d'.slots (first_at d'.objects row + k) ≡ type_at d.slots (first_at d.objects r + k)
  pub rooms : (k : ℕ) → k < count_at d.objects r → room_at d'.slots (first_at d'.objects row + k) ≡ room_at d.slots (first_at d.objects r + k)

abbrev pub Shaped : Dict → Dict → Type 0
Shaped d d' = (x r : ℕ) → find_row d.objects x ≡ Some r → SameRow d d' x r

-- R8.7: of an object that stays, the kept count does
abbrev pub SameKept : Dict → Dict → Type 0
SameKept d d' = (x r r' : ℕ) → find_row d.objects x ≡ Some r → find_row d'.objects x ≡ Some r' → kept_at d'.objects r' ≡ kept_at d.objects r

-- R12.10: "They change when their contents differ". Of the two records the claim needs the list 1600h+i alone.
abbrev pub SameWords : Dict → Dict → ℕ → Type 0
SameWords d d' i = (r r' : ℕ) → find_row d.objects (0x1600 + i) ≡ Some r → find_row d'.objects (0x1600 + i) ≡ Some r' → list_in d'.objects d'.words r' ≡ list_in d.objects d.words r

-- a value's place, type and room in another dictionary
pub record SameTarget (d d' : Dict) (x sub p : ℕ) : Type 0 where
  pub place : ℕ
  pub placed : place_of d'.objects x sub ≡ Ok (Value place)
  pub type : type_at d'.slots place ≡ type_at d.slots p
  pub room : room_at d'.slots place ≡ room_at d.slots p

-- what a pass rests on, and nothing else: the channel's list in row r, its words, and what each of them maps
pub record KeepsList (d d' : Dict) (i r : ℕ) : Type 0 where
  pub list : SameRow d d' (0x1600 + i) r
  pub words : list_in d'.objects d'.words list.row ≡ list_in d.objects d.words r
  pub targets : (k : ℕ) → k < list_count d.objects r
      → let e = entry_of (get_or (list_in d.objects d.words r) k 0) in (p : ℕ) → place_of d.objects e.index e.sub_index ≡ Ok (Value p) → SameTarget d d' e.index e.sub_index p

abbrev pub Keeps : Dict → Dict → ℕ → Type 0
Keeps d d' i = (r : ℕ) → find_row d.objects (0x1600 + i) ≡ Some r → KeepsList d d' i r

-- ---- the public calls, but for `new`, which makes a dictionary; those that only look are one. A payload is consumed into a log that has room for so many
-- events: for C the lent numbers, else a list of records has the room, and the log is laid beside it.
pub data Call : Type 0 where
  look : Call
  insert : Head → List ℕ → List ℕ → List ℕ → Call
  write : List ℕ → ℕ → ℕ → ℕ → List ℕ → Call
  increment-counter : ℕ → ℕ → Call
  update-pdo-error-object : ℕ → ℕ → Call
  consume-pdo-payload : List ℕ → ℕ → ℕ → Bool → ℕ → List ℕ → Call
  consume-cycle : List ℕ → List ℕ → List ℕ → Call
  restore : List ℕ → ℕ → ℕ → Call

-- what a call leaves of a dictionary
abbrev pub left : Call → Dict → Dict
left look d = d
left (insert h name vals encodings) d = memory_of h name vals encodings d
left (write store x sub t s) d = written_in d (write_of d store x sub t s)
left (increment-counter x sub) d = filled d (contents (counter_of d x sub).words d.bytes)
left (update-pdo-error-object x n) d = filled d (contents d.words (update_of d x n).bytes)
left (consume-pdo-payload payload sender version ready room log) d = filled d (consume_of d payload sender version ready room log).contents
left (consume-cycle delivered ps log) d = filled d (cycle_of d delivered ps log).contents
left (restore s first last) d = (restore_of d s first last).memory

unfoldable pub left_by : List Call → Dict → Dict
left_by [] d = d
left_by (c ∷ cs) d = left_by cs (left c d)

-- what a call is lent as bytes holds bytes
abbrev pub Given : Call → Type 0
Given look = Unit {0}
Given (insert h name vals encodings) = Bytes name × Bytes encodings
Given (write store x sub t s) = Bytes s
Given (increment-counter x sub) = Unit {0}
Given (update-pdo-error-object x n) = Unit {0}
Given (consume-pdo-payload payload sender version ready room log) = Bytes payload
Given (consume-cycle delivered ps log) = Bytes delivered
Given (restore s first last) = Bytes s

abbrev pub AllGiven : List Call → Type 0
AllGiven [] = Unit {0}
AllGiven (c ∷ cs) = Given c × AllGiven cs

-- what each call keeps: the dictionary is well-formed, and of bytes
pub record Kept (d : Dict) : Type 0 where
  pub well : well_formed d ≡ true
  pub bytes : Bytes d.bytes

-- R12.11: "A restore that answers Done ends every pass, whatever its range; a refused one ends none. Every other call keeps .."
abbrev pub Shaping : Call → Dict → Type 0
Shaping look d = Unit {0}
Shaping (insert h name vals encodings) d = Unit {0}
Shaping (write store x sub t s) d = Unit {0}
Shaping (increment-counter x sub) d = Unit {0}
Shaping (update-pdo-error-object x n) d = Unit {0}
Shaping (consume-pdo-payload payload sender version ready room log) d = Unit {0}
Shaping (consume-cycle delivered ps log) d = Unit {0}
Shaping (restore s first last) d = (restore_of d s first last).answer ≡ (Ok tt) → ⊥

abbrev pub AllShaping : List Call → Dict → Type 0
AllShaping [] d = Unit {0}
AllShaping (c ∷ cs) d = Shaping c d × AllShaping cs (left c d)

-- R8.7: "Only a write keeps a count"
abbrev pub IsWrite : Call → Type 0
IsWrite look = ⊥
IsWrite (insert h name vals encodings) = ⊥
IsWrite (write store x sub t s) = Unit {0}
IsWrite (increment-counter x sub) = ⊥
IsWrite (update-pdo-error-object x n) = ⊥
IsWrite (consume-pdo-payload payload sender version ready room log) = ⊥
IsWrite (consume-cycle delivered ps log) = ⊥
IsWrite (restore s first last) = ⊥
