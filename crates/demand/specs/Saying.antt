-- What each answer of the check says: RULES.md R12.2 and R12.7. Assumes nothing.
use Rattle.std.specs.Prelude.{ℕ, ◌+◌, ◌<◌, ◌≤◌, ◌≡◌, true, false, ◌||◌, List, [], ◌∷◌, eqb, length, get_or, Some, Result, Ok, Err}
use Rattle.lists.specs.Numbers.{Bytes}
use Rattle.answers.specs.declared.Refusal.TheVariants.{Malformed}
use Rattle.entry.specs.Table.{Dict, kind_at, list_count, first_at, type_at}
use Rattle.entry.specs.Find.{find_row}
use Rattle.entry.specs.Judge.{well_formed}
use Rattle.entry.specs.Put.{Contents}
use Rattle.pdo_channel.specs.Channel.{first_match}
use Rattle.pdo_run.specs.Run.{frame, list_in}
use Rattle.element.specs.declared.Fault.{Fault}
use Rattle.element.specs.Elements.{verdict_of}
use Rattle.channel.specs.declared.Checked.TheVariants.{Pass, NoSender, NoList, Element, TooFar, Refused}
use Rattle.channel.specs.Check.{check_of}
use Rattle.demand.specs.Demand.{Long, Whole, Demand}

-- ---- the list in row r: its first slot, its words, and of the element at place k, from 0, its type, its word and what the table of R12.2 says of it
abbrev pub list_start : Dict → ℕ → ℕ
list_start d r = first_at d.objects r

abbrev pub list_words : Dict → ℕ → List ℕ
list_words d r = list_in d.objects d.words r

abbrev pub element_type : Dict → ℕ → ℕ → ℕ
element_type d r k = type_at d.slots (first_at d.objects r + k)

abbrev pub element_word : Dict → ℕ → ℕ → ℕ
element_word d r k = get_or (list_in d.objects d.words r) k 0

abbrev pub verdict_at : Dict → ℕ → ℕ → Result (Unit {0}) Fault
verdict_at d r k = verdict_of d.objects d.slots (element_type d r k) (element_word d r k)

-- no element has a fault; the list's first slot is p, and j of its words lie before
abbrev pub AllClean : List ℕ → List ℕ → ℕ → List ℕ → ℕ → Type 0
AllClean objects slots p [] j = Unit {0}
AllClean objects slots p (w ∷ ws) j = (verdict_of objects slots (type_at slots (p + j)) w ≡ (Ok tt)) × AllClean objects slots p ws (j + 1)

-- ---- NoSender: "channel i is the first match (R11.2) of no sender"
pub record Unsent (d : Dict) (i : ℕ) : Type 0 where
  pub well : well_formed d ≡ true
  pub none : (s : ℕ) → first_match d s ≡ Some i → ⊥

-- and else of this one
pub record Sender (d : Dict) (i : ℕ) : Type 0 where
  pub sender : ℕ
  pub a_sender : sender < 256
  pub first : first_match d sender ≡ Some i

-- ---- NoList: "1600h+i is not a list of at least one element"
pub record Unlisted (d : Dict) (i : ℕ) : Type 0 where
  pub well : well_formed d ≡ true
  pub sent : Sender d i
  pub none : (r : ℕ) → find_row d.objects (0x1600 + i) ≡ Some r → (eqb (kind_at d.objects r) 0 || eqb (list_count d.objects r) 0) ≡ true

-- and else it is one, in this row
pub record Listed (d : Dict) (i : ℕ) : Type 0 where
  pub well : well_formed d ≡ true
  pub sent : Sender d i
  pub row : ℕ
  pub found : find_row d.objects (0x1600 + i) ≡ Some row
  pub list : eqb (kind_at d.objects row) 0 ≡ false
  pub some : eqb (list_count d.objects row) 0 ≡ false

-- ---- "The first fault": the element at this place, from 0, has it, and none before it has one
pub record FirstFault (d : Dict) (r : ℕ) (v : Fault) : Type 0 where
  pub place : ℕ
  pub below : place < length (list_words d r)
  pub verdict : verdict_at d r place ≡ Err v
  pub before : (m : ℕ) → m < place → verdict_at d r m ≡ Ok tt

-- R12.7: "An element that a fault names is not written whole by any admitted payload": nor by any other, whatever the contents then are. Element k
-- is at place k - 1.
pub record Never (d : Dict) (i k : ℕ) (v : Fault) : Type 0 where
  pub listed : Listed d i
  pub fault : FirstFault d listed.row v
  pub element : k ≡ fault.place + 1
  pub never : (payload : List ℕ) (sender m : ℕ) (c : Contents) → element_type d listed.row fault.place ≡ 8
      → Whole (frame d.objects d.slots payload sender m) c (element_word d listed.row fault.place) → ⊥

-- ---- TooFar: "the largest end of all elements passes 1,490 bytes; judged only where no element has a fault": no payload that may come is long enough
pub record Reaches (d : Dict) (i : ℕ) : Type 0 where
  pub listed : Listed d i
  pub clean : AllClean d.objects d.slots (list_start d listed.row) (list_words d listed.row) 0
  pub too_long : (payload : List ℕ) → Long d.slots payload (list_start d listed.row) (list_words d listed.row) 0 → length payload ≤ 1490 → ⊥

-- ---- each answer, and what is so where it is given
pub data Says (d : Dict) (i : ℕ) : Type 0 where
  malformed : well_formed d ≡ false → check_of d i ≡ Refused Malformed → Says d i
  senderless : Unsent d i → check_of d i ≡ NoSender → Says d i
  listless : Unlisted d i → check_of d i ≡ NoList → Says d i
  named : (k : ℕ) (v : Fault) → Never d i k v → check_of d i ≡ Element k v → Says d i
  far : Reaches d i → check_of d i ≡ TooFar → Says d i
  passes : (Bytes d.bytes → Demand d i) → check_of d i ≡ Pass → Says d i
