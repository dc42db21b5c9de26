-- The channel check: RULES.md 12. Assumes nothing.
use Rattle.element.specs.declared.Fault.{Fault}
use Rattle.std.specs.Prelude.{ℕ, ◌+◌, Bool, false, cond, ◌||◌, List, [], ◌∷◌, eqb, ltb, Option, Some, None, Result, Ok, Err}
use Rattle.answers.specs.declared.Refusal.TheVariants.{Malformed}
use Rattle.entry.specs.Table.{Dict, kind_at, list_count, first_at, type_at}
use Rattle.entry.specs.Find.{find_row}
use Rattle.entry.specs.Judge.{well_formed}
use Rattle.pdo_validator.specs.Counting.{ends_from}
use Rattle.pdo_channel.specs.Channel.{u8_at, comm_index, first_match, sender_for}
use Rattle.pdo_run.specs.Run.{list_in}
use Rattle.channel.specs.declared.Checked.{Checked}
use Rattle.channel.specs.declared.Checked.TheVariants.{Pass, NoSender, NoList, Element, TooFar, Refused}
use Rattle.element.specs.Elements.{verdict_of}

-- R12.2: the first fault of a list's elements, of which j lie before, and the first is slot p; else what comes last
abbrev pub on_verdict : ℕ → Checked → Result (Unit {0}) Fault → Checked
on_verdict k rest (Ok _) = rest
on_verdict k rest (Err f) = Element k f

unfoldable pub fault_from : List ℕ → List ℕ → ℕ → List ℕ → ℕ → Checked → Checked
fault_from objects slots p [] j last = last
fault_from objects slots p (w ∷ ws) j last = on_verdict (j + 1) (fault_from objects slots p ws (j + 1) last) (verdict_of objects slots (type_at slots (p + j)) w)

-- TooFar: "the largest end of all elements passes 1,490 bytes; judged only where no element has a fault"
abbrev pub is_far : Option ℕ → Bool
is_far (Some e) = ltb 1490 e
is_far None = false

abbrev pub last_of : Dict → ℕ → Checked
last_of d r = cond (is_far (ends_from d.slots d.words (list_count d.objects r) (first_at d.objects r) 0)) TooFar Pass

abbrev pub on_elements : Dict → ℕ → Checked
on_elements d r = fault_from d.objects d.slots (first_at d.objects r) (list_in d.objects d.words r) 0 (last_of d r)

-- NoList: "1600h+i is not a list of at least one element"
abbrev pub on_list : Dict → Option ℕ → Checked
on_list d None = NoList
on_list d (Some r) = cond (eqb (kind_at d.objects r) 0 || eqb (list_count d.objects r) 0) NoList (on_elements d r)

abbrev pub is_at : ℕ → Option ℕ → Bool
is_at i (Some j) = eqb j i
is_at i None = false

-- NoSender: "channel i is the first match (R11.2) of no sender"
abbrev pub has_sender : Dict → ℕ → Option ℕ → Bool
has_sender d i (Some v) = is_at i (first_match d (sender_for v))
has_sender d i None = false

unfoldable pub check_of : Dict → ℕ → Checked
check_of d i =
    cond (well_formed d)
    (cond (has_sender d i (u8_at d (comm_index i) 1)) (on_list d (find_row d.objects (0x1600 + i))) NoSender)
    (Refused Malformed)
