-- Demand 3 of the call `consume_pdo_payload` (and `consume_by_value`, of the same contract): right after a pass, and after other calls.
-- Assumes nothing.
use Rattle.std.specs.Prelude.{Some}
use mathlib.Core.Path.{◌≡◌, ap₂}
use mathlib.Core.Bool.{Bool, true}
use mathlib.Core.List.{List}
use Prim.Native.Nat.{ℕ, ◌+◌, ◌≤◌}
use lib.ListN.{length, replicate}
use Rattle.lists.specs.Numbers.{Bytes}
use Rattle.entry.specs.Table.{Dict, first_at}
use Rattle.entry.specs.Find.{find_row}
use Rattle.entry.specs.Judge.{well_formed}
use Rattle.entry.specs.Put.{contents}
use Rattle.pdo_run.specs.Run.{frame, Ran, list_in}
use Rattle.pdo_handler.specs.Consume.{AfterConsume}
use Rattle.event.specs.declared.EventRecord.{EventRecord}
use Rattle.events.specs.Receive.{listed, received_of}
use Rattle.channel.specs.declared.Checked.TheVariants.{Pass}
use Rattle.channel.specs.Check.{check_of}
use Rattle.demand.specs.Demand.{Admitted, Written}
use Rattle.demand.specs.Lasting.{SameWords, Keeps, Call, left_by, AllGiven, AllShaping}
use Rattle.demand.specs.Calls.{Consumes}
use Rattle.demand.proofs.DemandLaws.{passed, pass_writes, written_consumed}
use Rattle.demand.proofs.HoldLaws.{pass_left, pass_kept, calls_hold}

-- what is written is consumed so
pub written_consumes : (d : Dict) (payload : List ℕ) (sender version : ℕ) (ready : Bool) (es : List EventRecord) (p : ℕ) (ws : List ℕ) → well_formed d ≡ true → 254 ≤ length es → length payload ≤ 1490
    → Written (frame d.objects d.slots payload sender 0) (contents d.words d.bytes) version ready p ws → Consumes d payload sender version ready es p ws
unfolding received_of
written_consumes d payload sender version ready es p ws w room short o =
    record { is = ap₂ (λ (a : AfterConsume) (r : Ran). listed a r.events es) (written_consumed d payload sender version ready (length es) (replicate 254 0) p ws w room short o) o.silent; whole = o.whole }

-- ---- right after the check; the list is in row r
pub pass_consumes : (d : Dict) (i : ℕ) → check_of d i ≡ Pass → Bytes d.bytes → (payload : List ℕ) → Bytes payload → (sender version : ℕ) (ready : Bool) (es : List EventRecord) → 254 ≤ length es → (r : ℕ)
    → find_row d.objects (0x1600 + i) ≡ Some r → Admitted d i r payload sender version ready
    → Consumes d payload sender version ready es (first_at d.objects r) (list_in d.objects d.words r)
pass_consumes d i e b payload bp sender version ready es room r found a =
    let s = passed d i e in
    let same : r ≡ s.row = cc in
    let a' = rw same at a in
    let o = pass_writes d i e b payload bp sender version ready 0 a' in
    written_consumes d payload sender version ready es (first_at d.objects r) (list_in d.objects d.words r) s.well room a.short (rw same o)

-- ---- end to end: a check that passed, any calls that kept the channel, and then this one
module _ (d : Dict) (i : ℕ) (e : check_of d i ≡ Pass) (b : Bytes d.bytes) (cs : List Call) (g : AllGiven cs) where
  abbrev d' : Dict
  d' = left_by cs d

  pub kept_consumes : Keeps d d' i → (payload : List ℕ) → Bytes payload → (sender version : ℕ) (ready : Bool) (es : List EventRecord) → 254 ≤ length es → (r : ℕ)
      → find_row d'.objects (0x1600 + i) ≡ Some r → Admitted d' i r payload sender version ready
      → Consumes d' payload sender version ready es (first_at d'.objects r) (list_in d'.objects d'.words r)
  kept_consumes keeps payload bp sender version ready es room r found a =
      written_consumes d' payload sender version ready es (first_at d'.objects r) (list_in d'.objects d'.words r) (pass_left d i e b cs g).well room a.short (pass_kept d i e b cs g keeps payload bp sender version ready 0 r found a)

  -- and, of calls that keep every shape, only the list's words have to be the same
  pub holds_consumes : AllShaping cs d → SameWords d d' i → (payload : List ℕ) → Bytes payload → (sender version : ℕ) (ready : Bool) (es : List EventRecord) → 254 ≤ length es → (r : ℕ)
      → find_row d'.objects (0x1600 + i) ≡ Some r → Admitted d' i r payload sender version ready
      → Consumes d' payload sender version ready es (first_at d'.objects r) (list_in d'.objects d'.words r)
  holds_consumes s same = kept_consumes (calls_hold d i e b cs g s same)
