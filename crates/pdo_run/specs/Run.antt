-- The mapped words of a channel, in turn: RULES.md 11. Assumes nothing.
use Rattle.std.specs.Prelude.{ℕ, ◌+◌, Bool, cond, List, [], ◌∷◌, ◌++◌, map, eqb, length, take, drop, set, Option, Some, None}
use Rattle.lists.specs.Lists.{over}
use Rattle.event.specs.declared.Event.{Event}
use Rattle.event.specs.declared.EventRecord.{EventRecord}
use Rattle.event.specs.Record.{event_number, record_at}
use Rattle.entry.specs.Table.{Dict, dict, edition_of, kind_at, list_count, first_at, type_at}
use Rattle.entry.specs.Put.{Contents, contents}
use Rattle.pdo_step.specs.declared.Outcome.{Outcome}
use Rattle.pdo_step.specs.declared.receiving.Receiving.{Receiving}
use Rattle.pdo_step.specs.Outcomes.{outcome_of}
use Rattle.pdo_step.specs.Effects.{effect_of, sets_bit}
use Rattle.pdo_step.specs.Steps.{applied}
use Rattle.pdo_step.specs.Bits.{marked_in}
use Rattle.pdo_run.specs.declared.payload.Payload.{Payload}
use Rattle.pdo_run.specs.declared.Turn.{Turn}

-- ---- R11.9 and R11.13: the record of element k of payload i, where there is an event; and its number, 0 where there is none
abbrev pub recorded : ℕ → ℕ → Option Event → List EventRecord
recorded i k None = []
recorded i k (Some v) = record_at i k v ∷ []

abbrev pub code_of : ℕ → ℕ → Option Event → ℕ
code_of i k None = 0
code_of i k (Some v) = event_number (record_at i k v)

-- what an outcome leaves to do beside what it puts
abbrev pub turn : ℕ → Bool → Bool → Turn
turn e b s = record { event = e; bit = b; stops = s }

abbrev pub turn_of : ℕ → ℕ → ℕ → Outcome → Turn
turn_of edition i k o = let e = effect_of o in turn (code_of i k e.event) (sets_bit edition o) e.stops

-- ---- what the words are held against: the dictionary's shape, the payload, its sender and its number
pub record Frame : Type 0 where
  pub objects : List ℕ
  pub slots : List ℕ
  pub payload : List ℕ
  pub sender : ℕ
  pub number : ℕ

abbrev pub frame : List ℕ → List ℕ → List ℕ → ℕ → ℕ → Frame
frame objects slots payload sender i = record { objects = objects; slots = slots; payload = payload; sender = sender; number = i }

abbrev pub framed : Receiving → Payload → Frame
framed d p = frame d.objects.now d.slots.now p.bytes.now p.sender p.number

abbrev pub decided : Frame → ℕ → Outcome
decided f w = outcome_of f.objects f.slots f.payload w

abbrev pub held : Frame → Contents → Dict
held f c = dict f.objects f.slots c.words c.bytes

-- the sender's bit in the object at an index
abbrev pub marked : Frame → Contents → ℕ → Contents
marked f c x = contents c.words (marked_in f.objects f.slots c.words c.bytes x f.sender)

-- R11.5: the bit, or the act
unfoldable pub act_of : Frame → Contents → Outcome → Contents
act_of f c o = cond (sets_bit (edition_of f.objects) o) (marked f c 0x1C81) (applied f.slots f.payload c o)

-- what is left of a run: the contents, and its events
pub record Ran : Type 0 where
  pub contents : Contents
  pub events : List EventRecord

abbrev pub ran : Contents → List EventRecord → Ran
ran c es = record { contents = c; events = es }

abbrev pub behind : List EventRecord → Ran → Ran
behind es r = ran r.contents (es ++ r.events)

-- R11.4 and R11.5: each word of type U64 in list order, "on the dictionary as it then is", until one stops. The list's first slot is p,
-- and j of its words lie before.
unfoldable pub run_from : Frame → ℕ → List ℕ → ℕ → Contents → Ran
run_from f p [] j c = ran c []
run_from f p (w ∷ ws) j c =
    cond (eqb (type_at f.slots (p + j)) 8)
    (cond (effect_of (decided f w)).stops
    (ran (act_of f c (decided f w)) (recorded f.number (j + 1) (effect_of (decided f w)).event))
    (behind (recorded f.number (j + 1) (effect_of (decided f w)).event) (run_from f p ws (j + 1) (act_of f c (decided f w)))))
    (run_from f p ws (j + 1) c)

-- R11.4: the words of the list in row r, "gathered before the first write"
abbrev pub list_in : List ℕ → List ℕ → ℕ → List ℕ
list_in objects words r = take (list_count objects r) (drop (first_at objects r) words)

abbrev pub run_in : Frame → Contents → ℕ → Ran
run_in f c r = run_from f (first_at f.objects r) (list_in f.objects c.words r) 0 c

-- "Where 1600h+i is no list there are none."
abbrev pub run_on : Frame → Contents → Option ℕ → Ran
run_on f c None = ran c []
run_on f c (Some r) = cond (eqb (kind_at f.objects r) 0) (ran c []) (run_in f c r)

-- ---- R11.14: the log, of which the first numbers are the events'
pub record Logged : Type 0 where
  pub contents : Contents
  pub log : List ℕ
  pub count : ℕ

abbrev pub logged : Contents → List ℕ → ℕ → Logged
logged c l n = record { contents = c; log = l; count = n }

abbrev pub finished : Ran → List ℕ → ℕ → Logged
finished r l n = logged r.contents (over l n (map event_number r.events)) (n + length r.events)

-- one number noted, where it is an event
abbrev pub noted_log : List ℕ → ℕ → ℕ → List ℕ
noted_log l n e = cond (eqb e 0) l (set l n e)

abbrev pub noted_count : ℕ → ℕ → ℕ
noted_count n e = cond (eqb e 0) n (n + 1)
