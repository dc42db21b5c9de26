-- Demand 3 said of the public calls: what a consuming call (RULES.md R11.1), and a payload's turn in a cycle (R11.13), comes to where the payload is
-- written whole (R12.5, R12.6). Assumes nothing.
use Rattle.std.specs.Prelude.{ℕ, zero, suc, ◌+◌, ◌<◌, ◌≤◌, ◌≡◌, Bool, List, [], ◌++◌, map, length, Some, Ok}
use Rattle.lists.specs.Lists.{over}
use Rattle.entry.specs.Table.{Dict, first_at}
use Rattle.entry.specs.Find.{find_row}
use Rattle.entry.specs.Put.{Contents, contents, filled}
use Rattle.pdo_channel.specs.Channel.{first_match}
use Rattle.pdo_run.specs.Run.{Frame, frame, list_in}
use Rattle.event.specs.declared.EventRecord.{EventRecord}
use Rattle.event.specs.Record.{event_number}
use Rattle.events.specs.Receive.{received, received_of}
use Rattle.pdo_cycle.specs.Payloads.{sender_of, version_of, ready_of, payload_of, payloads_in}
use Rattle.pdo_cycle.specs.Cycle.{Delivery, delivery, received_at, after_cycle, cycle_of, tallied}
use Rattle.channel.specs.declared.Checked.TheVariants.{Pass}
use Rattle.channel.specs.Check.{check_of}
use Rattle.demand.specs.Demand.{Admitted, put_all, AllWhole}
use Rattle.demand.specs.Lasting.{Keeps}

-- ---- `consume_pdo_payload`, and `consume_by_value`: Done with no event, each element whole, nothing else changed, the records as they were
pub record Consumes (d : Dict) (payload : List ℕ) (sender version : ℕ) (ready : Bool) (es : List EventRecord) (p : ℕ) (ws : List ℕ) : Type 0 where
  pub is : received_of d payload sender version ready es ≡ received (Ok 0) (put_all (frame d.objects d.slots payload sender 0) ws (contents d.words d.bytes)) es
  pub whole : AllWhole (frame d.objects d.slots payload sender 0) p ws 0 (contents d.words d.bytes)

-- ---- `consume_cycle`: the contents after n payloads from payload i on, and their events
unfoldable pub contents_from : Delivery → ℕ → ℕ → Contents → Contents
contents_from v i zero c = c
contents_from v i (suc n) c = contents_from v (i + 1) n (received_at v c i).contents

unfoldable pub events_from : Delivery → ℕ → ℕ → Contents → List EventRecord
events_from v i zero c = []
events_from v i (suc n) c = (received_at v c i).events ++ events_from v (i + 1) n (received_at v c i).contents

abbrev pub delivery_of : Dict → List ℕ → List ℕ → Delivery
delivery_of d delivered ps = delivery d.objects d.slots delivered ps

-- the dictionary that payload i meets
abbrev pub met_by : Dict → List ℕ → List ℕ → ℕ → Dict
met_by d delivered ps i = filled d (contents_from (delivery_of d delivered ps) 0 i (contents d.words d.bytes))

-- a cycle that is Done consumed n payloads, each in its turn
pub record Turns (d : Dict) (delivered ps log : List ℕ) (n m : ℕ) : Type 0 where
  pub few : n ≤ payloads_in ps
  pub leaves : (cycle_of d delivered ps log).contents ≡ contents_from (delivery_of d delivered ps) 0 n (contents d.words d.bytes)
  pub logged : (cycle_of d delivered ps log).log ≡ over log 0 (map event_number (events_from (delivery_of d delivered ps) 0 n (contents d.words d.bytes)))
  pub count : m ≡ length (events_from (delivery_of d delivered ps) 0 n (contents d.words d.bytes))

-- payload i, in its turn: each element whole, no event, nothing else changed
abbrev pub frame_at : Dict → List ℕ → List ℕ → ℕ → Frame
frame_at d delivered ps i = frame d.objects d.slots (payload_of delivered ps i) (sender_of ps i) i

pub record TurnWrites (d : Dict) (delivered ps : List ℕ) (i p : ℕ) (ws : List ℕ) : Type 0 where
  pub puts : contents_from (delivery_of d delivered ps) 0 (i + 1) (contents d.words d.bytes) ≡ put_all (frame_at d delivered ps i) ws (contents_from (delivery_of d delivered ps) 0 i (contents d.words d.bytes))
  pub none : (received_at (delivery_of d delivered ps) (contents_from (delivery_of d delivered ps) 0 i (contents d.words d.bytes)) i).events ≡ []
  pub silent : events_from (delivery_of d delivered ps) 0 (i + 1) (contents d.words d.bytes) ≡ events_from (delivery_of d delivered ps) 0 i (contents d.words d.bytes)
  pub whole : AllWhole (frame_at d delivered ps i) p ws 0 (contents_from (delivery_of d delivered ps) 0 i (contents d.words d.bytes))

-- payload k, one of the n that the call consumed
pub record Taken (d : Dict) (delivered ps log : List ℕ) (n m k p : ℕ) (ws : List ℕ) : Type 0 where
  pub cycle : Turns d delivered ps log n m
  pub one : k < n
  pub writes : TurnWrites d delivered ps k p ws

-- payload k of a cycle on d' is admitted, when its turn comes, by a channel that passed on d and that was kept till then
pub record Expected (d d' : Dict) (delivered ps : List ℕ) (k : ℕ) : Type 0 where
  pub channel : ℕ
  pub passes : check_of d channel ≡ Pass
  pub keeps : Keeps d (met_by d' delivered ps k) channel
  pub row : ℕ
  pub found : find_row d'.objects (0x1600 + channel) ≡ Some row
  pub admitted : Admitted (met_by d' delivered ps k) channel row (payload_of delivered ps k) (sender_of ps k) (version_of ps k) (ready_of ps k)

-- a cycle of such payloads alone: every one is consumed, no event is told, and each is written whole in its turn
pub record Cycles (d : Dict) (delivered ps log : List ℕ) : Type 0 where
  pub is : cycle_of d delivered ps log ≡ after_cycle (tallied (payloads_in ps) 0) (contents_from (delivery_of d delivered ps) 0 (payloads_in ps) (contents d.words d.bytes)) log
  pub writes : (k : ℕ) → k < payloads_in ps → (i r : ℕ) → find_row d.objects (0x1600 + i) ≡ Some r → first_match (met_by d delivered ps k) (sender_of ps k) ≡ Some i
      → TurnWrites d delivered ps k (first_at d.objects r) (list_in d.objects (met_by d delivered ps k).words r)
