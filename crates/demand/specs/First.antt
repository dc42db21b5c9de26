-- What it means that a fault is the first: RULES.md R12.2 beside R12.5. Assumes nothing.
use Rattle.std.specs.Prelude.{ℕ, ◌≡◌, Bool, List, ◌++◌, take, drop}
use Rattle.entry.specs.Table.{Dict}
use Rattle.entry.specs.Put.{contents}
use Rattle.event.specs.declared.EventRecord.{EventRecord}
use Rattle.pdo_step.specs.Effects.{effect_of}
use Rattle.pdo_run.specs.Run.{Frame, decided, recorded, Ran, run_from}
use Rattle.pdo_handler.specs.Consume.{received_by}
use Rattle.demand.specs.Demand.{put_all, AllWhole}
use Rattle.demand.specs.Saying.{list_start, list_words}

-- the elements before `place` are written whole, and what consuming does is to put their fields and go on at `place`
pub record First (d : Dict) (r place : ℕ) (f : Frame) (version : ℕ) (ready : Bool) : Type 0 where
  pub whole : AllWhole f (list_start d r) (take place (list_words d r)) 0 (contents d.words d.bytes)
  pub then : received_by f (contents d.words d.bytes) version ready
      ≡ run_from f (list_start d r) (drop place (list_words d r)) place (put_all f (take place (list_words d r)) (contents d.words d.bytes))

-- what is told first is the event of element k, of word w, where its step has one: nothing is told of the elements before it
pub record Told (f : Frame) (r : Ran) (k w : ℕ) : Type 0 where
  pub rest : List EventRecord
  pub events : r.events ≡ recorded f.number k (effect_of (decided f w)).event ++ rest
