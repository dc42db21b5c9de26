-- Demand 3 of a consuming call: what whoever calls has back. RULES.md R12.6. Assumes nothing.
use Rattle.pdo_cycle.specs.declared.Cycle.{Cycle}
use Rattle.answers.specs.declared.Refusal.{Refusal}
use Rattle.pdo_cycle.specs.Cycle.{tallied}
use Rattle.std.specs.Prelude.{ℕ, ◌≡◌, List, Result, Ok}
use Rattle.entry.specs.Put.{Contents}
use Rattle.event.specs.declared.EventRecord.{EventRecord}

-- ---- of a payload: Done with no event; the contents are those expected; the records are those that were lent
pub record Leaves (answer : Result ℕ Refusal) (after : Contents) (records : List EventRecord) (expected : Contents) (es : List EventRecord) : Type 0 where
  pub done : answer ≡ Ok 0
  pub writes : after ≡ expected
  pub same : records ≡ es

-- for C, with the count of events; events are numbers
pub record LeavesC (answer count : ℕ) (after : Contents) (events : List ℕ) (expected : Contents) (es : List ℕ) : Type 0 where
  pub done : answer ≡ 0
  pub none : count ≡ 0
  pub writes : after ≡ expected
  pub same : events ≡ es

-- ---- of a cycle of n payloads: Done with all of them and no event
pub record CycleLeaves (answer : Result Cycle Refusal) (after : Contents) (events : List ℕ) (n : ℕ) (expected : Contents) (es : List ℕ) : Type 0 where
  pub done : answer ≡ tallied n 0
  pub writes : after ≡ expected
  pub same : events ≡ es

-- for C, with both counts
pub record CycleLeavesC (answer consumed count : ℕ) (after : Contents) (events : List ℕ) (n : ℕ) (expected : Contents) (es : List ℕ) : Type 0 where
  pub done : answer ≡ 0
  pub all : consumed ≡ n
  pub none : count ≡ 0
  pub writes : after ≡ expected
  pub same : events ≡ es
