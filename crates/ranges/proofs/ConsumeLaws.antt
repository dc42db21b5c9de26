-- A payload and a cycle of them, on rows that are alike.
-- Assumes nothing.
use Rattle.std.specs.Prelude.{Option, Some, None}
use Prim.Native.Nat.{ℕ, zero, suc, ◌+◌}
use mathlib.Core.Path.{◌≡◌, refl, ap, ◌∙◌}
use mathlib.Core.Bool.{Bool}
use mathlib.Core.List.{List, [], ◌∷◌}
use Rattle.mapping.specs.Word.{entry_of}
use Rattle.entry.specs.Table.{dict, first_at}
use Rattle.entry.specs.Find.{find_row, place_of}
use Rattle.entry.specs.Put.{Contents}
use Rattle.pdo_step.specs.Outcomes.{outcome_of}
use Rattle.pdo_step.specs.declared.Outcome.{Outcome}
use Rattle.pdo_channel.specs.Channel.{u8_in, u8_at, comm_index, channel_from, first_match}
use Rattle.pdo_run.specs.Run.{frame, act_of, run_from, list_in, run_on}
use Rattle.pdo_handler.specs.Consume.{on_channel, consumed_by, received_by}
use Rattle.pdo_cycle.specs.Payloads.{sender_of, version_of, ready_of, payload_of}
use Rattle.pdo_cycle.specs.Cycle.{delivery, received_at, cycle_from}
use Rattle.editions.proofs.SharedLaws.{u8_same, match_same, outcome_same}
use Rattle.ranges.specs.Alike.{Alike}
use Rattle.entry.proofs.SameLaws.{kind-same, first_same, row_same}
use Rattle.ranges.proofs.RowLaws.{list_same, place_same}
use Rattle.ranges.proofs.AskLaws.{marked-same}

act_same : {a b : List ℕ} → Alike a b → (s payload : List ℕ) (sender m : ℕ) (c : Contents) (o : Outcome) → act_of (frame a s payload sender m) c o ≡ act_of (frame b s payload sender m) c o
unfolding act_of
act_same h s payload sender m c o = rw h.edition (rw (marked-same h s c.words c.bytes 0x1C81 sender) refl)

run_same : {a b : List ℕ} → Alike a b → (s payload : List ℕ) (sender m p : ℕ) (ws : List ℕ) (j : ℕ) (c : Contents)
    → run_from (frame a s payload sender m) p ws j c ≡ run_from (frame b s payload sender m) p ws j c
unfolding run_from
run_same h s payload sender m p [] j c = refl
run_same {a} {b} h s payload sender m p (w ∷ ws) j c =
    let o = outcome_of b s payload w in
    rw (outcome_same h.rows s payload w)
    (rw (act_same h s payload sender m c o)
    (rw (run_same h s payload sender m p ws (j + 1) (act_of (frame b s payload sender m) c o)) (rw (run_same h s payload sender m p ws (j + 1) c) refl)))

run_on_same : {a b : List ℕ} → Alike a b → (s payload : List ℕ) (sender m : ℕ) (c : Contents) (f : Option ℕ)
    → run_on (frame a s payload sender m) c f ≡ run_on (frame b s payload sender m) c f
run_on_same h s payload sender m c None = refl
run_on_same {a} {b} h s payload sender m c (Some r) =
    rw (kind-same h.rows r)
    (rw (first_same h.rows r) (rw (list_same h r) (rw (run_same h s payload sender m (first_at b r) (list_in b c.words r) 0 c) refl)))

on_channel_same : {a b : List ℕ} → Alike a b → (s payload : List ℕ) (sender m : ℕ) (c : Contents) (version : ℕ) (f : Option ℕ)
    → on_channel (frame a s payload sender m) c version f ≡ on_channel (frame b s payload sender m) c version f
on_channel_same h s payload sender m c version None = refl
on_channel_same {a} {b} h s payload sender m c version (Some i) =
    rw (u8_same h.rows s c.words c.bytes (comm_index i) 2)
    (rw (row_same h.rows (0x1600 + i))
    (rw (run_on_same h s payload sender m c (find_row b (0x1600 + i))) (rw (marked-same h s c.words c.bytes 0x1C80 sender) refl)))

consumed_same : {a b : List ℕ} → Alike a b → (s payload : List ℕ) (sender m : ℕ) (c : Contents) (version : ℕ)
    → consumed_by (frame a s payload sender m) c version ≡ consumed_by (frame b s payload sender m) c version
unfolding consumed_by
consumed_same {a} {b} h s payload sender m c version =
    rw (match_same h.rows s c.words c.bytes sender)
    (on_channel_same h s payload sender m c version (first_match (dict b s c.words c.bytes) sender))

pub received-same : {a b : List ℕ} → Alike a b → (s payload : List ℕ) (sender m : ℕ) (c : Contents) (version : ℕ) (ready : Bool)
    → received_by (frame a s payload sender m) c version ready ≡ received_by (frame b s payload sender m) c version ready
received-same h s payload sender m c version ready = rw (consumed_same h s payload sender m c version) refl

pub cycle_same : {a b : List ℕ} → Alike a b → (s delivered ps : List ℕ) (n i : ℕ) (c : Contents) (room : ℕ)
    → cycle_from (delivery a s delivered ps) n i c room ≡ cycle_from (delivery b s delivered ps) n i c room
unfolding cycle_from
cycle_same h s delivered ps zero i c room = refl
cycle_same {a} {b} h s delivered ps (suc n) i c room =
    rw (received-same h s (payload_of delivered ps i) (sender_of ps i) i c (version_of ps i) (ready_of ps i))
    (rw (cycle_same h s delivered ps n (i + 1) (received_at (delivery b s delivered ps) c i).contents _) refl)
