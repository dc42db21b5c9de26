-- Consuming keeps the dictionary well-formed, whatever the payload and whatever is answered. Assumes nothing.
use Rattle.std.specs.Prelude.{Option, Some, None, Err}
use mathlib.Core.Path.{◌≡◌}
use mathlib.Core.Bool.{Bool, true, false, cond}
use mathlib.Core.List.{List, [], ◌∷◌}
use Prim.Native.Nat.{ℕ, ◌+◌}
use lib.Dec.{eqb, ltb}
use lib.ListN.{length}
use Rattle.lists.specs.Numbers.{Bytes}
use Rattle.answers.specs.declared.Refusal.TheVariants.{NoEventRoom, PayloadTooLong}
use Rattle.entry.specs.Table.{Dict, edition_of, kind_at, first_at, type_at}
use Rattle.entry.specs.Find.{find_row}
use Rattle.entry.specs.Judge.{well_formed}
use Rattle.entry.specs.Put.{Contents, contents, filled}
use Rattle.pdo_step.specs.Effects.{effect_of, sets_bit}
use Rattle.pdo_step.specs.Steps.{applied}
use Rattle.pdo_step.proofs.OutcomeLaws.{step_keeps, step_bytes}
use Rattle.pdo_step.proofs.MarkLaws.{mark_keeps, mark_bytes}
use Rattle.pdo_channel.specs.Channel.{first_match, expected_of, right_version}
use Rattle.pdo_run.specs.Run.{Frame, frame, held, marked, decided, recorded, act_of, ran, behind, run_from, list_in, run_on, finished}
use Rattle.pdo_handler.specs.Consume.{map_version, on_channel, consumed_by, received_by, after_consume, consume_done, consume_of}

-- a well-formed dictionary of bytes
pub record Sane (f : Frame) (c : Contents) : Type 0 where
  pub well : well_formed (held f c) ≡ true
  pub bytes : Bytes c.bytes

marked_sane : (f : Frame) (c : Contents) (x : ℕ) → Sane f c → Sane f (marked f c x)
marked_sane f c x s = record { well = mark_keeps (held f c) s.well s.bytes x f.sender; bytes = mark_bytes (held f c) s.well s.bytes x f.sender }

module _ (f : Frame) (b : Bytes f.payload) where
  pub act_sane : (c : Contents) (w : ℕ) → Sane f c → Sane f (act_of f c (decided f w))
  unfolding act_of
  act_sane c w s = go (sets_bit (edition_of f.objects) (decided f w))
    where
      go : (x : Bool) → Sane f (cond x (marked f c 0x1C81) (applied f.slots f.payload c (decided f w)))
      go true = marked_sane f c 0x1C81 s
      go false = record { well = step_keeps (held f c) f.payload w s.well b; bytes = step_bytes (held f c) f.payload w s.well b s.bytes }

  run_sane : (p : ℕ) (ws : List ℕ) (j : ℕ) (c : Contents) → Sane f c → Sane f (run_from f p ws j c).contents
  unfolding run_from
  run_sane p [] j c s = s
  run_sane p (w ∷ ws) j c s = go (eqb (type_at f.slots (p + j)) 8) (effect_of (decided f w)).stops (run_sane p ws (j + 1) c s) (run_sane p ws (j + 1) (act_of f c (decided f w)) (act_sane c w s))
    where
      go : (x y : Bool) → Sane f (run_from f p ws (j + 1) c).contents → Sane f (run_from f p ws (j + 1) (act_of f c (decided f w))).contents
          → Sane f (cond x (cond y (ran (act_of f c (decided f w)) (recorded f.number (j + 1) (effect_of (decided f w)).event)) (behind (recorded f.number (j + 1) (effect_of (decided f w)).event) (run_from f p ws (j + 1) (act_of f c (decided f w))))) (run_from f p ws (j + 1) c)).contents
      go true true u v = act_sane c w s
      go true false u v = v
      go false y u v = u

  list_sane : (c : Contents) → Sane f c → (g : Option ℕ) → Sane f (run_on f c g).contents
  list_sane c s None = s
  list_sane c s (Some r) = go (eqb (kind_at f.objects r) 0)
    where
      go : (x : Bool) → Sane f (cond x (ran c []) (run_from f (first_at f.objects r) (list_in f.objects c.words r) 0 c)).contents
      go true = s
      go false = run_sane (first_at f.objects r) (list_in f.objects c.words r) 0 c s

  pub consumed_sane : (c : Contents) (version : ℕ) → Sane f c → Sane f (consumed_by f c version).contents
  unfolding consumed_by
  consumed_sane c version s = channel (first_match (held f c) f.sender)
    where
      go : (i : ℕ) (x : Bool) → Sane f (cond x (run_on f c (find_row f.objects (0x1600 + i))) (ran (marked f c 0x1C80) (map_version f.number ∷ []))).contents
      go i true = list_sane c s (find_row f.objects (0x1600 + i))
      go i false = marked_sane f c 0x1C80 s

      channel : (g : Option ℕ) → Sane f (on_channel f c version g).contents
      channel None = s
      channel (Some i) = go i (right_version (expected_of (held f c) i) version)

  pub received_sane : (c : Contents) (version : ℕ) (ready : Bool) → Sane f c → Sane f (received_by f c version ready).contents
  received_sane c version true s = consumed_sane c version s
  received_sane c version false s = s

-- ---- the theorem
pub consume_keeps : (d : Dict) (payload : List ℕ) (sender version : ℕ) (ready : Bool) (room : ℕ) (log : List ℕ) → well_formed d ≡ true → Bytes d.bytes → Bytes payload → well_formed (filled d (consume_of d payload sender version ready room log).contents) ≡ true
unfolding consume_of
consume_keeps d payload sender version ready room log e b bp = rw e (go (ltb room 254) (ltb 1490 (length payload)))
  where
    f : Frame
    f = frame d.objects d.slots payload sender 0

    c : Contents
    c = contents d.words d.bytes

    go : (x y : Bool) → well_formed (filled d (cond x (after_consume (Err NoEventRoom) c log) (cond y (after_consume (Err PayloadTooLong) c log) (consume_done (finished (received_by f c version ready) log 0)))).contents) ≡ true
    go true y = e
    go false true = e
    go false false = (received_sane f bp c version ready (record { well = e; bytes = b })).well
