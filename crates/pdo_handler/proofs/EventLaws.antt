-- How many events a payload has, and where its number is. Assumes nothing.
use Rattle.std.specs.Prelude.{Option, Some, None}
use mathlib.Core.Path.{◌≡◌, refl, sym, ap, ap₂, ◌∙◌}
use mathlib.Core.Bool.{Bool, true, false, cond}
use mathlib.Core.List.{List, [], ◌∷◌, ◌++◌, map}
use Prim.Native.Nat.{ℕ, suc, ◌+◌, ◌≤◌}
use native.Mathlib.Omega.{arith}
use lib.Dec.{eqb}
use lib.ListN.{length, length-append, length-take, drop}
use Rattle.event.specs.declared.Event.{Event}
use Rattle.event.specs.declared.EventRecord.{EventRecord}
use Rattle.event.specs.Record.{record_at}
use Rattle.entry.specs.Table.{kind_at, list_count, first_at, type_at}
use Rattle.entry.specs.Find.{find_row}
use Rattle.entry.specs.Judge.{well_formed}
use Rattle.entry.specs.Put.{Contents}
use Rattle.entry.proofs.ValueLaws.{found_lies, list_count_le}
use Rattle.pdo_step.specs.declared.Outcome.{Outcome}
use Rattle.pdo_step.specs.Effects.{effect_of}
use Rattle.pdo_channel.specs.Channel.{first_match, expected_of, right_version}
use Rattle.pdo_run.specs.Run.{Frame, frame, held, marked, decided, recorded, act_of, Ran, ran, behind, run_from, list_in, run_on}
use Rattle.pdo_handler.specs.Consume.{map_version, on_channel, consumed_by, received_by}

recorded_few : (i k : ℕ) (v : Option Event) → length (recorded i k v) ≤ 1
recorded_few i k None = omega arith
recorded_few i k (Some v) = omega arith

run_few : (f : Frame) (p : ℕ) (ws : List ℕ) (j : ℕ) (c : Contents) → length (run_from f p ws j c).events ≤ length ws
unfolding run_from
run_few f p [] j c = omega arith
run_few f p (w ∷ ws) j c = go (eqb (type_at f.slots (p + j)) 8) (effect_of (decided f w)).stops (run_few f p ws (j + 1) c) (run_few f p ws (j + 1) (act_of f c (decided f w)))
  where
    v : Option Event
    v = (effect_of (decided f w)).event

    es : List EventRecord
    es = recorded f.number (j + 1) v

    go : (x y : Bool) → length (run_from f p ws (j + 1) c).events ≤ length ws → length (run_from f p ws (j + 1) (act_of f c (decided f w))).events ≤ length ws
        → length (cond x (cond y (ran (act_of f c (decided f w)) es) (behind es (run_from f p ws (j + 1) (act_of f c (decided f w))))) (run_from f p ws (j + 1) c)).events ≤ suc (length ws)
    go true true u l = omega (arith, recorded_few f.number (j + 1) v)
    go true false u l = rw (length-append es (run_from f p ws (j + 1) (act_of f c (decided f w))).events) (omega (arith, recorded_few f.number (j + 1) v, l))
    go false y u l = omega (arith, u)

-- a list has at most 254 words, and each at most one event
pub received_few : (f : Frame) (c : Contents) → well_formed (held f c) ≡ true → (version : ℕ) (ready : Bool) → length (received_by f c version ready).events ≤ 254
unfolding consumed_by
received_few f c w version false = omega arith
received_few f c w version true = channel (first_match (held f c) f.sender)
  where
    row : (x : ℕ) (g : Option ℕ) → find_row f.objects x ≡ g → length (run_on f c g).events ≤ 254
    row x None q = omega arith
    row x (Some r) q = kind (eqb (kind_at f.objects r) 0)
      where
        list : List ℕ
        list = list_in f.objects c.words r

        few : length list ≤ 254
        few = omega (arith, length-take (list_count f.objects r) (drop (first_at f.objects r) c.words), list_count_le (held f c) w r (found_lies (held f c) w x r q).below, (found_lies (held f c) w x r q).few)

        kind : (b : Bool) → length (cond b (ran c []) (run_from f (first_at f.objects r) list 0 c)).events ≤ 254
        kind true = omega arith
        kind false = omega (arith, run_few f (first_at f.objects r) list 0 c, few)

    version_of_lem : (i : ℕ) (b : Bool) → length (cond b (run_on f c (find_row f.objects (0x1600 + i))) (ran (marked f c 0x1C80) (map_version f.number ∷ []))).events ≤ 254
    version_of_lem i true = row (0x1600 + i) (find_row f.objects (0x1600 + i)) refl
    version_of_lem i false = omega arith

    channel : (g : Option ℕ) → length (on_channel f c version g).events ≤ 254
    channel None = omega arith
    channel (Some i) = version_of_lem i (right_version (expected_of (held f c) i) version)

-- ---- R11.13: "as by a call of its own", and the events "carry their payload's number"
abbrev pub numbered : ℕ → EventRecord → EventRecord
numbered i r = record_at i r.element r.event

abbrev pub relabelled : ℕ → Ran → Ran
relabelled i r = ran r.contents (map (numbered i) r.events)

pub map-append : {A B : Type 0} (f : A → B) (xs ys : List A) → map f (xs ++ ys) ≡ map f xs ++ map f ys
map-append f [] ys = refl
map-append {A} {B} f (x ∷ xs) ys = ap (λ (zs : List B). f x ∷ zs) (map-append f xs ys)

-- an event of a payload
one_numbered : (i k : ℕ) (v : Option Event) → recorded i k v ≡ map (numbered i) (recorded 0 k v)
one_numbered i k None = refl
one_numbered i k (Some v) = refl

module _ (objects slots payload : List ℕ) (sender i : ℕ) where
  abbrev f : ℕ → Frame
  f k = frame objects slots payload sender k

  run_numbered : (p : ℕ) (ws : List ℕ) (j : ℕ) (c : Contents) → run_from (f i) p ws j c ≡ relabelled i (run_from (f 0) p ws j c)
  unfolding run_from act_of
  run_numbered p [] j c = refl
  run_numbered p (w ∷ ws) j c = go (eqb (type_at slots (p + j)) 8) (effect_of o).stops (run_numbered p ws (j + 1) c) (run_numbered p ws (j + 1) (act_of (f 0) c o))
    where
      o : Outcome
      o = decided (f 0) w

      es : ℕ → List EventRecord
      es m = recorded m (j + 1) (effect_of o).event

      go : (x y : Bool) → run_from (f i) p ws (j + 1) c ≡ relabelled i (run_from (f 0) p ws (j + 1) c) → run_from (f i) p ws (j + 1) (act_of (f 0) c o) ≡ relabelled i (run_from (f 0) p ws (j + 1) (act_of (f 0) c o))
          → cond x (cond y (ran (act_of (f 0) c o) (es i)) (behind (es i) (run_from (f i) p ws (j + 1) (act_of (f 0) c o)))) (run_from (f i) p ws (j + 1) c)
          ≡ relabelled i (cond x (cond y (ran (act_of (f 0) c o) (es 0)) (behind (es 0) (run_from (f 0) p ws (j + 1) (act_of (f 0) c o)))) (run_from (f 0) p ws (j + 1) c))
      go true true u v = ap (ran (act_of (f 0) c o)) (one_numbered i (j + 1) (effect_of o).event)
      go true false u v =
          ap₂ behind (one_numbered i (j + 1) (effect_of o).event) v
          ∙ ap (ran (run_from (f 0) p ws (j + 1) (act_of (f 0) c o)).contents) (sym (map-append (numbered i) (es 0) (run_from (f 0) p ws (j + 1) (act_of (f 0) c o)).events))
      go false y u v = u

  -- payload number i does what payload number 0 does, and its events have its number
  pub received-numbered : (c : Contents) (version : ℕ) (ready : Bool) → received_by (f i) c version ready ≡ relabelled i (received_by (f 0) c version ready)
  unfolding consumed_by
  received-numbered c version false = refl
  received-numbered c version true = channel (first_match (held (f 0) c) sender)
    where
      row : (g : Option ℕ) → run_on (f i) c g ≡ relabelled i (run_on (f 0) c g)
      row None = refl
      row (Some r) = kind (eqb (kind_at objects r) 0)
        where
          kind : (b : Bool) → cond b (ran c []) (run_from (f i) (first_at objects r) (list_in objects c.words r) 0 c) ≡ relabelled i (cond b (ran c []) (run_from (f 0) (first_at objects r) (list_in objects c.words r) 0 c))
          kind true = refl
          kind false = run_numbered (first_at objects r) (list_in objects c.words r) 0 c

      version_of_lem : (k : ℕ) (b : Bool) → cond b (run_on (f i) c (find_row objects (0x1600 + k))) (ran (marked (f 0) c 0x1C80) (map_version i ∷ [])) ≡ relabelled i (cond b (run_on (f 0) c (find_row objects (0x1600 + k))) (ran (marked (f 0) c 0x1C80) (map_version 0 ∷ [])))
      version_of_lem k true = row (find_row objects (0x1600 + k))
      version_of_lem k false = refl

      channel : (g : Option ℕ) → on_channel (f i) c version g ≡ relabelled i (on_channel (f 0) c version g)
      channel None = refl
      channel (Some k) = version_of_lem k (right_version (expected_of (held (f 0) c) k) version)
