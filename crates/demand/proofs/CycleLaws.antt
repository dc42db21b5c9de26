-- A cycle is its payloads' turns, one after another. Assumes nothing.
use mathlib.Core.Path.{◌≡◌, refl, ap}
use mathlib.Core.Bool.{Bool, true, false, cond}
use mathlib.Core.List.{[], ◌++◌}
use Prim.Native.Nat.{ℕ, zero, suc, ◌+◌, ◌-◌, ◌≤◌}
use native.Mathlib.Omega.{arith}
use lib.Dec.{ltb}
use lib.ListN.{length}
use Rattle.lists.specs.Numbers.{Bytes}
use Rattle.entry.specs.Put.{Contents}
use Rattle.pdo_cycle.specs.Cycle.{Delivery, received_at, Cycled, cycled, further, cycle_from}
use Rattle.pdo_cycle.proofs.CycleLaws.{turn_sane}
use Rattle.pdo_cycle.proofs.KeepLaws.{Sane}
use Rattle.demand.specs.Calls.{contents_from, events_from}

pub record From (v : Delivery) (k i : ℕ) (c : Contents) (x : Cycled) : Type 0 where
  pub few : x.consumed ≤ k
  pub leaves : x.contents ≡ contents_from v i x.consumed c
  pub events : x.events ≡ events_from v i x.consumed c

pub from_turns : (v : Delivery) (k i : ℕ) (c : Contents) (room : ℕ) → From v k i c (cycle_from v k i c room)
unfolding cycle_from contents_from events_from
from_turns v zero i c room = record { few = omega arith; leaves = refl; events = refl }
from_turns v (suc k) i c room = go (ltb room 254) (from_turns v k (i + 1) (received_at v c i).contents (room - length (received_at v c i).events))
  where
    x : Cycled
    x = cycle_from v k (i + 1) (received_at v c i).contents (room - length (received_at v c i).events)

    go : (b : Bool) → From v k (i + 1) (received_at v c i).contents x → From v (suc k) i c (cond b (cycled c [] 0) (further (received_at v c i).events x))
    go true f = record { few = omega arith; leaves = refl; events = refl }
    go false f =
        let z : 1 + x.consumed ≡ suc x.consumed = omega arith in
        record { few = omega (arith, f.few); leaves = rw z f.leaves; events = rw z (ap (λ es. (received_at v c i).events ++ es) f.events) }

-- a well-formed dictionary of bytes stays one
pub turns_sane : (v : Delivery) → Bytes v.delivered → (i n : ℕ) (c : Contents) → Sane v c → Sane v (contents_from v i n c)
unfolding contents_from
turns_sane v b i zero c s = s
turns_sane v b i (suc n) c s = let t = turn_sane v c i s.well b s.bytes in turns_sane v b (i + 1) n (received_at v c i).contents (record { well = t.well; bytes = t.bytes })
