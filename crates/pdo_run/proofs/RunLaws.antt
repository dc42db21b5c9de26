-- One word's turn. Assumes nothing.
use Rattle.std.specs.Prelude.{Option, Some, None}
use mathlib.Core.Path.{◌≡◌, refl}
use mathlib.Core.Bool.{Bool, true, false, cond}
use mathlib.Core.List.{List, [], map}
use mathlib.Core.Logic.{◌≢◌}
use Prim.Native.Nat.{ℕ, suc, ◌+◌, ◌<◌, ◌≤◌}
use native.Mathlib.Omega.{arith}
use native.Mathlib.Numerals.{add-one}
use borrow.Author.Tests.{eq-eqb, ne_eqb}
use lib.Dec.{eqb}
use lib.ListN.{length, drop, get_or, set, drop_of_length-le}
use lib.Seq.{drop-cons}
use Rattle.lists.proofs.ListLaws.{over_none, over_first}
use Rattle.event.specs.declared.Event.{Event}
use Rattle.event.specs.Record.{event_number, record_at}
use Rattle.event.proofs.RecordLaws.{number_some}
use Rattle.entry.specs.Table.{edition_of, type_at}
use Rattle.entry.specs.Put.{Contents}
use Rattle.pdo_step.specs.declared.Outcome.{Outcome}
use Rattle.pdo_step.specs.declared.Outcome.TheVariants as outcome
use Rattle.pdo_step.specs.Effects.{effect_of, sets_bit}
use Rattle.pdo_step.specs.Steps.{applied}
use Rattle.pdo_run.specs.Run.{recorded, code_of, Frame, decided, marked, act_of, Ran, ran, behind, run_from, logged, finished, noted_log, noted_count}

-- ---- the act: the bit, or the put
pub act_marked : (f : Frame) (c : Contents) (o : Outcome) → sets_bit (edition_of f.objects) o ≡ true → act_of f c o ≡ marked f c 0x1C81
unfolding act_of
act_marked f c o e = rw e

pub act_put : (f : Frame) (c : Contents) (o : Outcome) → sets_bit (edition_of f.objects) o ≡ false → act_of f c o ≡ applied f.slots f.payload c o
unfolding act_of
act_put f c o e = rw e

-- an outcome with a bit puts nothing
pub marked_idle : (edition : ℕ) (slots payload : List ℕ) (c : Contents) (o : Outcome) → sets_bit edition o ≡ true → applied slots payload c o ≡ c
unfolding applied
marked_idle edition slots payload c outcome.Misaligned e = refl
marked_idle edition slots payload c outcome.Short e = refl
marked_idle edition slots payload c (outcome.Server x start n) e = refl
marked_idle edition slots payload c (outcome.Client x start n) e = refl
marked_idle edition slots payload c outcome.NoTarget e = refl
marked_idle edition slots payload c outcome.Count e = refl
marked_idle edition slots payload c outcome.CountRefused e = refl
marked_idle edition slots payload c (outcome.Undecodable f) e = refl
marked_idle edition slots payload c outcome.TooLong e = refl
marked_idle edition slots payload c (outcome.Stored p start n) e = let z : ◌≡◌ {A = ℕ} 0 1 = cc in absurd (omega arith)

-- and it stops the run
goes_on_lem : (edition : ℕ) (o : Outcome) → (effect_of o).stops ≡ false → sets_bit edition o ≡ false
goes_on_lem edition outcome.Misaligned s = refl
goes_on_lem edition outcome.Short s = let z : ◌≡◌ {A = ℕ} 0 1 = cc in absurd (omega arith)
goes_on_lem edition (outcome.Server x start n) s = refl
goes_on_lem edition (outcome.Client x start n) s = refl
goes_on_lem edition outcome.NoTarget s = refl
goes_on_lem edition outcome.Count s = refl
goes_on_lem edition outcome.CountRefused s = refl
goes_on_lem edition (outcome.Undecodable f) s = let z : ◌≡◌ {A = ℕ} 0 1 = cc in absurd (omega arith)
goes_on_lem edition outcome.TooLong s = refl
goes_on_lem edition (outcome.Stored p start n) s = refl

-- ---- the run, one word at a time
module _ (f : Frame) (p : ℕ) (list : List ℕ) (j : ℕ) (c : Contents) where
  abbrev pub onward : Ran
  onward = run_from f p (drop j list) j c

  pub run_end : length list ≤ j → onward ≡ ran c []
  unfolding run_from
  run_end h = rw (drop_of_length-le list h)

  pub run_over : j < length list → type_at f.slots (p + j) ≢ 8 → onward ≡ run_from f p (drop (j + 1) list) (j + 1) c
  unfolding run_from
  run_over h t = rw (drop-cons list j 0 h, ne_eqb _ 8 t, add-one)

  module _ (h : j < length list) (t : type_at f.slots (p + j) ≡ 8) where
    abbrev pub here : Outcome
    here = decided f (get_or list j 0)

    pub run_stops : (effect_of here).stops ≡ true → onward ≡ ran (act_of f c here) (recorded f.number (j + 1) (effect_of here).event)
    unfolding run_from
    run_stops s = rw (drop-cons list j 0 h, eq-eqb _ 8 t, s)

    pub run_on_lem : (effect_of here).stops ≡ false → onward ≡ behind (recorded f.number (j + 1) (effect_of here).event) (run_from f p (drop (j + 1) list) (j + 1) (act_of f c here))
    unfolding run_from
    run_on_lem s = rw (drop-cons list j 0 h, eq-eqb _ 8 t, s, add-one)

-- ---- the log
module _ (l : List ℕ) (n : ℕ) where
  pub finished_none : (c : Contents) → finished (ran c []) l n ≡ logged c l n
  finished_none c = let z : n + 0 ≡ n = omega arith in rw (over_none l n, z)

  module _ (i k : ℕ) (h : n < length l) where
    -- a number that is an event's is noted
    noted : (v : Event) → eqb (event_number (record_at i k v)) 0 ≡ false
    noted v = ne_eqb (event_number (record_at i k v)) 0 (λ e. omega (arith, e, number_some (record_at i k v)))

    pub finished_one : (v : Option Event) (c : Contents) → finished (ran c (recorded i k v)) l n ≡ logged c (noted_log l n (code_of i k v)) (noted_count n (code_of i k v))
    finished_one None c = finished_none c
    finished_one (Some v) c = let e = event_number (record_at i k v) in rw (noted v, over_first l n e [] h, over_none (set l n e) (suc n))

    pub finished-behind : (v : Option Event) (r : Ran) → finished (behind (recorded i k v) r) l n ≡ finished r (noted_log l n (code_of i k v)) (noted_count n (code_of i k v))
    finished-behind None r = refl
    finished-behind (Some v) r =
        let e = event_number (record_at i k v) in
        let z : n + suc (length r.events) ≡ n + 1 + length r.events = omega arith in
        let y : suc n ≡ n + 1 = omega arith in
        rw (noted v, over_first l n e (map event_number r.events) h, z, y)

pub noted_few : (n e : ℕ) → noted_count n e ≤ n + 1
noted_few n e = go (eqb e 0)
  where
    go : (b : Bool) → cond b n (n + 1) ≤ n + 1
    go true = omega arith
    go false = omega arith
