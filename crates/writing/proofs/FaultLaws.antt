-- R8.5: data that does not decode is refused with its fault, whatever it is written to, and the fault is what R3.9 says of the data.
-- Assumes nothing.
use Rattle.std.specs.Prelude.{Result, Ok, Err}
use Rattle.answers.specs.declared.Refusal.{Refusal}
use Rattle.answers.specs.declared.Refusal.TheVariants.{Malformed}
use mathlib.Core.Path.{◌≡◌, refl, ap, ◌∙◌}
use mathlib.Core.Bool.{Bool, true, false, cond}
use mathlib.Core.List.{List}
use Prim.Native.Nat.{ℕ}
use native.Mathlib.Omega.{arith}
use lib.ListN.{length}
use Rattle.value.specs.Codec.{exactly_of}
use Rattle.value.specs.Fault.{Tells}
use Rattle.value.specs.declared.CodecFault.{CodecFault}
use Rattle.value.specs.declared.Inexact.{Inexact}
use Rattle.value.specs.declared.Inexact.TheVariants.{NoType, Fails, Many}
use Rattle.value.proofs.FaultLaws.{exactly_tells}
use Rattle.entry.specs.Table.{Dict}
use Rattle.entry.specs.Judge.{well_formed}
use Rattle.commands.specs.Save.{save_of}
use Rattle.writing.specs.declared.Act.{Act}
use Rattle.writing.specs.declared.Act.TheVariants.{Put, Accepted, Keep, Save, Restore}
use Rattle.writing.specs.declared.WriteFault.{WriteFault}
use Rattle.writing.specs.declared.WriteFault.TheVariants.{NoValue, Refused}
use Rattle.writing.specs.Judging.{judge_value_of, refused_or, only_value, judge_of}
use Rattle.writing.specs.Writing.{after_write, saved_as, write_act_of, write_of}

-- ---- the theorem, both ways
pub write_no-value : (d : Dict) (store : List ℕ) (x sub t : ℕ) (s : List ℕ) (f : CodecFault) → well_formed d ≡ true → exactly_of t s ≡ Err (Fails f)
    → write_of d store x sub t s ≡ after_write (Err (NoValue f)) d.objects d.words d.bytes store
unfolding write_of write_act_of judge_of
write_no-value d store x sub t s f w e = rw (w, e)

pub write_tells : (d : Dict) (store : List ℕ) (x sub t : ℕ) (s : List ℕ) (f : CodecFault) → (write_of d store x sub t s).answer ≡ Err (NoValue f) → Tells t s f
unfolding write_of write_act_of judge_of
write_tells d store x sub t s f h = formed (well_formed d) h
  where
    value : (v : Result Act Refusal) → refused_or v ≡ Err (NoValue f) → Tells t s f
    value (Ok a) e = let z : ◌≡◌ {A = ℕ} 0 1 = cc in absurd (omega arith)
    value (Err r) e = let z : ◌≡◌ {A = ℕ} 0 1 = cc in absurd (omega arith)

    told : (y : Result (Unit {0}) Inexact) → exactly_of t s ≡ y → only_value y (judge_value_of d (length store) x sub t s) ≡ Err (NoValue f) → Tells t s f
    told (Ok _) q e = value (judge_value_of d (length store) x sub t s) e
    told (Err NoType) q e = let z : ◌≡◌ {A = ℕ} 0 1 = cc in absurd (omega arith)
    told (Err (Fails g)) q e = let z : g ≡ f = cc in exactly_tells t s f (q ∙ ap (λ y. Err (Fails y)) z)
    told (Err Many) q e = let z : ◌≡◌ {A = ℕ} 0 1 = cc in absurd (omega arith)

    saving : (a : Result (Unit {0}) Refusal) → saved_as a ≡ Err (NoValue f) → Tells t s f
    saving (Ok _) e = let z : ◌≡◌ {A = ℕ} 0 1 = cc in absurd (omega arith)
    saving (Err r) e = let z : ◌≡◌ {A = ℕ} 0 1 = cc in absurd (omega arith)

    acted : (j : Result Act WriteFault) → judge_of d (length store) x sub t s ≡ j → (write_act_of d store sub s j).answer ≡ Err (NoValue f) → Tells t s f
    acted (Ok (Put p)) q e = let z : ◌≡◌ {A = ℕ} 0 1 = cc in absurd (omega arith)
    acted (Ok Accepted) q e = let z : ◌≡◌ {A = ℕ} 0 1 = cc in absurd (omega arith)
    acted (Ok (Keep i n)) q e = let z : ◌≡◌ {A = ℕ} 0 1 = cc in absurd (omega arith)
    acted (Ok Save) q e = saving (save_of d store sub).answer e
    acted (Ok Restore) q e = let z : ◌≡◌ {A = ℕ} 0 1 = cc in absurd (omega arith)
    acted (Err g) q e = let z : g ≡ NoValue f = cc in told (exactly_of t s) refl (q ∙ ap Err z)

    formed : (b : Bool) → (cond b (write_act_of d store sub s (judge_of d (length store) x sub t s)) (after_write (Err (Refused Malformed)) d.objects d.words d.bytes store)).answer ≡ Err (NoValue f) → Tells t s f
    formed true e = acted (judge_of d (length store) x sub t s) refl e
    formed false e = let z : ◌≡◌ {A = ℕ} 0 1 = cc in absurd (omega arith)
