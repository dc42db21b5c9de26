-- Where a write changes something of the dictionary, what was judged of it. Assumes nothing.
use Rattle.std.specs.Prelude.{Result, Ok, Err, is_ok}
use Rattle.answers.specs.declared.Refusal.{Refusal}
use mathlib.Core.Path.{◌≡◌, refl, sym, ap, subst, ◌∙◌}
use mathlib.Core.Bool.{Bool, true, false, cond}
use mathlib.Core.List.{List}
use Prim.Native.Nat.{ℕ}
use native.Mathlib.Omega.{arith}
use lib.Dec.{eqb, ltb}
use Rattle.answers.specs.declared.Refusal.TheVariants.{NoStorage, BadSignature}
use Rattle.value.specs.Codec.{exactly_of, exact}
use Rattle.value.specs.declared.Inexact.{Inexact}
use Rattle.value.specs.declared.Inexact.TheVariants.{NoType, Fails, Many}
use Rattle.entry.specs.Table.{Dict}
use Rattle.entry.specs.Find.{find_row}
use Rattle.writing.specs.declared.Act.{Act}
use Rattle.writing.specs.declared.Act.TheVariants.{Put, Accepted, Keep, Save, Restore}
use Rattle.writing.specs.Judging.{save, load, signed_by, command_of, in_object, count_first, after_count, judge_value_of, refused_or, only_value, judge_of}

-- a value that is put, or a count that is kept
abbrev pub Changes : Act → Type 0
Changes (Put p) = Unit {0}
Changes Accepted = ⊥
Changes (Keep i n) = Unit {0}
Changes Save = ⊥
Changes Restore = ⊥

-- a command that is followed is the one that was given
commanded : (signature : ℕ) (c : Act) (n sub t : ℕ) (s : List ℕ) (j : Act) → command_of signature c n sub t s ≡ Ok j → c ≡ j
unfolding command_of
commanded signature c n sub t s j e = go (signed_by signature sub t s) (ltb n 2) e
  where
    go : (a b : Bool) → ◌≡◌ {A = Result Act Refusal} (cond a (cond b (Err NoStorage) (Ok c)) (Err BadSignature)) (Ok j) → c ≡ j
    go true true e = let z : ◌≡◌ {A = ℕ} 0 1 = cc in absurd (omega arith)
    go true false e = cc
    go false b e = let z : ◌≡◌ {A = ℕ} 0 1 = cc in absurd (omega arith)

-- where something changes, the data is a value, its count is right where it is one, and the object says what
pub record Reached (d : Dict) (x sub t : ℕ) (s : List ℕ) (j : Act) : Type 0 where
  pub exactly : exact t s ≡ true
  pub counts : count_first d x sub t s ≡ Ok tt
  pub object : in_object d x sub t s (find_row d.objects x) ≡ Ok j

pub reached : (d : Dict) (n x sub t : ℕ) (s : List ℕ) (j : Act) → Changes j → judge_of d n x sub t s ≡ Ok j → Reached d x sub t s j
unfolding judge_of judge_value_of exact
reached d n x sub t s j c e = right (exactly_of t s) refl e
  where
    o : Result Act Refusal
    o = in_object d x sub t s (find_row d.objects x)

    counted : is_ok (exactly_of t s) ≡ true → (a : Result (Unit {0}) Refusal) → count_first d x sub t s ≡ a → after_count a o ≡ Ok j → Reached d x sub t s j
    counted h (Ok _) q e = record { exactly = h; counts = q; object = e }
    counted h (Err r) q e = let z : ◌≡◌ {A = ℕ} 0 1 = cc in absurd (omega arith)

    loads : is_ok (exactly_of t s) ≡ true → (b : Bool) → cond b (command_of load Restore n sub t s) (after_count (count_first d x sub t s) o) ≡ Ok j → Reached d x sub t s j
    loads h true e = absurd (subst Changes (sym (commanded load Restore n sub t s j e)) c)
    loads h false e = counted h (count_first d x sub t s) refl e

    saves : is_ok (exactly_of t s) ≡ true → (b : Bool) → cond b (command_of save Save n sub t s) (cond (eqb x 0x1011) (command_of load Restore n sub t s) (after_count (count_first d x sub t s) o)) ≡ Ok j → Reached d x sub t s j
    saves h true e = absurd (subst Changes (sym (commanded save Save n sub t s j e)) c)
    saves h false e = loads h (eqb x 0x1011) e

    value : is_ok (exactly_of t s) ≡ true → (v : Result Act Refusal) → judge_value_of d n x sub t s ≡ v → refused_or v ≡ Ok j → Reached d x sub t s j
    value h (Ok a) q e = saves h (eqb x 0x1010) (q ∙ ap Ok (cc e))
    value h (Err r) q e = let z : ◌≡◌ {A = ℕ} 0 1 = cc in absurd (omega arith)

    right : (y : Result (Unit {0}) Inexact) → exactly_of t s ≡ y → only_value y (judge_value_of d n x sub t s) ≡ Ok j → Reached d x sub t s j
    right (Ok _) h e = value (ap is_ok h) (judge_value_of d n x sub t s) refl e
    right (Err NoType) h e = let z : ◌≡◌ {A = ℕ} 0 1 = cc in absurd (omega arith)
    right (Err (Fails f)) h e = let z : ◌≡◌ {A = ℕ} 0 1 = cc in absurd (omega arith)
    right (Err Many) h e = let z : ◌≡◌ {A = ℕ} 0 1 = cc in absurd (omega arith)
