-- Names: compared by the library's test, and the walk over the rows.
-- Assumes nothing.
use Rattle.std.specs.Prelude.{Result, Ok, Err}
use Rattle.std.specs.Result.{result_or}
use mathlib.Core.Path.{◌≡◌, refl, ap}
use mathlib.Core.Bool.{true, false, cond, ◌&&◌}
use mathlib.Core.List.{List, [], ◌∷◌}
use Prim.Native.Nat.{ℕ, suc, ◌+◌, ◌-◌, ◌*◌, ◌<◌, ◌≤◌}
use native.Mathlib.Omega.{arith}
use lib.Dec.{eqb}
use lib.Pointwise.{pointwise}
use lib.ListN.{length}
use Rattle.entry.specs.Table.{Dict, number_of, index_at, name_at, name_len_at}
use Rattle.entry.specs.Judge.{well_formed}
use Rattle.entry.proofs.JudgeLaws.{head_ok_lem, headed}
use Rattle.entry.proofs.FactLaws.{row_facts}
use Rattle.entry.specs.Rules.{is_good}
use Rattle.answers.specs.declared.Refusal.{Refusal}
use Rattle.answers.specs.declared.Refusal.TheVariants.{BadValue, ObjectNotFound}
use Rattle.names.specs.Names.{same, name_of, name_from}

-- the library's test of bytes is this one
pub same_bytes : (xs ys : List ℕ) → pointwise eqb xs ys ≡ same xs ys
unfolding same
same_bytes [] [] = refl
same_bytes [] (y ∷ ys) = refl
same_bytes (x ∷ xs) [] = refl
same_bytes (x ∷ xs) (y ∷ ys) = ap (λ b. eqb x y && b) (same_bytes xs ys)

-- ---- bad text, for which a refusal of the call's own stands
pub bad_text : (g : Result (Unit {0}) ℕ) (e : Refusal) → result_or g (Err BadValue) ≡ Err e → (is_good g ≡ false) × (e ≡ BadValue)
bad_text (Ok u) e h = let z : ◌≡◌ {A = ℕ} 0 1 = cc in absurd (omega arith)
bad_text (Err k) e h = (refl, cc)

pub good_text : (g : Result (Unit {0}) ℕ) (u : Unit {0}) → result_or {D = Refusal} g (Err BadValue) ≡ Ok u → is_good g ≡ true
good_text (Ok v) u h = refl
good_text (Err k) u h = let z : ◌≡◌ {A = ℕ} 0 1 = cc in absurd (omega arith)

-- ---- where a row and its name lie
pub record NameLies (d : Dict) (i : ℕ) : Type 0 where
  pub small : i < 1024
  pub row : 12 * i + 24 ≤ length d.objects
  pub start : name_at d.objects i ≤ 32768
  pub inside : name_at d.objects i + name_len_at d.objects i ≤ length d.bytes
  pub index : index_at d.objects i < 65536

pub name_lies : (d : Dict) → well_formed d ≡ true → (i : ℕ) → i < number_of d.objects → NameLies d i
name_lies d w i h =
    let r = row_facts d w i h in
    let a = headed d w in
    record {
      small = omega (arith, a.few);
      row = omega (arith, a.rows);
      start = omega (arith, r.bytes, a.total);
      inside = omega (arith, r.bytes, a.bytes);
      index = (head_ok_lem _ _ _ _ _ _ r.head).index_small;
    }

-- ---- one turn of the walk over the rows
pub name_step : (d : Dict) (name : List ℕ) (n i : ℕ) → i < n → name_from d name (n - i) i ≡ cond (same (name_of d i) name) (Ok (index_at d.objects i)) (name_from d name (n - (i + 1)) (i + 1))
unfolding name_from
name_step d name n i h =
    let e : n - i ≡ suc (n - (i + 1)) = omega arith in
    let q : i + 1 ≡ suc i = omega arith in
    rw (e, q)

pub name_end : (d : Dict) (name : List ℕ) (k i : ℕ) → k ≡ 0 → name_from d name k i ≡ Err ObjectNotFound
unfolding name_from
name_end d name k i e = rw e
