-- The walk over the elements of 1F81h, and where they lie.
-- Assumes nothing.
use Rattle.std.specs.Prelude.{Option, Some, None}
use mathlib.Core.Path.{◌≡◌, refl, sym, ap, ◌∙◌}
use mathlib.Core.Bool.{Bool, true, false, cond}
use mathlib.Core.List.{List, [], ◌∷◌}
use Prim.Native.Nat.{ℕ, suc, ◌+◌, ◌-◌, ◌<◌, ◌≤◌}
use native.Mathlib.Omega.{arith}
use lib.Dec.{eqb}
use lib.ListN.{length, get_or, set, length-set}
use Rattle.lists.specs.Lists.{over}
use Rattle.lists.proofs.ListLaws.{over_first}
use Rattle.entry.specs.Table.{Dict, kind_at, count_at, first_at, type_at}
use Rattle.entry.specs.Find.{find_row, Elements}
use Rattle.entry.specs.Judge.{well_formed}
use Rattle.entry.proofs.ValueLaws.{found_lies, elements_lie}
use Rattle.nodes.specs.Nodes.{configured, nodes_from, elements_on, elements_at}

-- what is found from element k of n on
abbrev pub rest : List ℕ → List ℕ → ℕ → ℕ → ℕ → List ℕ
rest slots words n p k = nodes_from slots words (n - k) (k + 1) (p + k)

pub rest-step : (slots words : List ℕ) (n p k : ℕ) → k < n → rest slots words n p k ≡ cond (configured (type_at slots (p + k)) (get_or words (p + k) 0)) ((k + 1) ∷ rest slots words n p (k + 1)) (rest slots words n p (k + 1))
unfolding nodes_from
rest-step slots words n p k h =
    let e : n - k ≡ suc (n - (k + 1)) = omega arith in
    let q : k + 1 + 1 ≡ suc (k + 1) = omega arith in
    let r : p + (k + 1) ≡ suc (p + k) = omega arith in
    rw (e, q, r)

pub rest_yes : (slots words : List ℕ) (n p k : ℕ) → k < n → configured (type_at slots (p + k)) (get_or words (p + k) 0) ≡ true → rest slots words n p k ≡ (k + 1) ∷ rest slots words n p (k + 1)
rest_yes slots words n p k h e = rest-step slots words n p k h ∙ ap (λ b. cond b ((k + 1) ∷ rest slots words n p (k + 1)) (rest slots words n p (k + 1))) e

pub rest-no : (slots words : List ℕ) (n p k : ℕ) → k < n → configured (type_at slots (p + k)) (get_or words (p + k) 0) ≡ false → rest slots words n p k ≡ rest slots words n p (k + 1)
rest-no slots words n p k h e = rest-step slots words n p k h ∙ ap (λ b. cond b ((k + 1) ∷ rest slots words n p (k + 1)) (rest slots words n p (k + 1))) e

pub rest_end : (slots words : List ℕ) (n p k : ℕ) → n ≤ k → rest slots words n p k ≡ []
unfolding nodes_from
rest_end slots words n p k h = let e : n - k ≡ 0 = omega arith in rw e

pub rest_all : (slots words : List ℕ) (n p : ℕ) → rest slots words n p 0 ≡ nodes_from slots words n 1 p
rest_all slots words n p =
    let e : n - 0 ≡ n = omega arith in
    let q : p + 0 ≡ p = omega arith in
    rw (e, q)

-- ---- m of them found before element k
pub record Walked (slots words : List ℕ) (n p m k : ℕ) : Type 0 where
  pub below : m ≤ k
  pub left : m + length (rest slots words n p k) ≡ length (nodes_from slots words n 1 p)

pub walked_start : (slots words : List ℕ) (n p m k : ℕ) → m ≡ 0 → k ≡ 0 → Walked slots words n p m k
walked_start slots words n p m k e q =
    let r = ap length (rest_all slots words n p) in
    rw (e, q) (record { below = omega arith; left = omega (arith, r) })

pub walked_yes : (slots words : List ℕ) (n p m k m' : ℕ) → Walked slots words n p m k → k < n → configured (type_at slots (p + k)) (get_or words (p + k) 0) ≡ true → m' ≡ m + 1 → Walked slots words n p m' (k + 1)
walked_yes slots words n p m k m' w h e q =
    let r = ap length (rest_yes slots words n p k h e) in
    record { below = omega (arith, w.below); left = omega (arith, w.left, r) }

pub walked_no : (slots words : List ℕ) (n p m k m' : ℕ) → Walked slots words n p m k → k < n → configured (type_at slots (p + k)) (get_or words (p + k) 0) ≡ false → m' ≡ m → Walked slots words n p m' (k + 1)
walked_no slots words n p m k m' w h e q =
    let r = ap length (rest-no slots words n p k h e) in
    record { below = omega (arith, w.below); left = omega (arith, w.left, r) }

pub walked_end : (slots words : List ℕ) (n p m k : ℕ) → Walked slots words n p m k → n ≤ k → m ≡ length (nodes_from slots words n 1 p)
walked_end slots words n p m k w h =
    let r : length (rest slots words n p k) ≡ 0 = ap length (rest_end slots words n p k h) in
    omega (arith, w.left, r)

-- ---- and laid over what was lent
pub record Laid (slots words : List ℕ) (n p : ℕ) (lent out : List ℕ) (m k : ℕ) : Type 0 where
  pub walked : Walked slots words n p m k
  pub same : length out ≡ length lent
  pub laid : over out m (rest slots words n p k) ≡ over lent 0 (nodes_from slots words n 1 p)

pub laid_yes : (slots words : List ℕ) (n p : ℕ) (lent out : List ℕ) (m k : ℕ) (out' : List ℕ) (m' : ℕ) → Laid slots words n p lent out m k → k < n → configured (type_at slots (p + k)) (get_or words (p + k) 0) ≡ true → m < length out → out' ≡ set out m (k + 1) → m' ≡ m + 1 → Laid slots words n p lent out' m' (k + 1)
laid_yes slots words n p lent out m k out' m' w h e b o q =
    let z : m' ≡ suc m = omega arith in
    record {
      walked = walked_yes slots words n p m k m' w.walked h e q;
      same = ap length o ∙ length-set out m (k + 1) ∙ w.same;
      laid = rw (o, z) (sym (over_first out m (k + 1) (rest slots words n p (k + 1)) b) ∙ ap (over out m) (sym (rest_yes slots words n p k h e)) ∙ w.laid);
    }

pub laid-no : (slots words : List ℕ) (n p : ℕ) (lent out : List ℕ) (m k : ℕ) (out' : List ℕ) (m' : ℕ) → Laid slots words n p lent out m k → k < n → configured (type_at slots (p + k)) (get_or words (p + k) 0) ≡ false → out' ≡ out → m' ≡ m → Laid slots words n p lent out' m' (k + 1)
laid-no slots words n p lent out m k out' m' w h e o q =
    record {
      walked = walked_no slots words n p m k m' w.walked h e q;
      same = ap length o ∙ w.same;
      laid = rw (o, q) (ap (over out m) (sym (rest-no slots words n p k h e)) ∙ w.laid);
    }

-- ---- where they lie
pub nodes_lie : (d : Dict) → well_formed d ≡ true → let e = elements_at d.objects in Elements d.slots d.words e.count e.first
unfolding elements_at
nodes_lie d w = row (find_row d.objects 0x1F81) refl
  where
    none : Elements d.slots d.words 0 0
    none = record { few = omega arith; low = omega arith; slotted = omega arith; worded = omega arith }

    array : (i : ℕ) → find_row d.objects 0x1F81 ≡ Some i → Elements d.slots d.words (count_at d.objects i) (first_at d.objects i)
    array i f = elements_lie d w i _ (found_lies d w 0x1F81 i f).below (omega arith)

    kind : (i : ℕ) → find_row d.objects 0x1F81 ≡ Some i → (b : Bool) → eqb (kind_at d.objects i) 1 ≡ b → let e = elements_on d.objects (Some i) in Elements d.slots d.words e.count e.first
    kind i f true q = rw q (array i f)
    kind i f false q = rw q none

    row : (f : Option ℕ) → find_row d.objects 0x1F81 ≡ f → let e = elements_on d.objects f in Elements d.slots d.words e.count e.first
    row (Some i) f = kind i f (eqb (kind_at d.objects i) 1) refl
    row None f = none
