-- Where a bit's byte lies. Assumes nothing.
use Rattle.std.specs.Prelude.{Option, Some, None}
use mathlib.Core.Path.{◌≡◌, refl, ap}
use mathlib.Core.Bool.{Bool, true, false, cond, ◌&&◌, ◌||◌}
use Prim.Native.Nat.{ℕ, ◌+◌, ◌<◌}
use native.Mathlib.Omega.{arith}
use borrow.Author.Tests.{eqb-true, eqb-false, ltb-true}
use lib.Dec.{eqb, ltb}
use lib.ListN.{length, get_or}
use Rattle.value.specs.Codec.{is_text}
use Rattle.entry.specs.Table.{Dict, kind_at, count_at, first_at, type_at, start_at}
use Rattle.entry.specs.Find.{find_row}
use Rattle.entry.specs.Judge.{well_formed}
use Rattle.entry.proofs.JudgeLaws.{and_true, head_ok_lem}
use Rattle.entry.proofs.FactLaws.{row_facts}
use Rattle.entry.proofs.ValueLaws.{ValueFacts, value_facts, found_lies}
use Rattle.pdo_step.specs.Bits.{byte_of, bit_in, bit_at}

pub has_bit : (n : ℕ) → (eqb n 0 || ltb 239 n) ≡ false → 0 < n
has_bit n h = go (eqb n 0) refl h
  where
    go : (b : Bool) → eqb n 0 ≡ b → (b || ltb 239 n) ≡ false → 0 < n
    go true q h = let y : ◌≡◌ {A = ℕ} 0 1 = cc in absurd (omega arith)
    go false q h = omega (arith, eqb-false n 0 q)

-- a Variable's value
pub variable_facts : (d : Dict) (e : well_formed d ≡ true) (x i : ℕ) → find_row d.objects x ≡ Some i → kind_at d.objects i ≡ 0 → ValueFacts d (first_at d.objects i)
variable_facts d e x i f k =
    let l = found_lies d e x i f in
    let one : count_at d.objects i ≡ 1 = (head_ok_lem _ _ _ _ _ _ (row_facts d e i l.below).head).variable k in
    let z : first_at d.objects i + 0 ≡ first_at d.objects i = omega arith in
    rw z at (value_facts d e i 0 l.below (omega arith))

-- the byte is within the bytes, and the node has a bit
pub record BitLies (d : Dict) (n a : ℕ) : Type 0 where
  pub node : 0 < n
  pub inside : a < length d.bytes

pub bit_lies : (d : Dict) → well_formed d ≡ true → (x n a : ℕ) → bit_at d.objects d.slots d.words x n ≡ Some a → BitLies d n a
unfolding bit_at
bit_lies d e x n a q = node (eqb n 0) refl (ltb 239 n) q
  where
    inside : (i : ℕ) → find_row d.objects x ≡ Some i → (n ≡ 0 → ⊥) → (b : Bool) → (eqb (kind_at d.objects i) 0 && (eqb (type_at d.slots (first_at d.objects i)) 12 && ltb (byte_of n) (get_or d.words (first_at d.objects i) 0))) ≡ b
        → cond b (Some (start_at d.slots (first_at d.objects i) + byte_of n)) None ≡ Some a → BitLies d n a
    inside i f z true h q =
        let p = first_at d.objects i in
        let u = and_true (eqb (kind_at d.objects i) 0) _ h in
        let v = and_true (eqb (type_at d.slots p) 12) _ u.1 in
        let t : type_at d.slots p ≡ 12 = eqb-true _ _ v.0 in
        let text : is_text (type_at d.slots p) ≡ true = ap is_text t in
        let g = variable_facts d e x i f (eqb-true _ _ u.0) in
        let s : start_at d.slots p + byte_of n ≡ a = cc in
        record { node = omega (arith, z); inside = omega (arith, s, ltb-true (byte_of n) (get_or d.words p 0) v.1, (g.text text).0, g.within, g.bytes) }
    inside i f z false h q = let y : ◌≡◌ {A = ℕ} 0 1 = cc in absurd (omega arith)

    row : (n ≡ 0 → ⊥) → (f : Option ℕ) → find_row d.objects x ≡ f → bit_in d.objects d.slots d.words n f ≡ Some a → BitLies d n a
    row z (Some i) f q = inside i f z (eqb (kind_at d.objects i) 0 && (eqb (type_at d.slots (first_at d.objects i)) 12 && ltb (byte_of n) (get_or d.words (first_at d.objects i) 0))) refl q
    row z None f q = let y : ◌≡◌ {A = ℕ} 0 1 = cc in absurd (omega arith)

    node : (b : Bool) → eqb n 0 ≡ b → (c : Bool) → cond (b || c) None (bit_in d.objects d.slots d.words n (find_row d.objects x)) ≡ Some a → BitLies d n a
    node true h c q = let y : ◌≡◌ {A = ℕ} 0 1 = cc in absurd (omega arith)
    node false h true q = let y : ◌≡◌ {A = ℕ} 0 1 = cc in absurd (omega arith)
    node false h false q = row (eqb-false n 0 h) (find_row d.objects x) refl q
