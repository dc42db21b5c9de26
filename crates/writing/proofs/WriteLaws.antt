-- The cases of a write's judging. Assumes nothing.
use Rattle.std.specs.Prelude.{Ok, Err}
use mathlib.Core.Path.{◌≡◌, refl, sym, ap, subst, ◌∙◌}
use mathlib.Core.Bool.{Bool, true, false, not, ◌&&◌, ◌||◌}
use mathlib.Core.List.{List}
use Prim.Native.Nat.{ℕ, ◌*◌, ◌^◌, ◌<◌, ◌≤◌}
use native.Mathlib.Omega.{arith}
use borrow.Author.Tests.{eqb-true, eqb-false, ne_eqb, leb-true, lt-leb, lt-ltb}
use lib.Dec.{eqb, leb}
use lib.ListN.{length, get_or, take, drop}
use lib.Seq.{take_all}
use Rattle.answers.specs.declared.Refusal.TheVariants.{TypeMismatch}
use Rattle.lists.specs.Numbers.{number, Bytes}
use Rattle.lists.proofs.NumberLaws.{number_lt}
use Rattle.value.specs.Codec.{is_text, size_of, fits_type, exact}
use Rattle.value.specs.Order.{ordered}
use Rattle.value.proofs.CodecLaws.{size_le, exact_fixed}
use Rattle.entry.specs.declared.Extra.{Extra}
use Rattle.entry.specs.Rules.{range_ok, extra_ok}
use Rattle.entry.specs.Table.{Dict, kept_at, count_at, number_of, extra_at, type_at, is_mapping}
use Rattle.entry.specs.Judge.{well_formed}
use Rattle.entry.proofs.FactLaws.{row_facts}
use Rattle.entry.proofs.JudgeLaws.{and_true}
use Rattle.pdo_validator.specs.Counting.{count_of}
use Rattle.writing.specs.Judging.{outside, at_value, count_first}

-- ---- the count of a mapping
module _ (d : Dict) (x sub t : ℕ) (s : List ℕ) where
  pub count_type : (eqb sub 0 && is_mapping x) ≡ true → eqb t 5 ≡ false → count_first d x sub t s ≡ Err TypeMismatch
  unfolding count_first
  count_type e q = rw (e, q)

  pub count_there : (eqb sub 0 && is_mapping x) ≡ true → eqb t 5 ≡ true → count_first d x sub t s ≡ count_of d x (get_or s 0 0)
  unfolding count_first
  count_there e q = rw (e, q)

  pub count_else : (eqb sub 0 && is_mapping x) ≡ false → count_first d x sub t s ≡ Ok tt
  unfolding count_first
  count_else e = rw e

-- ---- at a value
module _ (slots : List ℕ) (x : Extra) (p t : ℕ) (s : List ℕ) where
  pub value_type : eqb (type_at slots p) t ≡ false → at_value slots x p t s ≡ Err TypeMismatch
  unfolding at_value
  value_type e = rw e

-- ---- a range that is of another type, or none, has nothing outside it
module _ (x : Extra) (t w : ℕ) where
  pub outside_none : (eqb t 0 || not (eqb x.ranged t)) ≡ true → outside x t w ≡ false
  unfolding outside
  outside_none e = go (eqb t 0) (eqb x.ranged t) e
    where
      go : (a b : Bool) → (a || not b) ≡ true → (not a && (b && not (ordered t x.low w && ordered t w x.high))) ≡ false
      go true b e = refl
      go false true e = let z : ◌≡◌ {A = ℕ} 0 1 = cc in absurd (omega arith)
      go false false e = refl

  pub record Of : Type 0 where
    pub some : 1 ≤ t
    pub same : x.ranged ≡ t
    pub test : outside x t w ≡ not (ordered t x.low w && ordered t w x.high)

  pub outside_of : (eqb t 0 || not (eqb x.ranged t)) ≡ false → Of
  unfolding outside
  outside_of e = go (eqb t 0) refl (eqb x.ranged t) refl e
    where
      go : (a : Bool) → eqb t 0 ≡ a → (b : Bool) → eqb x.ranged t ≡ b → (a || not b) ≡ false → Of
      go true p b q e = let z : ◌≡◌ {A = ℕ} 0 1 = cc in absurd (omega arith)
      go false p false q e = let z : ◌≡◌ {A = ℕ} 0 1 = cc in absurd (omega arith)
      go false p true q e = let n = eqb-false t 0 p in record { some = omega (arith, n); same = eqb-true x.ranged t q; test = rw (p, q) }

-- ---- a value of the types 1..8 is a word of its type, of as many bytes as it has
pub record Integer (t : ℕ) (s : List ℕ) : Type 0 where
  pub long : length s ≤ 8
  pub fits : fits_type t (number s) ≡ true

pub integer-word : (t : ℕ) (s : List ℕ) → Bytes s → 1 ≤ t → t ≤ 8 → exact t s ≡ true → Integer t s
integer-word t s b l h e =
    let n : is_text t ≡ false = rw (lt-leb 11 t (omega (arith, h))) in
    let k = eqb-true (length s) (size_of t) (sym (exact_fixed t s (omega (arith, h)) n) ∙ e) in
    record { long = omega (arith, k, size_le t); fits = lt-ltb (number s) (2 ^ (8 * size_of t)) (subst (λ m. number s < 2 ^ (8 * m)) k (number_lt s b)) }

-- a range that is of a type is one of two words of it
pub record Ranged (t low high : ℕ) : Type 0 where
  pub small : t ≤ 8
  pub low_fits : fits_type t low ≡ true
  pub high_fits : fits_type t high ≡ true

pub ranged : (t low high : ℕ) → 1 ≤ t → range_ok t low high ≡ true → Ranged t low high
unfolding range_ok
ranged t low high l e =
    let f : (leb t 8 && (fits_type t low && (fits_type t high && ordered t low high))) ≡ true = rw (ne_eqb t 0 (λ z. omega (arith, l, z))) at e in
    let a = and_true (leb t 8) _ f in
    let b = and_true (fits_type t low) _ a.1 in
    record { small = leb-true t 8 a.0; low_fits = b.0; high_fits = (and_true (fits_type t high) _ b.1).0 }

-- a U8 has one byte
pub one_byte : (t : ℕ) (s : List ℕ) → exact t s ≡ true → t ≡ 5 → length s ≡ 1
unfolding size_of
one_byte t s e q =
    let f : exact 5 s ≡ true = ap (λ n. exact n s) (sym q) ∙ e in
    eqb-true (length s) (size_of 5) (sym (exact_fixed 5 s (omega arith) refl) ∙ f)

-- ---- a signature
pub whole : (s : List ℕ) → length s ≡ 4 → take 4 (drop 0 s) ≡ s
whole s e = take_all 4 s (omega arith)

-- ---- a row's range keeps the rule
pub range_right : (d : Dict) → well_formed d ≡ true → (i : ℕ) → i < number_of d.objects → let x = extra_at d.objects i in range_ok x.ranged x.low x.high ≡ true
unfolding extra_ok
range_right d w i h = (and_true (leb (kept_at d.objects i) (count_at d.objects i)) _ (row_facts d w i h).extra).1
