-- R3.9: what a fault says of the data is so. Once over `word_at`, and said of decoding and of what is handed in.
-- Assumes nothing.
use Rattle.std.specs.Prelude.{Result, Ok, Err}
use mathlib.Core.Path.{◌≡◌, refl, ap, subst, ◌∙◌}
use mathlib.Core.Bool.{Bool, true, false, cond, ◌&&◌, ◌||◌, and-eq-true_iff}
use mathlib.Core.List.{List}
use Prim.Native.Nat.{ℕ, ◌+◌, ◌%◌, ◌≤◌}
use native.Mathlib.Omega.{arith}
use borrow.Author.Tests.{ltb-true, eqb-true}
use lib.Dec.{eqb, leb, ltb}
use lib.ListN.{length, take}
use Rattle.lists.specs.Numbers.{number}
use Rattle.text.specs.Utf8.{Means}
use Rattle.text.specs.Machine.{judge}
use Rattle.text.proofs.Agree.{means}
use Rattle.value.specs.declared.CodecFault.{CodecFault}
use Rattle.value.specs.declared.CodecFault.TheVariants.{Value, Text, Odd}
use Rattle.value.specs.declared.ObjectValue.{ObjectValue}
use Rattle.value.specs.declared.DecodeFault.{DecodeFault}
use Rattle.value.specs.declared.DecodeFault.TheVariants as decode-fault
use Rattle.value.specs.declared.Inexact.{Inexact}
use Rattle.value.specs.declared.Inexact.TheVariants as inexact
use Rattle.value.specs.Codec.{size_of, is_text, text_is, text_word, word_at, meant, decode_of, exact_word, exactly_of}
use Rattle.value.specs.Fault.{Tells, first_told, second_told}
use Rattle.value.proofs.CodecLaws.{size_le}

pub word_tells : (t : ℕ) (s : List ℕ) (f : CodecFault) → word_at t s ≡ Err f → Tells t s f
unfolding word_at text_word
word_tells t s f h = typed (is_text t) refl h
  where
    same : (g : CodecFault) → ◌≡◌ {A = Result ℕ CodecFault} (Err g) (Err f) → Tells t s g → Tells t s f
    same g q k = let z : g ≡ f = cc in subst (Tells t s) z k

    judged : (j : Result (Unit {0}) ℕ) → judge s ≡ j → t ≡ 11 → text_is (length s) j ≡ Err f → Tells t s f
    judged (Ok _) q e k = let z : ◌≡◌ {A = ℕ} 0 1 = cc in absurd (omega arith)
    judged (Err at) q e k = same (Text at) k (record { visible = e; stops = subst (Means s) q (means s) })

    odd : (b : Bool) → (eqb t 13 && eqb (length s % 2) 1) ≡ b → cond b (Err Odd) (Ok (length s)) ≡ Err f → Tells t s f
    odd true q k =
        let p = (and-eq-true_iff (eqb t 13) (eqb (length s % 2) 1)).0 q in
        same Odd k (record { unicode = eqb-true t 13 p.0; odd = eqb-true (length s % 2) 1 p.1 })
    odd false q k = let z : ◌≡◌ {A = ℕ} 0 1 = cc in absurd (omega arith)

    text : (b : Bool) → eqb t 11 ≡ b → cond b (text_is (length s) (judge s)) (cond (eqb t 13 && eqb (length s % 2) 1) (Err Odd) (Ok (length s))) ≡ Err f → Tells t s f
    text true q k = judged (judge s) refl (eqb-true t 11 q) k
    text false q k = odd (eqb t 13 && eqb (length s % 2) 1) refl k

    short : (b : Bool) → is_text t ≡ false → ltb (length s) (size_of t) ≡ b → cond b (Err (Value (size_of t) (length s))) (Ok (number (take (size_of t) s))) ≡ Err f → Tells t s f
    short true e q k = same (Value (size_of t) (length s)) k (record { fixed = e; needed-is = refl; had-is = refl; fewer = ltb-true (length s) (size_of t) q })
    short false e q k = let z : ◌≡◌ {A = ℕ} 0 1 = cc in absurd (omega arith)

    typed : (b : Bool) → is_text t ≡ b → cond b (text_word t s) (cond (ltb (length s) (size_of t)) (Err (Value (size_of t) (length s))) (Ok (number (take (size_of t) s)))) ≡ Err f → Tells t s f
    typed true e k = text (eqb t 11) refl k
    typed false e k = short (ltb (length s) (size_of t)) e refl k

-- ---- the theorem, of decoding and of what is handed in
pub decode_tells : (t : ℕ) (s : List ℕ) (f : CodecFault) → decode_of t s ≡ Err (decode-fault.Fails f) → Tells t s f
unfolding decode_of
decode_tells t s f h = go (ltb 20 t) (word_at t s) refl h
  where
    go : (a : Bool) (x : Result ℕ CodecFault) → word_at t s ≡ x → ◌≡◌ {A = Result ObjectValue DecodeFault} (cond a (Err decode-fault.NoType) (meant t x)) (Err (decode-fault.Fails f)) → Tells t s f
    go true x q k = let z : ◌≡◌ {A = ℕ} 0 1 = cc in absurd (omega arith)
    go false (Ok w) q k = let z : ◌≡◌ {A = ℕ} 0 1 = cc in absurd (omega arith)
    go false (Err g) q k = let z : g ≡ f = cc in word_tells t s f (q ∙ ap Err z)

pub exactly_tells : (t : ℕ) (s : List ℕ) (f : CodecFault) → exactly_of t s ≡ Err (inexact.Fails f) → Tells t s f
unfolding exactly_of
exactly_tells t s f h = go (ltb 20 t) (word_at t s) refl h
  where
    left : (b : Bool) → ◌≡◌ {A = Result (Unit {0}) Inexact} (cond b (Ok tt) (Err inexact.Many)) (Err (inexact.Fails f)) → Tells t s f
    left true k = let z : ◌≡◌ {A = ℕ} 0 1 = cc in absurd (omega arith)
    left false k = let z : ◌≡◌ {A = ℕ} 0 1 = cc in absurd (omega arith)

    go : (a : Bool) (x : Result ℕ CodecFault) → word_at t s ≡ x → ◌≡◌ {A = Result (Unit {0}) Inexact} (cond a (Err inexact.NoType) (exact_word t s x)) (Err (inexact.Fails f)) → Tells t s f
    go true x q k = let z : ◌≡◌ {A = ℕ} 0 1 = cc in absurd (omega arith)
    go false (Ok w) q k = left (is_text t || leb (length s) (size_of t)) k
    go false (Err g) q k = let z : g ≡ f = cc in word_tells t s f (q ∙ ap Err z)

-- the numbers of a fault are small
pub told_small : (t : ℕ) (s : List ℕ) (f : CodecFault) → Tells t s f → first_told f + second_told f ≤ length s + 16
told_small t s (Value needed had) k = omega (arith, k.needed-is, k.had-is, size_le t)
told_small t s (Text at) k = omega (arith, k.stops.inside)
told_small t s Odd k = omega arith
