-- Laws on sizes, on what can be said, and on what decoding and encoding answer.
-- Assumes nothing.
use Rattle.std.specs.Prelude.{Result, Ok, Err, is_ok}
use mathlib.Core.Path.{◌≡◌, refl, sym, ap, subst, ◌∙◌}
use mathlib.Core.Logic.{inl, inr}
use mathlib.Core.Bool.{Bool, true, false, cond, ◌&&◌, ◌||◌, and-eq-true_iff}
use mathlib.Core.List.{List, [], ◌∷◌}
use Prim.Native.Nat.{ℕ, zero, suc, ◌+◌, ◌-◌, ◌*◌, ◌/◌, ◌%◌, ◌^◌, ◌<◌, ◌≤◌, zero-le}
use native.Mathlib.Nat.{div-eq_of_lt, mod-lt, zero-mul}
use native.Mathlib.Omega.{arith}
use native.Mathlib.Decide.{dec_lt}
use borrow.Author.Tests.{ltb-true, ltb-false, leb-true, eqb-true, lt-ltb, le-ltb, le-leb, lt-leb, eq-eqb, ne_eqb}
use lib.Dec.{T, leb, ltb, eqb, leb→le, eqb→eq}
use mir.Val.{has_key}
use types.Run.{OneOf, hit}
use lib.ListN.{length, get_or, take, length-take, get_or-eq_default}
use lib.Pow.{pow_pos, pow_mono, split, shr_mod}
use lib.Bits.{bit_and, and_high}
use Rattle.lists.specs.Lists.{over}
use Rattle.lists.specs.Numbers.{number, bytes_of, Bytes}
use Rattle.lists.specs.Tests.{and_left, and_right, below, below_at}
use Rattle.lists.proofs.NumberLaws.{number_lt, bytes_take}
use Rattle.answers.specs.declared.Refusal.TheVariants.{BadValue, BufferTooShort}
use Rattle.text.specs.Machine.{judge}
use Rattle.value.specs.declared.CodecFault.{CodecFault}
use Rattle.value.specs.declared.CodecFault.TheVariants.{Odd}
use Rattle.value.specs.declared.DecodeFault.{DecodeFault}
use Rattle.value.specs.declared.DecodeFault.TheVariants.{NoType}
use Rattle.value.specs.declared.ObjectValue.{ObjectValue}
use Rattle.value.specs.Meaning.{reading}
use Rattle.value.specs.Codec.{sizes, size_of, is_text, fits_type, takes, text_is, text_word, word_at, meant, decode_of, sayable, exact_word, exactly_of, exact, encoding, after_encode, encode_of}

-- ---- a match on t whose arms 0, 1, .. up to k - 1 did not fit
abbrev Rest : ℕ → ℕ → Type 0
Rest zero t = Unit {0}
Rest (suc k) t = Rest k t × (t ≡ k → ⊥)

pub rest_le : (k t : ℕ) → Rest k t → k ≤ t
rest_le zero t r = zero-le
rest_le (suc k) t r = let h = rest_le k t r.0 in let n = r.1 in omega arith

-- ---- sizes
pub size_none : (t : ℕ) → 21 ≤ t → size_of t ≡ 0
unfolding size_of
size_none t h = get_or-eq_default sizes 0 h

pub size_le : (t : ℕ) → size_of t ≤ 8
unfolding size_of below
size_le t = go (dec_lt t 21)
  where
    go : Dec (t < 21) → get_or sizes t 0 ≤ 8
    go (yes h) = leb→le (get_or sizes t 0) 8 (below_at 21 (λ k. leb (get_or sizes k 0) 8) tt t h)
    go (no h) = omega (arith, get_or-eq_default sizes 0 {n = t} (omega arith))

-- ---- a match on t by keys: what holds of an arm's keys, and of every number that no arm has, antt computes
unfoldable pub all : List ℕ → (ℕ → Bool) → Bool
all [] f = true
all (k ∷ ks) f = f k && all ks f

pub keyed : (f : ℕ → ℕ) (n : ℕ) (k : ℕ) (ks : List ℕ) (x : ℕ) → T (all (k ∷ ks) (λ y. eqb (f y) n)) → OneOf (k ∷ ks) x → f x ≡ n
unfolding all
keyed f n k [] x t h = ap f h ∙ eqb→eq (f k) n (and_left (eqb (f k) n) true t)
keyed f n k (l ∷ ks) x t (inl h) = ap f h ∙ eqb→eq (f k) n (and_left (eqb (f k) n) (all (l ∷ ks) (λ y. eqb (f y) n)) t)
keyed f n k (l ∷ ks) x t (inr h) = keyed f n l ks x (and_right (eqb (f k) n) (all (l ∷ ks) (λ y. eqb (f y) n)) t) h

abbrev Missed : List (List ℕ) → ℕ → Type 0
Missed [] x = Unit {0}
Missed (ks ∷ kss) x = Missed kss x × (OneOf ks x → ⊥)

some : List (List ℕ) → ℕ → Bool
some [] x = false
some (ks ∷ kss) x = has_key ks x || some kss x

missed : (kss : List (List ℕ)) (x : ℕ) → Missed kss x → T (some kss x) → ⊥
unfolding some
missed [] x m t = t
missed (ks ∷ kss) x m t = go (missed kss x m.0) (has_key ks x) refl t
  where
    go : (T (some kss x) → ⊥) → (b : Bool) → has_key ks x ≡ b → T (b || some kss x) → ⊥
    go later true e q = m.1 (hit ks x (subst T (sym e) tt))
    go later false e q = later q

-- the arms of the 21 types, the last one first
abbrev arms : List (List ℕ)
arms =
    (18 ∷ []) ∷ (16 ∷ []) ∷ (15 ∷ 19 ∷ []) ∷ (12 ∷ 14 ∷ []) ∷ (11 ∷ 13 ∷ []) ∷ (4 ∷ 8 ∷ 10 ∷ 17 ∷ []) ∷ (3 ∷ 7 ∷ 9 ∷ 20 ∷ []) ∷ (2 ∷ 6 ∷ []) ∷ (1 ∷ []) ∷ (0 ∷ 5 ∷ []) ∷ []

pub size-rest : (t : ℕ) → Missed arms t → size_of t ≡ 0
unfolding below some
size-rest t m = go (dec_lt t 21)
  where
    go : Dec (t < 21) → size_of t ≡ 0
    go (yes h) = absurd (missed arms t m (below_at 21 (some arms) tt t h))
    go (no h) = size_none t (omega arith)

-- a word that has none of the bits from bit k on is below 2 ^ k
pub none_over : (w k : ℕ) → w < 2 ^ 64 → k ≤ 64 → eqb (bit_and w (2 ^ 64 - 2 ^ k)) 0 ≡ ltb w (2 ^ k)
none_over w k h l = ap (λ x. eqb x 0) high_part ∙ go (dec_lt w (2 ^ k))
  where
    e : (64 - k) + k ≡ 64
    e = omega arith

    high_part : bit_and w (2 ^ 64 - 2 ^ k) ≡ w / 2 ^ k * 2 ^ k
    high_part =
        ap (λ n. bit_and w (2 ^ n - 2 ^ k)) (sym e) ∙ and_high w (64 - k) k
        ∙ ap (λ x. x * 2 ^ k) (shr_mod (64 - k) k (subst (λ n. w < 2 ^ n) (sym e) h))

    go : Dec (w < 2 ^ k) → eqb (w / 2 ^ k * 2 ^ k) 0 ≡ ltb w (2 ^ k)
    go (yes d) = eq-eqb (w / 2 ^ k * 2 ^ k) 0 (ap (λ x. x * 2 ^ k) (div-eq_of_lt d) ∙ zero-mul (2 ^ k)) ∙ sym (lt-ltb w (2 ^ k) d)
    go (no d) = ne_eqb (w / 2 ^ k * 2 ^ k) 0 (λ z. omega (arith, split w k, mod-lt w (pow_pos k))) ∙ sym (le-ltb w (2 ^ k) (omega arith))

-- ---- what can be said, and its encoding
module _ (t w : ℕ) (part : List ℕ) where
  pub sayable_none : 20 < t → sayable t w part ≡ false
  unfolding sayable
  sayable_none h = rw (lt-leb t 20 h)

  module _ (k : t ≤ 20) where
    pub sayable_text : is_text t ≡ true → sayable t w part ≡ eqb w (length part) && takes (text_word t part)
    unfolding sayable
    sayable_text e = rw (le-leb t 20 k, e)

    pub sayable_fixed : is_text t ≡ false → sayable t w part ≡ fits_type t w
    unfolding sayable
    sayable_fixed e = rw (le-leb t 20 k, e)

  pub encoding_text : is_text t ≡ true → encoding t w part ≡ part
  unfolding encoding
  encoding_text e = rw e

  pub encoding_fixed : is_text t ≡ false → encoding t w part ≡ bytes_of (size_of t) w
  unfolding encoding
  encoding_fixed e = rw e

-- a text that is taken is taken with its length
pub text_taken : (t : ℕ) (s : List ℕ) → takes (text_word t s) ≡ true → text_word t s ≡ Ok (length s)
unfolding text_word
text_taken t s = go (eqb t 11) (eqb t 13 && eqb (length s % 2) 1) (judge s)
  where
    go : (a b : Bool) (j : Result (Unit {0}) ℕ)
        → takes (cond a (text_is (length s) j) (cond b (Err Odd) (Ok (length s)))) ≡ true
        → cond a (text_is (length s) j) (cond b (Err Odd) (Ok (length s))) ≡ Ok (length s)
    go true b (Ok _) h = refl
    go true b (Err k) h = let z : ◌≡◌ {A = ℕ} 0 1 = cc in absurd (omega arith)
    go false true j h = let z : ◌≡◌ {A = ℕ} 0 1 = cc in absurd (omega arith)
    go false false j h = refl

module _ (t w : ℕ) (part : List ℕ) (h : sayable t w part ≡ true) where
  said_type : t ≤ 20
  unfolding sayable
  said_type = leb-true t 20 ((and-eq-true_iff (leb t 20) (cond (is_text t) (eqb w (length part) && takes (text_word t part)) (fits_type t w))).0 h).0

  pub said_text : is_text t ≡ true → text_word t part ≡ Ok w
  said_text e =
      let p = (and-eq-true_iff (eqb w (length part)) (takes (text_word t part))).0 (sym (sayable_text t w part said_type e) ∙ h) in
      text_taken t part p.1 ∙ ap Ok (sym (eqb-true w (length part) p.0))

  pub said_fixed : is_text t ≡ false → w < 2 ^ (8 * size_of t)
  said_fixed e = ltb-true w (2 ^ (8 * size_of t)) (sym (sayable_fixed t w part said_type e) ∙ h)

-- ---- what is known where a word was taken
module _ (t w : ℕ) (s : List ℕ) (h : word_at t s ≡ Ok w) where
  pub word_text : is_text t ≡ true → (text_word t s ≡ Ok w) × (w ≡ length s)
  unfolding word_at
  word_text e =
      let g : text_word t s ≡ Ok w = rw e at h in
      let m : Ok w ≡ Ok (length s) = sym g ∙ text_taken t s (ap takes g) in
      (g, cc)

  pub word_fixed : is_text t ≡ false → (size_of t ≤ length s) × (w ≡ number (take (size_of t) s))
  unfolding word_at
  word_fixed e = go (ltb (length s) (size_of t)) refl (rw e at h)
    where
      go : (b : Bool) → ltb (length s) (size_of t) ≡ b → cond b (Err (CodecFault.Value (size_of t) (length s))) (Ok (number (take (size_of t) s))) ≡ Ok w
          → (size_of t ≤ length s) × (w ≡ number (take (size_of t) s))
      go true f g = let z : ◌≡◌ {A = ℕ} 0 1 = cc in absurd (omega arith)
      go false f g = (ltb-false (length s) (size_of t) f, cc)

  -- it fits 64 bits, where the length of the data does
  pub word_lt64 : Bytes s → length s < 2 ^ 64 → w < 2 ^ 64
  word_lt64 b l = go (is_text t) refl
    where
      n : length (take (size_of t) s) ≤ 8
      n = simp length-take (omega (arith, size_le t))

      go : (x : Bool) → is_text t ≡ x → w < 2 ^ 64
      go true e = omega (arith, (word_text e).1)
      go false e =
          omega (arith, (word_fixed e).1, number_lt (take (size_of t) s) (bytes_take (size_of t) s b), pow_mono {i = 8 * length (take (size_of t) s)} {j = 64} (omega (arith, n)))

-- ---- what encoding answers
module _ (t w : ℕ) (part out : List ℕ) where
  pub encode_bad : sayable t w part ≡ false → encode_of t w part out ≡ after_encode (Err BadValue) out
  unfolding encode_of
  encode_bad e = rw e

  pub encode_short : sayable t w part ≡ true → length out < length (encoding t w part) → encode_of t w part out ≡ after_encode (Err BufferTooShort) out
  unfolding encode_of
  encode_short e h = rw (e, lt-ltb (length out) (length (encoding t w part)) h)

  pub encode_done : sayable t w part ≡ true → length (encoding t w part) ≤ length out
      → encode_of t w part out ≡ after_encode (Ok (length (encoding t w part))) (over out 0 (encoding t w part))
  unfolding encode_of
  encode_done e h = rw (e, le-ltb (length out) (length (encoding t w part)) h)

  -- of a fixed type the part beside it is not looked at
  pub encode_part : is_text t ≡ false → encode_of t w part out ≡ encode_of t w [] out
  unfolding encode_of sayable encoding
  encode_part e = rw e

-- ---- what is known where it wrote
pub record Written (t w : ℕ) (part out : List ℕ) (n : ℕ) (out' : List ℕ) : Type 0 where
  pub said : sayable t w part ≡ true
  pub count : n ≡ length (encoding t w part)
  pub laid : out' ≡ over out 0 (encoding t w part)

pub written : (t w : ℕ) (part out : List ℕ) (n : ℕ) (out' : List ℕ) → encode_of t w part out ≡ after_encode (Ok n) out' → Written t w part out n out'
unfolding encode_of
written t w part out n out' h = go (sayable t w part) (ltb (length out) (length (encoding t w part))) refl h
  where
    go : (a b : Bool) → sayable t w part ≡ a
        → cond a
        (cond b (after_encode (Err BufferTooShort) out) (after_encode (Ok (length (encoding t w part))) (over out 0 (encoding t w part))))
        (after_encode (Err BadValue) out)
        ≡ after_encode (Ok n) out'
        → Written t w part out n out'
    go true true e h = let z : ◌≡◌ {A = ℕ} 0 1 = cc (ap (λ r. r.answer) h) in absurd (omega arith)
    go true false e h = record { said = e; count = cc (ap (λ r. r.answer) h); laid = sym (ap (λ r. r.out) h) }
    go false b e h = let z : ◌≡◌ {A = ℕ} 0 1 = cc (ap (λ r. r.answer) h) in absurd (omega arith)

-- ---- and where decoding gave a value
pub record Taken (t : ℕ) (s : List ℕ) (v : ObjectValue) : Type 0 where
  pub type_le : t ≤ 20
  pub word : ℕ
  pub taken : word_at t s ≡ Ok word
  pub value : v ≡ reading t word

pub decoded : (t : ℕ) (s : List ℕ) (v : ObjectValue) → decode_of t s ≡ Ok v → Taken t s v
unfolding decode_of
decoded t s v h = go (ltb 20 t) (word_at t s) refl refl h
  where
    go : (a : Bool) (x : Result ℕ CodecFault) → ltb 20 t ≡ a → word_at t s ≡ x → ◌≡◌ {A = Result ObjectValue DecodeFault} (cond a (Err NoType) (meant t x)) (Ok v) → Taken t s v
    go true x e f h = let z : ◌≡◌ {A = ℕ} 0 1 = cc in absurd (omega arith)
    go false (Ok w) e f h = record { type_le = ltb-false 20 t e; word = w; taken = f; value = cc }
    go false (Err g) e f h = let z : ◌≡◌ {A = ℕ} 0 1 = cc in absurd (omega arith)

-- ---- the data is a value and nothing else
pub exact_none : (t : ℕ) (s : List ℕ) → 20 < t → exact t s ≡ false
unfolding exact exactly_of
exact_none t s h = rw (lt-ltb 20 t h)

pub exact_text : (t : ℕ) (s : List ℕ) → t ≤ 20 → is_text t ≡ true → exact t s ≡ takes (text_word t s)
unfolding exact exactly_of word_at
exact_text t s h e = rw (le-ltb 20 t h, e) (go (text_word t s))
  where
    go : (w : Result ℕ CodecFault) → is_ok (exact_word t s w) ≡ takes w
    go (Ok w) = rw e
    go (Err f) = refl

pub exact_fixed : (t : ℕ) (s : List ℕ) → t ≤ 20 → is_text t ≡ false → exact t s ≡ eqb (length s) (size_of t)
unfolding exact exactly_of word_at
exact_fixed t s h e = rw (le-ltb 20 t h, e) (go (dec_lt (length s) (size_of t)) (dec_lt (size_of t) (length s)))
  where
    go : Dec (length s < size_of t) → Dec (size_of t < length s)
        → is_ok (exact_word t s (cond (ltb (length s) (size_of t)) (Err (CodecFault.Value (size_of t) (length s))) (Ok (number (take (size_of t) s))))) ≡ eqb (length s) (size_of t)
    go (yes a) b = rw (lt-ltb (length s) (size_of t) a, ne_eqb (length s) (size_of t) (λ z. omega arith))
    go (no a) (yes b) = rw (le-ltb (length s) (size_of t) (omega arith), e, lt-leb (length s) (size_of t) b, ne_eqb (length s) (size_of t) (λ z. omega arith))
    go (no a) (no b) = rw (le-ltb (length s) (size_of t) (omega arith), e, le-leb (length s) (size_of t) (omega arith), eq-eqb (length s) (size_of t) (omega arith))

-- the word that it is, and what is so of it
abbrev pub word_in : ℕ → List ℕ → ℕ
word_in t s = cond (is_text t) (length s) (number (take (size_of t) s))

pub record Exact (t : ℕ) (s : List ℕ) : Type 0 where
  pub type : t ≤ 20
  pub taken : word_at t s ≡ Ok (word_in t s)

pub exact_facts : (t : ℕ) (s : List ℕ) → exact t s ≡ true → Exact t s
unfolding word_at
exact_facts t s e = known (dec_lt 20 t)
  where
    go : t ≤ 20 → (b : Bool) → is_text t ≡ b → Exact t s
    go k true q = record { type = k; taken = rw q (text_taken t s (sym (exact_text t s k q) ∙ e)) }
    go k false q =
        let h = sym (exact_fixed t s k q) ∙ e in
        let l : ltb (length s) (size_of t) ≡ false = le-ltb (length s) (size_of t) (omega (arith, eqb-true (length s) (size_of t) h)) in
        record { type = k; taken = rw (q, l) }

    known : Dec (20 < t) → Exact t s
    known (yes h) = let n = exact_none t s h in let z : ◌≡◌ {A = ℕ} 0 1 = cc in absurd (omega arith)
    known (no h) = go (omega arith) (is_text t) refl
