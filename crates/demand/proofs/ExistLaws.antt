-- A channel that passes admits the payload of zeros that is just long enough. Assumes nothing.
use Rattle.std.specs.Prelude.{Some, Ok}
use mathlib.Core.Path.{◌≡◌, refl, sym, ap, ◌∙◌}
use mathlib.Core.Bool.{Bool, true, false, cond}
use mathlib.Core.List.{List, [], ◌∷◌}
use Prim.Native.Nat.{ℕ, zero, suc, ◌+◌, ◌/◌, ◌%◌, ◌<◌, ◌≤◌}
use native.Mathlib.Nat.{add-zero}
use native.Mathlib.Omega.{arith}
use borrow.Author.Tests.{eq-eqb, eqb-false, le-leb, lt-ltb, ltb-true, ltb-false}
use lib.Dec.{eqb, ltb}
use lib.ListN.{length, take, drop, get_or, replicate}
use Rattle.text.specs.Machine.{judge_at}
use Rattle.mapping.specs.Word.{entry_of, end_of}
use Rattle.entry.specs.Table.{type_at}
use Rattle.pdo_validator.specs.Counting.{most, ends_from}
use Rattle.pdo_step.specs.Outcomes.{part}
use Rattle.pdo_channel.specs.Channel.{right_version}
use Rattle.demand.specs.Demand.{Long, TextAt, Texts}

-- ---- zeros are text
abbrev AllZero : List ℕ → Type 0
AllZero [] = Unit {0}
AllZero (b ∷ s) = (b ≡ 0) × AllZero s

zero_replicate : (n : ℕ) → AllZero (replicate n 0)
zero_replicate zero = tt
zero_replicate (suc n) = (refl, zero_replicate n)

zero_drop : (a : ℕ) (s : List ℕ) → AllZero s → AllZero (drop a s)
zero_drop zero s z = z
zero_drop (suc a) [] z = tt
zero_drop (suc a) (b ∷ s) z = zero_drop a s z.1

zero_take : (n : ℕ) (s : List ℕ) → AllZero s → AllZero (take n s)
zero_take zero s z = tt
zero_take (suc n) [] z = tt
zero_take (suc n) (b ∷ s) z = (z.0, zero_take n s z.1)

zero_good : (k : ℕ) (s : List ℕ) → AllZero s → judge_at k [] s ≡ Ok tt
unfolding judge_at
zero_good k [] z = refl
zero_good k (b ∷ s) z = rw z.0 (zero_good (k + 1) s z.1)

pub zero_text : (objects slots : List ℕ) (m w : ℕ) → TextAt objects slots (replicate m 0) w
zero_text objects slots m w = record { good = λ start n p q t. zero_good 0 (part (replicate m 0) start n) (zero_take n (drop start (replicate m 0)) (zero_drop start (replicate m 0) (zero_replicate m))) }

pub zero_texts : (objects slots : List ℕ) (m p : ℕ) (ws : List ℕ) (j : ℕ) → Texts objects slots (replicate m 0) p ws j
zero_texts objects slots m p [] j = tt
zero_texts objects slots m p (w ∷ ws) j = (λ t. zero_text objects slots m w, zero_texts objects slots m p ws (j + 1))

-- ---- each version is right for itself
pub right_same : (e : ℕ) → right_version e e ≡ true
right_same e = go (eqb e 0) refl
  where
    go : (b : Bool) → eqb e 0 ≡ b → right_version e e ≡ true
    go true q = rw q
    go false q = rw (q, lt-ltb 0 e (omega (arith, eqb-false e 0 q)), eq-eqb (e / 16) (e / 16) refl, le-leb (e % 16) (e % 16) (omega arith))

-- ---- the largest end of a list of U64
pub record Most (slots words : List ℕ) (n q a : ℕ) : Type 0 where
  pub end : ℕ
  pub is : ends_from slots words n q a ≡ Some end
  pub low : a ≤ end
  pub all : (k : ℕ) → k < n → end_of (entry_of (get_or words (q + k) 0)) ≤ end
  pub least : (b : ℕ) → a ≤ b → ((k : ℕ) → k < n → end_of (entry_of (get_or words (q + k) 0)) ≤ b) → end ≤ b

most_least : (a b c : ℕ) → a ≤ c → b ≤ c → most a b ≤ c
most_least a b c h l = go (ltb a b)
  where
    go : (x : Bool) → cond x b a ≤ c
    go true = l
    go false = h

most_low : (a b : ℕ) → (a ≤ most a b) × (b ≤ most a b)
most_low a b = go (ltb a b) refl
  where
    go : (c : Bool) → ltb a b ≡ c → (a ≤ cond c b a) × (b ≤ cond c b a)
    go true q = (omega (arith, ltb-true a b q), omega arith)
    go false q = (omega arith, ltb-false a b q)

pub ends-most : (slots words : List ℕ) (n q a : ℕ) → ((k : ℕ) → k < n → type_at slots (q + k) ≡ 8) → Most slots words n q a
unfolding ends_from
ends-most slots words zero q a t = record { end = a; is = refl; low = omega arith; all = λ k h. absurd (omega (arith, h)); least = λ b l h. l }
ends-most slots words (suc n) q a t = got (ends-most slots words n (suc q) (most a end₀) (λ k h. let e : q + suc k ≡ suc q + k = omega arith in sym (ap (type_at slots) e) ∙ t (suc k) (omega (arith, h))))
  where
    end₀ : ℕ
    end₀ = end_of (entry_of (get_or words q 0))

    eight : type_at slots q ≡ 8
    eight = ap (type_at slots) (sym (add-zero q)) ∙ t 0 (omega arith)

    each : (m : Most slots words n (suc q) (most a end₀)) (k : ℕ) → k < suc n → end_of (entry_of (get_or words (q + k) 0)) ≤ m.end
    each m zero h = rw (add-zero q) (omega (arith, m.low, (most_low a end₀).1))
    each m (suc k) h = let e : q + suc k ≡ suc q + k = omega arith in rw e (m.all k (omega (arith, h)))

    under : (m : Most slots words n (suc q) (most a end₀)) (b : ℕ) → a ≤ b → ((k : ℕ) → k < suc n → end_of (entry_of (get_or words (q + k) 0)) ≤ b) → m.end ≤ b
    under m b l h =
        m.least b (most_least a end₀ b l (rw add-zero at (h 0 (omega arith)))) (λ k u. let e : q + suc k ≡ suc q + k = omega arith in rw e at (h (suc k) (omega (arith, u))))

    got : Most slots words n (suc q) (most a end₀) → Most slots words (suc n) q a
    got m = record { end = m.end; is = rw (eq-eqb _ 8 eight) m.is; low = omega (arith, m.low, (most_low a end₀).0); all = each m; least = under m }

-- ---- long enough, element by element
pub long_of : (slots payload : List ℕ) (p : ℕ) (ws : List ℕ) (j : ℕ) → ((k : ℕ) → k < length ws → end_of (entry_of (get_or ws k 0)) ≤ length payload) → Long slots payload p ws j
long_of slots payload p [] j h = tt
long_of slots payload p (w ∷ ws) j h = (λ t. h 0 (omega arith), long_of slots payload p ws (j + 1) (λ k l. h (suc k) (omega (arith, l))))
