-- The payloads' numbers judged. Assumes nothing.
use mathlib.Core.Path.{◌≡◌, refl, sym, ap, ap₂, ◌∙◌, subst}
use mathlib.Core.Bool.{Bool, true, false, ◌&&◌}
use mathlib.Core.List.{List, []}
use Prim.Native.Nat.{ℕ, zero, suc, ◌+◌, ◌-◌, ◌*◌, ◌%◌, ◌<◌, ◌≤◌}
use native.Mathlib.Decide.{dec_lt}
use native.Mathlib.Omega.{arith}
use borrow.Author.Tests.{le-leb, lt-leb, leb-true}
use lib.Dec.{T, eqb, leb}
use lib.ListN.{length, take, drop, get_or}
use lib.Seq.{drop-drop, get_or-take, get_or-drop}
use Rattle.std.specs.List.{list_all}
use Rattle.std.specs.Simd.{first_chunks}
use Rattle.lists.specs.Tests.{below, below_at}
use Rattle.entry.proofs.JudgeLaws.{and_true}
use Rattle.pdo_cycle.specs.Payloads.{number_at, sender_of, start_of, length_of, payloads_in, is_placed, are_shaped, are_placed, is_short, are_short, Lies}

-- a test f at each number, from the first on; g is f one number on
below_first : (f g : ℕ → Bool) → ((i : ℕ) → f (suc i) ≡ g i) → (n : ℕ) → (f 0 && below n g) ≡ below (suc n) f
unfolding below
below_first f g h zero = refl
below_first f g h (suc n) = swap (f 0) (g n) (below n g) ∙ ap₂ ◌&&◌ (sym (h n)) (below_first f g h n)
  where
    swap : (a b c : Bool) → (a && (b && c)) ≡ (b && (a && c))
    swap true b c = refl
    swap false true c = refl
    swap false false c = refl

-- ---- five numbers for each payload
number_first : (ps : List ℕ) (k : ℕ) → k < 5 → number_at (take 5 ps) 0 k ≡ number_at ps 0 k
number_first ps k h = get_or-take 5 ps (0 + k) 0 (omega (arith, h))

number_next : (ps : List ℕ) (i k : ℕ) → number_at ps (suc i) k ≡ number_at (drop 5 ps) i k
number_next ps i k = let p : 5 * suc i + k ≡ 5 + (5 * i + k) = omega arith in ap (λ j. get_or ps j 0) p ∙ sym (get_or-drop 5 ps (5 * i + k) 0)

-- the numbers of payload i
pub chunk_at : (n i : ℕ) (ps : List ℕ) → i < n → get_or (first_chunks 5 n ps) i [] ≡ take 5 (drop (5 * i) ps)
chunk_at zero i ps h = absurd (omega (arith, h))
chunk_at (suc n) zero ps h = refl
chunk_at (suc n) (suc i) ps h = let p : 5 + 5 * i ≡ 5 * suc i = omega arith in chunk_at n i (drop 5 ps) (omega (arith, h)) ∙ ap (take 5) (drop-drop (5 * i) 5 ps ∙ ap (λ j. drop j ps) p)

-- a test of each payload's five numbers
each_below : (f : List ℕ → ℕ → Bool) → ((ps : List ℕ) → f (take 5 ps) 0 ≡ f ps 0) → ((ps : List ℕ) (i : ℕ) → f ps (suc i) ≡ f (drop 5 ps) i)
    → (n : ℕ) (ps : List ℕ) → list_all (λ numbers. f numbers 0) (first_chunks 5 n ps) ≡ below n (f ps)
unfolding below
each_below f first next zero ps = refl
each_below f first next (suc n) ps = ap₂ ◌&&◌ (first ps) (each_below f first next n (drop 5 ps)) ∙ below_first (f ps) (f (drop 5 ps)) (next ps) n

pub each_placed : (size n : ℕ) (ps : List ℕ) → list_all (λ numbers. is_placed size numbers 0) (first_chunks 5 n ps) ≡ below n (is_placed size ps)
each_placed size =
    each_below (is_placed size)
    (λ ps. rw (number_first ps 0 (omega arith), number_first ps 1 (omega arith), number_first ps 2 (omega arith), number_first ps 3 (omega arith)))
    (λ ps i. rw (number_next ps i 0, number_next ps i 1, number_next ps i 2, number_next ps i 3))

pub each_short : (n : ℕ) (ps : List ℕ) → list_all (λ numbers. is_short numbers 0) (first_chunks 5 n ps) ≡ below n (is_short ps)
each_short = each_below is_short (λ ps. ap (λ n. leb n 1490) (number_first ps 1 (omega arith))) (λ ps i. ap (λ n. leb n 1490) (number_next ps i 1))

pub below_true : (f : ℕ → Bool) (n k : ℕ) → below n f ≡ true → k < n → f k ≡ true
below_true f n k e h = holds (f k) (below_at n f (subst T (sym e) tt) k h)
  where
    holds : (b : Bool) → T b → b ≡ true
    holds true t = refl
    holds false t = absurd t

-- what is left behind a length has room for a start
pub room-left : (a n m : ℕ) → n ≤ m → leb a (m - n) ≡ leb (a + n) m
room-left a n m h = go (dec_lt m (a + n))
  where
    go : Dec (m < a + n) → leb a (m - n) ≡ leb (a + n) m
    go (yes l) = rw (lt-leb a (m - n) (omega arith), lt-leb (a + n) m l)
    go (no l) = rw (le-leb a (m - n) (omega arith), le-leb (a + n) m (omega arith))

-- a payload of those that were judged
pub lies : (size : ℕ) (ps : List ℕ) (i : ℕ) → are_shaped ps ≡ true → are_placed size ps ≡ true → are_short ps ≡ true → i < payloads_in ps → Lies size ps i
lies size ps i a b c h =
    let p = and_true (leb (start_of ps i + length_of ps i) size) _ (below_true (is_placed size ps) (payloads_in ps) i b h) in
    let q = and_true (leb (sender_of ps i) 255) _ p.1 in
    let s = and_true (eqb (length ps % 5) 0) _ a in
    record {
      numbers = omega arith;
      few = omega (arith, leb-true (payloads_in ps) 1024 s.1);
      within = leb-true _ size p.0;
      sender = leb-true _ 255 q.0;
      version = leb-true _ 255 q.1;
      short = leb-true _ 1490 (below_true (is_short ps) (payloads_in ps) i c h);
    }
