-- The machine's answer means what Table 3-7 says: `means`.
-- Assumes nothing.
use Rattle.std.specs.Prelude.{Option, Some, None, Result, Ok, Err}
use Prim.Native.Nat.{ℕ, suc, ◌+◌, ◌≤◌, ◌<◌, zero-le, suc-le-suc}
use mathlib.Core.Path.{◌≡◌, refl, sym, ap, subst, ◌∙◌}
use mathlib.Core.Logic.{◌⊎◌, inl, inr}
use mathlib.Core.Bool.{Bool, true, false, cond, ◌&&◌}
use mathlib.Core.List.Memᴰ
use mathlib.Core.List.{List, [], ◌∷◌, ◌++◌, append-nil, Memᴰ}
use native.Mathlib.Nat.{le_refl, le_of_suc-le-suc}
use native.Mathlib.Omega.{arith}
use borrow.Author.Tests.{le-leb, lt-leb}
use lib.Dec.{T, leb, leb→le}
use lib.ListN.{length, take}
use Rattle.lists.specs.Tests.{and_left, and_right}
use Rattle.text.specs.Utf8.{Range, ◌to◌, table, Allows, end, byte, WellFormed, empty, char, Means}
use Rattle.text.specs.Machine.{is_in, rest, step, onward, judge_at, judge}

-- ---- two tests of the table, which antt computes
-- no range is empty, so that each character begun can be completed
full : List Range → Bool
full [] = true
full ((lo to hi) ∷ rs) = leb lo hi && full rs

filled : List (List Range) → Bool
unfolding full
filled [] = true
filled (row ∷ rows) = full row && filled rows

-- the rows' first ranges lie one above the other, from n on, so that a first byte has one row
ordered : ℕ → List (List Range) → Bool
ordered n [] = true
ordered n ([] ∷ rows) = false
ordered n (((lo to hi) ∷ rs) ∷ rows) = leb n lo && (leb lo hi && ordered (suc hi) rows)

-- ---- a byte within a range, or above it
within_true : (lo hi b : ℕ) → lo ≤ b → b ≤ hi → is_in (lo to hi) b ≡ true
within_true lo hi b l h = simp (le-leb lo b l, le-leb b hi h)

within_false : (lo hi b : ℕ) → lo ≤ b → hi < b → is_in (lo to hi) b ≡ false
within_false lo hi b l h = simp (le-leb lo b l, lt-leb b hi h)

within_byte : {lo hi b : ℕ} {rs rs' : List Range} {bs : List ℕ} → is_in (lo to hi) b ≡ true → rs ≡ rs' → Allows rs' bs
    → Allows (lo to hi ∷ rs) (b ∷ bs)
within_byte {lo} {hi} {b} {rs} {rs'} {bs} e d a =
    let t : T (is_in (lo to hi) b) = subst T (sym e) tt in
    byte {rs = rs} {bs = bs} (leb→le lo b (and_left (leb lo b) (leb b hi) t)) (leb→le b hi (and_right (leb lo b) (leb b hi) t)) (rw d a)

-- anything follows where two constructors would be equal: there `cc` proves 0 ≡ 1
clash : {A : Type 0} → ◌≡◌ {A = ℕ} 0 1 → A
clash z = absurd (omega arith)

-- ---- well-formed bytes are found good
through : {rs : List Range} {bs : List ℕ} → Allows rs bs → (t : List ℕ) → ((k : ℕ) → judge_at k [] t ≡ (Ok tt)) → (k : ℕ)
    → judge_at k rs (bs ++ t) ≡ Ok tt
unfolding judge_at
through end t g k = g k
through (byte {lo} {hi} {b} {rs} {bs} l h a) t g k =
    ap (λ (w : Bool). onward (Err k) (λ ts. judge_at (k + 1) ts (bs ++ t)) (cond w (Some rs) None)) (within_true lo hi b l h)
    ∙ through a t g (k + 1)

-- the row that allows a first byte b is the one that `rest` finds
found : (n : ℕ) (rows : List (List Range)) → T (ordered n rows) → (lo hi b : ℕ) (rs : List Range)
    → Memᴰ (lo to hi ∷ rs) rows → lo ≤ b → b ≤ hi → (n ≤ b) × (rest rows b ≡ Some rs)
unfolding ordered
found n [] t lo hi b rs m l h = absurd (Memᴰ.not-nil m)
found n ([] ∷ rows) t lo hi b rs m l h = absurd t
found n (((lo₁ to hi₁) ∷ rs₁) ∷ rows) t lo hi b rs m l h =
    let t₁ = and_right (leb n lo₁) (leb lo₁ hi₁ && ordered (suc hi₁) rows) t in
    go (leb→le n lo₁ (and_left (leb n lo₁) (leb lo₁ hi₁ && ordered (suc hi₁) rows) t))
    (leb→le lo₁ hi₁ (and_left (leb lo₁ hi₁) (ordered (suc hi₁) rows) t₁))
    (found (suc hi₁) rows (and_right (leb lo₁ hi₁) (ordered (suc hi₁) rows) t₁) lo hi b rs)
    (Memᴰ.cases_cons m)
  where
    go : n ≤ lo₁ → lo₁ ≤ hi₁ → (Memᴰ (lo to hi ∷ rs) rows → lo ≤ b → b ≤ hi → (suc hi₁ ≤ b) × (rest rows b ≡ Some rs))
        → (◌≡◌ {A = List Range} (lo to hi ∷ rs) (lo₁ to hi₁ ∷ rs₁)) ⊎ Memᴰ (lo to hi ∷ rs) rows
        → (n ≤ b) × (cond (is_in (lo₁ to hi₁) b) (Some rs₁) (rest rows b) ≡ Some rs)
    go p q later (inl e) =
        let a : lo ≡ lo₁ = cc in
        let c : hi ≡ hi₁ = cc in
        let d : rs₁ ≡ rs = cc in
        (omega arith, rw (within_true lo₁ hi₁ b (omega arith) (omega arith)) (ap Some d))
    go p q later (inr m') =
        let r = later m' l h in
        (omega arith, rw (within_false lo₁ hi₁ b (omega arith) r.0) r.1)

first : {row : List Range} {bs : List ℕ} → Memᴰ row table → Allows row bs → (t : List ℕ) → ((k : ℕ) → judge_at k [] t ≡ (Ok tt)) → (k : ℕ)
    → judge_at k [] (bs ++ t) ≡ Ok tt
unfolding judge_at ordered
first m end t g k = g k
first m (byte {lo} {hi} {b} {rs} {bs} l h a) t g k =
    ap (onward (Err k) (λ ts. judge_at (k + 1) ts (bs ++ t))) (found 0 table tt lo hi b rs m l h).1 ∙ through a t g (k + 1)

complete : {s : List ℕ} → WellFormed s → (k : ℕ) → judge_at k [] s ≡ Ok tt
unfolding judge_at
complete empty k = refl
complete (char {s = t} m a w) k = first m a t (λ j. complete w j) k

-- ---- a step back
-- what the state rs asks for, and a well-formed text behind it
data After : List Range → List ℕ → Type 0 where
  after : {rs : List Range} {bs t : List ℕ} → Allows rs bs → WellFormed t → After rs (bs ++ t)

-- a first byte b that `rest` takes: a row allows it, and the ranges after it, none of them empty, are rs
record Opens (rows : List (List Range)) (b : ℕ) (rs : List Range) : Type 0 where
  row : List Range
  listed : Memᴰ row rows
  allows : (bs : List ℕ) → Allows rs bs → Allows row (b ∷ bs)
  filling : T (full rs)

wider : {row : List Range} {rows : List (List Range)} {b : ℕ} {rs : List Range} → Opens rows b rs → Opens (row ∷ rows) b rs
wider o = record { row = o.row; listed = Memᴰ.tail o.listed; allows = o.allows; filling = o.filling }

opens : (rows : List (List Range)) → T (filled rows) → (b : ℕ) (rs : List Range) → rest rows b ≡ Some rs → Opens rows b rs
unfolding full filled
opens [] t b rs e = clash (cc)
opens ([] ∷ rows) t b rs e = wider (opens rows t b rs e)
opens (((lo to hi) ∷ ts) ∷ rows) t b rs e =
    go (opens rows (and_right (leb lo hi && full ts) (filled rows) t) b rs)
    (and_right (leb lo hi) (full ts) (and_left (leb lo hi && full ts) (filled rows) t))
    (is_in (lo to hi) b) refl e
  where
    go : (rest rows b ≡ Some rs → Opens rows b rs) → T (full ts) → (w : Bool) → is_in (lo to hi) b ≡ w → cond w (Some ts) (rest rows b) ≡ Some rs
        → Opens ((lo to hi ∷ ts) ∷ rows) b rs
    go later f true p q =
        let d : ts ≡ rs = cc in
        record { row = lo to hi ∷ ts; listed = Memᴰ.head refl; allows = λ bs a. within_byte p d a; filling = rw d at f }
    go later f false p q = wider (later q)

chosen : {rs rs' : List Range} (w : Bool) → cond w (Some rs) None ≡ Some rs' → (w ≡ true) × (rs ≡ rs')
chosen true e = (refl, cc)
chosen false e = clash (cc)

-- what goes on from the state after b goes on, with b, from the state before it
back : (rs : List Range) (b : ℕ) {rs' : List Range} → step rs b ≡ Some rs' → {s : List ℕ} → After rs' s → After rs (b ∷ s)
unfolding full filled
back [] b {rs'} e (after {bs} a w) = let o = opens table tt b rs' e in after end (char o.listed (o.allows bs a) w)
back ((lo to hi) ∷ rs) b e (after a w) =
    let c = chosen (is_in (lo to hi) b) e in
    after (within_byte c.0 c.1 a) w

step-full : (rs : List Range) (b : ℕ) {rs' : List Range} → T (full rs) → step rs b ≡ Some rs' → T (full rs')
unfolding full filled
step-full [] b {rs'} f e = (opens table tt b rs' e).filling
step-full ((lo to hi) ∷ rs) b f e = rw (chosen (is_in (lo to hi) b) e).1 at (and_right (leb lo hi) (full rs) f)

-- ---- what each answer says, from the place k on in the state rs
-- the least bytes that the ranges allow
least : (rs : List Range) → T (full rs) → (bs : List ℕ) × Allows rs bs
unfolding full
least [] f = ([], end)
least ((lo to hi) ∷ rs) f =
    let r = least rs (and_right (leb lo hi) (full rs) f) in
    (lo ∷ r.0, byte (le_refl lo) (leb→le lo hi (and_left (leb lo hi) (full rs) f)) r.1)

-- the machine stops at the place m, d bytes on: `more` completes what stands before m, and nothing does with the byte at m
record Halts (k : ℕ) (rs : List Range) (s : List ℕ) (m : ℕ) : Type 0 where
  d : ℕ
  far : m ≡ k + d
  length≤ : d ≤ length s
  more : List ℕ
  before : After rs (take d s ++ more)
  here : d < length s → (q : List ℕ) → judge_at k rs (take (suc d) s ++ q) ≡ Err m

abbrev Says : ℕ → List Range → List ℕ → Result (Unit {0}) ℕ → Type 0
Says k rs s (Ok _) = After rs s
Says k rs s (Err m) = Halts k rs s m

at_once : (k : ℕ) (rs : List Range) (s : List ℕ) → T (full rs) → (0 < length s → (q : List ℕ) → judge_at k rs (take 1 s ++ q) ≡ Err k)
    → Halts k rs s k
at_once k rs s f h =
    let l = least rs f in
    record { d = 0; far = omega arith; length≤ = zero-le; more = l.0; before = rw append-nil at (after l.1 empty); here = h }

says : (k : ℕ) (rs : List Range) (s : List ℕ) → T (full rs) → Says k rs s (judge_at k rs s)
unfolding judge_at
says k [] [] f = after end empty
says k (r ∷ rs) [] f = at_once k (r ∷ rs) [] f (λ l. absurd (omega arith))
says k rs (b ∷ s) f = go (λ ts. says (k + 1) ts s) (step rs b) refl
  where
    on : (ts : List Range) → step rs b ≡ Some ts → (r : Result (Unit {0}) ℕ) → Says (k + 1) ts s r → Says k rs (b ∷ s) r
    on ts p (Ok _) a = back rs b p a
    on ts p (Err m) h =
        record {
          d = suc h.d;
          far = omega arith;
          length≤ = suc-le-suc h.length≤;
          more = h.more;
          before = back rs b p h.before;
          here = λ l t. ap (onward (Err k) (λ us. judge_at (k + 1) us (take (suc h.d) s ++ t))) p ∙ h.here (le_of_suc-le-suc l) t;
        }

    go : ((ts : List Range) → T (full ts) → Says (k + 1) ts s (judge_at (k + 1) ts s)) → (o : Option (List Range)) → step rs b ≡ o
        → Says k rs (b ∷ s) (onward (Err k) (λ ts. judge_at (k + 1) ts s) o)
    go later None p = at_once k rs (b ∷ s) f (λ l t. ap (onward (Err k) (λ ts. judge_at (k + 1) ts t)) p)
    go later (Some ts) p = on ts p (judge_at (k + 1) ts s) (later ts (step-full rs b f p))

-- ---- the theorem
good : {s : List ℕ} → After [] s → WellFormed s
good (after end w) = w

from_start : (s : List ℕ) (r : Result (Unit {0}) ℕ) → judge s ≡ r → Says 0 [] s r → Means s r
from_start s (Ok _) e a = good a
from_start s (Err k) e h =
    let e₁ : h.d ≡ k = omega arith in
    let e₂ : k + 1 ≡ suc h.d = omega arith in
    record {
      inside = omega arith;
      before = (h.more, rw e₁ at (good h.before));
      here = λ l b. clash (cc (complete (rw e₂ at b.1) 0, h.here (omega arith) b.0));
      early = λ l w. clash (cc (complete w 0));
    }

pub means : (s : List ℕ) → Means s (judge s)
unfolding full
means s = from_start s (judge s) refl (says 0 [] s tt)
