-- A test at every number below a bound, which antt computes; and what holds where two tests do.
-- Assumes nothing.
use Rattle.std.specs.Prelude.{ℕ, zero, suc, ◌<◌, Bool, true, false, ◌&&◌, T}
use Rattle.std.proofs.Common.{subst, sym, ⊎_elim, le_of_suc-le-suc, not-suc-le-zero, eq-or-lt_of_le}

pub and_left : (a b : Bool) → T (a && b) → T a
and_left true b t = tt
and_left false b t = t

pub and_right : (a b : Bool) → T (a && b) → T b
and_right true b t = t
and_right false b t = absurd t

-- the test f holds at every number below n
unfoldable pub below : ℕ → (ℕ → Bool) → Bool
below zero f = true
below (suc n) f = f n && below n f

pub below_at : (n : ℕ) (f : ℕ → Bool) → T (below n f) → (k : ℕ) → k < n → T (f k)
unfolding below
below_at zero f t k h = absurd (not-suc-le-zero h)
below_at (suc n) f t k h =
    ⊎_elim (λ e. subst (λ (m : ℕ). T (f m)) (sym e) (and_left (f n) (below n f) t)) (λ l. below_at n f (and_right (f n) (below n f) t) k l)
    (eq-or-lt_of_le (le_of_suc-le-suc h))
