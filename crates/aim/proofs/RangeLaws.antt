-- The index ranges of the SDO server and client, and both together. Assumes nothing.
use mathlib.Core.Path.{◌≡◌}
use mathlib.Core.Bool.{true, false}
use mathlib.Core.Logic.{◌⊎◌, inl, inr, ⊎_elim}
use Prim.Native.Nat.{ℕ, ◌<◌, ◌≤◌}
use native.Mathlib.Decide.{dec_lt}
use native.Mathlib.Omega.{arith}
use borrow.Author.Tests.{le-leb, lt-leb}
use lib.Dec.{leb}
use Rattle.entry.proofs.WalkLaws.{and_false}
use Rattle.aim.specs.Aims.{between}

pub between_in : (low high x : ℕ) → low ≤ x → x ≤ high → between low high x ≡ true
between_in low high x a b = rw (le-leb low x a, le-leb x high b)

pub between_low : (low high x : ℕ) → x < low → between low high x ≡ false
between_low low high x a = rw (lt-leb low x a)

pub between_high : (low high x : ℕ) → high < x → between low high x ≡ false
between_high low high x a = rw (lt-leb x high a) (and_false (leb low x))

outside : (low high x : ℕ) → between low high x ≡ false → (x < low) ⊎ (high < x)
outside low high x e = go (dec_lt x low) (dec_lt high x)
  where
    go : Dec (x < low) → Dec (high < x) → (x < low) ⊎ (high < x)
    go (yes a) b = inl a
    go (no a) (yes b) = inr b
    go (no a) (no b) =
        let q = between_in low high x (omega arith) (omega arith) in
        let z : ◌≡◌ {A = ℕ} 0 1 = cc in absurd (omega arith)

-- ---- the server's range and the client's are the two halves of both
pub no_server : (x : ℕ) → between 0x1200 0x12FF x ≡ false → between 0x1200 0x127F x ≡ false
no_server x e = ⊎_elim (λ a. between_low 0x1200 0x127F x a) (λ a. between_high 0x1200 0x127F x (omega (arith, a))) (outside 0x1200 0x12FF x e)

pub no_client : (x : ℕ) → between 0x1200 0x12FF x ≡ false → between 0x1280 0x12FF x ≡ false
no_client x e = ⊎_elim (λ a. between_low 0x1280 0x12FF x (omega (arith, a))) (λ a. between_high 0x1280 0x12FF x a) (outside 0x1200 0x12FF x e)

pub joined_range : (x : ℕ) → between 0x1200 0x127F x ≡ false → between 0x1280 0x12FF x ≡ false → between 0x1200 0x12FF x ≡ false
joined_range x e f =
    ⊎_elim
    (λ a. between_low 0x1200 0x12FF x a)
    (λ a. ⊎_elim (λ b. absurd (omega (arith, a, b))) (λ b. between_high 0x1200 0x12FF x b) (outside 0x1280 0x12FF x f))
    (outside 0x1200 0x127F x e)
