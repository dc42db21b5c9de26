-- Whether n more fit behind a of t, told by a sum: the definitions have the difference. And a room that is too long.
-- Assumes nothing.
use mathlib.Core.Path.{◌≡◌, refl}
use mathlib.Core.Bool.{Bool, true, false, ◌&&◌}
use mathlib.Core.List.{List}
use Prim.Native.Nat.{ℕ, ◌+◌, ◌-◌, ◌<◌, ◌≤◌}
use native.Mathlib.Omega.{arith}
use borrow.Author.Tests.{le-leb, lt-leb}
use lib.Dec.{leb}
use Rattle.entry.specs.Rules.{val_ok}

pub behind : (n a t : ℕ) → a + n ≤ t → leb n (t - a) ≡ true
behind n a t h = le-leb n (t - a) (omega arith)

pub beyond : (n a t : ℕ) → a ≤ t → t < a + n → leb n (t - a) ≡ false
beyond n a t l h = lt-leb n (t - a) (omega arith)

none : (x y z : Bool) → (x && (y && (z && false))) ≡ false
none true true true = refl
none true true false = refl
none true false z = refl
none false y z = refl

pub too_long : (x y : Bool) (t w r : ℕ) (s : List ℕ) → 1490 < r → (x && (y && val_ok t w r s)) ≡ false
unfolding val_ok
too_long x y t w r s h = rw (lt-leb r 1490 h) (none x y (leb t 20))
