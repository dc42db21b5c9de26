-- The integer that a word of an Integer type means. Assumes nothing.
use mathlib.Core.Path.{◌≡◌, sym, ◌∙◌}
use mathlib.Core.Bool.{true}
use Prim.Native.Nat.{ℕ, ◌+◌, ◌*◌, ◌^◌, ◌<◌, ◌≤◌}
use native.Mathlib.Nat.{mod-eq_of_lt}
use native.Mathlib.Omega.{arith}
use borrow.Author.Tests.{ltb-true}
use lib.IntN.{ℤ}
use mir.Syntax.{Width, w64}
use mir.Val.{to_z, of_z, bits, hbits, SFits}
use mir.Facts.{to_z-of_z}
use Rattle.value.specs.Codec.{size_of, fits_type}
use Rattle.value.specs.Meaning.{integer}
use Rattle.value.proofs.IntegerLaws.{mag_integer, cast_integer}

pub word_small : (t k w : ℕ) → t ≡ k → fits_type t w ≡ true → w < 2 ^ (8 * size_of k)
word_small t k w e f = ltb-true w (2 ^ (8 * size_of k)) (rw e at f)

module _ (w : Width) (half x : ℕ) (y : ℤ) (e : half ≡ 2 ^ hbits w) (b : half + half ≡ 2 ^ bits w) (p : 0 < half) (h : x < half + half) (q : y ≡ to_z w x) where
  -- read in its own width
  pub read : to_z w (of_z w y) ≡ integer half x
  read = cast_integer w half x x y e b p (sym (mod-eq_of_lt h)) q

  -- and then widened to 64 bits
  pub widened : (z : ℤ) → half ≤ 2 ^ hbits w64 → z ≡ to_z w (of_z w y) → to_z w64 (of_z w64 z) ≡ integer half x
  widened z l r =
      let f : SFits w64 (integer half x) = record { sfits = omega (arith, l, mag_integer half x p) } in
      rw (r ∙ read) (to_z-of_z f)
