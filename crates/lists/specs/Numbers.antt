-- Numbers as EPSG DS 301 sends them (6.1.4 to 6.1.6): the least significant byte first; a part of a number's bits is a number again.
-- Assumes nothing.
use Rattle.std.specs.Prelude.{ℕ, zero, suc, ◌+◌, ◌*◌, ◌/◌, ◌%◌, ◌^◌, ◌<◌, List, [], ◌∷◌, get_or}

-- the number that little-endian bytes say
unfoldable pub number : List ℕ → ℕ
number [] = 0
number (b ∷ bs) = b + 256 * number bs

-- the n low bytes of a number, little-endian
unfoldable pub bytes_of : ℕ → ℕ → List ℕ
bytes_of zero x = []
bytes_of (suc n) x = x % 256 ∷ bytes_of n (x / 256)

-- the n bits of x from bit a on, as a number
abbrev pub bits : ℕ → ℕ → ℕ → ℕ
bits a n x = x / 2 ^ a % 2 ^ n

-- every element is a byte
abbrev pub Bytes : List ℕ → Type 0
Bytes s = (i : ℕ) → get_or s i 0 < 256
