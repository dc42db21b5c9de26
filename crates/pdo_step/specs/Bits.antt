-- The error bits of nodes: RULES.md 11. Assumes nothing.
use Rattle.std.specs.Prelude.{ℕ, ◌+◌, ◌-◌, ◌/◌, ◌%◌, ◌^◌, cond, ◌&&◌, ◌||◌, List, eqb, ltb, get_or, set, Option, Some, None}
use Rattle.std.specs.Int.Bits.{bit_or}
use Rattle.entry.specs.Table.{kind_at, first_at, type_at, start_at}
use Rattle.entry.specs.Find.{find_row}

-- R11.10: "The bit of node n, 1..239, is byte (n - 1) / 8, bit (n - 1) % 8."
abbrev pub byte_of : ℕ → ℕ
byte_of n = (n - 1) / 8

abbrev pub mask_of : ℕ → ℕ
mask_of n = 2 ^ ((n - 1) % 8)

-- "a Variable that now is an OctetString whose current length has that byte"
abbrev pub bit_in : List ℕ → List ℕ → List ℕ → ℕ → Option ℕ → Option ℕ
bit_in objects slots words n None = None
bit_in objects slots words n (Some i) =
    cond (eqb (kind_at objects i) 0 && (eqb (type_at slots (first_at objects i)) 12 && ltb (byte_of n) (get_or words (first_at objects i) 0)))
    (Some (start_at slots (first_at objects i) + byte_of n))
    None

unfoldable pub bit_at : List ℕ → List ℕ → List ℕ → ℕ → ℕ → Option ℕ
bit_at objects slots words x n = cond (eqb n 0 || ltb 239 n) None (bit_in objects slots words n (find_row objects x))

abbrev pub marked_at : List ℕ → ℕ → Option ℕ → List ℕ
marked_at bytes n (Some a) = set bytes a (bit_or (get_or bytes a 0) (mask_of n))
marked_at bytes n None = bytes

unfoldable pub marked_in : List ℕ → List ℕ → List ℕ → List ℕ → ℕ → ℕ → List ℕ
marked_in objects slots words bytes x n = marked_at bytes n (bit_at objects slots words x n)
