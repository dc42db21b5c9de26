-- UTF-8 as the Unicode Standard defines it, by its Table 3-7, "Well-Formed UTF-8 Byte Sequences"; and what an answer says of bytes.
-- Assumes nothing.
use Rattle.std.specs.Prelude.{ℕ, ◌+◌, ◌≤◌, ◌<◌, ◌≡◌, length, take, Result, Ok, Err}
use mathlib.Core.List.{List, [], ◌∷◌, ◌++◌, Memᴰ}

infix 80 ◌to◌
-- a range of bytes, with both its ends
pub data Range : Type 0 where
  ◌to◌ : ℕ → ℕ → Range

-- Table 3-7, row by row: the range of the first byte, of the second, and so on
abbrev pub table : List (List Range)
table =
    -- U+0000..U+007F
    (0x00 to 0x7F ∷ [])
    -- U+0080..U+07FF
    ∷ (0xC2 to 0xDF ∷ 0x80 to 0xBF ∷ [])
    -- U+0800..U+0FFF
    ∷ (0xE0 to 0xE0 ∷ 0xA0 to 0xBF ∷ 0x80 to 0xBF ∷ [])
    -- U+1000..U+CFFF
    ∷ (0xE1 to 0xEC ∷ 0x80 to 0xBF ∷ 0x80 to 0xBF ∷ [])
    -- U+D000..U+D7FF
    ∷ (0xED to 0xED ∷ 0x80 to 0x9F ∷ 0x80 to 0xBF ∷ [])
    -- U+E000..U+FFFF
    ∷ (0xEE to 0xEF ∷ 0x80 to 0xBF ∷ 0x80 to 0xBF ∷ [])
    -- U+10000..U+3FFFF
    ∷ (0xF0 to 0xF0 ∷ 0x90 to 0xBF ∷ 0x80 to 0xBF ∷ 0x80 to 0xBF ∷ [])
    -- U+40000..U+FFFFF
    ∷ (0xF1 to 0xF3 ∷ 0x80 to 0xBF ∷ 0x80 to 0xBF ∷ 0x80 to 0xBF ∷ [])
    -- U+100000..U+10FFFF
    ∷ (0xF4 to 0xF4 ∷ 0x80 to 0x8F ∷ 0x80 to 0xBF ∷ 0x80 to 0xBF ∷ [])
    ∷ []

-- ranges allow bytes: one byte within each range, in order
pub data Allows : List Range → List ℕ → Type 0 where
  end : Allows [] []
  byte : {lo hi b : ℕ} {rs : List Range} {bs : List ℕ} → lo ≤ b → b ≤ hi → Allows rs bs → Allows (lo to hi ∷ rs) (b ∷ bs)

-- well-formed: characters one after another, each allowed by a row of the table
pub data WellFormed : List ℕ → Type 0 where
  empty : WellFormed []
  char : {row : List Range} {bs s : List ℕ} → Memᴰ row table → Allows row bs → WellFormed s → WellFormed (bs ++ s)

-- p begins a well-formed text: some bytes behind it complete one
abbrev pub Begins : List ℕ → Type 0
Begins p = (q : List ℕ) × WellFormed (p ++ q)

-- k is the place at which s stops being well-formed: what stands before k begins a text, and with the byte at k it no longer does;
-- or s ends at k, within a character
pub record Stops (s : List ℕ) (k : ℕ) : Type 0 where
  pub inside : k ≤ length s
  pub before : Begins (take k s)
  pub here : k < length s → Begins (take (k + 1) s) → ⊥
  pub early : k ≡ length s → WellFormed s → ⊥

-- what an answer says of the bytes s
abbrev pub Means : List ℕ → Result (Unit {0}) ℕ → Type 0
Means s (Ok _) = WellFormed s
Means s (Err k) = Stops s k
