-- The mapping word, as EPSG DS 301 (6.4, 7.3) has it, in which bits 24..31 are reserved: RULES.md R4.1 to R4.4. Assumes nothing.
use Rattle.mapping.specs.declared.Field.{Field}
use Rattle.std.specs.Prelude.{ℕ, ◌+◌, ◌*◌, ◌/◌, ◌%◌, ◌^◌, ◌<◌, cond, ◌&&◌, eqb, Option, Some, None}
use Rattle.lists.specs.Numbers.{bits}
use Rattle.mapping.specs.declared.PdoMappingEntry.{PdoMappingEntry}

-- R4.1, the entry that a word says: "bits 0..15 index, 16..23 sub-index, .. 32..47 offset in bits, 48..63 length in bits"
unfoldable pub entry_of : ℕ → PdoMappingEntry
entry_of w = record { index = bits 0 16 w; sub_index = bits 16 8 w; offset_bits = bits 32 16 w; length_bits = bits 48 16 w }

-- the word of an entry: each part from its first bit on, and 0 in the reserved bits
abbrev pub word_of : PdoMappingEntry → ℕ
word_of e = e.index + e.sub_index * 2 ^ 16 + e.offset_bits * 2 ^ 32 + e.length_bits * 2 ^ 48

-- each part fits its bits, as in every entry that code holds
pub record InRange (e : PdoMappingEntry) : Type 0 where
  pub index : e.index < 2 ^ 16
  pub sub : e.sub_index < 2 ^ 8
  pub offset : e.offset_bits < 2 ^ 16
  pub length : e.length_bits < 2 ^ 16

-- a number of bits in bytes. R4.3: "A word is aligned when its offset and its length are both multiples of 8."
abbrev pub aligned_of : ℕ → Option ℕ
aligned_of n = cond (eqb (n % 8) 0) (Some (n / 8)) None

-- the first byte behind the field. R4.4: "offset + length, a sum of up to 131,070 bits, rounded up to bytes; for misaligned words too"
abbrev pub end_of : PdoMappingEntry → ℕ
end_of e = (e.offset_bits + e.length_bits + 7) / 8

-- a field of so many bytes from a byte on
abbrev pub field_at : ℕ → ℕ → Option Field
field_at start length = Some (record { start = start; length = length })

-- the field in bytes, whole where offset and length are both multiples of 8
unfoldable pub field_of : PdoMappingEntry → Option Field
field_of e =
    cond (eqb (e.offset_bits % 8) 0 && eqb (e.length_bits % 8) 0)
    (field_at (e.offset_bits / 8) (e.length_bits / 8))
    None
