-- A stored value as its encoding, which a put takes back.
-- Assumes nothing.
use Rattle.std.specs.Prelude.{ℕ, ◌+◌, ◌≤◌, ◌<◌, ◌≡◌, true, List, length, take, drop, get_or}
use Rattle.value.specs.Codec.{is_text, encoding}
use Rattle.entry.specs.Table.{Dict, slot_end, type_at, start_at}

-- the encoding of value p: the bytes of a fixed type's word, or the string's bytes out of its room
abbrev pub encoding_in : List ℕ → List ℕ → List ℕ → ℕ → List ℕ
encoding_in slots words bytes p = encoding (type_at slots p) (get_or words p 0) (take (get_or words p 0) (drop (start_at slots p) bytes))

abbrev pub encoding_at : Dict → ℕ → List ℕ
encoding_at d p = encoding_in d.slots d.words d.bytes p

-- what laying it over an output from place a on needs
pub record Lays (slots words bytes : List ℕ) (p : ℕ) (out : List ℕ) (a : ℕ) : Type 0 where
  pub low : p < 6144
  pub slot : slot_end p ≤ length slots
  pub word : p < length words
  pub text : is_text (type_at slots p) ≡ true → start_at slots p + get_or words p 0 ≤ length bytes
  pub room : a + length (encoding_in slots words bytes p) ≤ length out
