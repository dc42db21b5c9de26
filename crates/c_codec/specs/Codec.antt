-- What the calls for C answer of values and mapping words, and what they leave in what was lent. RULES.md 13. Assumes nothing.
use Rattle.std.specs.Prelude.{ℕ, List, [], ◌∷◌, Option, Some, None, Result, Ok, Err}
use Rattle.answers.specs.Numbers.{refusal_number}
use Rattle.answers.specs.declared.Refusal.TheVariants.{BadValue}
use Rattle.value.specs.declared.ObjectValue.{ObjectValue}
use Rattle.value.specs.declared.DecodeFault.{DecodeFault}
use Rattle.value.specs.declared.DecodeFault.TheVariants.{NoType, Fails}
use Rattle.value.specs.Meaning.{word_of, fields_of}
use Rattle.value.specs.Codec.{decode_of, refusal_of, encode_of}
use Rattle.mapping.specs.declared.PdoMappingEntry.{PdoMappingEntry}
use Rattle.mapping.specs.Word.{entry_of, aligned_of, end_of}
use Rattle.c_answers.specs.Answers.{place_after, had_after, Lent, results, Written, count_wrote}

unfoldable pub value_numbers : ObjectValue → List ℕ → Lent
value_numbers v ns = results (word_of v ∷ fields_of v) ns

-- an answer's number, the lent numbers after it, and the two that are lent for a fault's
pub record AfterDecode : Type 0 where
  pub answer : ℕ
  pub numbers : List ℕ
  pub place : ℕ
  pub had : ℕ

abbrev pub after_decode : ℕ → List ℕ → ℕ → ℕ → AfterDecode
after_decode a ns p h = record { answer = a; numbers = ns; place = p; had = h }

abbrev pub decoded_numbers : Result ObjectValue DecodeFault → List ℕ → ℕ → ℕ → AfterDecode
decoded_numbers (Ok v) ns p h = let l = value_numbers v ns in after_decode l.answer l.numbers p h
decoded_numbers (Err NoType) ns p h = after_decode (refusal_number BadValue) ns p h
decoded_numbers (Err (Fails f)) ns p h = after_decode (refusal_number (refusal_of f)) ns (place_after f p) (had_after f h)

unfoldable pub decode_numbers : ℕ → List ℕ → List ℕ → ℕ → ℕ → AfterDecode
decode_numbers t s ns p h = decoded_numbers (decode_of t s) ns p h

unfoldable pub encode_numbers : ℕ → ℕ → List ℕ → List ℕ → ℕ → Written
encode_numbers t w part out m = let a = encode_of t w part out in count_wrote a.answer a.out m

-- 1 and the number of bytes, where bits are whole bytes; else 0 and 0
abbrev pub whole_of : Option ℕ → ℕ
whole_of (Some n) = 1
whole_of None = 0

abbrev pub bytes_in : Option ℕ → ℕ
bytes_in (Some n) = n
bytes_in None = 0

-- a mapping word's parts; its offset and its length in bytes; its end in bytes
abbrev pub parts_of : PdoMappingEntry → List ℕ
parts_of e =
    e.index
    ∷ e.sub_index
    ∷ e.offset_bits
    ∷ e.length_bits
    ∷ whole_of (aligned_of e.offset_bits)
    ∷ bytes_in (aligned_of e.offset_bits)
    ∷ whole_of (aligned_of e.length_bits)
    ∷ bytes_in (aligned_of e.length_bits)
    ∷ end_of e
    ∷ []

unfoldable pub entry_numbers : ℕ → List ℕ
entry_numbers w = parts_of (entry_of w)
