-- Decoding and encoding: RULES.md R3.1 and R3.4 to R3.7.
-- Assumes nothing.
use Rattle.std.specs.Prelude.{ℕ, ◌*◌, ◌%◌, ◌^◌, Bool, true, false, cond, ◌&&◌, ◌||◌, List, [], ◌∷◌, eqb, leb, ltb, get_or, length, take, Result, Ok, Err, is_ok}
use Rattle.lists.specs.Lists.{over}
use Rattle.lists.specs.Numbers.{number, bytes_of}
use Rattle.text.specs.Machine.{judge}
use Rattle.value.specs.declared.CodecFault.{CodecFault}
use Rattle.value.specs.declared.CodecFault.TheVariants.{Value, Text, Odd}
use Rattle.value.specs.declared.DecodeFault.{DecodeFault}
use Rattle.value.specs.declared.DecodeFault.TheVariants as decode-fault
use Rattle.value.specs.declared.ObjectValue.{ObjectValue}
use Rattle.value.specs.Meaning.{reading}
use Rattle.answers.specs.declared.Refusal.{Refusal}
use Rattle.answers.specs.declared.Refusal.TheVariants.{BadValue, BufferTooShort, TypeMismatch}
use Rattle.value.specs.declared.Inexact.{Inexact}
use Rattle.value.specs.declared.Inexact.TheVariants as inexact

-- R3.1: "the size of their encoding in bytes"; 0 for the four types that have a room
abbrev pub sizes : List ℕ
sizes = 1 ∷ 1 ∷ 2 ∷ 4 ∷ 8 ∷ 1 ∷ 2 ∷ 4 ∷ 8 ∷ 4 ∷ 8 ∷ 0 ∷ 0 ∷ 0 ∷ 0 ∷ 6 ∷ 6 ∷ 8 ∷ 8 ∷ 6 ∷ 4 ∷ []

unfoldable pub size_of : ℕ → ℕ
size_of t = get_or sizes t 0

-- VisibleString, OctetString, UnicodeString, Domain
abbrev pub is_text : ℕ → Bool
is_text t = leb 11 t && leb t 14

-- how many bytes a value has: its type's size or, of a type that has a room, so many as are held
abbrev pub length_of : ℕ → ℕ → ℕ
length_of t held = cond (is_text t) held (size_of t)

-- a number of as many bytes as the type has
abbrev pub fits_type : ℕ → ℕ → Bool
fits_type t w = ltb w (2 ^ (8 * size_of t))

-- ---- decoding
abbrev pub text_is : ℕ → Result (Unit {0}) ℕ → Result ℕ CodecFault
text_is n (Ok _) = Ok n
text_is n (Err k) = Err (Text k)

-- R3.6: a VisibleString must be UTF-8, a UnicodeString has an even byte count
unfoldable pub text_word : ℕ → List ℕ → Result ℕ CodecFault
text_word t s =
    cond (eqb t 11)
    (text_is (length s) (judge s))
    (cond (eqb t 13 && eqb (length s % 2) 1)
    (Err Odd)
    (Ok (length s)))

-- R3.6: of a fixed type, fewer bytes than its size are too few, and bytes behind it are ignored; R3.9: what is said of them
unfoldable pub word_at : ℕ → List ℕ → Result ℕ CodecFault
word_at t s =
    cond (is_text t)
    (text_word t s)
    (cond (ltb (length s) (size_of t))
    (Err (Value (size_of t) (length s)))
    (Ok (number (take (size_of t) s))))

-- ---- values
-- the numbers of a fault: 12 for too few bytes, 5 for bad text
abbrev pub refusal_of : CodecFault → Refusal
refusal_of (Value needed had) = BufferTooShort
refusal_of (Text at) = TypeMismatch
refusal_of Odd = TypeMismatch

abbrev pub meant : ℕ → Result ℕ CodecFault → Result ObjectValue DecodeFault
meant t (Ok x) = Ok (reading t x)
meant t (Err f) = Err (decode-fault.Fails f)

-- a type's number over 20 names no type
unfoldable pub decode_of : ℕ → List ℕ → Result ObjectValue DecodeFault
decode_of t s = cond (ltb 20 t) (Err decode-fault.NoType) (meant t (word_at t s))

-- ---- encoding
abbrev pub takes : Result ℕ CodecFault → Bool
takes (Ok w) = true
takes (Err f) = false

-- the type t, the word w and the bytes beside it say a value
unfoldable pub sayable : ℕ → ℕ → List ℕ → Bool
sayable t w part =
    leb t 20
    && cond (is_text t)
    (eqb w (length part) && takes (text_word t part))
    (fits_type t w)

-- ---- R3.4: whether data that is handed in, or stored, is a value of type t and nothing else, or why it is none
-- it decodes, and of a fixed type nothing is left behind it
abbrev pub exact_word : ℕ → List ℕ → Result ℕ CodecFault → Result (Unit {0}) Inexact
exact_word t s (Err f) = Err (inexact.Fails f)
exact_word t s (Ok w) = cond (is_text t || leb (length s) (size_of t)) (Ok tt) (Err inexact.Many)

unfoldable pub exactly_of : ℕ → List ℕ → Result (Unit {0}) Inexact
exactly_of t s = cond (ltb 20 t) (Err inexact.NoType) (exact_word t s (word_at t s))

unfoldable pub exact : ℕ → List ℕ → Bool
exact t s = is_ok (exactly_of t s)

-- its bytes: those beside it, or the word as little-endian bytes, as many as the type has
unfoldable pub encoding : ℕ → ℕ → List ℕ → List ℕ
encoding t w part = cond (is_text t) part (bytes_of (size_of t) w)

-- an answer, and the lent output after it
pub record AfterEncode : Type 0 where
  pub answer : Result ℕ Refusal
  pub out : List ℕ

abbrev pub after_encode : Result ℕ Refusal → List ℕ → AfterEncode
after_encode a out = record { answer = a; out = out }

-- a value that breaks a rule: BadValue; an output shorter than the encoding: BufferTooShort; else it is laid from the start on
unfoldable pub encode_of : ℕ → ℕ → List ℕ → List ℕ → AfterEncode
encode_of t w part out =
    cond (sayable t w part)
    (cond (ltb (length out) (length (encoding t w part)))
    (after_encode (Err BufferTooShort) out)
    (after_encode (Ok (length (encoding t w part))) (over out 0 (encoding t w part))))
    (after_encode (Err BadValue) out)
