-- R3.8: "Decoding what encoding wrote gives the value. Encoding what was decoded from data of exactly the type's size gives the data".
-- Assumes nothing.
use Rattle.std.specs.Prelude.{Ok}
use mathlib.Core.Path.{◌≡◌, refl, ap, ◌∙◌}
use mathlib.Core.Bool.{Bool, true, false}
use mathlib.Core.List.{List, [], ◌++◌, append-nil}
use Prim.Native.Nat.{ℕ, ◌*◌, ◌^◌, ◌<◌, ◌≤◌}
use native.Mathlib.Omega.{arith}
use borrow.Author.Tests.{lt-ltb, le-ltb, eq-eqb}
use lib.ListN.{length, take, length-append}
use lib.Seq.{take_at, take_all}
use Rattle.lists.specs.Lists.{over}
use Rattle.lists.specs.Numbers.{number, bytes_of, Bytes}
use Rattle.lists.proofs.ListLaws.{over_read}
use Rattle.lists.proofs.NumberLaws.{number_lt, length-bytes_of, number-bytes_of, bytes_of-number}
use Rattle.value.specs.declared.ObjectValue.{ObjectValue}
use Rattle.value.specs.Meaning.{type_of, word_of}
use Rattle.value.specs.Range.{InRange}
use Rattle.value.specs.Codec.{size_of, is_text, word_at, decode_of, sayable, encoding, after_encode, encode_of}
use Rattle.value.proofs.CodecLaws.{word_lt64, sayable_text, sayable_fixed, encoding_text, encoding_fixed, word_text, word_fixed, said_text, said_fixed, encode_done, written, decoded}
use Rattle.value.proofs.WordLaws.{type_reading, in_range-reading, word-reading, reading-word, type_le, word_lt}

-- ---- words
-- bytes behind a fixed type's are ignored
pub decode_encode_more : (t w : ℕ) (part more : List ℕ) → sayable t w part ≡ true → is_text t ≡ false → word_at t (encoding t w part ++ more) ≡ Ok w
unfolding word_at
decode_encode_more t w part more h e =
    let n : length (bytes_of (size_of t) w) ≡ size_of t = length-bytes_of (size_of t) w in
    let l : size_of t ≤ length (bytes_of (size_of t) w ++ more) = simp length-append (omega arith) in
    rw (encoding_fixed t w part e, e, le-ltb _ _ l, take_at (bytes_of (size_of t) w) more (size_of t) n, number-bytes_of (size_of t) w (said_fixed t w part h e))

pub decode_encode : (t w : ℕ) (part : List ℕ) → sayable t w part ≡ true → word_at t (encoding t w part) ≡ Ok w
unfolding word_at
decode_encode t w part h = go (is_text t) refl
  where
    go : (b : Bool) → is_text t ≡ b → word_at t (encoding t w part) ≡ Ok w
    go true e = rw (encoding_text t w part e, e) (said_text t w part h e)
    go false e = rw append-nil at (decode_encode_more t w part [] h e)

pub encode_decode : (t w : ℕ) (s : List ℕ) → Bytes s → t ≤ 20 → word_at t s ≡ Ok w → (is_text t ≡ false → length s ≡ size_of t)
    → (sayable t w s ≡ true) × (encoding t w s ≡ s)
encode_decode t w s b k h n = go (is_text t) refl
  where
    go : (x : Bool) → is_text t ≡ x → (sayable t w s ≡ true) × (encoding t w s ≡ s)
    go true e =
        let p = word_text t w s h e in
        (sayable_text t w s k e ∙ rw (eq-eqb w (length s) p.1, p.0), encoding_text t w s e)
    go false e =
        let l : length s ≡ size_of t = n e in
        let m : w ≡ number s = (word_fixed t w s h e).1 ∙ ap number (take_all (size_of t) s (omega arith)) in
        let f : w < 2 ^ (8 * size_of t) = rw (m, ← l) (number_lt s b) in
        (sayable_fixed t w s k e ∙ lt-ltb w (2 ^ (8 * size_of t)) f, encoding_fixed t w s e ∙ rw (m, ← l) (bytes_of-number s b))

-- ---- values
-- what decoding gives is of the type asked for, and fits its bits
pub type_decode : (t : ℕ) (s : List ℕ) (v : ObjectValue) → decode_of t s ≡ Ok v → type_of v ≡ t
type_decode t s v h = let d = decoded t s v h in rw d.value (type_reading t d.word d.type_le)

pub in_range_decode : (t : ℕ) (s : List ℕ) (v : ObjectValue) → Bytes s → length s < 2 ^ 64 → decode_of t s ≡ Ok v → InRange v
in_range_decode t s v b l h =
    let d = decoded t s v h in
    rw d.value (in_range-reading t d.word d.type_le (word_lt64 t d.word s d.taken b l))

-- one of a fixed type can always be encoded
pub sayable_fixed_value : (v : ObjectValue) (part : List ℕ) → InRange v → is_text (type_of v) ≡ false → sayable (type_of v) (word_of v) part ≡ true
sayable_fixed_value v part r e = sayable_fixed (type_of v) (word_of v) part (type_le v r) e ∙ lt-ltb _ _ (word_lt v r e)

pub decode_encode_value : (v : ObjectValue) (part : List ℕ) → InRange v → sayable (type_of v) (word_of v) part ≡ true
    → decode_of (type_of v) (encoding (type_of v) (word_of v) part) ≡ Ok v
unfolding decode_of
decode_encode_value v part r h = rw (le-ltb 20 (type_of v) (type_le v r), decode_encode (type_of v) (word_of v) part h) (ap Ok (reading-word v r))

pub encode_decode_value : (t : ℕ) (s : List ℕ) (v : ObjectValue) → Bytes s → decode_of t s ≡ Ok v → (is_text t ≡ false → length s ≡ size_of t)
    → (sayable (type_of v) (word_of v) s ≡ true) × (encoding (type_of v) (word_of v) s ≡ s)
encode_decode_value t s v b h n =
    let d = decoded t s v h in
    let e = encode_decode t d.word s b d.type_le d.taken n in
    rw (d.value, type_reading t d.word d.type_le, word-reading t d.word d.type_le (said_fixed t d.word s e.0)) e

-- ---- the two calls
-- "Decoding what encoding wrote gives the value"
pub decode_written : (v : ObjectValue) (part out : List ℕ) (n : ℕ) (out' : List ℕ) → InRange v
    → encode_of (type_of v) (word_of v) part out ≡ after_encode (Ok n) out'
    → decode_of (type_of v) (take n out') ≡ Ok v
decode_written v part out n out' r h =
    let w = written (type_of v) (word_of v) part out n out' h in
    rw (w.count, w.laid, over_read out 0 (encoding (type_of v) (word_of v) part) (omega arith)) (decode_encode_value v part r w.said)

-- "encoding what was decoded from data of exactly the type's size gives the data"
pub encode_decoded : (t : ℕ) (s : List ℕ) (v : ObjectValue) (out : List ℕ) → Bytes s → (is_text t ≡ false → length s ≡ size_of t) → length s ≤ length out
    → decode_of t s ≡ Ok v
    → encode_of (type_of v) (word_of v) s out ≡ after_encode (Ok (length s)) (over out 0 s)
encode_decoded t s v out b n l h =
    let e = encode_decode_value t s v b h n in
    rw e.1 at (encode_done (type_of v) (word_of v) s out e.0 (rw e.1 l))
