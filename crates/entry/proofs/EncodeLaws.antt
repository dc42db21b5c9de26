-- A stored value's encoding: decoding it gives the value back, and putting it changes nothing.
-- Assumes nothing.
use Rattle.std.specs.Prelude.{Ok}
use mathlib.Core.Path.{◌≡◌, refl, sym, ap, ◌∙◌}
use mathlib.Core.Bool.{Bool, true, false}
use mathlib.Core.List.{List}
use Prim.Native.Nat.{ℕ, ◌+◌, ◌*◌, ◌^◌, ◌<◌, ◌≤◌}
use native.Mathlib.Omega.{arith}
use borrow.Author.Tests.{eq-eqb, le-ltb, ltb-true}
use lib.ListN.{length, take, drop, get_or, length-drop}
use lib.Seq.{length-take-le, take_all, set-get_or}
use Rattle.lists.specs.Numbers.{bytes_of}
use Rattle.lists.proofs.ListLaws.{over-same}
use Rattle.lists.proofs.NumberLaws.{length-bytes_of, number-bytes_of}
use Rattle.value.specs.Codec.{is_text, size_of, word_at, decode_of, sayable, exact}
use Rattle.value.specs.Meaning.{reading, type_of, word_of}
use Rattle.value.specs.declared.ObjectValue.{ObjectValue}
use Rattle.value.proofs.CodecLaws.{sayable_text, sayable_fixed, encoding_text, encoding_fixed, exact_text, exact_fixed}
use Rattle.value.proofs.WordLaws.{type_reading, word-reading}
use Rattle.value.proofs.RoundTrip.{decode_encode}
use Rattle.entry.specs.Table.{Dict, values_of, type_at, start_at}
use Rattle.entry.specs.Judge.{well_formed}
use Rattle.entry.specs.Put.{contents, put_in, filled, put_at}
use Rattle.entry.specs.Encode.{encoding_in, encoding_at}
use Rattle.entry.proofs.PutLaws.{put_text, put_fixed}
use Rattle.entry.proofs.ValueLaws.{ValueFacts, every_value}

-- ---- the two ways of laying it
module _ (slots words bytes : List ℕ) (p : ℕ) where
  pub laid_text : (s n : ℕ) → is_text (type_at slots p) ≡ true → s ≡ start_at slots p → n ≡ get_or words p 0 → take n (drop s bytes) ≡ encoding_in slots words bytes p
  laid_text s n x a b = rw (a, b) (sym (encoding_text (type_at slots p) (get_or words p 0) (take (get_or words p 0) (drop (start_at slots p) bytes)) x))

  pub laid_fixed : (n : ℕ) → is_text (type_at slots p) ≡ false → n ≡ size_of (type_at slots p) → bytes_of n (get_or words p 0) ≡ encoding_in slots words bytes p
  laid_fixed n x a = rw a (sym (encoding_fixed (type_at slots p) (get_or words p 0) (take (get_or words p 0) (drop (start_at slots p) bytes)) x))

-- ---- of a well-formed dictionary
-- a value of the type and the word that are stored, which the encoding decodes to
pub record Decodes (d : Dict) (p : ℕ) : Type 0 where
  pub value : ObjectValue
  pub decoded : decode_of (type_at d.slots p) (encoding_at d p) ≡ Ok value
  pub type : type_of value ≡ type_at d.slots p
  pub word : word_of value ≡ get_or d.words p 0

module _ (d : Dict) (e : well_formed d ≡ true) (p : ℕ) (h : p < values_of d.objects) where
  abbrev t : ℕ
  t = type_at d.slots p

  abbrev w : ℕ
  w = get_or d.words p 0

  abbrev part : List ℕ
  part = take w (drop (start_at d.slots p) d.bytes)

  abbrev f : ValueFacts d p
  f = every_value d e p h

  inside : is_text t ≡ true → start_at d.slots p + w ≤ length d.bytes
  inside x = omega (arith, (f.text x).0, f.within, f.bytes)

  long : is_text t ≡ true → length part ≡ w
  long x = length-take-le w (drop (start_at d.slots p) d.bytes) (rw length-drop (omega (arith, inside x)))

  small : is_text t ≡ false → w < 2 ^ (8 * size_of t)
  small x = ltb-true w (2 ^ (8 * size_of t)) (f.fixed x)

  said : sayable t w part ≡ true
  said = go (is_text t) refl
    where
      go : (b : Bool) → is_text t ≡ b → sayable t w part ≡ true
      go true x = sayable_text t w part f.type x ∙ rw (eq-eqb w (length part) (sym (long x)), (f.text x).1)
      go false x = sayable_fixed t w part f.type x ∙ f.fixed x

  -- decoding gives the type and the word back
  pub decode_stored : word_at t (encoding_at d p) ≡ Ok w
  decode_stored = decode_encode t w part said

  -- the encoding is a value and nothing else
  pub exact-stored : exact t (encoding_at d p) ≡ true
  exact-stored = go (is_text t) refl
    where
      go : (b : Bool) → is_text t ≡ b → exact t (encoding_at d p) ≡ true
      go true x = exact_text t (encoding_at d p) f.type x ∙ rw (encoding_text t w part x) (f.text x).1
      go false x =
          exact_fixed t (encoding_at d p) f.type x ∙ rw (encoding_fixed t w part x) (eq-eqb _ _ (length-bytes_of (size_of t) w))

  pub decodes_stored : Decodes d p
  unfolding decode_of
  decodes_stored =
      record {
        value = reading t w;
        decoded = rw (le-ltb 20 t f.type, decode_stored);
        type = type_reading t w f.type;
        word = word-reading t w f.type small;
      }

  -- putting a value's own encoding changes nothing
  pub put_stored : put_at d p (encoding_at d p) ≡ d
  put_stored = ap (filled d) (go (is_text t) refl)
    where
      go : (b : Bool) → is_text t ≡ b → put_in d.slots (contents d.words d.bytes) p (encoding_at d p) ≡ contents d.words d.bytes
      go true x =
          put_text d.slots (contents d.words d.bytes) p (encoding_at d p) x
          ∙ rw (encoding_text t w part x, long x, set-get_or d.words p 0, over-same d.bytes (start_at d.slots p) w (inside x))
      go false x =
          put_fixed d.slots (contents d.words d.bytes) p (encoding_at d p) x
          ∙ rw (encoding_fixed t w part x, take_all (size_of t) (bytes_of (size_of t) w) (omega (arith, length-bytes_of (size_of t) w)), number-bytes_of (size_of t) w (small x), set-get_or d.words p 0)
