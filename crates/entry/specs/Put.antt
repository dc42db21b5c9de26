-- Putting a value: the one way in which a value changes. Assumes nothing.
use Rattle.std.specs.Prelude.{ℕ, ◌+◌, ◌≤◌, ◌<◌, ◌≡◌, true, false, cond, List, length, take, set}
use Rattle.lists.specs.Lists.{over}
use Rattle.lists.specs.Numbers.{number}
use Rattle.value.specs.Codec.{is_text, size_of}
use Rattle.entry.specs.Table.{Dict, slot_place, slot_end, type_at, start_at}

-- the contents: a word a value, and the bytes
pub record Contents : Type 0 where
  pub words : List ℕ
  pub bytes : List ℕ

abbrev pub contents : List ℕ → List ℕ → Contents
contents ws bs = record { words = ws; bytes = bs }

-- the encoded value s put as value p: a text or bytes lie at the start of the room, what is behind them stays; a number is the word
unfoldable pub put_in : List ℕ → Contents → ℕ → List ℕ → Contents
put_in slots c p s =
    cond (is_text (type_at slots p))
    (contents (set c.words p (length s)) (over c.bytes (start_at slots p) s))
    (contents (set c.words p (number (take (size_of (type_at slots p)) s))) c.bytes)

-- the dictionary with other contents
abbrev pub filled : Dict → Contents → Dict
filled d c = record { objects = d.objects; slots = d.slots; words = c.words; bytes = c.bytes }

abbrev pub put_at : Dict → ℕ → List ℕ → Dict
put_at d p s = filled d (put_in d.slots (contents d.words d.bytes) p s)

-- t as the type of value p
abbrev pub retyped : List ℕ → ℕ → ℕ → List ℕ
retyped slots p t = set slots (slot_place p) t

abbrev pub typed : Dict → ℕ → ℕ → Dict
typed d p t = record { objects = d.objects; slots = retyped d.slots p t; words = d.words; bytes = d.bytes }

-- R10.11: the encoded value s of type t put as value p, which had another type
abbrev pub put_new : Dict → ℕ → ℕ → List ℕ → Dict
put_new d p t s = put_at (typed d p t) p s

-- value p becomes the word w of type t with the room r
abbrev pub put_as : ℕ → ℕ → ℕ → List ℕ → Dict → Dict
put_as p t w r d =
    record {
      objects = d.objects;
      slots = set d.slots (slot_place p) t;
      words = set d.words p w;
      bytes = over d.bytes (start_at d.slots p) r;
    }

-- what a put of s needs
pub record Puts (slots words bytes : List ℕ) (p : ℕ) (s : List ℕ) : Type 0 where
  pub low : p < 6144
  pub slot : slot_end p ≤ length slots
  pub word : p < length words
  pub text : is_text (type_at slots p) ≡ true → start_at slots p + length s ≤ length bytes
  pub fixed : is_text (type_at slots p) ≡ false → size_of (type_at slots p) ≤ length s
