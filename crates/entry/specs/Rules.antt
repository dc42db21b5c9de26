-- The rules that values and objects keep, in a dictionary and in what an insertion is given: RULES.md 5.
-- Assumes nothing.
use Rattle.std.specs.Prelude.{ℕ, ◌+◌, ◌-◌, ◌≤◌, Bool, true, false, cond, not, ◌&&◌, ◌||◌, List, [], ◌∷◌, length, take, eqb, leb, ltb, Result, Ok, Err}
use Rattle.text.specs.Machine.{judge}
use Rattle.value.specs.Codec.{is_text, fits_type, takes, text_word}
use Rattle.value.specs.Order.{ordered}
use Rattle.entry.specs.declared.Extra.{Extra}
use Rattle.entry.specs.Model.{Val, Obj, used, all_words, all_bytes}

abbrev pub is_good : Result (Unit {0}) ℕ → Bool
is_good (Ok _) = true
is_good (Err k) = false

-- a word w of type t in a room of r bytes that begins with s: a text or bytes within the room, good over their current length; else a number
-- of the type's size
unfoldable pub word_ok : ℕ → ℕ → ℕ → List ℕ → Bool
word_ok t w r s = cond (is_text t) (leb w r && takes (text_word t (take w s))) (fits_type t w)

unfoldable pub val_ok : ℕ → ℕ → ℕ → List ℕ → Bool
val_ok t w r s = leb t 20 && (leb r 1490 && word_ok t w r s)

-- a default has no room: just its bytes
abbrev pub tight : ℕ → ℕ → ℕ → Bool
tight t w r = eqb r (cond (is_text t) w 0)

-- a value where n elements are left; where none is, it is the default
unfoldable pub held_ok : ℕ → ℕ → ℕ → ℕ → List ℕ → Bool
held_ok n t w r s = val_ok t w r s && (ltb 0 n || tight t w r)

-- n elements, then the default
unfoldable pub vals_ok : ℕ → List Val → Bool
vals_ok n [] = true
vals_ok n (x ∷ xs) = held_ok n x.type x.word (length x.room) x.room && vals_ok (n - 1) xs

-- index, kind, access, how many elements, default or none, and the name's length
unfoldable pub head_ok : ℕ → ℕ → ℕ → ℕ → ℕ → ℕ → Bool
head_ok index kind access count flag len =
    ltb index 65536 && (ltb kind 3 && (ltb access 8 && (leb count 254 && ((not (eqb kind 0) || eqb count 1) && (leb flag 1 && leb len 32)))))

-- R5.13: no range, of type 0, or two words of one integer type, of which the first means no more than the second
unfoldable pub range_ok : ℕ → ℕ → ℕ → Bool
range_ok t low high =
    cond (eqb t 0)
    (eqb low 0 && eqb high 0)
    (leb t 8 && (fits_type t low && (fits_type t high && ordered t low high)))

-- what a row has beside that, where it has n elements: R5.15, a kept count of no more than these, and a range
unfoldable pub extra_ok : ℕ → Extra → Bool
extra_ok n e = leb e.kept n && range_ok e.ranged e.low e.high

-- how many elements
abbrev pub count : Obj → ℕ
count o = used o - o.default

abbrev pub obj_ok : Obj → Bool
obj_ok o =
    head_ok o.index o.kind o.access (count o) o.default (length o.name)
    && (leb o.default (used o) && (is_good (judge o.name) && (extra_ok (count o) o.extra && vals_ok (count o) o.values)))

-- all objects are right, and their indices rise from low on
unfoldable pub objs_ok : ℕ → List Obj → Bool
objs_ok low [] = true
objs_ok low (o ∷ os) = leb low o.index && (obj_ok o && objs_ok (o.index + 1) os)

-- the totals
pub record Few (os : List Obj) : Type 0 where
  pub objects : length os ≤ 1024
  pub values : length (all_words os) ≤ 6144
  pub bytes : length (all_bytes os) ≤ 32768

-- R5.15: the edition of the mapping rules that a dictionary keeps
unfoldable pub is_edition : ℕ → Bool
is_edition e = eqb e 1 || eqb e 2
