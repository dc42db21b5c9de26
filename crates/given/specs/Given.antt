-- What an insertion is given, and when it is no object: RULES.md 6, R6.1 and R6.3.
-- Three words a value: its type, the size of its room, the byte count of its encoding. All encodings lie back to back.
-- Assumes nothing.
use Rattle.std.specs.Prelude.{ℕ, zero, suc, ◌+◌, ◌-◌, ◌*◌, ◌/◌, ◌≤◌, ◌<◌, ◌≡◌, Bool, true, false, cond, ◌&&◌, ◌||◌, List, [], ◌∷◌, ◌++◌, length, take, drop, get_or, replicate, eqb, leb, ltb, Option, Some, None}
use Rattle.lists.specs.Numbers.{number}
use Rattle.value.specs.Codec.{size_of, is_text}
use Rattle.entry.specs.declared.Extra.{Extra}
use Rattle.entry.specs.Model.{Val, Obj, size}
use Rattle.entry.specs.Rules.{range_ok, val_ok, tight, obj_ok}
use Rattle.given.specs.declared.Head.{Head}

abbrev pub type_in : List ℕ → ℕ → ℕ
type_in vals j = get_or vals (3 * j) 0

abbrev pub room_in : List ℕ → ℕ → ℕ
room_in vals j = get_or vals (3 * j + 1) 0

abbrev pub length_in : List ℕ → ℕ → ℕ
length_in vals j = get_or vals (3 * j + 2) 0

-- R5.4: a string's word is its length, a fixed type's the number of its bytes
abbrev pub word_in : ℕ → List ℕ → ℕ
word_in t s = cond (is_text t) (length s) (number s)

-- a string lies in its room, a fixed value does not (R5.7)
abbrev pub held : ℕ → List ℕ → List ℕ
held t s = cond (is_text t) s []

-- R6.6: "Bytes behind the value in a new room are 0"
unfoldable pub room_of : ℕ → List ℕ → List ℕ
room_of r xs = take r (xs ++ replicate r 0)

-- the value of type t with a room of r bytes that s encodes
abbrev pub val_in : ℕ → ℕ → List ℕ → Val
val_in t r s = record { type = t; word = word_in t s; room = room_of r (held t s) }

-- the k values from value j on, whose encodings start at place t
unfoldable pub given : List ℕ → List ℕ → ℕ → ℕ → ℕ → List Val
given vals encodings zero j t = []
given vals encodings (suc k) j t =
    val_in (type_in vals j) (room_in vals j) (take (length_in vals j) (drop t encodings)) ∷ given vals encodings k (suc j) (t + length_in vals j)

-- how many values, and the object; its default, where it has one, is the last of them
abbrev pub count_in : List ℕ → ℕ
count_in vals = length vals / 3

-- what it has beside its n elements: R6.8, they are all in use; and its range
abbrev pub extra_in : Head → ℕ → Extra
extra_in h n = record { kept = n; ranged = h.low_type; low = h.low; high = h.high }

-- R6.7: the ends have one type, and are a range of it, or none
abbrev pub range_in : Head → Bool
range_in h = eqb h.low_type h.high_type && range_ok h.low_type h.low h.high

abbrev pub obj_in : Head → List ℕ → List ℕ → List ℕ → Obj
obj_in h name vals encodings =
    record { index = h.index; kind = h.kind; access = h.access; default = h.default; extra = extra_in h (count_in vals - h.default); name = name; values = given vals encodings (count_in vals) 0 0 }

-- ---- BadValue
-- R3.4: "a fixed type's byte count is not its size"
abbrev pub sized : ℕ → ℕ → Bool
sized t n = is_text t || eqb n (size_of t)

unfoldable pub sized_in : List ℕ → ℕ → ℕ → Bool
sized_in vals zero j = true
sized_in vals (suc k) j = sized (type_in vals j) (length_in vals j) && sized_in vals k (suc j)

-- the byte counts, and the rooms, of k values from value j on
unfoldable pub lengths_in : List ℕ → ℕ → ℕ → ℕ
lengths_in vals zero j = 0
lengths_in vals (suc k) j = length_in vals j + lengths_in vals k (suc j)

unfoldable pub rooms_in : List ℕ → ℕ → ℕ → ℕ
rooms_in vals zero j = 0
rooms_in vals (suc k) j = room_in vals j + rooms_in vals k (suc j)

-- R6.3: the description adds up with the bytes given, and the object keeps the rules that every object keeps
unfoldable pub right_in : Head → List ℕ → List ℕ → List ℕ → Bool
right_in h name vals encodings =
    eqb (3 * count_in vals) (length vals)
    && (eqb (lengths_in vals (count_in vals) 0) (length encodings) && (sized_in vals (count_in vals) 0 && (eqb h.low_type h.high_type && obj_ok (obj_in h name vals encodings))))

-- the bytes that it takes, where it is right
abbrev pub size_in : Head → List ℕ → List ℕ → List ℕ → Option ℕ
size_in h name vals encodings = cond (right_in h name vals encodings) (Some (size (obj_in h name vals encodings))) None

-- ---- the same from left to right, as the code goes
-- a value, an element or else the default
unfoldable pub value_ok : Bool → ℕ → ℕ → List ℕ → Bool
value_ok element t r s =
    sized t (length s) && (val_ok t (word_in t s) r (room_of r (held t s)) && (element || tight t (word_in t s) r))

-- the k values from value j on, of which those below c are elements: their encodings are all from place t on; the bytes that their rooms
-- take, on top of g
unfoldable pub vals_in : List ℕ → List ℕ → ℕ → ℕ → ℕ → ℕ → ℕ → Option ℕ
vals_in vals encodings c zero j t g = cond (eqb t (length encodings)) (Some g) None
vals_in vals encodings c (suc k) j t g =
    cond (leb (length_in vals j) (length encodings - t) && value_ok (ltb j c) (type_in vals j) (room_in vals j) (take (length_in vals j) (drop t encodings)))
    (vals_in vals encodings c k (suc j) (t + length_in vals j) (g + room_in vals j))
    None

-- their slots, whose rooms start at b
unfoldable pub slots_in : List ℕ → ℕ → ℕ → ℕ → List ℕ
slots_in vals zero j b = []
slots_in vals (suc k) j b = type_in vals j ∷ b ∷ room_in vals j ∷ slots_in vals k (suc j) (b + room_in vals j)

-- how many bytes of its room a value takes
abbrev pub held_in : List ℕ → ℕ → ℕ
held_in vals j = cond (is_text (type_in vals j)) (length_in vals j) 0

-- u values that fit their rooms and lie within the encodings
pub record Values (vals encodings : List ℕ) (u : ℕ) : Type 0 where
  pub few : u ≤ 255
  pub long : 3 * u ≤ length vals
  pub encoded : lengths_in vals u 0 ≤ length encodings
  pub within : (j : ℕ) → j < u → held_in vals j ≤ room_in vals j
  pub short : (j : ℕ) → j < u → is_text (type_in vals j) ≡ false → length_in vals j ≤ 8
