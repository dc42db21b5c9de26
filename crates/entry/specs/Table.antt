-- The four lent slices: their columns, the objects that they hold, and what it means that they hold them in canonical layout.
-- Assumes nothing.
use Rattle.std.specs.Prelude.{ℕ, zero, suc, ◌+◌, ◌*◌, ◌≡◌, Bool, cond, ◌&&◌, ◌||◌, List, [], ◌∷◌, take, drop, get_or, eqb, leb, ltb}
use Rattle.lists.specs.Lists.{over}
use Rattle.entry.specs.declared.Extra.{Extra}
use Rattle.entry.specs.Model.{Val, Obj, all_objects, all_slots, all_words, all_bytes}

pub record Dict : Type 0 where
  pub objects : List ℕ
  pub slots : List ℕ
  pub words : List ℕ
  pub bytes : List ℕ

abbrev pub dict : List ℕ → List ℕ → List ℕ → List ℕ → Dict
dict objects slots words bytes = record { objects = objects; slots = slots; words = words; bytes = bytes }

-- the header: how many objects, values and bytes
abbrev pub number_of : List ℕ → ℕ
number_of objects = get_or objects 0 0

abbrev pub values_of : List ℕ → ℕ
values_of objects = get_or objects 1 0

abbrev pub used_of : List ℕ → ℕ
used_of objects = get_or objects 2 0

abbrev pub edition_of : List ℕ → ℕ
edition_of objects = get_or objects 3 0

-- where row i and slot p begin and end, and their columns that count what lies before
abbrev pub row_place : ℕ → ℕ
row_place i = 12 * i + 12

abbrev pub row_end : ℕ → ℕ
row_end i = 12 * i + 24

abbrev pub first_place : ℕ → ℕ
first_place i = 12 * i + 16

abbrev pub name_place : ℕ → ℕ
name_place i = 12 * i + 17

abbrev pub kept_place : ℕ → ℕ
kept_place i = 12 * i + 20

abbrev pub slot_place : ℕ → ℕ
slot_place p = 3 * p

abbrev pub slot_end : ℕ → ℕ
slot_end p = 3 * p + 3

abbrev pub start_place : ℕ → ℕ
start_place p = 3 * p + 1

-- the columns of row i, and of slot p
abbrev pub index_at : List ℕ → ℕ → ℕ
index_at objects i = get_or objects (row_place i) 0

abbrev pub kind_at : List ℕ → ℕ → ℕ
kind_at objects i = get_or objects (12 * i + 13) 0

abbrev pub access_at : List ℕ → ℕ → ℕ
access_at objects i = get_or objects (12 * i + 14) 0

abbrev pub count_at : List ℕ → ℕ → ℕ
count_at objects i = get_or objects (12 * i + 15) 0

abbrev pub first_at : List ℕ → ℕ → ℕ
first_at objects i = get_or objects (first_place i) 0

abbrev pub name_at : List ℕ → ℕ → ℕ
name_at objects i = get_or objects (name_place i) 0

abbrev pub name_len_at : List ℕ → ℕ → ℕ
name_len_at objects i = get_or objects (12 * i + 18) 0

abbrev pub default_at : List ℕ → ℕ → ℕ
default_at objects i = get_or objects (12 * i + 19) 0

abbrev pub kept_at : List ℕ → ℕ → ℕ
kept_at objects i = get_or objects (kept_place i) 0

abbrev pub extra_at : List ℕ → ℕ → Extra
extra_at objects i = record { kept = kept_at objects i; ranged = get_or objects (12 * i + 21) 0; low = get_or objects (12 * i + 22) 0; high = get_or objects (12 * i + 23) 0 }

-- "A mapping index is one of 1600h..16FFh, 1A00h..1AFFh."
abbrev pub receives : ℕ → Bool
receives x = leb 0x1600 x && leb x 0x16FF

abbrev pub sends : ℕ → Bool
sends x = leb 0x1A00 x && leb x 0x1AFF

abbrev pub is_mapping : ℕ → Bool
is_mapping x = receives x || sends x

-- R5.15: in edition 2 as many elements of a mapping are in use as its kept count says, else all of them: of index x, of n elements
abbrev pub in_use : ℕ → ℕ → ℕ → ℕ → ℕ
in_use edition x kept n = cond (eqb edition 2 && is_mapping x) kept n

-- so of the list in row i
unfoldable pub list_count : List ℕ → ℕ → ℕ
list_count objects i = in_use (edition_of objects) (index_at objects i) (kept_at objects i) (count_at objects i)

abbrev pub type_at : List ℕ → ℕ → ℕ
type_at slots p = get_or slots (slot_place p) 0

abbrev pub start_at : List ℕ → ℕ → ℕ
start_at slots p = get_or slots (start_place p) 0

abbrev pub room_at : List ℕ → ℕ → ℕ
room_at slots p = get_or slots (3 * p + 2) 0

-- row i of some objects, and slot p of some slots
pub record RowAt : Type 0 where
  pub objects : List ℕ
  pub i : ℕ

pub record SlotAt : Type 0 where
  pub slots : List ℕ
  pub p : ℕ

-- value p, and the k values from value p on
abbrev pub val_at : Dict → ℕ → Val
val_at d p = record { type = type_at d.slots p; word = get_or d.words p 0; room = take (room_at d.slots p) (drop (start_at d.slots p) d.bytes) }

unfoldable pub vals_from : Dict → ℕ → ℕ → List Val
vals_from d zero p = []
vals_from d (suc k) p = val_at d p ∷ vals_from d k (suc p)

-- object i, and the k objects from object i on
abbrev pub obj_at : Dict → ℕ → Obj
obj_at d i =
    record {
      index = index_at d.objects i;
      kind = kind_at d.objects i;
      access = access_at d.objects i;
      default = default_at d.objects i;
      extra = extra_at d.objects i;
      name = take (name_len_at d.objects i) (drop (name_at d.objects i) d.bytes);
      values = vals_from d (count_at d.objects i + default_at d.objects i) (first_at d.objects i);
    }

unfoldable pub objs_from : Dict → ℕ → ℕ → List Obj
objs_from d zero i = []
objs_from d (suc k) i = obj_at d i ∷ objs_from d k (suc i)

-- the objects that d holds, read as the rows say
abbrev pub model_of : Dict → List Obj
model_of d = objs_from d (number_of d.objects) 0

-- objects laid over the memory, in canonical layout; what lies behind stays
abbrev pub laid : List Obj → Dict → Dict
laid os d =
    record {
      objects = over d.objects 0 (all_objects (edition_of d.objects) os);
      slots = over d.slots 0 (all_slots 0 os);
      words = over d.words 0 (all_words os);
      bytes = over d.bytes 0 (all_bytes os);
    }

-- the memory begins with the canonical layout of os
pub record Lies (os : List Obj) (d : Dict) : Type 0 where
  pub objects : over d.objects 0 (all_objects (edition_of d.objects) os) ≡ d.objects
  pub slots : over d.slots 0 (all_slots 0 os) ≡ d.slots
  pub words : over d.words 0 (all_words os) ≡ d.words
  pub bytes : over d.bytes 0 (all_bytes os) ≡ d.bytes

-- how many values (column 16, total 1) or bytes (column 17, total 2) lie before object i
abbrev pub before : List ℕ → ℕ → ℕ → ℕ → ℕ
before objects i column total = cond (ltb i (number_of objects)) (get_or objects (12 * i + column) 0) (get_or objects total 0)

abbrev pub values_before : List ℕ → ℕ → ℕ
values_before objects i = before objects i 16 1

abbrev pub bytes_before : List ℕ → ℕ → ℕ
bytes_before objects i = before objects i 17 2
