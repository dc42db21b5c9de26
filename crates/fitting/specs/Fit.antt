-- What a restore gives each value, and whether it fits its room: RULES.md 10. Assumes nothing.
use Rattle.std.specs.Prelude.{ℕ, zero, suc, ◌+◌, Bool, true, cond, not, ◌&&◌, ◌||◌, List, eqb, leb, get_or, Option, Some, None}
use Rattle.value.specs.Codec.{is_text}
use Rattle.entry.specs.Table.{Dict, index_at, kind_at, count_at, first_at, default_at, type_at, room_at}
use Rattle.image.specs.Ranges.{covers}
use Rattle.image.specs.Image.{sub_in}
use Rattle.image.specs.Readable.{key_of, type_in, size_at}
use Rattle.fitting.specs.declared.Choice.{Choice}
use Rattle.fitting.specs.declared.Choice.TheVariants.{Keep, Stored, Default}
use Rattle.fitting.specs.Records.{record_of}

-- value k of row i, and the row's default
abbrev pub slot_in : List ℕ → ℕ → ℕ → ℕ
slot_in objects i k = first_at objects i + k

abbrev pub default_in : List ℕ → ℕ → ℕ
default_in objects i = first_at objects i + count_at objects i

abbrev pub key_at : List ℕ → ℕ → ℕ → ℕ
key_at objects i k = key_of (index_at objects i) (sub_in (kind_at objects i) k)

-- R10.9: "the record at exactly its place wins, of whatever type"; "Else the object's default: for a Variable always, for a list's
-- element only where its type is the element's current type. Else the value stays."
abbrev pub has_default : Dict → ℕ → ℕ → Bool
has_default d i k =
    eqb (default_at d.objects i) 1
    && (eqb (kind_at d.objects i) 0 || eqb (type_at d.slots (default_in d.objects i)) (type_at d.slots (slot_in d.objects i k)))

abbrev pub choice_of : Dict → ℕ → ℕ → Option ℕ → Choice
choice_of d i k (Some a) = Stored a
choice_of d i k None = cond (has_default d i k) (Default (default_in d.objects i)) Keep

unfoldable pub chosen_at : Dict → List ℕ → ℕ → ℕ → Choice
chosen_at d s i k = choice_of d i k (record_of s (key_at d.objects i k))

-- R10.10: "a string longer than its room"
unfoldable pub fits_room : Dict → List ℕ → ℕ → Choice → Bool
fits_room d s p Keep = true
fits_room d s p (Stored a) = not (is_text (type_in s a)) || leb (size_at s a) (room_at d.slots p)
fits_room d s p (Default q) = not (is_text (type_at d.slots q)) || leb (get_or d.words q 0) (room_at d.slots p)

-- ---- n values of row i, from value k on
unfoldable pub values_fit : Dict → List ℕ → ℕ → ℕ → ℕ → Bool
values_fit d s i zero k = true
values_fit d s i (suc n) k = fits_room d s (slot_in d.objects i k) (chosen_at d s i k) && values_fit d s i n (suc k)

-- ---- n rows, from row i on: "each object of the range but 1003h"
abbrev pub restorable : ℕ → Bool
restorable x = not (eqb x 0x1003)

abbrev pub in_range : ℕ → ℕ → ℕ → Bool
in_range first last x = covers first last x && restorable x

unfoldable pub rows_fit : Dict → List ℕ → ℕ → ℕ → ℕ → ℕ → Bool
rows_fit d s first last zero i = true
rows_fit d s first last (suc n) i =
    (not (in_range first last (index_at d.objects i)) || values_fit d s i (count_at d.objects i) 0) && rows_fit d s first last n (suc i)
