-- Whether four lent slices are a dictionary: one pass, with running totals. `Sound` says what that means.
-- Assumes nothing.
use Rattle.std.specs.Prelude.{ℕ, zero, suc, ◌+◌, ◌-◌, ◌≤◌, ◌≡◌, Bool, true, false, cond, ◌&&◌, List, length, take, drop, get_or, eqb, leb, Option, Some, None}
use Rattle.text.specs.Machine.{judge}
use Rattle.entry.specs.Table.{Dict, edition_of, Lies, model_of, number_of, values_of, used_of, row_place, slot_place, index_at, kind_at, access_at, count_at, first_at, name_at, name_len_at, default_at, extra_at, type_at, start_at, room_at}
use Rattle.entry.specs.Rules.{is_good, held_ok, head_ok, extra_ok, objs_ok, Few, is_edition}

-- what it means: the memory begins with the layout of the objects that it holds, and these keep the rules
pub record Sound (d : Dict) : Type 0 where
  pub lies : Lies (model_of d) d
  pub good : objs_ok 0 (model_of d) ≡ true
  pub few : Few (model_of d)
  pub edition : is_edition (edition_of d.objects) ≡ true

-- slot p is right where n elements are left and b bytes lie before its room
unfoldable pub slot_ok : Dict → ℕ → ℕ → ℕ → Bool
slot_ok d n p b =
    eqb (start_at d.slots p) b && (leb (room_at d.slots p) (used_of d.objects - b) && held_ok n (type_at d.slots p) (get_or d.words p 0) (room_at d.slots p) (drop b d.bytes))

-- the bytes that lie before the room behind k slots from slot p on, of which n are elements
unfoldable pub slots_from : Dict → ℕ → ℕ → ℕ → ℕ → Option ℕ
slots_from d n zero p b = Some b
slots_from d n (suc k) p b = cond (slot_ok d n p b) (slots_from d (n - 1) k (suc p) (b + room_at d.slots p)) None

abbrev pub used_at : List ℕ → ℕ → ℕ
used_at objects i = count_at objects i + default_at objects i

-- row i is right after v values and b bytes, with an index not below low
unfoldable pub row_ok : List ℕ → ℕ → ℕ → ℕ → ℕ → Bool
row_ok objects i v b low =
    leb low (index_at objects i)
    && (head_ok (index_at objects i) (kind_at objects i) (access_at objects i) (count_at objects i) (default_at objects i) (name_len_at objects i)
    && (eqb (first_at objects i) v && (eqb (name_at objects i) b && extra_ok (count_at objects i) (extra_at objects i))))

-- its values and its name have their place, and the name is text
unfoldable pub row_fits : List ℕ → List ℕ → ℕ → ℕ → ℕ → Bool
row_fits objects bytes i v b =
    leb (used_at objects i) (values_of objects - v) && (leb (name_len_at objects i) (used_of objects - b) && is_good (judge (take (name_len_at objects i) (drop b bytes))))

abbrev pub and_then : Option ℕ → (ℕ → Option (ℕ × ℕ)) → Option (ℕ × ℕ)
and_then (Some b) k = k b
and_then None k = None

-- the values and bytes behind k rows from row i on
unfoldable pub rows_from : Dict → ℕ → ℕ → ℕ → ℕ → ℕ → Option (ℕ × ℕ)
rows_from d zero i v b low = Some (v, b)
rows_from d (suc k) i v b low =
    cond (row_ok d.objects i v b low)
    (cond (row_fits d.objects d.bytes i v b)
    (and_then (slots_from d (count_at d.objects i) (used_at d.objects i) v (b + name_len_at d.objects i)) (λ e. rows_from d k (suc i) (v + used_at d.objects i) e (index_at d.objects i + 1)))
    None)
    None

-- the rest of the header: the edition, and zeros
unfoldable pub reserved : List ℕ → Bool
reserved s =
    is_edition (get_or s 3 0) && (eqb (get_or s 4 0) 0 && (eqb (get_or s 5 0) 0 && (eqb (get_or s 6 0) 0 && (eqb (get_or s 7 0) 0 && (eqb (get_or s 8 0) 0 && (eqb (get_or s 9 0) 0 && (eqb (get_or s 10 0) 0 && eqb (get_or s 11 0) 0)))))))

-- the header, and that the slices are long enough for it
unfoldable pub header_ok : Dict → Bool
header_ok d =
    leb (number_of d.objects) 1024 && (leb (row_place (number_of d.objects)) (length d.objects)
    && (leb (values_of d.objects) 6144 && (leb (slot_place (values_of d.objects)) (length d.slots) && (leb (values_of d.objects) (length d.words)
    && (leb (used_of d.objects) 32768 && (leb (used_of d.objects) (length d.bytes)
    && reserved d.objects))))))

abbrev pub whole_at : ℕ → ℕ → Option (ℕ × ℕ) → Bool
whole_at v b (Some n) = eqb n.0 v && eqb n.1 b
whole_at v b None = false

unfoldable pub well_formed : Dict → Bool
well_formed d = cond (header_ok d) (whole_at (values_of d.objects) (used_of d.objects) (rows_from d (number_of d.objects) 0 0 0 0)) false

-- what the walk over the rows needs
pub record Long (d : Dict) : Type 0 where
  pub few : number_of d.objects ≤ 1024
  pub rows : row_place (number_of d.objects) ≤ length d.objects
  pub values : values_of d.objects ≤ 6144
  pub slots : slot_place (values_of d.objects) ≤ length d.slots
  pub words : values_of d.objects ≤ length d.words
  pub total : used_of d.objects ≤ 32768
  pub bytes : used_of d.objects ≤ length d.bytes
