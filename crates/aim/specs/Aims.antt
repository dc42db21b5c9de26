-- A mapping word read against the rows, and what that makes of it: RULES.md R4, R11.5 and R12.2. Assumes nothing.
use Rattle.mapping.specs.declared.Field.{Field}
use Rattle.std.specs.Prelude.{ℕ, Bool, cond, ◌&&◌, List, leb, Option, Some, None, Result, Ok, Err}
use Rattle.mapping.specs.Word.{entry_of, field_of}
use Rattle.entry.specs.Find.{place_of}
use Rattle.entry.specs.declared.Place.{Place}
use Rattle.entry.specs.declared.Place.TheVariants as place
use Rattle.entry.specs.declared.Missing.{Missing}
use Rattle.aim.specs.declared.Aim.{Aim}
use Rattle.aim.specs.declared.Class.{Class}
use Rattle.aim.specs.declared.Class.TheVariants as class

-- what the word says, its field, and what there is at its index and sub-index
abbrev pub aim_of : List ℕ → ℕ → Aim
aim_of objects w = record { entry = entry_of w; field = field_of (entry_of w); place = place_of objects (entry_of w).index (entry_of w).sub_index }

abbrev pub between : ℕ → ℕ → ℕ → Bool
between low high x = leb low x && leb x high

-- "the target is missing"; else a list's sub-index 0, or a value
abbrev pub class_at : ℕ → ℕ → Result Place Missing → Class
class_at start n (Err m) = class.NoTarget
class_at start n (Ok (place.Count k)) = class.Count start n
class_at start n (Ok (place.Value p)) = class.Value start n p

-- "misaligned"; "index 1200h..127Fh: to the SDO server", "1280h..12FFh: to the SDO client"
abbrev pub class_in : ℕ → Result Place Missing → Option Field → Class
class_in x q None = class.Misaligned
class_in x q (Some v) =
    cond (between 0x1200 0x127F x) (class.Server v.start v.length) (cond (between 0x1280 0x12FF x) (class.Client v.start v.length) (class_at v.start v.length q))

unfoldable pub class_of : Aim → Class
class_of a = class_in a.entry.index a.place a.field
