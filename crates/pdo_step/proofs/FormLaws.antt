-- An outcome by the word's field, its index and its place in turn, as proofs take it apart. Assumes nothing.
use Rattle.std.specs.Prelude.{Option, Some, None, Result, Ok, Err}
use Rattle.mapping.specs.declared.Field.{Field}
use mathlib.Core.Path.{◌≡◌, refl}
use mathlib.Core.Bool.{Bool, true, false, cond}
use mathlib.Core.List.{List}
use Prim.Native.Nat.{ℕ, ◌+◌}
use lib.Dec.{ltb}
use lib.ListN.{length}
use Rattle.value.specs.Codec.{word_at}
use Rattle.mapping.specs.Word.{entry_of, field_of}
use Rattle.mapping.specs.declared.PdoMappingEntry.{PdoMappingEntry}
use Rattle.entry.specs.Table.{type_at}
use Rattle.entry.specs.Find.{place_of}
use Rattle.entry.specs.declared.Place.{Place}
use Rattle.entry.specs.declared.Place.TheVariants.{Count, Value}
use Rattle.entry.specs.declared.Missing.{Missing}
use Rattle.aim.specs.Aims.{between, class_at, class_in, class_of}
use Rattle.aim.specs.declared.Class.TheVariants as class
use Rattle.pdo_step.specs.declared.Outcome.{Outcome}
use Rattle.pdo_step.specs.declared.Outcome.TheVariants as outcome
use Rattle.pdo_step.specs.Outcomes.{part, on_count, on_value, on_class, inside, outcome_of}

abbrev pub on_place : List ℕ → List ℕ → ℕ → ℕ → ℕ → Result Place Missing → Outcome
on_place slots payload x start n (Err m) = outcome.NoTarget
on_place slots payload x start n (Ok (Count c)) = on_count x n
on_place slots payload x start n (Ok (Value p)) = on_value slots p start n (word_at (type_at slots p) (part payload start n))

unfoldable pub on_index : List ℕ → List ℕ → List ℕ → PdoMappingEntry → ℕ → ℕ → Outcome
on_index objects slots payload e start n =
    cond (between 0x1200 0x127F e.index)
    (outcome.Server e.index start n)
    (cond (between 0x1280 0x12FF e.index)
    (outcome.Client e.index start n)
    (on_place slots payload e.index start n (place_of objects e.index e.sub_index)))

abbrev pub on_field : List ℕ → List ℕ → List ℕ → PdoMappingEntry → Option Field → Outcome
on_field objects slots payload e None = outcome.Misaligned
on_field objects slots payload e (Some v) = cond (ltb (length payload) (v.start + v.length)) outcome.Short (on_index objects slots payload e v.start v.length)

pub outcome_form : (objects slots payload : List ℕ) (w : ℕ) → outcome_of objects slots payload w ≡ on_field objects slots payload (entry_of w) (field_of (entry_of w))
unfolding outcome_of class_of on_index
outcome_form objects slots payload w = fielded (field_of (entry_of w))
  where
    x : ℕ
    x = (entry_of w).index

    sub : ℕ
    sub = (entry_of w).sub_index

    placed : (start n : ℕ) (q : Result Place Missing) → on_class slots payload x (class_at start n q) ≡ on_place slots payload x start n q
    placed start n (Err m) = refl
    placed start n (Ok (Count k)) = refl
    placed start n (Ok (Value p)) = refl

    ranged : (start n : ℕ) (server client : Bool)
        → on_class slots payload x (cond server (class.Server start n) (cond client (class.Client start n) (class_at start n (place_of objects x sub))))
        ≡ cond server (outcome.Server x start n) (cond client (outcome.Client x start n) (on_place slots payload x start n (place_of objects x sub)))
    ranged start n true client = refl
    ranged start n false true = refl
    ranged start n false false = placed start n (place_of objects x sub)

    fielded : (f : Option Field) → inside payload f (on_class slots payload x (class_in x (place_of objects x sub) f)) ≡ on_field objects slots payload (entry_of w) f
    fielded None = refl
    fielded (Some v) = rw (ranged v.start v.length (between 0x1200 0x127F x) (between 0x1280 0x12FF x))
