-- When the class of an aim is a field with its value: both ways. Assumes nothing.
use Rattle.std.specs.Prelude.{Option, Some, None, Result, Ok, Err}
use Rattle.mapping.specs.declared.Field.{Field}
use Rattle.mapping.specs.Word.{field_at}
use mathlib.Core.Path.{◌≡◌, refl}
use mathlib.Core.Bool.{Bool, true, false, cond}
use Prim.Native.Nat.{ℕ}
use native.Mathlib.Omega.{arith}
use Rattle.entry.specs.declared.Place.{Place}
use Rattle.entry.specs.declared.Place.TheVariants as place
use Rattle.entry.specs.declared.Missing.{Missing}
use Rattle.aim.specs.declared.Aim.{Aim}
use Rattle.aim.specs.declared.Class.TheVariants as class
use Rattle.aim.specs.Aims.{between, class_at, class_in, class_of}
use Rattle.aim.proofs.RangeLaws.{no_server, no_client, joined_range}

pub record Valued (a : Aim) (start n p : ℕ) : Type 0 where
  pub field : a.field ≡ field_at start n
  pub away : between 0x1200 0x12FF a.entry.index ≡ false
  pub placed : a.place ≡ Ok (place.Value p)

pub value_class : (a : Aim) (start n p : ℕ) → Valued a start n p → class_of a ≡ class.Value start n p
unfolding class_of
value_class a start n p v = rw (v.field, no_server a.entry.index v.away, no_client a.entry.index v.away, v.placed)

pub class_value : (a : Aim) (start n p : ℕ) → class_of a ≡ class.Value start n p → Valued a start n p
unfolding class_of
class_value a start n p e = fielded a.field refl e
  where
    x : ℕ
    x = a.entry.index

    at_place : (b m : ℕ) → a.field ≡ field_at b m → between 0x1200 0x12FF x ≡ false → (q : Result Place Missing) → a.place ≡ q → class_at b m q ≡ class.Value start n p → Valued a start n p
    at_place b m f w (Err r) h e = let z : ◌≡◌ {A = ℕ} 0 1 = cc in absurd (omega arith)
    at_place b m f w (Ok (place.Count k)) h e = let z : ◌≡◌ {A = ℕ} 0 1 = cc in absurd (omega arith)
    at_place b m f w (Ok (place.Value q)) h e = record { field = cc; away = w; placed = cc }

    ranged : (b m : ℕ) → a.field ≡ field_at b m → (s : Bool) → between 0x1200 0x127F x ≡ s → (c : Bool) → between 0x1280 0x12FF x ≡ c
        → cond s (class.Server b m) (cond c (class.Client b m) (class_at b m a.place)) ≡ class.Value start n p → Valued a start n p
    ranged b m f true h c k e = let z : ◌≡◌ {A = ℕ} 0 1 = cc in absurd (omega arith)
    ranged b m f false h true k e = let z : ◌≡◌ {A = ℕ} 0 1 = cc in absurd (omega arith)
    ranged b m f false h false k e = at_place b m f (joined_range x h k) a.place refl e

    fielded : (f : Option Field) → a.field ≡ f → class_in x a.place f ≡ class.Value start n p → Valued a start n p
    fielded None f e = let z : ◌≡◌ {A = ℕ} 0 1 = cc in absurd (omega arith)
    fielded (Some v) f e = ranged v.start v.length f (between 0x1200 0x127F x) refl (between 0x1280 0x12FF x) refl e
