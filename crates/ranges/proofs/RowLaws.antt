-- What is looked up in rows that are alike is the same.
-- Assumes nothing.
use Rattle.std.specs.Prelude.{Option, Some, None}
use Prim.Native.Nat.{ℕ}
use mathlib.Core.Path.{◌≡◌, refl, ap, ◌∙◌}
use mathlib.Core.List.{List}
use Rattle.entry.specs.Table.{list_count}
use Rattle.entry.specs.Find.{find_row, sub_at, or_no_sub, on_row, place_of}
use Rattle.entry.proofs.SameLaws.{index_same, kind-same, count_same, first_same, row_same}
use Rattle.ranges.specs.Alike.{Alike}

pub list_same : {a b : List ℕ} → Alike a b → (i : ℕ) → list_count a i ≡ list_count b i
unfolding list_count
list_same h i = rw h.edition (rw (index_same h.rows i) (rw (h.kept i) (rw (count_same h.rows i) refl)))

pub sub_same : {a b : List ℕ} → Alike a b → (i sub : ℕ) → sub_at a i sub ≡ sub_at b i sub
unfolding sub_at
sub_same h i sub = rw (kind-same h.rows i) (rw (first_same h.rows i) (rw (list_same h i) (rw (count_same h.rows i) refl)))

on_same : {a b : List ℕ} → Alike a b → (sub : ℕ) (f : Option ℕ) → on_row a sub f ≡ on_row b sub f
on_same h sub (Some i) = ap or_no_sub (sub_same h i sub)
on_same h sub None = refl

pub place_same : {a b : List ℕ} → Alike a b → (x sub : ℕ) → place_of a x sub ≡ place_of b x sub
place_same {a} {b} h x sub = on_same h sub (find_row a x) ∙ ap (on_row b sub) (row_same h.rows x)
