-- What is looked up in rows that name the same objects is the same, but for a list's count.
-- Assumes nothing.
use Rattle.std.specs.Prelude.{Option, Some, None}
use Prim.Native.Nat.{ℕ, zero, suc, ◌+◌, ◌-◌}
use mathlib.Core.Path.{◌≡◌, refl, ap, ◌∙◌}
use mathlib.Core.Bool.{Bool, true, false, cond}
use mathlib.Core.List.{List}
use native.Mathlib.Omega.{arith}
use lib.Dec.{eqb, leb}
use Rattle.entry.specs.Table.{number_of, index_at, kind_at, access_at, count_at, first_at, name_at, name_len_at, default_at, list_count}
use Rattle.entry.specs.Find.{find_from, find_row, sub_at, or_no_sub, on_row, place_of}
use Rattle.entry.specs.Same.{SameRows, uncounted}
use Rattle.entry.specs.declared.Place.TheVariants.{Count, Value}

pub index_same : {a b : List ℕ} → SameRows a b → (i : ℕ) → index_at a i ≡ index_at b i
index_same h i = h.column i 0 (omega arith)

pub kind-same : {a b : List ℕ} → SameRows a b → (i : ℕ) → kind_at a i ≡ kind_at b i
kind-same h i = h.column i 1 (omega arith)

pub access_same : {a b : List ℕ} → SameRows a b → (i : ℕ) → access_at a i ≡ access_at b i
access_same h i = h.column i 2 (omega arith)

pub count_same : {a b : List ℕ} → SameRows a b → (i : ℕ) → count_at a i ≡ count_at b i
count_same h i = h.column i 3 (omega arith)

pub first_same : {a b : List ℕ} → SameRows a b → (i : ℕ) → first_at a i ≡ first_at b i
first_same h i = h.column i 4 (omega arith)

pub name_same : {a b : List ℕ} → SameRows a b → (i : ℕ) → name_at a i ≡ name_at b i
name_same h i = h.column i 5 (omega arith)

pub name_length-same : {a b : List ℕ} → SameRows a b → (i : ℕ) → name_len_at a i ≡ name_len_at b i
name_length-same h i = h.column i 6 (omega arith)

pub default_same : {a b : List ℕ} → SameRows a b → (i : ℕ) → default_at a i ≡ default_at b i
default_same h i = h.column i 7 (omega arith)

from_same : {a b : List ℕ} → SameRows a b → (x k i : ℕ) → find_from a x k i ≡ find_from b x k i
unfolding find_from
from_same h x zero i = refl
from_same h x (suc k) i = rw (index_same h i) (rw (from_same h x k (suc i)) refl)

pub row_same : {a b : List ℕ} → SameRows a b → (x : ℕ) → find_row a x ≡ find_row b x
row_same {a} {b} h x = from_same h x (number_of a) 0 ∙ ap (λ n. find_from b x n 0) h.number

sub-uncounted : {a b : List ℕ} → SameRows a b → (i sub : ℕ) → uncounted (or_no_sub (sub_at a i sub)) ≡ uncounted (or_no_sub (sub_at b i sub))
unfolding sub_at
sub-uncounted {a} {b} h i sub =
    rw (kind-same h i) (rw (first_same h i) (rw (count_same h i) (go (eqb (kind_at b i) 0) (eqb sub 0) (leb sub (count_at b i)))))
  where
    go : (k s l : Bool) → uncounted (or_no_sub (cond k (cond s (Some (Value (first_at b i))) None) (cond s (Some (Count (list_count a i))) (cond l (Some (Value (first_at b i + (sub - 1)))) None))))
        ≡ uncounted (or_no_sub (cond k (cond s (Some (Value (first_at b i))) None) (cond s (Some (Count (list_count b i))) (cond l (Some (Value (first_at b i + (sub - 1)))) None))))
    go true true l = refl
    go true false l = refl
    go false true l = refl
    go false false true = refl
    go false false false = refl

on_uncounted : {a b : List ℕ} → SameRows a b → (sub : ℕ) (f : Option ℕ) → uncounted (on_row a sub f) ≡ uncounted (on_row b sub f)
on_uncounted h sub (Some i) = sub-uncounted h i sub
on_uncounted h sub None = refl

pub place-uncounted : {a b : List ℕ} → SameRows a b → (x sub : ℕ) → uncounted (place_of a x sub) ≡ uncounted (place_of b x sub)
place-uncounted {a} {b} h x sub = on_uncounted h sub (find_row a x) ∙ ap (λ f. uncounted (on_row b sub f)) (row_same h x)
