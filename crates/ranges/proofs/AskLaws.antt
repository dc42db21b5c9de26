-- Reading, counting up, the mapping count, names, nodes and error bits, on rows that are alike.
-- Assumes nothing.
use Rattle.std.specs.Prelude.{Option, Some, None, Result, Ok, Err}
use Prim.Native.Nat.{ℕ, zero, suc}
use mathlib.Core.Path.{◌≡◌, refl, ap, ◌∙◌}
use mathlib.Core.Bool.{cond}
use mathlib.Core.List.{List}
use Rattle.entry.specs.Table.{dict, sends}
use Rattle.entry.specs.Find.{find_row, sub_at, place_of}
use Rattle.entry.specs.declared.Place.{Place}
use Rattle.entry.specs.declared.Place.TheVariants.{Count, Value}
use Rattle.entry.specs.declared.Missing.{Missing}
use Rattle.entry.specs.declared.Missing.TheVariants.{NoObject, NoSub}
use Rattle.od.specs.Read.{read_at}
use Rattle.counter.specs.Counter.{of_u32, in_row, counter_at}
use Rattle.pdo_validator.specs.Counting.{u16_at, limit_of, count_on, count_of}
use Rattle.names.specs.Names.{name_from}
use Rattle.nodes.specs.Nodes.{elements_on, elements_at, nodes_of}
use Rattle.pdo_step.specs.Bits.{bit_in, bit_at, marked_in}
use Rattle.ranges.specs.Alike.{Alike}
use Rattle.entry.proofs.SameLaws.{index_same, kind-same, count_same, first_same, name_same, name_length-same, row_same}
use Rattle.ranges.proofs.RowLaws.{sub_same, place_same}

read_at_same : (a b s w y : List ℕ) (q : Result Place Missing) → read_at (dict a s w y) q ≡ read_at (dict b s w y) q
read_at_same a b s w y (Err NoObject) = refl
read_at_same a b s w y (Err NoSub) = refl
read_at_same a b s w y (Ok (Count n)) = refl
read_at_same a b s w y (Ok (Value p)) = refl

pub read_same : {a b : List ℕ} → Alike a b → (s w y : List ℕ) (x sub : ℕ) → read_at (dict a s w y) (place_of a x sub) ≡ read_at (dict b s w y) (place_of b x sub)
read_same {a} {b} h s w y x sub = read_at_same a b s w y (place_of a x sub) ∙ ap (read_at (dict b s w y)) (place_same h x sub)

-- ---- the counter
u32_same : (a b s w y : List ℕ) (q : Option Place) → of_u32 (dict a s w y) q ≡ of_u32 (dict b s w y) q
u32_same a b s w y None = refl
u32_same a b s w y (Some (Count n)) = refl
u32_same a b s w y (Some (Value p)) = refl

in_row-same : {a b : List ℕ} → Alike a b → (s w y : List ℕ) (sub : ℕ) (f : Option ℕ) → in_row (dict a s w y) sub f ≡ in_row (dict b s w y) sub f
in_row-same {a} {b} h s w y sub (Some i) = rw (kind-same h.rows i) (rw (sub_same h i sub) (rw (u32_same a b s w y (sub_at b i sub)) refl))
in_row-same h s w y sub None = refl

pub counter_same : {a b : List ℕ} → Alike a b → (s w y : List ℕ) (x sub : ℕ) → counter_at (dict a s w y) x sub ≡ counter_at (dict b s w y) x sub
unfolding counter_at
counter_same {a} {b} h s w y x sub = in_row-same h s w y sub (find_row a x) ∙ ap (in_row (dict b s w y) sub) (row_same h.rows x)

-- ---- the mapping count
u16_same : (a b s w y : List ℕ) (q : Result Place Missing) → u16_at (dict a s w y) q ≡ u16_at (dict b s w y) q
u16_same a b s w y (Err m) = refl
u16_same a b s w y (Ok (Count n)) = refl
u16_same a b s w y (Ok (Value p)) = refl

limit_same : {a b : List ℕ} → Alike a b → (s w y : List ℕ) (x : ℕ) → limit_of (dict a s w y) x ≡ limit_of (dict b s w y) x
unfolding limit_of
limit_same {a} {b} h s w y x =
    let sub : ℕ = cond (sends x) 1 2 in u16_same a b s w y (place_of a 0x1F98 sub) ∙ ap (u16_at (dict b s w y)) (place_same h 0x1F98 sub)

count_on_same : {a b : List ℕ} → Alike a b → (s w y : List ℕ) (x n : ℕ) (f : Option ℕ) → count_on (dict a s w y) x n f ≡ count_on (dict b s w y) x n f
unfolding count_on
count_on_same h s w y x n (Some i) = rw (kind-same h.rows i) (rw (count_same h.rows i) (rw (first_same h.rows i) (rw (limit_same h s w y x) refl)))
count_on_same h s w y x n None = refl

pub mapping_count-same : {a b : List ℕ} → Alike a b → (s w y : List ℕ) (x n : ℕ) → count_of (dict a s w y) x n ≡ count_of (dict b s w y) x n
unfolding count_of
mapping_count-same {a} {b} h s w y x n = rw (row_same h.rows x) (rw (count_on_same h s w y x n (find_row b x)) refl)

-- ---- names and nodes
pub name_from_same : {a b : List ℕ} → Alike a b → (s w y name : List ℕ) (k i : ℕ) → name_from (dict a s w y) name k i ≡ name_from (dict b s w y) name k i
unfolding name_from
name_from_same h s w y name zero i = refl
name_from_same h s w y name (suc k) i =
    rw (name_length-same h.rows i) (rw (name_same h.rows i) (rw (index_same h.rows i) (rw (name_from_same h s w y name k (suc i)) refl)))

elements_on_same : {a b : List ℕ} → Alike a b → (f : Option ℕ) → elements_on a f ≡ elements_on b f
elements_on_same h (Some i) = rw (kind-same h.rows i) (rw (count_same h.rows i) (rw (first_same h.rows i) refl))
elements_on_same h None = refl

elements_same : {a b : List ℕ} → Alike a b → elements_at a ≡ elements_at b
unfolding elements_at
elements_same {a} {b} h = elements_on_same h (find_row a 0x1F81) ∙ ap (elements_on b) (row_same h.rows 0x1F81)

pub nodes_same : {a b : List ℕ} → Alike a b → (s w y : List ℕ) → nodes_of (dict a s w y) ≡ nodes_of (dict b s w y)
unfolding nodes_of
nodes_same h s w y = rw (elements_same h) refl

-- ---- error bits
bit_in_same : {a b : List ℕ} → Alike a b → (s w : List ℕ) (n : ℕ) (f : Option ℕ) → bit_in a s w n f ≡ bit_in b s w n f
bit_in_same h s w n (Some i) = rw (kind-same h.rows i) (rw (first_same h.rows i) refl)
bit_in_same h s w n None = refl

bit_same : {a b : List ℕ} → Alike a b → (s w : List ℕ) (x n : ℕ) → bit_at a s w x n ≡ bit_at b s w x n
unfolding bit_at
bit_same {a} {b} h s w x n = rw (row_same h.rows x) (rw (bit_in_same h s w n (find_row b x)) refl)

pub marked-same : {a b : List ℕ} → Alike a b → (s w y : List ℕ) (x n : ℕ) → marked_in a s w y x n ≡ marked_in b s w y x n
unfolding marked_in
marked-same h s w y x n = rw (bit_same h s w x n) refl
