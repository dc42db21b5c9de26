-- Looking an object and a value up: in the table, and in the model.
-- Assumes nothing.
use Rattle.std.specs.Prelude.{ℕ, zero, suc, ◌+◌, ◌-◌, ◌≤◌, ◌<◌, cond, List, [], ◌∷◌, eqb, leb, ltb, length, Option, Some, None, Result, Ok, Err}
use Rattle.entry.specs.Model.{Val, Obj}
use Rattle.entry.specs.Table.{Dict, number_of, row_place, slot_place, index_at, kind_at, count_at, in_use, list_count, first_at, val_at, obj_at}
use Rattle.entry.specs.Rules.{count}
use Rattle.entry.specs.declared.Place.{Place}
use Rattle.entry.specs.declared.Place.TheVariants.{Count, Value}
use Rattle.entry.specs.declared.Missing.{Missing}
use Rattle.entry.specs.declared.Missing.TheVariants.{NoObject, NoSub}

-- the first of the k rows from row i on that has index x
unfoldable pub find_from : List ℕ → ℕ → ℕ → ℕ → Option ℕ
find_from objects x zero i = None
find_from objects x (suc k) i = cond (eqb (index_at objects i) x) (Some i) (find_from objects x k (suc i))

-- the row of index x
abbrev pub find_row : List ℕ → ℕ → Option ℕ
find_row objects x = find_from objects x (number_of objects) 0

-- R7.2: "A Variable has sub-index 0 only. A list's sub-index 0 reads as U8 how many of its elements are in use, an empty list's too; k
-- reads" element k
unfoldable pub sub_at : List ℕ → ℕ → ℕ → Option Place
sub_at objects i sub =
    cond (eqb (kind_at objects i) 0)
    (cond (eqb sub 0) (Some (Value (first_at objects i))) None)
    (cond (eqb sub 0)
    (Some (Count (list_count objects i)))
    (cond (leb sub (count_at objects i)) (Some (Value (first_at objects i + (sub - 1)))) None))

-- what a row has no value for is no sub-index of its object
abbrev pub or_no_sub : Option Place → Result Place Missing
or_no_sub (Some q) = Ok q
or_no_sub None = Err NoSub

abbrev pub on_row : List ℕ → ℕ → Option ℕ → Result Place Missing
on_row objects sub (Some i) = or_no_sub (sub_at objects i sub)
on_row objects sub None = Err NoObject

-- what an index and a sub-index name
abbrev pub place_of : List ℕ → ℕ → ℕ → Result Place Missing
place_of objects x sub = on_row objects sub (find_row objects x)

-- ---- in the model
-- the object with index x
unfoldable pub object_of : ℕ → List Obj → Option Obj
object_of x [] = None
object_of x (o ∷ os) = cond (eqb o.index x) (Some o) (object_of x os)

-- what stands in a row
abbrev pub object_in : Dict → Option ℕ → Option Obj
object_in d (Some i) = Some (obj_at d i)
object_in d None = None

-- value j of an object
unfoldable pub nth : List Val → ℕ → Option Val
nth [] j = None
nth (x ∷ xs) zero = Some x
nth (x ∷ xs) (suc j) = nth xs j

-- what an index and a sub-index name
pub data Named : Type 0 where
  no-object : Named
  no_sub : Named
  counts : ℕ → Named
  holds : Val → Named

abbrev pub held_as : Option Val → Named
held_as (Some v) = holds v
held_as None = no_sub

-- how many elements of a list are in use, in an edition
abbrev pub used_elements : ℕ → Obj → ℕ
used_elements edition o = in_use edition o.index o.extra.kept (count o)

-- R7.2, of an object
unfoldable pub sub_of : ℕ → Obj → ℕ → Named
sub_of edition o sub =
    cond (eqb o.kind 0)
    (cond (eqb sub 0) (held_as (nth o.values 0)) no_sub)
    (cond (eqb sub 0)
    (counts (used_elements edition o))
    (cond (leb sub (count o)) (held_as (nth o.values (sub - 1))) no_sub))

abbrev pub on_object : ℕ → ℕ → Option Obj → Named
on_object edition sub (Some o) = sub_of edition o sub
on_object edition sub None = no-object

abbrev pub named_of : ℕ → ℕ → ℕ → List Obj → Named
named_of edition x sub os = on_object edition sub (object_of x os)

-- what stands at a place of the table
abbrev pub named_at : Dict → Result Place Missing → Named
named_at d (Err NoObject) = no-object
named_at d (Err NoSub) = no_sub
named_at d (Ok (Count n)) = counts n
named_at d (Ok (Value p)) = holds (val_at d p)

-- ---- what looking up needs of the rows
pub record Rows (objects : List ℕ) : Type 0 where
  pub few : number_of objects ≤ 1024
  pub long : row_place (number_of objects) ≤ length objects
  pub firsts : (i : ℕ) → i < number_of objects → first_at objects i + count_at objects i ≤ 6144
  pub rises : (i j : ℕ) → i < j → j < number_of objects → index_at objects i < index_at objects j

-- row r is the first whose index is not below x, or none is
pub record Lower (objects : List ℕ) (x r : ℕ) : Type 0 where
  pub within : r ≤ number_of objects
  pub before : (i : ℕ) → i < r → index_at objects i < x
  pub behind : (i : ℕ) → r ≤ i → i < number_of objects → x ≤ index_at objects i

-- what is found where halving ends at row r: that row, if it has the index
abbrev pub halved : List ℕ → ℕ → ℕ → Option ℕ
halved objects x r = cond (ltb r (number_of objects)) (cond (eqb (index_at objects r) x) (Some r) None) None

-- ---- what walking over some elements needs, of which the first lies at slot `first`
pub record Elements (slots words : List ℕ) (count first : ℕ) : Type 0 where
  pub few : count ≤ 254
  pub low : first + count ≤ 6144
  pub slotted : slot_place (first + count) ≤ length slots
  pub worded : first + count ≤ length words
