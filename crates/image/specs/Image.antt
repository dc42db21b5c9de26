-- What a save offers, and the image that it leaves: RULES.md 10.
-- Assumes nothing.
use Rattle.std.specs.Prelude.{ℕ, zero, suc, ◌+◌, Bool, cond, ◌||◌, List, [], ◌∷◌, ◌++◌, eqb, length}
use Rattle.lists.specs.Numbers.{bytes_of}
use Rattle.entry.specs.Table.{Dict, number_of, index_at, kind_at, access_at, count_at, first_at, type_at}
use Rattle.entry.specs.Encode.{encoding_at}
use Rattle.image.specs.Ranges.{range_of, covers}

-- a stored value: where it stands, its type and its encoding
pub record Rec : Type 0 where
  pub index : ℕ
  pub sub : ℕ
  pub type : ℕ
  pub body : List ℕ

-- R10.1: "Only objects with access ReadWriteStore or WriteOnlyStore"
abbrev pub stores : ℕ → Bool
stores access = eqb access 4 || eqb access 2

-- how many values of row i are for the store: all but its default
unfoldable pub to_store : List ℕ → ℕ → ℕ
to_store objects i = cond (stores (access_at objects i)) (count_at objects i) 0

-- and how many it offers, as a row of a range
unfoldable pub offers : List ℕ → ℕ → ℕ → ℕ → ℕ
offers objects first last i = cond (covers first last (index_at objects i)) (to_store objects i) 0

-- "a Variable at (index, 0), elements at (index, 1..n)": the sub-index of value k, from 0
unfoldable pub sub_in : ℕ → ℕ → ℕ
sub_in kind k = cond (eqb kind 0) 0 (k + 1)

-- "with the types and values of that moment"
abbrev pub rec_at : Dict → ℕ → ℕ → Rec
rec_at d i k =
    let p = first_at d.objects i + k in
    record { index = index_at d.objects i; sub = sub_in (kind_at d.objects i) k; type = type_at d.slots p; body = encoding_at d p }

-- n values of row i, from value k on
unfoldable pub recs_in : Dict → ℕ → ℕ → ℕ → List Rec
recs_in d i zero k = []
recs_in d i (suc n) k = rec_at d i k ∷ recs_in d i n (suc k)

-- n rows, from row i on
unfoldable pub offered_from : Dict → ℕ → ℕ → ℕ → ℕ → List Rec
offered_from d first last zero i = []
offered_from d first last (suc n) i = recs_in d i (offers d.objects first last i) 0 ++ offered_from d first last n (suc i)

-- what a range and what a list offers
abbrev pub offered_in : Dict → ℕ → ℕ → List Rec
offered_in d first last = offered_from d first last (number_of d.objects) 0

abbrev pub offered : Dict → ℕ → List Rec
offered d l = offered_in d (range_of l).start (range_of l).end

-- R10.2: "A save replaces the whole table and does not read the old one."
abbrev pub new_table : Dict → ℕ → List ℕ → List Rec
new_table d l store = offered d l

-- ---- R10.5: "U16 index, U8 sub-index, U8 type, U16 start within the bodies, U16 length"
abbrev pub head_of : ℕ → ℕ → ℕ → ℕ → ℕ → List ℕ
head_of index sub type start len = bytes_of 2 index ++ (bytes_of 1 sub ++ (bytes_of 1 type ++ (bytes_of 2 start ++ bytes_of 2 len)))

-- R10.6: "A start is the sum of the lengths before it; a length is the encoding's size"
unfoldable pub heads : ℕ → List Rec → List ℕ
heads start [] = []
heads start (r ∷ rs) = head_of r.index r.sub r.type start (length r.body) ++ heads (start + length r.body) rs

-- "each value's encoding, back to back in record order"
unfoldable pub bodies : List Rec → List ℕ
bodies [] = []
bodies (r ∷ rs) = r.body ++ bodies rs

-- R10.5: the count, the records, the bodies
unfoldable pub image_of : List Rec → List ℕ
image_of rs = bytes_of 2 (length rs) ++ (heads 0 rs ++ bodies rs)
