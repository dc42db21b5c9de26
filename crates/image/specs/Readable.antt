-- Which images are readable, and the table that one holds: RULES.md 10.
-- Assumes nothing.
use Rattle.std.specs.Prelude.{ℕ, zero, suc, ◌+◌, ◌*◌, ◌≤◌, ◌≡◌, Bool, true, cond, ◌&&◌, List, [], ◌∷◌, eqb, leb, ltb, length, take, drop, Option, Some, None}
use Rattle.lists.specs.Numbers.{number}
use Rattle.value.specs.Codec.{exact}
use Rattle.image.specs.Image.{Rec, bodies}
use Rattle.image.specs.declared.Head.{Head}

-- ---- a right table
-- R10.6: "Records rise strictly by (index, sub-index)."
abbrev pub key_of : ℕ → ℕ → ℕ
key_of index sub = 256 * index + sub

-- R10.7: "each type is at most 20; each value decodes to exactly its length"
abbrev pub rec_ok : Rec → Bool
rec_ok r = ltb r.index 65536 && (ltb r.sub 256 && exact r.type r.body)

-- all records are right, and their keys rise from low on
unfoldable pub recs_ok : ℕ → List Rec → Bool
recs_ok low [] = true
recs_ok low (r ∷ rs) = leb low (key_of r.index r.sub) && (rec_ok r && recs_ok (key_of r.index r.sub + 1) rs)

-- R10.7: "r is at most 2,048, the bodies at most 16,384 bytes"
pub record Right (rs : List Rec) : Type 0 where
  pub good : recs_ok 0 rs ≡ true
  pub few : length rs ≤ 2048
  pub small : length (bodies rs) ≤ 16384

-- ---- an image: the numbers of the record at place a, as R10.5 lays them
abbrev pub field : List ℕ → ℕ → ℕ → ℕ
field s a n = number (take n (drop a s))

abbrev pub index_in : List ℕ → ℕ → ℕ
index_in s a = field s a 2

abbrev pub key_in : List ℕ → ℕ → ℕ
key_in s a = key_of (index_in s a) (field s (a + 2) 1)

abbrev pub type_in : List ℕ → ℕ → ℕ
type_in s a = field s (a + 3) 1

abbrev pub start_in : List ℕ → ℕ → ℕ
start_in s a = field s (a + 4) 2

abbrev pub size_at : List ℕ → ℕ → ℕ
size_at s a = field s (a + 6) 2

-- n records from place a on, whose bodies lie from place b on
unfoldable pub recs_at : List ℕ → ℕ → ℕ → ℕ → List Rec
recs_at s zero a b = []
recs_at s (suc n) a b =
    record { index = index_in s a; sub = field s (a + 2) 1; type = type_in s a; body = take (size_at s a) (drop b s) }
    ∷ recs_at s n (a + 8) (b + size_at s a)

abbrev pub head_in : List ℕ → ℕ → Head
head_in s a = record { key = key_in s a; value_type = type_in s a; start = start_in s a; size = size_at s a }

-- R10.6, R10.7: in a store of n bytes a record is right behind sum bytes of the bodies, which lie from place b on, with a key not below low
abbrev pub stands : ℕ → Head → ℕ → ℕ → ℕ → Bool
stands n h b sum low = leb low h.key && (eqb h.start sum && (leb (sum + h.size) 16384 && leb (b + (sum + h.size)) n))

unfoldable pub placed : List ℕ → ℕ → ℕ → ℕ → ℕ → Bool
placed s a b sum low = stands (length s) (head_in s a) b sum low

unfoldable pub heads_ok : List ℕ → ℕ → ℕ → ℕ → ℕ → ℕ → Bool
heads_ok s zero a b sum low = true
heads_ok s (suc n) a b sum low =
    placed s a b sum low && (exact (type_in s a) (take (size_at s a) (drop (b + sum) s)) && heads_ok s n (a + 8) b (sum + size_at s a) (key_in s a + 1))

-- R10.7: "An image is readable when the store has 2 bytes or more; .. It is judged wholly"
unfoldable pub readable : List ℕ → Bool
readable s =
    let r = field s 0 2 in
    leb 2 (length s) && (leb r 2048 && (leb (2 + 8 * r) (length s) && heads_ok s r 2 (2 + 8 * r) 0 0))

-- "Any other image counts as no table."
unfoldable pub table_of : List ℕ → Option (List Rec)
table_of s = let r = field s 0 2 in cond (readable s) (Some (recs_at s r 2 (2 + 8 * r))) None
