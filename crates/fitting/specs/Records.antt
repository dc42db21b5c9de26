-- Looking a record up in the stored image. Assumes nothing.
use Rattle.std.specs.Prelude.{ℕ, zero, suc, ◌+◌, ◌*◌, ◌<◌, ◌≤◌, cond, List, eqb, ltb, length, take, drop, Option, Some, None}
use Rattle.image.specs.Readable.{field, key_in, start_in, size_at, readable}

-- R10.7: "Any other image counts as no table."
abbrev pub records : List ℕ → ℕ
records s = cond (readable s) (field s 0 2) 0

-- where record k stands
abbrev pub record_place : ℕ → ℕ
record_place k = 2 + 8 * k

-- the place of the first of n records from record k on that has the key
unfoldable pub record_from : List ℕ → ℕ → ℕ → ℕ → Option ℕ
record_from s zero k key = None
record_from s (suc n) k key = cond (eqb (key_in s (record_place k)) key) (Some (record_place k)) (record_from s n (suc k) key)

abbrev pub record_of : List ℕ → ℕ → Option ℕ
record_of s key = record_from s (records s) 0 key

-- the bytes of the value of the record at place a
abbrev pub body_in : List ℕ → ℕ → List ℕ
body_in s a = take (size_at s a) (drop (record_place (field s 0 2) + start_in s a) s)

-- what reading them needs
pub record Body (s : List ℕ) (a : ℕ) : Type 0 where
  pub head : a + 8 ≤ length s
  pub few : field s 0 2 ≤ 2048
  pub small : start_in s a + size_at s a ≤ 16384
  pub within : record_place (field s 0 2) + start_in s a + size_at s a ≤ length s

-- ---- seeking along rising keys
-- the first of n records from record k on whose key is not below
unfoldable pub seek_from : List ℕ → ℕ → ℕ → ℕ → ℕ
seek_from s zero k key = k
seek_from s (suc n) k key = cond (ltb (key_in s (record_place k)) key) (seek_from s n (suc k) key) k

-- all records before record k are below the key
pub record Cursor (s : List ℕ) (n k key : ℕ) : Type 0 where
  pub here : k ≤ n
  pub below : (j : ℕ) → j < k → key_in s (record_place j) < key
