-- Saving: RULES.md 10.
-- Assumes nothing.
use Rattle.answers.specs.declared.Refusal.{Refusal}
use Rattle.std.specs.Prelude.{ℕ, ◌+◌, ◌≤◌, ◌<◌, Bool, cond, ◌&&◌, List, leb, length, get_or, Result, Ok, Err}
use Rattle.answers.specs.declared.Refusal.TheVariants.{StoreFull}
use Rattle.lists.specs.Lists.{over}
use Rattle.value.specs.Codec.{length_of}
use Rattle.entry.specs.Table.{Dict, number_of, count_at, type_at}
use Rattle.image.specs.Image.{Rec, heads, bodies, image_of, new_table}
use Rattle.commands.specs.declared.offering.Size.{Size}

-- R10.3: "More than 2,048 records, more than 16,384 body bytes, or an image longer than the lent store: StoreFull"
unfoldable pub fits : List Rec → List ℕ → Bool
fits rs store = leb (length rs) 2048 && (leb (length (bodies rs)) 16384 && leb (length (image_of rs)) (length store))

-- an answer, and the lent store after it
pub record AfterSave : Type 0 where
  pub answer : Result (Unit {0}) Refusal
  pub store : List ℕ

abbrev pub after_save : Result (Unit {0}) Refusal → List ℕ → AfterSave
after_save a store = record { answer = a; store = store }

-- "Else the image lies at the store's start and the bytes behind it stay."
unfoldable pub save_of : Dict → List ℕ → ℕ → AfterSave
save_of d store l =
    let rs = new_table d l store in
    cond (fits rs store) (after_save (Ok tt) (over store 0 (image_of rs))) (after_save (Err StoreFull) store)

-- ---- what the code measures
abbrev pub size_in : List Rec → Size
size_in rs = record { records = length rs; bytes = length (bodies rs) }

-- how long the encoding of value p is
unfoldable pub length_in : List ℕ → List ℕ → ℕ → ℕ
length_in slots words p = length_of (type_at slots p) (get_or words p 0)

-- what the code lays: records from place a on, and their bodies from byte `start` of the bodies on, which begin at place b
abbrev pub recs_laid : List ℕ → ℕ → ℕ → ℕ → List Rec → List ℕ
recs_laid store a b start rs = over (over store a (heads start rs)) (b + start) (bodies rs)

-- row i is there, and has n values
pub record Row (objects : List ℕ) (i n : ℕ) : Type 0 where
  pub below : i < number_of objects
  pub within : n ≤ count_at objects i
