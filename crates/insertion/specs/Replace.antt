-- Replacing the object of an index: RULES.md R6.9 to R6.12. Insertion replaces none.
-- Assumes nothing.
use Rattle.answers.specs.declared.Refusal.{Refusal}
use Rattle.std.specs.Prelude.{ℕ, ◌+◌, cond, List, ◌∷◌, ◌++◌, take, drop, Result, Ok, Err}
use Rattle.answers.specs.declared.Refusal.TheVariants.{Malformed, BadValue, Full}
use Rattle.entry.specs.Model.{Obj, used, size}
use Rattle.entry.specs.Table.{Dict, model_of, laid}
use Rattle.entry.specs.Judge.{well_formed}
use Rattle.given.specs.declared.Head.{Head}
use Rattle.given.specs.Given.{obj_in, right_in}
use Rattle.placing.specs.Place.{Room}
use Rattle.insertion.specs.Insert.{below, taken, fits_in, memory_after}

-- the objects without the k at place i
abbrev pub remove_at : ℕ → ℕ → List Obj → List Obj
remove_at i k os = take i os ++ drop (i + k) os

-- and with o there
abbrev pub replace_at : ℕ → ℕ → Obj → List Obj → List Obj
replace_at i k o os = take i os ++ (o ∷ drop (i + k) os)

-- the memory without the k objects at place i, and with o in their place; what lies behind stays
abbrev pub without : ℕ → ℕ → Dict → Dict
without i k d = laid (remove_at i k (model_of d)) d

abbrev pub replaced : ℕ → ℕ → Obj → Dict → Dict
replaced i k o d = laid (replace_at i k o (model_of d)) d

-- there is room in d for one object more at place i, of u values and g bytes
abbrev pub RoomIn : Dict → ℕ → ℕ → ℕ → Type 0
RoomIn d i u g = Room d.objects d.slots d.words d.bytes i u g

-- how many objects have index x: none or one
abbrev pub having : ℕ → List Obj → ℕ
having x os = cond (taken x os) 1 0

-- R6.10: the dictionary "with the old object gone"
abbrev pub gone : ℕ → Dict → Dict
gone x d = without (below x (model_of d)) (having x (model_of d)) d

-- ---- the answer: R6.9, R6.10
unfoldable pub replace_answer_of : Head → List ℕ → List ℕ → List ℕ → Dict → Result (Unit {0}) Refusal
replace_answer_of h name vals encodings d =
    cond (well_formed d)
    (cond (right_in h name vals encodings)
    (cond (fits_in (gone h.index d) (used (obj_in h name vals encodings)) (size (obj_in h name vals encodings)))
    (Ok tt)
    (Err Full))
    (Err BadValue))
    (Err Malformed)

-- the memory after it: R6.11
abbrev pub replace_memory_of : Head → List ℕ → List ℕ → List ℕ → Dict → Dict
replace_memory_of h name vals encodings d =
    memory_after (replace_answer_of h name vals encodings d) (replaced (below h.index (model_of d)) (having h.index (model_of d)) (obj_in h name vals encodings) d) d
