-- Insertion: RULES.md 6.
-- Assumes nothing.
use Rattle.answers.specs.declared.Refusal.{Refusal}
use Rattle.std.specs.Prelude.{ℕ, suc, ◌+◌, Bool, false, cond, ◌&&◌, ◌||◌, List, [], ◌∷◌, length, eqb, leb, ltb, Result, Ok, Err}
use Rattle.answers.specs.declared.Refusal.TheVariants.{Malformed, BadValue, Occupied, Full}
use Rattle.entry.specs.Model.{Obj, used, size}
use Rattle.entry.specs.Table.{Dict, model_of, number_of, values_of, used_of, row_end, slot_place}
use Rattle.entry.specs.Judge.{well_formed}
use Rattle.given.specs.declared.Head.{Head}
use Rattle.given.specs.Given.{obj_in, right_in}
use Rattle.placing.specs.Place.{inserted}

-- how many objects come before index x, and whether one has it
unfoldable pub below : ℕ → List Obj → ℕ
below x [] = 0
below x (o ∷ os) = cond (ltb o.index x) (suc (below x os)) 0

unfoldable pub taken : ℕ → List Obj → Bool
taken x [] = false
taken x (o ∷ os) = eqb o.index x || taken x os

-- whether there is room for one object more, of u values and g bytes: R6.4
unfoldable pub fits_in : Dict → ℕ → ℕ → Bool
fits_in d u g =
    ltb (number_of d.objects) 1024 && (leb (row_end (number_of d.objects)) (length d.objects) && (leb (values_of d.objects + u) 6144 && (leb (slot_place (values_of d.objects + u)) (length d.slots)
    && (leb (values_of d.objects + u) (length d.words) && (leb (used_of d.objects + g) 32768 && leb (used_of d.objects + g) (length d.bytes))))))

-- ---- the answer: R6.2
unfoldable pub answer_of : Head → List ℕ → List ℕ → List ℕ → Dict → Result (Unit {0}) Refusal
answer_of h name vals encodings d =
    cond (well_formed d)
    (cond (right_in h name vals encodings)
    (cond (taken h.index (model_of d))
    (Err Occupied)
    (cond (fits_in d (used (obj_in h name vals encodings)) (size (obj_in h name vals encodings)))
    (Ok tt)
    (Err Full)))
    (Err BadValue))
    (Err Malformed)

-- the memory after it: a refusal leaves it as it is
abbrev pub memory_after : Result (Unit {0}) Refusal → Dict → Dict → Dict
memory_after (Ok _) new old = new
memory_after (Err r) new old = old

abbrev pub memory_of : Head → List ℕ → List ℕ → List ℕ → Dict → Dict
memory_of h name vals encodings d =
    memory_after (answer_of h name vals encodings d) (inserted (below h.index (model_of d)) (obj_in h name vals encodings) d) d
