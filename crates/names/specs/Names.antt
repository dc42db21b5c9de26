-- find_by_name: RULES.md 7. Assumes nothing.
use Rattle.answers.specs.declared.Refusal.{Refusal}
use Rattle.std.specs.Prelude.{ℕ, zero, suc, Bool, true, false, cond, ◌&&◌, List, [], ◌∷◌, eqb, leb, length, Result, Ok, Err}
use Rattle.text.specs.Machine.{judge}
use Rattle.answers.specs.declared.Refusal.TheVariants.{Malformed, BadValue, ObjectNotFound}
use Rattle.entry.specs.Table.{Dict, number_of, index_at, obj_at}
use Rattle.entry.specs.Rules.{is_good}
use Rattle.entry.specs.Judge.{well_formed}

-- the same bytes
unfoldable pub same : List ℕ → List ℕ → Bool
same [] [] = true
same [] (y ∷ ys) = false
same (x ∷ xs) [] = false
same (x ∷ xs) (y ∷ ys) = eqb x y && same xs ys

abbrev pub name_of : Dict → ℕ → List ℕ
name_of d i = (obj_at d i).name

-- the index of the first of the k rows from row i on that has the name
unfoldable pub name_from : Dict → List ℕ → ℕ → ℕ → Result ℕ Refusal
name_from d name zero i = Err ObjectNotFound
name_from d name (suc k) i = cond (same (name_of d i) name) (Ok (index_at d.objects i)) (name_from d name k (suc i))

-- R7.6: "It answers the lowest index of that name"; a name over 32 bytes or not UTF-8 is BadValue
unfoldable pub by_name_of : Dict → List ℕ → Result ℕ Refusal
by_name_of d name =
    cond (well_formed d)
    (cond (leb (length name) 32 && is_good (judge name))
    (name_from d name (number_of d.objects) 0)
    (Err BadValue))
    (Err Malformed)
