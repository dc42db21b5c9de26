-- The mapping count: RULES.md 9. Assumes nothing.
use Rattle.answers.specs.declared.Refusal.{Refusal}
use Rattle.std.specs.Prelude.{ℕ, zero, suc, cond, not, ◌||◌, List, eqb, leb, ltb, get_or, Option, Some, None, Result, Ok, Err}
use Rattle.answers.specs.declared.Refusal.TheVariants.{Malformed, ObjectNotFound, MissingEntries, PdoMapOverrun}
use Rattle.mapping.specs.Word.{entry_of, end_of}
use Rattle.entry.specs.Table.{Dict, sends, is_mapping, kind_at, count_at, first_at, type_at}
use Rattle.entry.specs.Find.{find_row, place_of}
use Rattle.entry.specs.Judge.{well_formed}
use Rattle.entry.specs.declared.Place.{Place}
use Rattle.entry.specs.declared.Place.TheVariants.{Count, Value}
use Rattle.entry.specs.declared.Missing.{Missing}

-- R9.3: the U16 there, or 1,490
abbrev pub u16_at : Dict → Result Place Missing → ℕ
u16_at d (Ok (Value p)) = cond (eqb (type_at d.slots p) 6) (get_or d.words p 0) 1490
u16_at d (Ok (Count n)) = 1490
u16_at d (Err m) = 1490

unfoldable pub limit_of : Dict → ℕ → ℕ
limit_of d x = u16_at d (place_of d.objects 0x1F98 (cond (sends x) 1 2))

abbrev pub most : ℕ → ℕ → ℕ
most a b = cond (ltb a b) b a

-- R9.2: the largest end of n mapping words from slot p on, and of e; missing where one is no U64
unfoldable pub ends_from : List ℕ → List ℕ → ℕ → ℕ → ℕ → Option ℕ
ends_from slots words zero p e = Some e
ends_from slots words (suc n) p e =
    cond (eqb (type_at slots p) 8) (ends_from slots words n (suc p) (most e (end_of (entry_of (get_or words p 0))))) None

abbrev pub within_limit : ℕ → Option ℕ → Result (Unit {0}) Refusal
within_limit limit (Some e) = cond (leb e limit) (Ok tt) (Err PdoMapOverrun)
within_limit limit None = Err MissingEntries

-- R9.2: "the object must be an Array"; "All of its first n elements must be there"
unfoldable pub count_on : Dict → ℕ → ℕ → Option ℕ → Result (Unit {0}) Refusal
count_on d x n (Some i) =
    cond (eqb (kind_at d.objects i) 1)
    (cond (leb n (count_at d.objects i))
    (within_limit (limit_of d x) (ends_from d.slots d.words n (first_at d.objects i) 0))
    (Err MissingEntries))
    (Err ObjectNotFound)
count_on d x n None = Err ObjectNotFound

-- R9.1, of a dictionary that was judged
unfoldable pub count_of : Dict → ℕ → ℕ → Result (Unit {0}) Refusal
count_of d x n = cond (eqb n 0 || not (is_mapping x)) (Ok tt) (count_on d x n (find_row d.objects x))

unfoldable pub valid_of : Dict → ℕ → ℕ → Result (Unit {0}) Refusal
valid_of d x n = cond (well_formed d) (count_of d x n) (Err Malformed)
