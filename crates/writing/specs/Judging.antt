-- What a write comes to, before anything is stored: RULES.md 8.
-- Assumes nothing.
use Rattle.answers.specs.declared.Refusal.{Refusal}
use Rattle.std.specs.Prelude.{ℕ, Bool, cond, not, ◌&&◌, ◌||◌, List, [], ◌∷◌, eqb, ltb, get_or, length, Option, Some, None, Result, Ok, Err}
use Rattle.lists.specs.Numbers.{number}
use Rattle.answers.specs.declared.Refusal.TheVariants.{BadValue, ObjectNotFound, SubObjectNotFound, TypeMismatch, ReadOnly, BadSignature, NoStorage, CountNotWritable, TooLong, OutOfRange}
use Rattle.value.specs.Codec.{is_text, exactly_of}
use Rattle.value.specs.declared.Inexact.{Inexact}
use Rattle.value.specs.declared.Inexact.TheVariants.{NoType, Fails, Many}
use Rattle.value.specs.Order.{ordered}
use Rattle.entry.specs.declared.Extra.{Extra}
use Rattle.entry.specs.Table.{Dict, edition_of, access_at, extra_at, type_at, room_at, is_mapping}
use Rattle.entry.specs.Find.{find_row, sub_at}
use Rattle.entry.specs.declared.Place.{Place}
use Rattle.entry.specs.declared.Place.TheVariants.{Count, Value}
use Rattle.pdo_validator.specs.Counting.{count_of}
use Rattle.writing.specs.declared.Act.{Act}
use Rattle.writing.specs.declared.Act.TheVariants.{Put, Accepted, Keep, Save, Restore}
use Rattle.writing.specs.declared.WriteFault.{WriteFault}
use Rattle.writing.specs.declared.WriteFault.TheVariants.{NoValue, Refused}

-- R8.2: "save" and "load", as the numbers of their bytes
abbrev pub save : ℕ
save = number (0x73 ∷ 0x61 ∷ 0x76 ∷ 0x65 ∷ [])

abbrev pub load : ℕ
load = number (0x6C ∷ 0x6F ∷ 0x61 ∷ 0x64 ∷ [])

-- the value is exactly that VisibleString, and the sub-index above 0
unfoldable pub signed_by : ℕ → ℕ → ℕ → List ℕ → Bool
signed_by signature sub t s = (eqb t 11 && (ltb 0 sub && eqb (length s) 4)) && eqb (number s) signature

-- the command that it gives, with a store of n bytes
unfoldable pub command_of : ℕ → Act → ℕ → ℕ → ℕ → List ℕ → Result Act Refusal
command_of signature act n sub t s =
    cond (signed_by signature sub t s) (cond (ltb n 2) (Err NoStorage) (Ok act)) (Err BadSignature)

-- R8.6: the object has a range of the type, and the word w lies outside it
unfoldable pub outside : Extra → ℕ → ℕ → Bool
outside e t w = not (eqb t 0) && (eqb e.ranged t && not (ordered t e.low w && ordered t w e.high))

-- R8.1, 7 to 9: place, then type, then range, then room
unfoldable pub at_value : List ℕ → Extra → ℕ → ℕ → List ℕ → Result Act Refusal
at_value slots e p t s =
    cond (eqb (type_at slots p) t)
    (cond (outside e t (number s))
    (Err OutOfRange)
    (cond (is_text t && ltb (room_at slots p) (length s)) (Err TooLong) (Ok (Put p))))
    (Err TypeMismatch)

-- R8.7: a mapping's count in row i is kept in edition 2, and accepted in edition 1
unfoldable pub keep_of : ℕ → ℕ → ℕ → Act
keep_of edition i n = cond (eqb edition 2) (Keep i n) Accepted

-- in row i
abbrev pub in_place : Dict → ℕ → ℕ → ℕ → List ℕ → Option Place → Result Act Refusal
in_place d i x t s None = Err SubObjectNotFound
in_place d i x t s (Some (Count n)) = cond (is_mapping x) (Ok (keep_of (edition_of d.objects) i (get_or s 0 0))) (Err CountNotWritable)
in_place d i x t s (Some (Value p)) = at_value d.slots (extra_at d.objects i) p t s

-- 5 and 6: object, then access, of which ReadOnly is 0 and Constant 5
abbrev pub in_object : Dict → ℕ → ℕ → ℕ → List ℕ → Option ℕ → Result Act Refusal
in_object d x sub t s (Some i) =
    cond (eqb (access_at d.objects i) 0 || eqb (access_at d.objects i) 5)
    (Err ReadOnly)
    (in_place d i x t s (sub_at d.objects i sub))
in_object d x sub t s None = Err ObjectNotFound

-- 4: a mapping's count comes before object and access
unfoldable pub count_first : Dict → ℕ → ℕ → ℕ → List ℕ → Result (Unit {0}) Refusal
count_first d x sub t s =
    cond (eqb sub 0 && is_mapping x) (cond (eqb t 5) (count_of d x (get_or s 0 0)) (Err TypeMismatch)) (Ok tt)

abbrev pub after_count : Result (Unit {0}) Refusal → Result Act Refusal → Result Act Refusal
after_count (Ok _) next = next
after_count (Err r) next = Err r

-- 3 to 9, of a value, a dictionary that was judged and a store of n bytes
unfoldable pub judge_value_of : Dict → ℕ → ℕ → ℕ → ℕ → List ℕ → Result Act Refusal
judge_value_of d n x sub t s =
    cond (eqb x 0x1010)
    (command_of save Save n sub t s)
    (cond (eqb x 0x1011)
    (command_of load Restore n sub t s)
    (after_count (count_first d x sub t s) (in_object d x sub t s (find_row d.objects x))))

abbrev pub refused_or : Result Act Refusal → Result Act WriteFault
refused_or (Ok a) = Ok a
refused_or (Err r) = Err (Refused r)

-- 2: where the data does not decode, R3.9 says why; of a type above 20, and of bytes behind a value, there is nothing to say
abbrev pub only_value : Result (Unit {0}) Inexact → Result Act Refusal → Result Act WriteFault
only_value (Ok _) next = refused_or next
only_value (Err NoType) next = Err (Refused BadValue)
only_value (Err (Fails f)) next = Err (NoValue f)
only_value (Err Many) next = Err (Refused BadValue)

unfoldable pub judge_of : Dict → ℕ → ℕ → ℕ → ℕ → List ℕ → Result Act WriteFault
judge_of d n x sub t s = only_value (exactly_of t s) (judge_value_of d n x sub t s)
