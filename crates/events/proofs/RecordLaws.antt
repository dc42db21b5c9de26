-- The records that a log's numbers say, one after the other; and that those of a run's events say them. Assumes nothing.
use mathlib.Core.Path.{◌≡◌, refl, sym, ap, ap₂, ◌∙◌}
use mathlib.Core.List.{List, [], ◌∷◌, ◌++◌, map, append_assoc}
use Prim.Native.Nat.{ℕ, suc, ◌+◌, ◌≤◌, ◌<◌}
use native.Mathlib.Numerals.{add-one}
use native.Mathlib.Omega.{arith}
use lib.ListN.{length, get_or, set, take, drop, length-map}
use lib.Seq.{take-suc, drop-cons, set_at, length-take-le}
use Rattle.event.specs.declared.EventRecord.{EventRecord}
use Rattle.event.specs.Record.{event_number, record_of, Small}
use Rattle.event.proofs.RecordLaws.{record_number}
use Rattle.pdo_handler.proofs.EventLaws.{map-append}
use Rattle.events.specs.Receive.{records_of}

-- ---- the records of the first i numbers of the log, and one more stored behind them
length-records : (log : List ℕ) (i : ℕ) → i ≤ length log → length (records_of i log) ≡ i
length-records log i h = length-map (take i log) record_of ∙ length-take-le i log h

records_more : (log : List ℕ) (i : ℕ) → i < length log → records_of (suc i) log ≡ records_of i log ++ (record_of (get_or log i 0) ∷ [])
records_more log i h = ap (map record_of) (take-suc log i 0 h) ∙ map-append record_of (take i log) (get_or log i 0 ∷ [])

pub stored_more : (log : List ℕ) (ys : List EventRecord) (i : ℕ) → i < length ys → i < length log
    → set (records_of i log ++ drop i ys) i (record_of (get_or log i 0)) ≡ records_of (i + 1) log ++ drop (i + 1) ys
stored_more log ys i h k =
    let r = record_of (get_or log i 0) in
    rw add-one
    (ap (λ (t : List EventRecord). set (records_of i log ++ t) i r) (drop-cons ys i r h)
    ∙ set_at (records_of i log) (get_or ys i r) (drop (suc i) ys) r i (length-records log i (omega arith))
    ∙ sym (append_assoc (records_of i log) (r ∷ []) (drop (suc i) ys))
    ∙ ap (λ (zs : List EventRecord). zs ++ drop (suc i) ys) (sym (records_more log i k)))

-- ---- records whose parts have room in their numbers are what their numbers say
abbrev pub AllSmall : List EventRecord → Type 0
AllSmall [] = Unit {0}
AllSmall (r ∷ rs) = Small r × AllSmall rs

pub small_append : (rs ss : List EventRecord) → AllSmall rs → AllSmall ss → AllSmall (rs ++ ss)
small_append [] ss a b = b
small_append (r ∷ rs) ss a b = (a.0, small_append rs ss a.1 b)

pub records_back : (rs : List EventRecord) → AllSmall rs → map record_of (map event_number rs) ≡ rs
records_back [] a = refl
records_back (r ∷ rs) a = ap₂ (λ (x : EventRecord) (xs : List EventRecord). x ∷ xs) (record_number r a.0) (records_back rs a.1)
