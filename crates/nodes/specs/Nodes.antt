-- get_configured_cns: RULES.md 7. Assumes nothing.
use Rattle.answers.specs.declared.Refusal.{Refusal}
use Rattle.std.specs.Prelude.{ℕ, zero, suc, ◌/◌, ◌%◌, Bool, cond, ◌&&◌, List, [], ◌∷◌, eqb, ltb, length, get_or, Option, Some, None, Result, Ok, Err}
use Rattle.lists.specs.Lists.{over}
use Rattle.answers.specs.declared.Refusal.TheVariants.{Malformed, BufferTooShort}
use Rattle.entry.specs.Table.{Dict, kind_at, count_at, first_at, type_at}
use Rattle.entry.specs.Find.{find_row}
use Rattle.entry.specs.Judge.{well_formed}
use Rattle.nodes.specs.declared.Span.{Span}

-- "a U32 has bit 0 set and bit 8 clear"
abbrev pub configured : ℕ → ℕ → Bool
configured t w = eqb t 7 && (eqb (w % 2) 1 && eqb (w / 256 % 2) 0)

-- the numbers of those among n elements, of which the first is number k and lies at slot p
unfoldable pub nodes_from : List ℕ → List ℕ → ℕ → ℕ → ℕ → List ℕ
nodes_from slots words zero k p = []
nodes_from slots words (suc n) k p =
    cond (configured (type_at slots p) (get_or words p 0)) (k ∷ nodes_from slots words n (suc k) (suc p)) (nodes_from slots words n (suc k) (suc p))

-- R7.7: "each element number k of Array 1F81h": its elements; none where it is missing or no Array
abbrev pub span_of : ℕ → ℕ → Span
span_of n p = record { count = n; first = p }

abbrev pub elements_on : List ℕ → Option ℕ → Span
elements_on objects (Some i) = cond (eqb (kind_at objects i) 1) (span_of (count_at objects i) (first_at objects i)) (span_of 0 0)
elements_on objects None = span_of 0 0

unfoldable pub elements_at : List ℕ → Span
elements_at objects = elements_on objects (find_row objects 0x1F81)

unfoldable pub nodes_of : Dict → List ℕ
nodes_of d = let e = elements_at d.objects in nodes_from d.slots d.words e.count 1 e.first

-- an answer, and the lent output after it
pub record AfterListing : Type 0 where
  pub answer : Result ℕ Refusal
  pub out : List ℕ

abbrev pub after_listing : Result ℕ Refusal → List ℕ → AfterListing
after_listing a out = record { answer = a; out = out }

-- BufferTooShort is judged on what is found
unfoldable pub cns_of : Dict → List ℕ → AfterListing
cns_of d out =
    cond (well_formed d)
    (cond (ltb (length out) (length (nodes_of d)))
    (after_listing (Err BufferTooShort) out)
    (after_listing (Ok (length (nodes_of d))) (over out 0 (nodes_of d))))
    (after_listing (Err Malformed) out)
