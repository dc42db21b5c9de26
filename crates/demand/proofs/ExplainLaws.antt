-- An explanation shows the fault that the check names. Assumes nothing.
use Rattle.std.specs.Prelude.{Some, Err, IsOkAnd}
use mathlib.Core.Path.{◌≡◌, refl, sym, ap, ◌∙◌}
use mathlib.Core.Bool.{Bool, true, false, cond}
use mathlib.Core.List.{List}
use Prim.Native.Nat.{ℕ, ◌+◌, ◌<◌}
use native.Mathlib.Omega.{arith}
use borrow.Author.Tests.{ne_eqb, le-leb}
use lib.Dec.{eqb}
use lib.ListN.{get_or}
use Rattle.entry.specs.Table.{Dict, kind_at, count_at, first_at, type_at}
use Rattle.entry.specs.Find.{sub_at}
use Rattle.entry.specs.declared.Place.TheVariants.{Value}
use Rattle.entry.proofs.ValueLaws.{list_count_le, found_lies}
use Rattle.element.specs.declared.Fault.{Fault}
use Rattle.element.specs.declared.Fault.TheVariants.{NotMapping}
use Rattle.channel.specs.declared.Checked.TheVariants.{Element}
use Rattle.element.specs.declared.Explained.TheVariants.{Other}
use Rattle.element.specs.Explain.{of_word, of_element, explain_of}
use Rattle.element.specs.Elements.{said_of, word_verdict, verdict_of}
use Rattle.channel.specs.Check.{check_of}
use Rattle.demand.proofs.ExactLaws.{list_length, list_word}
use Rattle.demand.proofs.NamedLaws.{named_never}

-- the verdict is what is said of the explanation
said_element : (objects slots : List ℕ) (t w : ℕ) → said_of (of_element objects slots t w) ≡ verdict_of objects slots t w
unfolding word_verdict
said_element objects slots t w = go (eqb t 8)
  where
    go : (b : Bool) → said_of (cond b (of_word objects slots w) (Other t)) ≡ cond b (word_verdict objects slots w) (Err NotMapping)
    go true = refl
    go false = refl

-- element k is value k - 1 of the list
element_there : (objects : List ℕ) (r k n : ℕ) → eqb (kind_at objects r) 0 ≡ false → k ≡ n + 1 → n < count_at objects r → sub_at objects r k ≡ Some (Value (first_at objects r + n))
unfolding sub_at
element_there objects r k n list e h =
    rw (list, ne_eqb k 0 (λ z. omega (arith, z, e)), le-leb k (count_at objects r) (omega (arith, h, e))) (ap (λ m. Some (Value (first_at objects r + m))) (omega (arith, e)))

pub named_explained : (d : Dict) (i k : ℕ) (v : Fault) → check_of d i ≡ Element k v → IsOkAnd (explain_of d i k) (λ e. said_of e ≡ Err v)
unfolding explain_of
named_explained d i k v e =
    let n = named_never d i k v e in
    let l = n.listed in
    let p = first_at d.objects l.row + n.fault.place in
    let long = list_length d l.well (0x1600 + i) l.row l.found in
    let used = list_count_le d l.well l.row (found_lies d l.well (0x1600 + i) l.row l.found).below in
    let word = list_word d l.well (0x1600 + i) l.row l.found n.fault.place (omega (arith, long, n.fault.below)) in
    let there = element_there d.objects l.row k n.fault.place l.list n.element (omega (arith, long, n.fault.below, used)) in
    rw (l.well, l.found, l.list, there) (said_element d.objects d.slots (type_at d.slots p) (get_or d.words p 0) ∙ rw (sym word) n.fault.verdict)
