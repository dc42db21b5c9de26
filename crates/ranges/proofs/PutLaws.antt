-- Where a write puts a value of the range's type, the value lies between the ends; so where the call changes a word.
-- Assumes nothing.
use Rattle.std.specs.Prelude.{Some, Result, Ok, Err}
use Prim.Native.Nat.{ℕ, ◌≤◌}
use mathlib.Core.Path.{◌≡◌, refl, sym, ap, ◌∙◌}
use mathlib.Core.Bool.{Bool, true, false, cond, not, ◌&&◌, ◌||◌}
use mathlib.Core.List.{List}
use native.Mathlib.Omega.{arith}
use borrow.Author.Tests.{eq-eqb, ne_eqb, not-false}
use lib.Dec.{eqb}
use lib.ListN.{length}
use Rattle.answers.specs.declared.Refusal.TheVariants.{Malformed}
use Rattle.lists.specs.Numbers.{number}
use Rattle.value.specs.Order.{ordered}
use Rattle.entry.specs.declared.Extra.{Extra}
use Rattle.entry.specs.Table.{Dict, extra_at}
use Rattle.entry.specs.Find.{find_row}
use Rattle.entry.specs.Judge.{well_formed}
use Rattle.entry.proofs.JudgeLaws.{and_true}
use Rattle.writing.specs.declared.Act.{Act}
use Rattle.writing.specs.declared.Act.TheVariants.{Put, Accepted, Keep, Save, Restore}
use Rattle.writing.specs.declared.WriteFault.{WriteFault}
use Rattle.writing.specs.declared.WriteFault.TheVariants.{Refused}
use Rattle.writing.specs.Judging.{outside, judge_of}
use Rattle.writing.specs.Writing.{after_write, write_act_of, write_of}
use Rattle.writing.proofs.PutLaws.{judged_put}
use Rattle.writing.proofs.WriteLaws.{outside_of}
use Rattle.ranges.specs.Between.{Between}

-- what is not outside a range of its type
within : (e : Extra) (t w : ℕ) → 1 ≤ t → e.ranged ≡ t → outside e t w ≡ false → Between t w e
within e t w one r o =
    let held : (eqb t 0 || not (eqb e.ranged t)) ≡ false = rw (ne_eqb t 0 (λ z. omega (arith, one, z)), eq-eqb e.ranged t r) in
    let q = and_true (ordered t e.low w) (ordered t w e.high) (not-false (ordered t e.low w && ordered t w e.high) (sym (outside_of e t w held).test ∙ o)) in
    record { above = q.0; below = q.1 }

pub put_in_range : (d : Dict) (n x sub t : ℕ) (s : List ℕ) (p i : ℕ) → judge_of d n x sub t s ≡ Ok (Put p) → find_row d.objects x ≡ Some i → 1 ≤ t → (extra_at d.objects i).ranged ≡ t → Between t (number s) (extra_at d.objects i)
put_in_range d n x sub t s p i e f one r =
    let j = (judged_put d n x sub t s p e).1 in
    let row : j.row ≡ i = cc in
    within (extra_at d.objects i) t (number s) one r (sym (ap (λ k. outside (extra_at d.objects k) t (number s)) row) ∙ j.inside)

-- so where the call changes a word
pub written_in_range : (d : Dict) (store : List ℕ) (x sub t : ℕ) (s : List ℕ) (i : ℕ) → find_row d.objects x ≡ Some i → 1 ≤ t → (extra_at d.objects i).ranged ≡ t
    → ((write_of d store x sub t s).words ≡ d.words → ⊥) → Between t (number s) (extra_at d.objects i)
unfolding write_of write_act_of
written_in_range d store x sub t s i f one r changed = go (well_formed d) (judge_of d (length store) x sub t s) refl changed
  where
    go : (b : Bool) (j : Result Act WriteFault) → judge_of d (length store) x sub t s ≡ j → ((cond b (write_act_of d store sub s j) (after_write (Err (Refused Malformed)) d.objects d.words d.bytes store)).words ≡ d.words → ⊥) → Between t (number s) (extra_at d.objects i)
    go false j e c = absurd (c refl)
    go true (Ok (Put p)) e c = put_in_range d (length store) x sub t s p i e f one r
    go true (Ok Accepted) e c = absurd (c refl)
    go true (Ok (Keep k m)) e c = absurd (c refl)
    go true (Ok Save) e c = absurd (c refl)
    go true (Ok Restore) e c = absurd (c refl)
    go true (Err g) e c = absurd (c refl)
