-- One element's turn. Assumes nothing.
use mathlib.Core.Path.{◌≡◌}
use mathlib.Core.Bool.{true}
use mathlib.Core.List.{List}
use Prim.Native.Nat.{ℕ, ◌+◌, ◌<◌, ◌≤◌}
use native.Mathlib.Numerals.{add-one}
use native.Mathlib.Omega.{arith}
use lib.ListN.{length, drop, get_or, drop_of_length-le}
use lib.Seq.{drop-cons}
use Rattle.entry.specs.Table.{Dict, type_at, number_of, first_at, list_count}
use Rattle.entry.specs.Find.{Elements}
use Rattle.entry.specs.Judge.{well_formed}
use Rattle.entry.proofs.ValueLaws.{elements_lie, list_count_le}
use Rattle.channel.specs.declared.Checked.{Checked}
use Rattle.element.specs.Elements.{verdict_of}
use Rattle.channel.specs.Check.{on_verdict, fault_from}

-- ---- the elements, one at a time
module _ (objects slots : List ℕ) (p : ℕ) (list : List ℕ) (j : ℕ) (last : Checked) where
  pub fault_end : length list ≤ j → fault_from objects slots p (drop j list) j last ≡ last
  unfolding fault_from
  fault_end h = rw (drop_of_length-le list h)

  pub fault_step : j < length list → fault_from objects slots p (drop j list) j last ≡ on_verdict (j + 1) (fault_from objects slots p (drop (j + 1) list) (j + 1) last) (verdict_of objects slots (type_at slots (p + j)) (get_or list j 0))
  unfolding fault_from
  fault_step h = rw (drop-cons list j 0 h, add-one)

-- where the elements of a list that counts lie
pub list_lies : (d : Dict) → well_formed d ≡ true → (r : ℕ) → r < number_of d.objects → (n p : ℕ) → n ≡ list_count d.objects r → p ≡ first_at d.objects r → Elements d.slots d.words n p
list_lies d w r h n p a b =
    let e = elements_lie d w r (list_count d.objects r) h (list_count_le d w r h) in
    record { few = omega (arith, a, e.few); low = omega (arith, a, b, e.low); slotted = omega (arith, a, b, e.slotted); worded = omega (arith, a, b, e.worded) }
