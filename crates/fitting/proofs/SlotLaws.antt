-- The slots of a row's value and of its default. Assumes nothing.
use mathlib.Core.Path.{◌≡◌}
use mathlib.Core.Bool.{true}
use mathlib.Core.List.{List}
use Prim.Native.Nat.{ℕ, ◌<◌}
use native.Mathlib.Omega.{arith}
use Rattle.entry.specs.Table.{Dict, number_of, values_of, count_at, default_at}
use Rattle.entry.specs.Judge.{well_formed}
use Rattle.entry.proofs.FactLaws.{row_facts}
use Rattle.entry.proofs.ValueLaws.{ValueFacts, value_facts}
use Rattle.fitting.specs.Fit.{slot_in, default_in}

module _ (d : Dict) (e : well_formed d ≡ true) (s : List ℕ) (i k : ℕ) (hi : i < number_of d.objects) (hk : k < count_at d.objects i) where
  abbrev p : ℕ
  p = slot_in d.objects i k

  pub facts : ValueFacts d p
  facts = value_facts d e i k hi (omega arith)

  -- the default's slot
  pub default_slot : (r : ℕ) → (r ≡ default_in d.objects i) × (default_at d.objects i ≡ 1) → (r < values_of d.objects) × (p < r)
  default_slot r z = (omega (arith, z.0, z.1, (row_facts d e i hi).values), omega (arith, z.0))
