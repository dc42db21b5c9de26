-- One channel's turn in the check of all. Assumes nothing.
use Rattle.std.specs.Prelude.{Option, Some, None}
use mathlib.Core.Path.{◌≡◌, refl, sym, ap, ◌∙◌}
use mathlib.Core.Bool.{Bool, true, false, not}
use mathlib.Core.List.{List, [], ◌∷◌}
use Prim.Native.Nat.{ℕ, suc, ◌+◌, ◌-◌, ◌<◌, ◌≤◌}
use native.Mathlib.Omega.{arith}
use Rattle.std.specs.Option.{is_some}
use lib.ListN.{length}
use Rattle.lists.specs.Lists.{over}
use Rattle.lists.proofs.ListLaws.{over_none, over-over}
use Rattle.entry.specs.Table.{Dict}
use Rattle.entry.specs.Find.{find_row}
use Rattle.pdo_channel.specs.Channel.{comm_index}
use Rattle.channel.specs.All.{on_comm, lines_from, laid_lines, laid_on}

module _ (d : Dict) (n i : ℕ) where
  pub lines_end : n ≤ i → lines_from d (n - i) i ≡ []
  unfolding lines_from
  lines_end h = let z : n - i ≡ 0 = omega arith in rw z

  pub lines_step : i < n → lines_from d (n - i) i ≡ on_comm d i (lines_from d (n - (i + 1)) (i + 1)) (find_row d.objects (comm_index i))
  unfolding lines_from
  lines_step h = let z : n - i ≡ suc (n - (i + 1)) = omega arith in rw z

module _ (out : List ℕ) (n : ℕ) where
  pub laid_none : laid_on [] out n ≡ laid_lines out n
  laid_none = let z : n + 0 ≡ n = omega arith in rw (over_none out n, z)

  pub laid_line : (a b c : ℕ) (rest : List ℕ) → n + 3 ≤ length out → laid_on (a ∷ b ∷ c ∷ rest) out n ≡ laid_on rest (over out n (a ∷ b ∷ c ∷ [])) (n + 3)
  laid_line a b c rest h =
      let z : n + suc (suc (suc (length rest))) ≡ n + 3 + length rest = omega arith in
      rw (over-over out n (a ∷ b ∷ c ∷ []) (n + 3) rest refl h, z)

-- what `is_none` says
pub none_of : (g : Option ℕ) (b : Bool) → is_some g ≡ not b → b ≡ true → g ≡ None
none_of None b e q = refl
none_of (Some r) b e q = let z : ◌≡◌ {A = ℕ} 0 1 = cc in absurd (omega arith)

pub some_of : (g : Option ℕ) (b : Bool) → is_some g ≡ not b → b ≡ false → (r : ℕ) × (g ≡ Some r)
some_of None b e q = let z : ◌≡◌ {A = ℕ} 0 1 = cc in absurd (omega arith)
some_of (Some r) b e q = (r, refl)

-- what is found of channel i decides
pub turned : (d : Dict) (lent : List ℕ) (m i : ℕ) (out : List ℕ) (n : ℕ) → i < 256 → laid_on (lines_from d (256 - i) i) out n ≡ laid_on (lines_from d 256 0) lent m
    → (g : Option ℕ) → g ≡ find_row d.objects (comm_index i) → laid_on (on_comm d i (lines_from d (256 - (i + 1)) (i + 1)) g) out n ≡ laid_on (lines_from d 256 0) lent m
turned d lent m i out n h e g q =
    ap (λ x. laid_on (on_comm d i (lines_from d (256 - (i + 1)) (i + 1)) x) out n) q ∙ ap (λ x. laid_on x out n) (sym (lines_step d 256 i h)) ∙ e
