-- `pdo_run::gather` meets its contract: what was laid is read back. Assumes nothing.
use mathlib.Core.Path.{◌≡◌, sym, ap, ◌∙◌}
use mathlib.Core.List.{List}
use Prim.Native.Nat.{ℕ, ◌+◌, ◌≤◌}
use native.Mathlib.Omega.{arith}
use lib.ListN.{length, take, drop, length-drop, length-replicate}
use lib.Seq.{length-take-le}
use Rattle.lists.specs.Lists.{over}
use Rattle.lists.proofs.ListLaws.{over_read}
use Rattle.pdo_run.proofs.gather.Goals as goal

laid : (list ws after : List ℕ) (first n m : ℕ) → m ≡ n → first + n ≤ length ws → after ≡ over list 0 (take m (drop first ws)) → take n after ≡ take n (drop first ws)
laid list ws after first n m k h e =
    let y = take n (drop first ws) in
    let l : length y ≡ n = length-take-le n (drop first ws) (rw length-drop (omega arith)) in
    at_n ∙ ap (λ i. take i (over list 0 y)) (sym l) ∙ over_read list 0 y (omega arith)
  where
    at_n : take n after ≡ take n (over list 0 (take n (drop first ws)))
    at_n = ap (take n) (e ∙ ap (λ i. over list 0 (take i (drop first ws))) k)

pub returns : goal.returns
returns g c = (c.lay.auto.s ∙ length-replicate g.row.N 0, laid _ _ _ c.args.first c.args.n _ (omega arith) c.requires.1 c.lay.ensures)
