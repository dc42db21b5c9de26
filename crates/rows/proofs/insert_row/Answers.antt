-- `rows::insert_row` meets its contract. Assumes nothing.
use mathlib.Core.Path.{◌≡◌, ◌∙◌}
use native.Mathlib.Omega.{arith}
use borrow.Author.Rules.{rules}
use Prim.Native.Nat.{◌-◌, ◌+◌, ◌*◌}
use lib.ListN.{length}
use Rattle.lists.specs.Lists.{grown}
use Rattle.lists.proofs.SpliceLaws.{fill_gap, length-grown}
use Rattle.rows.proofs.insert_row.Goals as goal

pub grow-requires-2-clause-by_index : goal.grow-requires-2-clause-by_index
grow-requires-2-clause-by_index c = λ j h. rw c.grow.ensures (c.requires.by_index_2 j h)

pub returns : goal.returns
returns c =
    let a = c.args in
    let once = grown 12 a.u (a.n - a.i) (12 * a.i + 16) a.objects.now in
    let s = grown 12 a.g (a.n - a.i) (12 * a.i + 17) once in
    let l : length s ≡ length a.objects.now = length-grown 12 a.g (a.n - a.i) (12 * a.i + 17) once ∙ length-grown 12 a.u (a.n - a.i) (12 * a.i + 16) a.objects.now in
    c.lay.ensures ∙ rw (c.move_up.ensures, c.grow-2.ensures, c.grow.ensures) (fill_gap s (12 * a.i + 12) (12 * a.n + 12) 12 a.row.now (search rules) (omega (arith, c.requires.i_le_n)) (omega (arith, c.requires.i_le_n, l)))
