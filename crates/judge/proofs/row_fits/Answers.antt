-- `judge::row_fits` meets its contract: each branch is a case of `row_fits`. Assumes nothing.
use native.Mathlib.Nat.{add-sub_cancel_left}
use native.Mathlib.Omega.{arith}
use mathlib.Core.Path.{◌≡◌, ap}
use mathlib.Core.Bool.{true}
use Prim.Native.Nat.{◌+◌, ◌-◌}
use lib.Dec.{leb}
use Rattle.entry.specs.Table.{RowAt, values_of, used_of, count_at, default_at, name_len_at}
use Rattle.entry.specs.Judge.{row_fits}
use Rattle.judge.proofs.RoomLaws.{behind, beyond}
use Rattle.judge.proofs.row_fits.Goals as goal
use Rattle.judge.proofs.row_fits.Goals.{Else-values_of-v}

-- the values have their place
placed : (c : Else-values_of-v) → let row = c.args.row.now in
    let s = row.objects in
    leb (count_at s row.i + default_at s row.i) (values_of s - c.args.v) ≡ true
placed c =
    let row = c.args.row.now in
    let s = row.objects in
    behind (count_at s row.i + default_at s row.i) c.args.v (values_of s) (omega (arith, c.if-values_of-v.false, c.values_of.ensures, ap (λ (r : RowAt). values_of r.objects) c.row.view_is, c.default.ensures, c.count.ensures))

pub overflow_add-v : goal.overflow_add-v
overflow_add-v c = omega (arith, c.requires, c.default.ensures, c.count.ensures)

pub returns-then-values_of-v : goal.returns-then-values_of-v
unfolding row_fits
returns-then-values_of-v c =
    let row = c.args.row.now in
    let s = row.objects in
    simp (beyond (count_at s row.i + default_at s row.i) c.args.v (values_of s) (omega (arith, c.requires)) (omega (arith, c.if-values_of-v.true, c.values_of.ensures, ap (λ (r : RowAt). values_of r.objects) c.row.view_is, c.default.ensures, c.count.ensures)))

pub overflow_add-b : goal.overflow_add-b
overflow_add-b c = omega (arith, c.requires, c.name_len-len.ensures)

pub returns-then-used_of-b : goal.returns-then-used_of-b
unfolding row_fits
returns-then-used_of-b c =
    let row = c.args.row.now in
    let s = row.objects in
    simp (placed (goal.at.returns-then-used_of-b c).Else-values_of-v, beyond (name_len_at s row.i) c.args.b (used_of s) (omega (arith, c.requires)) (omega (arith, c.if-used_of-b.true, c.used_of.ensures, ap (λ (r : RowAt). used_of r.objects) c.row.view_is, c.name_len-len.ensures)))

pub overflow_add-end : goal.overflow_add-end
overflow_add-end c = omega (arith, c.if-used_of-b.false, c.used_of.ensures, ap (λ (r : RowAt). used_of r.objects) c.row.view_is, c.requires)

pub slice_bounds-is_good-end : goal.slice_bounds-is_good-end
slice_bounds-is_good-end c = omega (arith, c.if-used_of-b.false, c.used_of.ensures, ap (λ (r : RowAt). used_of r.objects) c.row.view_is, c.requires)

pub returns : goal.returns
unfolding row_fits
returns c =
    let row = c.args.row.now in
    let s = row.objects in
    simp (placed (goal.at.returns c).Else-values_of-v, behind (name_len_at s row.i) c.args.b (used_of s) (omega (arith, c.if-used_of-b.false, c.used_of.ensures, ap (λ (r : RowAt). used_of r.objects) c.row.view_is, c.name_len-len.ensures)))
    (rw (add-sub_cancel_left, c.name_len-len.ensures) at c.is_good.ensures)
