-- `placing::insert_bytes` meets its contract. Assumes nothing.
use mathlib.Core.Path.{◌≡◌, refl, ◌∙◌}
use Prim.Native.Nat.{◌≤◌, ◌+◌}
use mathlib.Core.List.{◌++◌}
use lib.ListN.{length, length-append}
use lib.Seq.{slice, length-slice}
use Rattle.lists.specs.Lists.{over}
use Rattle.lists.proofs.ListLaws.{over-over, length_over}
use Rattle.lists.proofs.SpliceLaws.{fill_gap}
use Rattle.entry.specs.Model.{rooms}
use native.Mathlib.Omega.{arith}
use Rattle.placing.proofs.insert_bytes.Goals as goal

pub returns : goal.returns
returns c =
    let a = c.args in
    let s = a.bytes.now in
    let r = rooms a.values.now in
    let l : length (a.name.now ++ r) ≡ a.g = rw (length-append a.name.now r) (omega (arith, c.requires)) in
    let sl = length-slice a.b a.used s (omega (arith, c.requires)) in
    let o = over s (a.b + a.g) (slice a.b a.used s) in
    let ln = length_over s (a.b + a.g) (slice a.b a.used s) (omega (arith, sl, c.requires)) in
    let ol : a.b + length a.name.now ≤ length o = omega (arith, ln, c.requires) in
    c.fill_rooms.ensures ∙ rw (c.lay.ensures, c.move_up.ensures)
    (over-over o a.b a.name.now (a.b + length a.name.now) r refl ol ∙ fill_gap s a.b a.used a.g (a.name.now ++ r) l c.requires.0 c.requires.1)
