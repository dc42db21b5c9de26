-- `placing::fill_room` meets its contract. Assumes nothing.
use mathlib.Core.Path.{◌≡◌, ◌∙◌}
use Prim.Native.Nat.{◌-◌, ◌+◌}
use Rattle.given.proofs.GivenLaws.{room-laid}
use native.Mathlib.Omega.{arith}
use Rattle.placing.proofs.fill_room.Goals as goal

pub returns : goal.returns
returns c =
    let a = c.args in
    let e : (a.start + a.len) - a.start ≡ a.len = omega arith in
    c.lay_zeros.ensures ∙ rw (c.lay.ensures, e) (room-laid a.s.now a.bytes.now a.p a.room a.start a.len c.requires.2 c.requires.1 c.requires.0)
