-- `insertion::room::put_in` meets its contract. Assumes nothing.
use mathlib.Core.Path.{sym, ◌∙◌}
use mathlib.Core.Bool.{cond}
use Prim.Native.Nat.{ℕ, ◌≤◌}
use native.Mathlib.Omega.{arith}
use Rattle.entry.specs.Table.{Dict, dict, number_of}
use Rattle.given.specs.Given.{count_in}
use Rattle.insertion.specs.Replace.{without}
use Rattle.insertion.proofs.AnswerLaws.{room_at}
use Rattle.insertion.proofs.GoneLaws.{number-gone}
use Rattle.insertion.proofs.room.put_in.Goals as goal

pub replace_at-requires-clause-i_bound : goal.replace_at-requires-clause-i_bound
replace_at-requires-clause-i_bound c =
    let a = c.args in
    let d : Dict = dict a.objects.now a.slots.now a.words.now a.bytes.now in
    let k : ℕ = cond a.replaces 1 0 in
    let h = c.requires.i_bound.0 in
    let n : a.i ≤ number_of (without a.i k d).objects = omega (arith, h, number-gone d c.requires.bytes_value a.i k h) in
    (h, room_at (without a.i k d) a.i (count_in a.vals.now) a.g n (sym c.fits.ensures ∙ c.if-not-fits.false))
