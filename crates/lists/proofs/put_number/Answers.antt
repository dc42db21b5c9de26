use Rattle.std.proofs.Common.{◌≡◌, ◌+◌, ◌-◌, sym, ◌∙◌, arith, length, take, drop, length-take, length-drop}
use Rattle.lists.specs.Numbers.{bytes_of}
use Rattle.lists.proofs.ListLaws.{over_all, over_part}
use Rattle.lists.proofs.NumberLaws.{put_more, put_all, length-bytes_of}
use Rattle.lists.proofs.put_number.Goals as goal

pub loop-b-preserved : goal.loop-b-preserved
loop-b-preserved c =
    let l = c.loop-b in
    sym (put_more _ _ _ _ (omega arith) (omega arith)) ∙ l.invariant

pub returns : goal.returns
returns c =
    let a = c.args in
    let l = c.loop-b in
    let n = length-bytes_of a.n a.x in
    let m : length (take (a.at + a.n - a.at) (drop a.at a.s.now)) ≡ a.n = simp (length-take, length-drop) (omega (arith, c.requires)) in
    let e : l.b-items ≡ bytes_of a.n a.x = sym (put_all _ _ _ _ (omega (arith, m))) ∙ l.invariant ∙ over_all _ _ (omega (arith, n, m)) in
    rw e (over_part _ _ _ _ (omega (arith, n)))
