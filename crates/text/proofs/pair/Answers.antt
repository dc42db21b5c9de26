-- `text::pair` meets its contract: the second row of Table 3-7. Assumes nothing.
use native.Mathlib.Omega.{arith}
use borrow.Author.Tests.{leb-true}
use mathlib.Core.Path.{sym, subst}
use mathlib.Core.Bool.{◌&&◌, and-eq-true_iff}
use Prim.Native.Nat.{◌+◌}
use lib.Dec.{T, leb}
use lib.ListN.{get_or}
use Rattle.text.proofs.Laws.{skip_pair}
use Rattle.text.proofs.pair.Goals as goal

pub returns-then-s-i-lt2 : goal.returns-then-s-i-lt2
returns-then-s-i-lt2 c = λ e. absurd (subst T (sym e) tt)

pub returns : goal.returns
returns c = λ e.
    let a = c.args in
    let b = get_or a.s.now a.i 0 in
    let d = get_or a.s.now (a.i + 1) 0 in
    let t = (and-eq-true_iff (leb 0xC2 b && leb b 0xDF) (leb 0x80 d && leb d 0xBF)).0 e in
    let u = (and-eq-true_iff (leb 0xC2 b) (leb b 0xDF)).0 t.0 in
    let v = (and-eq-true_iff (leb 0x80 d) (leb d 0xBF)).0 t.1 in
    skip_pair a.s.now a.i (omega arith) (leb-true _ _ u.0) (leb-true _ _ u.1) (leb-true _ _ v.0) (leb-true _ _ v.1)
