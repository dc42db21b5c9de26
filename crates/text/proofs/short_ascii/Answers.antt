-- `text::short_ascii` meets its contract: the parts that are tested meet or overlap. Assumes nothing.
use native.Mathlib.Omega.{arith}
use Prim.Native.Nat.{◌+◌, ◌-◌}
use lib.ListN.{length}
use mathlib.Core.Path.{sym, ◌∙◌}
use mathlib.Core.Bool.{◌&&◌, and-eq-true_iff}
use Rattle.lists.specs.Numbers.{Bytes}
use Rattle.text.proofs.AsciiLaws.{low_eight, low_join, low_within}
use Rattle.text.proofs.short_ascii.Goals as goal

pub returns-then-n-lt8 : goal.returns-then-n-lt8
returns-then-n-lt8 c e = low_within c.args.s.now (sym c.few_ascii.ensures ∙ e)

pub returns-then-n-le16 : goal.returns-then-n-le16
returns-then-n-le16 c = λ e k b.
    let m = c.args.s.now in
    let n = length m in
    let w : Bytes m = λ j. (c.type_inv.s j).fits in
    let t = (and-eq-true_iff c.eight_ascii.result c.eight_ascii-2.result).0 e in
    low_join m 0 8 (n - 8) (n - 8 + 8) (omega arith) (low_eight m 0 _ _ w (omega arith) c.eight.ensures c.eight_ascii.ensures t.0) (low_eight m (n - 8) _ _ w (omega arith) c.eight-2.ensures c.eight_ascii-2.ensures t.1) k (omega arith) (omega arith)

pub returns : goal.returns
returns c = λ e k b.
    let p = c.eight_ascii.result in
    let q = c.eight_ascii-2.result in
    let r = c.eight_ascii-3.result in
    let s = c.eight_ascii-4.result in
    let t = (and-eq-true_iff (p && q) (r && s)).0 e in
    let u = (and-eq-true_iff p q).0 t.0 in
    let v = (and-eq-true_iff r s).0 t.1 in
    let m = c.args.s.now in
    let n = length m in
    let w : Bytes m = λ j. (c.type_inv.s j).fits in
    let f = low_join m 0 8 8 16 (omega arith) (low_eight m 0 _ _ w (omega arith) c.eight.ensures c.eight_ascii.ensures u.0) (low_eight m 8 _ _ w (omega arith) c.eight-3.ensures c.eight_ascii-3.ensures v.0) in
    let g = low_join m 0 16 (n - 16) (n - 16 + 8) (omega arith) f (low_eight m (n - 16) _ _ w (omega arith) c.eight-4.ensures c.eight_ascii-4.ensures v.1) in
    low_join m 0 (n - 16 + 8) (n - 8) (n - 8 + 8) (omega arith) g (low_eight m (n - 8) _ _ w (omega arith) c.eight-2.ensures c.eight_ascii-2.ensures u.1) k (omega arith) (omega arith)
