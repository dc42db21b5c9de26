-- `restoring::acting::restore_values` meets its contract: what the values from here on make of the dictionary as it is now is what all make of it as it was. Assumes nothing.
use mathlib.Core.Path.{◌≡◌, refl, sym, ap, ◌∙◌}
use Prim.Native.Nat.{◌-◌}
use Rattle.lists.specs.Numbers.{Bytes}
use Rattle.entry.proofs.ValueLaws.{row_lies}
use Rattle.fitting.specs.Fit.{values_fit}
use Rattle.restoring.specs.Restore.{values_restored}
use Rattle.restoring.specs.Restoring.{dict_of}
use Rattle.restoring.proofs.RestoringLaws.{same_self, same_on}
use Rattle.restoring.proofs.RestoreLaws.{On}
use Rattle.restoring.proofs.WalkLaws.{first_of, turn_on, turn_put, put_end}
use native.Mathlib.Omega.{arith}
use Rattle.restoring.proofs.acting.restore_values.Goals as goal

pub invariant_of-count : goal.invariant_of-count
invariant_of-count c =
    let d = dict_of c.args.d.now in
    let r = row_lies d c.args.d.now.judged c.args.i c.requires.i_bound in
    (r.small, r.inside)

pub loop-k-init : goal.loop-k-init
loop-k-init c =
    let d = dict_of c.args.d.now in
    let z : c.count-count.result - 0 ≡ c.count-count.result = omega arith in
    let on : On d c.args.stored.now c.args.i c.count-count.result 0 =
    record {
      well = c.args.d.now.judged;
      bytes = c.args.d.now.sane;
      row = c.requires.i_bound;
      all = omega (arith, c.count-count.ensures);
      fits = ap (λ m. values_fit d c.args.stored.now c.args.i m 0) c.count-count.ensures ∙ c.requires.i_value;
    } in
    (refl, same_self, rw z on, rw z, rw (← c.stored.view_is) c.stored.invariant.2)

pub restore_value-requires-clause-k_value : goal.restore_value-requires-clause-k_value
restore_value-requires-clause-k_value c = rw c.loop-k.invariant.0 (first_of _ c.args.stored.now c.args.i c.count-count.result c.loop-k.k c.loop-k-test.true c.loop-k.invariant.2)

pub loop-k-preserved : goal.loop-k-preserved
loop-k-preserved c =
    let b : Bytes c.args.stored.now = c.loop-k.invariant.4 in (
      c.restore_value.ensures.image ∙ c.loop-k.invariant.0,
      same_on c.loop-k.invariant.1 c.restore_value.ensures.same,
      turn_on _ _ c.args.stored.now c.args.i c.count-count.result c.loop-k.k b c.loop-k-test.true c.loop-k.invariant.2 (rw c.loop-k.invariant.0 at c.restore_value.ensures.held),
      turn_put _ _ c.args.stored.now c.args.i c.count-count.result c.loop-k.k c.loop-k-test.true (rw c.loop-k.invariant.0 at c.restore_value.ensures.held) ∙ c.loop-k.invariant.3,
      b,
    )

pub returns-clause-held : goal.returns-clause-held
returns-clause-held c =
    let d = dict_of c.args.d.now in
    sym (put_end _ c.args.stored.now c.args.i c.count-count.result c.loop-k.k (omega arith))
    ∙ c.loop-k.invariant.3
    ∙ ap (λ m. values_restored d c.args.stored.now c.args.i m 0) c.count-count.ensures
