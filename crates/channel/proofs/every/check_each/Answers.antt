-- `channel::every::check_each` meets its contract: what the channels from here on lay is what all lay. Assumes nothing.
use mathlib.Core.Path.{◌≡◌, sym, ap, ◌∙◌}
use mathlib.Core.List.{List, [], ◌∷◌}
use Prim.Native.Nat.{ℕ, ◌+◌, ◌-◌}
use Rattle.lists.specs.Lists.{over}
use Rattle.entry.specs.Table.{Dict}
use Rattle.entry.specs.Find.{find_row}
use Rattle.entry.proofs.ValueLaws.{rows_of}
use Rattle.pdo_channel.specs.Channel.{comm_index}
use Rattle.channel.specs.Check.{check_of}
use Rattle.channel.specs.Numbers.{answer_number, element_of}
use Rattle.channel.specs.All.{lines_from, laid_on}
use Rattle.channel.proofs.AllLaws.{none_of, some_of, turned, lines_end, laid_none, laid_line}
use native.Mathlib.Omega.{arith}
use Rattle.channel.proofs.every.check_each.Goals as goal

pub find-requires : goal.find-requires
find-requires c = rows_of _ c.d.invariant

pub loop-i-preserved-then-is_none : goal.loop-i-preserved-then-is_none
loop-i-preserved-then-is_none c =
    let d : Dict = c.args.d.now in
    let f : c.find.result ≡ find_row d.objects (comm_index c.loop-i.i) =
    c.find.ensures ∙ ap (find_row c.d.inside.objects.now) c.comm_index.ensures ∙ ap (λ (d : Dict). find_row d.objects (comm_index c.loop-i.i)) c.d.view_is
    in
    record {
      few = omega (arith, c.loop-i.invariant.few);
      rest_is = turned d c.args.out.now 0 c.loop-i.i c.loop-i.out c.loop-i.n c.loop-i-test.true c.loop-i.invariant.rest_is _ (sym (none_of _ _ c.is_none.ensures c.if-is_none.true) ∙ f);
    }

pub loop-i-preserved : goal.loop-i-preserved
loop-i-preserved c =
    let d : Dict = c.args.d.now in
    let f : c.find.result ≡ find_row d.objects (comm_index c.loop-i.i) =
    c.find.ensures ∙ ap (find_row c.d.inside.objects.now) c.comm_index.ensures ∙ ap (λ (d : Dict). find_row d.objects (comm_index c.loop-i.i)) c.d.view_is
    in
    let x = check_of d c.loop-i.i in
    let q : c.lay.new.out ≡ over c.loop-i.out c.loop-i.n (c.loop-i.i ∷ answer_number x ∷ element_of x ∷ []) =
    c.lay.ensures ∙ ap (λ a. over c.loop-i.out c.loop-i.n (c.loop-i.i ∷ answer_number a ∷ element_of a ∷ [])) c.check_judged-a.ensures
    in
    let rest : List ℕ = lines_from d (256 - (c.loop-i.i + 1)) (c.loop-i.i + 1) in
    record {
      few = omega (arith, c.loop-i.invariant.few);
      rest_is =
          ap (λ o. laid_on rest o (c.loop-i.n + 3)) q
          ∙ sym
          (laid_line c.loop-i.out c.loop-i.n c.loop-i.i (answer_number x) (element_of x) rest
          (omega (arith, c.loop-i-test.true, c.loop-i.invariant.few, c.loop-i.auto.out, c.requires)))
          ∙ turned d c.args.out.now 0 c.loop-i.i c.loop-i.out c.loop-i.n c.loop-i-test.true c.loop-i.invariant.rest_is _ (sym (some_of _ _ c.is_none.ensures c.if-is_none.false).1 ∙ f);
    }

pub returns : goal.returns
returns c =
    sym (laid_none c.loop-i.out c.loop-i.n)
    ∙ ap (λ x. laid_on x c.loop-i.out c.loop-i.n) (sym (lines_end c.args.d.now 256 c.loop-i.i (omega (arith, c.loop-i-test.false)))) ∙ c.loop-i.invariant.rest_is
