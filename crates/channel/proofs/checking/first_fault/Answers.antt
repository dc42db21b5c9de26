-- `channel::checking::first_fault` meets its contract: the verdict on an element decides. Assumes nothing.
use Rattle.std.specs.Prelude.{Result, Err}
use Rattle.element.specs.declared.Fault.{Fault}
use mathlib.Core.Path.{◌≡◌, sym, ap, ◌∙◌}
use mathlib.Core.List.{List}
use Prim.Native.Nat.{ℕ, ◌+◌, ◌<◌}
use borrow.Author.Tests.{eq-eqb, ne_eqb}
use lib.ListN.{length, drop, get_or}
use Rattle.entry.specs.Table.{Dict, type_at}
use Rattle.element.specs.declared.Fault.TheVariants.{NotMapping}
use Rattle.element.specs.Elements.{word_verdict, verdict_of}
use Rattle.channel.specs.declared.Checked.{Checked}
use Rattle.channel.specs.Check.{on_verdict, fault_from}
use Rattle.channel.proofs.CheckLaws.{fault_step, fault_end}
use Rattle.channel.proofs.checking.first_fault.Goals as goal

-- the verdict v on element j decides
decided : (objects slots : List ℕ) (p : ℕ) (list : List ℕ) (j : ℕ) (last : Checked) (v : Result (Unit {0}) Fault) → j < length list
    → verdict_of objects slots (type_at slots (p + j)) (get_or list j 0) ≡ v
    → fault_from objects slots p (drop j list) j last ≡ fault_from objects slots p list 0 last
    → on_verdict (j + 1) (fault_from objects slots p (drop (j + 1) list) (j + 1) last) v ≡ fault_from objects slots p list 0 last
decided objects slots p list j last v h e q = sym (ap (on_verdict _ _) e) ∙ sym (fault_step objects slots p list j last h) ∙ q

-- the verdict on a word of type U64
mapped : (objects slots : List ℕ) (t u w : ℕ) (v y : Result (Unit {0}) Fault) → u ≡ type_at slots t → u ≡ 8 → v ≡ word_verdict objects slots w → v ≡ y → verdict_of objects slots (type_at slots t) w ≡ y
mapped objects slots t u w v y e h q z = rw (eq-eqb (type_at slots t) 8 (sym e ∙ h)) (sym q ∙ z)

pub returns-then-value_type-ne8 : goal.returns-then-value_type-ne8
returns-then-value_type-ne8 c =
    let a = c.args in
    decided a.d.now.objects a.d.now.slots a.first a.list.now c.loop-j.j a.last (Err NotMapping) c.loop-j-test.true (rw (ne_eqb _ 8 (λ z. c.if-value_type-ne8.true (c.value_type.ensures ∙ ap (λ (m : Dict). type_at m.slots (c.args.first + c.loop-j.j)) c.d.view_is ∙ z)))) c.loop-j.invariant

pub returns-in-Err : goal.returns-in-Err
returns-in-Err c =
    let a = c.args in
    decided a.d.now.objects a.d.now.slots a.first a.list.now c.loop-j.j a.last _ c.loop-j-test.true (mapped _ _ _ _ _ _ _ (c.value_type.ensures ∙ ap (λ (m : Dict). type_at m.slots (c.args.first + c.loop-j.j)) c.d.view_is) c.if-value_type-ne8.false c.word_verdict.ensures c.in-Err.is) c.loop-j.invariant

pub loop-j-preserved : goal.loop-j-preserved
loop-j-preserved c =
    let a = c.args in
    decided a.d.now.objects a.d.now.slots a.first a.list.now c.loop-j.j a.last _ c.loop-j-test.true (mapped _ _ _ _ _ _ _ (c.value_type.ensures ∙ ap (λ (m : Dict). type_at m.slots (c.args.first + c.loop-j.j)) c.d.view_is) c.if-value_type-ne8.false c.word_verdict.ensures c.in_default.is) c.loop-j.invariant

pub returns : goal.returns
returns c =
    let a = c.args in
    sym (fault_end a.d.now.objects a.d.now.slots a.first a.list.now c.loop-j.j a.last c.loop-j-test.false) ∙ c.loop-j.invariant
