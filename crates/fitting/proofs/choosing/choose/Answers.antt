-- `fitting::choosing::choose` meets its contract: the record of the key wins, else the default is looked for. Assumes nothing.
use Rattle.std.specs.Prelude.{Option}
use mathlib.Core.Path.{◌≡◌, sym, ap, ◌∙◌}
use mathlib.Core.List.{List}
use Prim.Native.Nat.{ℕ}
use Rattle.entry.specs.Table.{Dict}
use Rattle.entry.proofs.FactLaws.{row_facts}
use Rattle.entry.proofs.JudgeLaws.{head_ok_lem}
use Rattle.entry.proofs.ValueLaws.{row_lies}
use Rattle.fitting.specs.Records.{record_of}
use Rattle.fitting.specs.Fit.{key_at, choice_of, chosen_at}
use native.Mathlib.Omega.{arith}
use Rattle.fitting.proofs.choosing.choose.Goals as goal

chosen : (d : Dict) (s : List ℕ) (i k key : ℕ) (f g : Option ℕ) → key ≡ key_at d.objects i k → f ≡ record_of s key → f ≡ g → choice_of d i k g ≡ chosen_at d s i k
unfolding chosen_at
chosen d s i k key f g q h e = ap (choice_of d i k) (sym e ∙ h ∙ ap (record_of s) q)

pub invariant_of-key_at : goal.invariant_of-key_at
invariant_of-key_at c =
    let r = row_lies _ c.d.invariant c.args.i (rw (sym c.d.view_is) at c.requires).0 in
    (r.small, r.inside)

pub key_at-requires : goal.key_at-requires
key_at-requires c =
    let b = rw (sym c.d.view_is) at c.requires in
    ((head_ok_lem _ _ _ _ _ _ (row_facts _ c.d.invariant c.args.i b.0).head).index_small, omega (arith, (row_lies _ c.d.invariant c.args.i b.0).few, b.1))

pub returns-in-Some-clause-choice : goal.returns-in-Some-clause-choice
returns-in-Some-clause-choice c = chosen c.args.d.now c.args.stored.now c.args.i c.args.k _ _ _ (c.key_at.ensures ∙ ap (λ (m : Dict). key_at m.objects c.args.i c.args.k) c.d.view_is) c.look_up.ensures.found c.in-Some.is

pub returns-in-None-clause-choice : goal.returns-in-None-clause-choice
returns-in-None-clause-choice c =
    c.default_for.ensures
    ∙ chosen c.args.d.now c.args.stored.now c.args.i c.args.k _ _ _ (c.key_at.ensures ∙ ap (λ (m : Dict). key_at m.objects c.args.i c.args.k) c.d.view_is) c.look_up.ensures.found c.in-None.is
