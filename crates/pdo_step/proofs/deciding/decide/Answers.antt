-- `pdo_step::deciding::decide` meets its contract: each way out is a case of the definition. Assumes nothing.
use Rattle.std.specs.Prelude.{Option, Ok}
use Rattle.mapping.specs.declared.Field.{Field}
use mathlib.Core.Path.{◌≡◌, sym, ap, ◌∙◌}
use mathlib.Core.Bool.{cond}
use mathlib.Core.List.{List}
use Prim.Native.Nat.{ℕ, ◌+◌}
use lib.ListN.{length}
use native.Mathlib.Omega.{arith}
use borrow.Author.Tests.{lt-ltb, le-ltb}
use Rattle.mapping.specs.Word.{entry_of}
use Rattle.mapping.proofs.WordLaws.{same_field, whole_field, entry_in_range}
use Rattle.entry.specs.Find.{place_of}
use Rattle.entry.specs.declared.Place.TheVariants.{Value}
use Rattle.aim.specs.declared.Aim.{Aim}
use Rattle.aim.specs.Aims.{aim_of, class_of}
use Rattle.aim.proofs.ClassLaws.{class_value}
use Rattle.pdo_step.specs.Outcomes.{on_class, inside, outcome_of}
use Rattle.pdo_step.specs.declared.Outcome.{Outcome}
use Rattle.pdo_step.specs.declared.Outcome.TheVariants.{Short}
use Rattle.pdo_step.proofs.deciding.decide.Goals as goal

abbrev next : List ℕ → List ℕ → Aim → Outcome
next slots payload a = on_class slots payload a.entry.index (class_of a)

found : (objects slots payload : List ℕ) (w : ℕ) (a : Aim) (f : Option Field) → a ≡ aim_of objects w → a.field ≡ f → inside payload f (next slots payload a) ≡ outcome_of objects slots payload w
unfolding outcome_of
found objects slots payload w a f h e =
    ap (λ (g : Option Field). inside payload g (next slots payload a)) (sym e)
    ∙ ap (λ (z : Aim). inside payload z.field (next slots payload z)) h

pub aim_of-a-requires : goal.aim_of-a-requires
aim_of-a-requires c = c.requires.rows

pub returns-in_default : goal.returns-in_default
returns-in_default c = found c.args.objects.now c.args.slots.now c.args.payload.now c.args.word _ _ c.aim_of-a.ensures c.in_default.is

pub overflow_add-field : goal.overflow_add-field
overflow_add-field c =
    let w = c.args.word in
    omega (arith, (whole_field (entry_of w) (entry_in_range w) _ _ (sym (ap (λ (z : Aim). z.field) c.aim_of-a.ensures) ∙ c.in-Some.is)).end_small)

pub returns-then-payload-field : goal.returns-then-payload-field
returns-then-payload-field c =
    sym (ap (λ b. cond b Short (next c.args.slots.now c.args.payload.now c.aim_of-a.result)) (lt-ltb (length c.args.payload.now) (c.in-Some.field.start + c.in-Some.field.length) (omega arith)))
    ∙ found c.args.objects.now c.args.slots.now c.args.payload.now c.args.word _ _ c.aim_of-a.ensures c.in-Some.is

pub at_class-requires : goal.at_class-requires
at_class-requires c b n p e =
    let v = class_value c.aim_of-a.result b n p (sym c.classify.ensures ∙ e) in
    let h = same_field c.in-Some.field.start c.in-Some.field.length b n (sym c.in-Some.is ∙ v.field) in
    let q : place_of c.args.objects.now (entry_of c.args.word).index (entry_of c.args.word).sub_index ≡ Ok (Value p) = sym (ap (λ (z : Aim). z.place) c.aim_of-a.ensures) ∙ v.placed in
    let r = c.requires.value _ _ _ q in
    (r.0, r.1, omega (arith, h.0, h.1))

pub returns : goal.returns
returns c =
    c.at_class.ensures
    ∙ ap (on_class c.args.slots.now c.args.payload.now c.aim_of-a.result.entry.index) c.classify.ensures
    ∙ sym (ap (λ b. cond b Short (next c.args.slots.now c.args.payload.now c.aim_of-a.result)) (le-ltb (length c.args.payload.now) (c.in-Some.field.start + c.in-Some.field.length) (omega arith)))
    ∙ found c.args.objects.now c.args.slots.now c.args.payload.now c.args.word _ _ c.aim_of-a.ensures c.in-Some.is
