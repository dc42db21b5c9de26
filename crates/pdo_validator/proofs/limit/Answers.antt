-- `pdo_validator::limit` meets its contract: each place is a case of `u16_at`. Assumes nothing.
use Rattle.std.specs.Prelude.{Ok}
use mathlib.Core.Path.{◌≡◌, refl, sym, ap, ◌∙◌}
use mathlib.Core.Bool.{cond}
use borrow.Author.Tests.{eq-eqb, ne_eqb}
use Rattle.entry.specs.Table.{Dict, dict, sends}
use Rattle.entry.specs.Find.{place_of}
use Rattle.entry.proofs.PlaceLaws.{no_value}
use Rattle.entry.proofs.ValueLaws.{rows_of, element_of_lem, element_facts}
use Rattle.pdo_validator.specs.Counting.{u16_at, limit_of}
use Rattle.pdo_validator.proofs.limit.Goals as goal
use Rattle.pdo_validator.proofs.limit.Goals.{then-is_sent, else-is_sent}

pub locate-requires : goal.locate-requires
locate-requires c = rows_of (dict c.d.inside.objects.now c.d.inside.slots.now c.d.inside.words.now c.d.inside.bytes.now) c.d.invariant

pub returns-in_default-2 : goal.returns-in_default-2
unfolding limit_of
returns-in_default-2 c =
    let s : c.if-is_sent.sub ≡ cond (sends c.args.index) 1 2 =
    elim c.if-is_sent.branch [
      | then-is_sent w ↦ w.sub-is ∙ ap (λ b. cond b 1 2) (sym (sym c.is_sent.ensures ∙ w.if-is_sent.true))
      | else-is_sent w ↦ w.sub-is ∙ ap (λ b. cond b 1 2) (sym (sym c.is_sent.ensures ∙ w.if-is_sent.false))
    ]
    in
    let d : Dict = dict c.d.inside.objects.now c.d.inside.slots.now c.d.inside.words.now c.d.inside.bytes.now in
    rw (sym c.d.view_is) (no_value (λ q. u16_at d (Ok q)) (λ n. refl) _ c.in_default.in-Count-own.keys2 ∙ ap (u16_at d) (c.in_default.ensures ∙ ap (place_of c.d.inside.objects.now 0x1F98) s))

pub returns-in_default-3 : goal.returns-in_default-3
unfolding limit_of
returns-in_default-3 c =
    let s : c.if-is_sent.sub ≡ cond (sends c.args.index) 1 2 =
    elim c.if-is_sent.branch [
      | then-is_sent w ↦ w.sub-is ∙ ap (λ b. cond b 1 2) (sym (sym c.is_sent.ensures ∙ w.if-is_sent.true))
      | else-is_sent w ↦ w.sub-is ∙ ap (λ b. cond b 1 2) (sym (sym c.is_sent.ensures ∙ w.if-is_sent.false))
    ]
    in
    let d : Dict = dict c.d.inside.objects.now c.d.inside.slots.now c.d.inside.words.now c.d.inside.bytes.now in
    rw (sym c.d.view_is) (ap (u16_at d) (sym c.in_default.is ∙ c.locate.ensures ∙ ap (place_of c.d.inside.objects.now 0x1F98) s))

pub invariant_of-value_type : goal.invariant_of-value_type
invariant_of-value_type c =
    let s : c.if-is_sent.sub ≡ cond (sends c.args.index) 1 2 =
    elim c.if-is_sent.branch [
      | then-is_sent w ↦ w.sub-is ∙ ap (λ b. cond b 1 2) (sym (sym c.is_sent.ensures ∙ w.if-is_sent.true))
      | else-is_sent w ↦ w.sub-is ∙ ap (λ b. cond b 1 2) (sym (sym c.is_sent.ensures ∙ w.if-is_sent.false))
    ]
    in
    let d : Dict = dict c.d.inside.objects.now c.d.inside.slots.now c.d.inside.words.now c.d.inside.bytes.now in
    let f = element_facts d c.d.invariant (element_of_lem d c.d.invariant _ _ _ (sym (c.locate.ensures ∙ ap (place_of c.d.inside.objects.now 0x1F98) s) ∙ c.in-Ok-Value.is ∙ ap Ok c.in-Ok-Value.field-0-is)) in
    (f.low, f.slot)

pub bounds-d-inside-p : goal.bounds-d-inside-p
bounds-d-inside-p c =
    let s : c.if-is_sent.sub ≡ cond (sends c.args.index) 1 2 =
    elim c.if-is_sent.branch [
      | then-is_sent w ↦ w.sub-is ∙ ap (λ b. cond b 1 2) (sym (sym c.is_sent.ensures ∙ w.if-is_sent.true))
      | else-is_sent w ↦ w.sub-is ∙ ap (λ b. cond b 1 2) (sym (sym c.is_sent.ensures ∙ w.if-is_sent.false))
    ]
    in
    let d : Dict = dict c.d.inside.objects.now c.d.inside.slots.now c.d.inside.words.now c.d.inside.bytes.now in
    (element_facts d c.d.invariant (element_of_lem d c.d.invariant _ _ _ (sym (c.locate.ensures ∙ ap (place_of c.d.inside.objects.now 0x1F98) s) ∙ c.in-Ok-Value.is ∙ ap Ok c.in-Ok-Value.field-0-is))).word

pub returns-in-Ok-Value : goal.returns-in-Ok-Value
unfolding limit_of
returns-in-Ok-Value c =
    let s : c.if-is_sent.sub ≡ cond (sends c.args.index) 1 2 =
    elim c.if-is_sent.branch [
      | then-is_sent w ↦ w.sub-is ∙ ap (λ b. cond b 1 2) (sym (sym c.is_sent.ensures ∙ w.if-is_sent.true))
      | else-is_sent w ↦ w.sub-is ∙ ap (λ b. cond b 1 2) (sym (sym c.is_sent.ensures ∙ w.if-is_sent.false))
    ]
    in
    let d : Dict = dict c.d.inside.objects.now c.d.inside.slots.now c.d.inside.words.now c.d.inside.bytes.now in
    rw (sym c.d.view_is) (simp (sym (c.locate.ensures ∙ ap (place_of c.d.inside.objects.now 0x1F98) s) ∙ c.in-Ok-Value.is ∙ ap Ok c.in-Ok-Value.field-0-is, eq-eqb _ _ (sym c.value_type.ensures ∙ c.if-value_type-eq6.true)))

pub returns-in_default : goal.returns-in_default
unfolding limit_of
returns-in_default c =
    let s : c.if-is_sent.sub ≡ cond (sends c.args.index) 1 2 =
    elim c.if-is_sent.branch [
      | then-is_sent w ↦ w.sub-is ∙ ap (λ b. cond b 1 2) (sym (sym c.is_sent.ensures ∙ w.if-is_sent.true))
      | else-is_sent w ↦ w.sub-is ∙ ap (λ b. cond b 1 2) (sym (sym c.is_sent.ensures ∙ w.if-is_sent.false))
    ]
    in
    let d : Dict = dict c.d.inside.objects.now c.d.inside.slots.now c.d.inside.words.now c.d.inside.bytes.now in
    rw (sym c.d.view_is) (simp (sym (c.locate.ensures ∙ ap (place_of c.d.inside.objects.now 0x1F98) s) ∙ c.in-Ok-Value.is ∙ ap Ok c.in-Ok-Value.field-0-is, ne_eqb _ _ (λ q. c.if-value_type-eq6.false (c.value_type.ensures ∙ q))))
