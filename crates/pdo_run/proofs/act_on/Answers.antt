-- `pdo_run::act_on` meets its contract: a step, and the bit where the outcome has one. Assumes nothing.
use mathlib.Core.Path.{◌≡◌, sym, ap, ap₂, ◌∙◌, subst}
use mathlib.Core.Bool.{true, false}
use Prim.Native.Nat.{ℕ, ◌<◌}
use Rattle.entry.specs.Table.{edition_of}
use Rattle.entry.specs.Put.{Contents, contents}
use Rattle.entry.proofs.JudgeLaws.{headed}
use Rattle.pdo_step.specs.declared.Outcome.{Outcome}
use Rattle.pdo_step.specs.declared.receiving.Receiving.{Receiving}
use Rattle.pdo_step.specs.Receiving.{dict_of, held_in, Same}
use Rattle.pdo_step.proofs.ReceivingLaws.{same_on}
use Rattle.pdo_step.specs.Outcomes.{reach}
use Rattle.pdo_step.specs.Effects.{sets_bit}
use Rattle.pdo_step.specs.Bits.{marked_in}
use Rattle.pdo_step.specs.Steps.{applied}
use Rattle.pdo_step.proofs.OutcomeLaws.{reach_within}
use Rattle.pdo_run.specs.declared.payload.Payload.{Payload}
use Rattle.pdo_run.specs.declared.Turn.{Turn}
use Rattle.pdo_run.specs.Run.{Frame, framed, turn_of, act_of}
use Rattle.pdo_run.proofs.RunLaws.{act_marked, act_put, marked_idle}
use native.Mathlib.Omega.{arith}
use Rattle.pdo_run.proofs.act_on.Goals as goal

told : (edition e number k : ℕ) (o : Outcome) (t : Turn) → t ≡ turn_of e number k o → e ≡ edition → sets_bit edition o ≡ t.bit
told edition e number k o t h z = sym (ap (λ (x : Turn). x.bit) h ∙ ap (λ e. sets_bit e o) z)

turned : (edition e number k : ℕ) (o q : Outcome) (t : Turn) → t ≡ turn_of e number k o → e ≡ edition → o ≡ q → t ≡ turn_of edition number k q
turned edition e number k o q t h z y = h ∙ ap (λ e. turn_of e number k o) z ∙ ap (turn_of edition number k) y

-- an outcome with a bit leaves what was held
kept : (f : Frame) (c n : Contents) (o : Outcome) → n ≡ applied f.slots f.payload c o → sets_bit (edition_of f.objects) o ≡ true → n ≡ c
kept f c n o h b = h ∙ marked_idle (edition_of f.objects) f.slots f.payload c o b

bitten : (d m : Receiving) (p : Payload) (n : Contents) (o q : Outcome) → Same d m → held_in m ≡ applied d.slots.now p.bytes.now (held_in d) o → sets_bit (edition_of d.objects.now) o ≡ true
    → n ≡ contents m.words.now (marked_in m.objects.now m.slots.now m.words.now m.bytes.now 0x1C81 p.sender) → o ≡ q → n ≡ act_of (framed d p) (held_in d) q
bitten d m p n o q s h b k e =
    k
    ∙ ap₂ (λ x y. contents m.words.now (marked_in x y m.words.now m.bytes.now 0x1C81 p.sender)) s.objects s.slots
    ∙ ap (λ (x : Contents). contents x.words (marked_in d.objects.now d.slots.now x.words x.bytes 0x1C81 p.sender)) (kept (framed d p) (held_in d) (held_in m) o h b)
    ∙ sym (act_marked (framed d p) (held_in d) o b)
    ∙ ap (act_of (framed d p) (held_in d)) e

put : (f : Frame) (c n : Contents) (o q : Outcome) → n ≡ applied f.slots f.payload c o → sets_bit (edition_of f.objects) o ≡ false → o ≡ q → n ≡ act_of f c q
put f c n o q h b e = h ∙ sym (act_put f c o b) ∙ ap (act_of f c) e

-- the edition is the one before the step
edition : (d m : Receiving) (e : ℕ) → Same d m → e ≡ edition_of m.objects.now → e ≡ edition_of d.objects.now
edition d m e s h = h ∙ ap edition_of s.objects

pub edition_of-requires : goal.edition_of-requires
edition_of-requires c = omega (arith, (headed (dict_of c.step-o.new.d) c.step-o.new.d.judged).rows)

pub turn_of-t-requires : goal.turn_of-t-requires
turn_of-t-requires c =
    let a = c.args in
    (a.payload.now.few, c.requires, subst (λ (o : Outcome). reach o < 8192) (sym c.step-o.ensures.outcome) (omega (arith, a.payload.now.short, reach_within a.d.now.objects.now a.d.now.slots.now a.payload.now.bytes.now a.word)))

pub returns-then-t-clause-same : goal.returns-then-t-clause-same
returns-then-t-clause-same c = same_on c.step-o.ensures.same c.mark.ensures.same

pub returns-then-t-clause-turn : goal.returns-then-t-clause-turn
returns-then-t-clause-turn c = turned _ _ _ _ _ _ _ c.turn_of-t.ensures (edition _ _ _ c.step-o.ensures.same c.edition_of.ensures) c.step-o.ensures.outcome

pub returns-then-t-clause-held : goal.returns-then-t-clause-held
returns-then-t-clause-held c =
    let s = c.step-o.ensures in
    bitten c.args.d.now c.step-o.new.d c.args.payload.now _ _ _ s.same s.held (told _ _ _ _ _ _ c.turn_of-t.ensures (edition _ _ _ s.same c.edition_of.ensures) ∙ c.if-t.true) c.mark.ensures.held s.outcome

pub returns-else-t-clause-turn : goal.returns-else-t-clause-turn
returns-else-t-clause-turn c = turned _ _ _ _ _ _ _ c.turn_of-t.ensures (edition _ _ _ c.step-o.ensures.same c.edition_of.ensures) c.step-o.ensures.outcome

pub returns-else-t-clause-held : goal.returns-else-t-clause-held
returns-else-t-clause-held c =
    let s = c.step-o.ensures in
    put (framed c.args.d.now c.args.payload.now) _ _ _ _ s.held (told _ _ _ _ _ _ c.turn_of-t.ensures (edition _ _ _ s.same c.edition_of.ensures) ∙ c.if-t.false) s.outcome
