-- `pdo_handler::consuming::consume_on_channel` meets its contract: each way out is a case of the definition. Assumes nothing.
use Rattle.std.specs.Prelude.{Option, Some}
use mathlib.Core.Path.{◌≡◌, sym, ap, ap₂, ◌∙◌}
use mathlib.Core.Bool.{Bool, cond}
use mathlib.Core.List.{List, [], ◌∷◌}
use Rattle.event.specs.declared.Event.TheVariants.{MapVersion}
use Prim.Native.Nat.{ℕ, ◌+◌}
use Rattle.entry.specs.Find.{find_row}
use Rattle.entry.specs.Table.{Dict}
use Rattle.entry.specs.Put.{Contents}
use Rattle.pdo_step.specs.Receiving.{held_in}
use Rattle.pdo_channel.specs.Channel.{expected_of, right_version}
use Rattle.pdo_run.specs.Run.{Frame, framed, held, marked, ran, run_on, logged, finished, noted_log, noted_count}
use Rattle.pdo_handler.specs.Consume.{map_version, on_channel}
use Rattle.pdo_run.proofs.RunLaws.{finished_none, finished_one}
use native.Mathlib.Omega.{arith}
use Rattle.pdo_handler.proofs.consuming.consume_on_channel.Goals as goal

channelled : (f : Frame) (k : Contents) (version : ℕ) (log : List ℕ) (x y : Option ℕ) → x ≡ y → finished (on_channel f k version y) log 0 ≡ finished (on_channel f k version x) log 0
channelled f k version log x y e = ap (λ z. finished (on_channel f k version z) log 0) (sym e)

-- the version decides
chosen : (f : Frame) (k : Contents) (version : ℕ) (log : List ℕ) (i expected : ℕ) (r b : Bool) → expected ≡ expected_of (held f k) i → r ≡ right_version expected version → r ≡ b
    → finished (on_channel f k version (Some i)) log 0 ≡ finished (cond b (run_on f k (find_row f.objects (0x1600 + i))) (ran (marked f k 0x1C80) (map_version f.number ∷ []))) log 0
chosen f k version log i expected r b h w e =
    ap (λ x. finished (cond x (run_on f k (find_row f.objects (0x1600 + i))) (ran (marked f k 0x1C80) (map_version f.number ∷ []))) log 0)
    (sym (w ∙ ap (λ v. right_version v version) h) ∙ e)

-- the version in what is shown is that in the dictionary
versioned : (shown d : Dict) (i e : ℕ) → e ≡ expected_of shown i → shown ≡ d → e ≡ expected_of d i
versioned shown d i e h s = h ∙ ap (λ x. expected_of x i) s

pub returns-in_default-clause-left : goal.returns-in_default-clause-left
returns-in_default-clause-left c =
    let a = c.args in
    let f = framed a.d.now a.payload.now in
    let k = held_in a.d.now in
    sym (finished_none a.log.now 0 k) ∙ channelled f k _ _ _ _ c.in_default.is

pub returns-clause-left : goal.returns-clause-left
returns-clause-left c =
    let a = c.args in
    let f = framed a.d.now a.payload.now in
    let k = held_in a.d.now in
    ap (λ x. logged x c.note.new.log c.note.result) c.mark.ensures.held
    ∙ ap₂ (λ x y. logged (marked f k 0x1C80) x y) (c.note.ensures.log ∙ ap (noted_log a.log.now 0) c.packed.ensures) (c.note.ensures.count ∙ ap (noted_count 0) c.packed.ensures)
    ∙ sym (finished_one a.log.now 0 a.payload.now.number 0 (omega (arith, c.requires)) (Some MapVersion) (marked f k 0x1C80))
    ∙ sym (chosen f k _ a.log.now _ _ _ _ (versioned _ (held f k) _ _ c.version_of-expected.ensures c.shown.ensures) c.right_version.ensures c.if-right_version.false)
    ∙ channelled f k _ _ _ _ c.in-Some.is
