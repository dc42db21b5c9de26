-- `restoring::acting::restore_value` meets its contract: each choice is put as the definition says. Assumes nothing.
use mathlib.Core.Path.{◌≡◌, sym, ap, ◌∙◌}
use mathlib.Core.Bool.{true}
use mathlib.Core.List.{List}
use Prim.Native.Nat.{ℕ, ◌<◌}
use Rattle.lists.specs.Numbers.{Bytes}
use Rattle.entry.specs.Table.{Dict, dict, number_of, count_at}
use Rattle.entry.specs.Judge.{well_formed}
use Rattle.entry.specs.Put.{Contents, contents}
use Rattle.entry.proofs.ValueLaws.{row_lies}
use Rattle.fitting.specs.Fit.{slot_in, chosen_at, fits_room}
use Rattle.restoring.specs.Restore.{restored_by}
use Rattle.restoring.specs.Restoring.{dict_of}
use Rattle.fitting.specs.declared.Choice.{Choice}
use Rattle.fitting.proofs.ChoiceLaws.{chosen_stored, chosen_default}
use Rattle.fitting.proofs.SlotLaws.{facts, default_slot}
use Rattle.restoring.proofs.TurnLaws.{stored-fits, puts-new, copies, turn}
use native.Mathlib.Omega.{arith}
use Rattle.restoring.proofs.acting.restore_value.Goals as goal

-- the choice in what is shown is that in the dictionary
chosen : (shown d : Dict) (s : List ℕ) (i k : ℕ) (m : Choice) → shown ≡ d → m ≡ chosen_at shown s i k → m ≡ chosen_at d s i k
chosen shown d s i k m e h = h ∙ ap (λ x. chosen_at x s i k) e

-- what is chosen, by the choice that was made
module _ (d : Dict) (s : List ℕ) (i k : ℕ) (choice q : Choice) (h : choice ≡ chosen_at d s i k) (e : choice ≡ q) where
  fits : fits_room d s (slot_in d.objects i k) (chosen_at d s i k) ≡ true → fits_room d s (slot_in d.objects i k) q ≡ true
  fits f = ap (fits_room d s (slot_in d.objects i k)) (sym e ∙ h) ∙ f

  got : restored_by d s (slot_in d.objects i k) q ≡ restored_by d s (slot_in d.objects i k) (chosen_at d s i k)
  got = ap (restored_by d s (slot_in d.objects i k)) (sym e ∙ h)

-- the two equations of a put as one
same : (objects slots slots' words bytes : List ℕ) (x : Contents) → slots ≡ slots' → contents words bytes ≡ x → dict objects slots words bytes ≡ dict objects slots' x.words x.bytes
same objects slots slots' words bytes x e f = ap (λ l. dict objects l words bytes) e ∙ ap (λ (c : Contents). dict objects slots' c.words c.bytes) f

-- after the value's turn it is a dictionary still
still : (d : Dict) (s : List ℕ) (i k : ℕ) → well_formed d ≡ true → Bytes d.bytes → Bytes s → (i < number_of d.objects) × (k < count_at d.objects i) → fits_room d s (slot_in d.objects i k) (chosen_at d s i k) ≡ true
    → (x : Dict) → x ≡ restored_by d s (slot_in d.objects i k) (chosen_at d s i k) → (well_formed x ≡ true) × Bytes x.bytes
still d s i k w b bs h f x e = let t = turn d w s i k h.0 h.1 bs b f in rw e (t.well, t.bytes)

pub invariant_of-first : goal.invariant_of-first
invariant_of-first c =
    let d = dict_of c.args.d.now in
    let r = row_lies d c.args.d.now.judged c.args.i c.requires.i_bound.0 in
    (r.small, r.inside)

pub overflow_add-p : goal.overflow_add-p
overflow_add-p c =
    let d = dict_of c.args.d.now in
    let f = facts d c.args.d.now.judged c.args.stored.now c.args.i c.args.k c.requires.i_bound.0 c.requires.i_bound.1 in
    omega (arith, f.low, c.first.ensures)

pub put_stored-requires-clause-body : goal.put_stored-requires-clause-body
put_stored-requires-clause-body c =
    let d = dict_of c.args.d.now in
    let m = chosen_stored d c.args.stored.now c.args.i c.args.k _ (sym (chosen _ (dict_of c.args.d.now) _ _ _ _ c.shown.ensures c.choose-choice.ensures.choice) ∙ c.in-Stored.is) in
    let f = facts d c.args.d.now.judged c.args.stored.now c.args.i c.args.k c.requires.i_bound.0 c.requires.i_bound.1 in
    rw (c.first.ensures, c.choose-choice.ensures.image) (m.body, f.low, f.slot)

pub put_stored-requires-clause-puts : goal.put_stored-requires-clause-puts
put_stored-requires-clause-puts c =
    let d = dict_of c.args.d.now in
    let m = chosen_stored d c.args.stored.now c.args.i c.args.k _ (sym (chosen _ (dict_of c.args.d.now) _ _ _ _ c.shown.ensures c.choose-choice.ensures.choice) ∙ c.in-Stored.is) in
    let f = facts d c.args.d.now.judged c.args.stored.now c.args.i c.args.k c.requires.i_bound.0 c.requires.i_bound.1 in
    let g = stored-fits d c.args.d.now.judged c.args.stored.now c.args.i c.args.k c.requires.i_bound.0 c.requires.i_bound.1 _ m (fits d c.args.stored.now c.args.i c.args.k _ _ (chosen _ (dict_of c.args.d.now) _ _ _ _ c.shown.ensures c.choose-choice.ensures.choice) c.in-Stored.is c.requires.k_value) in
    rw (c.first.ensures, c.choose-choice.ensures.image) (puts-new d _ _ _ _ f g)

pub put_default-requires : goal.put_default-requires
put_default-requires c =
    let d = dict_of c.args.d.now in
    let z = default_slot d c.args.d.now.judged c.args.stored.now c.args.i c.args.k c.requires.i_bound.0 c.requires.i_bound.1 _ (chosen_default d c.args.stored.now c.args.i c.args.k _ (sym (chosen _ (dict_of c.args.d.now) _ _ _ _ c.shown.ensures c.choose-choice.ensures.choice) ∙ c.in-Default.is)) in
    rw c.first.ensures (copies d c.args.d.now.judged c.args.stored.now c.args.i c.args.k c.requires.i_bound.0 c.requires.i_bound.1 _ z)

pub returns-in-Keep-clause-held : goal.returns-in-Keep-clause-held
unfolding restored_by
returns-in-Keep-clause-held c =
    got (dict_of c.args.d.now) c.args.stored.now c.args.i c.args.k _ _ (chosen _ (dict_of c.args.d.now) _ _ _ _ c.shown.ensures c.choose-choice.ensures.choice) c.in-Keep.is

pub returns-in-Stored-clause-held : goal.returns-in-Stored-clause-held
unfolding restored_by
returns-in-Stored-clause-held c =
    same c.args.d.now.objects.now _ _ _ _ _ (rw (c.first.ensures, c.choose-choice.ensures.image) at c.put_stored.ensures.shape) (rw (c.first.ensures, c.choose-choice.ensures.image) at c.put_stored.ensures.held)
    ∙ got (dict_of c.args.d.now) c.args.stored.now c.args.i c.args.k _ _ (chosen _ (dict_of c.args.d.now) _ _ _ _ c.shown.ensures c.choose-choice.ensures.choice) c.in-Stored.is

pub returns-in-Default-clause-held : goal.returns-in-Default-clause-held
unfolding restored_by
returns-in-Default-clause-held c =
    same c.args.d.now.objects.now _ _ _ _ _ (rw c.first.ensures at c.put_default.ensures.shape) (rw c.first.ensures at c.put_default.ensures.held)
    ∙ got (dict_of c.args.d.now) c.args.stored.now c.args.i c.args.k _ _ (chosen _ (dict_of c.args.d.now) _ _ _ _ c.shown.ensures c.choose-choice.ensures.choice) c.in-Default.is

pub invariant_of-d : goal.invariant_of-d
unfolding restored_by
invariant_of-d c =
    let a = c.args in
    let d = dict_of a.d.now in
    let b : Bytes a.stored.now = rw (← c.stored.view_is) c.stored.invariant.2 in
    let e =
    same d.objects _ _ _ _ _ (rw (c.first.ensures, c.choose-choice.ensures.image) at c.put_stored.ensures.shape) (rw (c.first.ensures, c.choose-choice.ensures.image) at c.put_stored.ensures.held)
    ∙ got d a.stored.now a.i a.k _ _ (chosen _ d _ _ _ _ c.shown.ensures c.choose-choice.ensures.choice) c.in-Stored.is in
    let r = still d a.stored.now a.i a.k a.d.now.judged a.d.now.sane b c.requires.i_bound c.requires.k_value _ e in
    record { judged = r.0; sane = r.1 }

pub invariant_of-d-in-Default : goal.invariant_of-d-in-Default
unfolding restored_by
invariant_of-d-in-Default c =
    let a = c.args in
    let d = dict_of a.d.now in
    let b : Bytes a.stored.now = rw (← c.stored.view_is) c.stored.invariant.2 in
    let e =
    same d.objects _ _ _ _ _ (rw c.first.ensures at c.put_default.ensures.shape) (rw c.first.ensures at c.put_default.ensures.held)
    ∙ got d a.stored.now a.i a.k _ _ (chosen _ d _ _ _ _ c.shown.ensures c.choose-choice.ensures.choice) c.in-Default.is in
    let r = still d a.stored.now a.i a.k a.d.now.judged a.d.now.sane b c.requires.i_bound c.requires.k_value _ e in
    record { judged = r.0; sane = r.1 }
