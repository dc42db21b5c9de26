-- `fitting::rooms::value_fits` meets its contract: each choice is a case of the definition. Assumes nothing.
use mathlib.Core.Path.{◌≡◌, sym, ap, ◌∙◌}
use mathlib.Core.Bool.{true}
use mathlib.Core.List.{List}
use Prim.Native.Nat.{ℕ, ◌+◌, ◌<◌}
use Rattle.entry.specs.Table.{Dict, number_of, count_at, first_at, room_at}
use Rattle.entry.specs.Judge.{well_formed}
use Rattle.entry.proofs.ValueLaws.{ValueFacts, every_value, row_lies}
use Rattle.fitting.specs.Fit.{slot_in, chosen_at, fits_room}
use Rattle.fitting.specs.declared.Choice.{Choice}
use Rattle.fitting.specs.declared.Choice.TheVariants.{Default}
use Rattle.fitting.proofs.ChoiceLaws.{chosen_stored, chosen_default}
use Rattle.fitting.proofs.SlotLaws.{facts, default_slot}
use native.Mathlib.Omega.{arith}
use Rattle.fitting.proofs.rooms.value_fits.Goals as goal

module _ (d : Dict) (e : well_formed d ≡ true) (s : List ℕ) (i k : ℕ) (hi : i < number_of d.objects) (hk : k < count_at d.objects i) (choice : Choice) (h : choice ≡ chosen_at d s i k) where
  default-there : (q : ℕ) → choice ≡ Default q → ValueFacts d q
  default-there q z = every_value d e q (default_slot d e s i k hi hk q (chosen_default d s i k q (sym h ∙ z))).0

-- what fits is what fits by the choice
fit : (d : Dict) (s : List ℕ) (i k : ℕ) (choice q : Choice) → choice ≡ chosen_at d s i k → choice ≡ q → fits_room d s (slot_in d.objects i k) q ≡ fits_room d s (slot_in d.objects i k) (chosen_at d s i k)
fit d s i k choice q h e = ap (fits_room d s (slot_in d.objects i k)) (sym e ∙ h)

room : (d e : Dict) (i k first r : ℕ) → d ≡ e → first ≡ first_at d.objects i → r ≡ room_at d.slots (first + k) → r ≡ room_at e.slots (slot_in e.objects i k)
room d e i k first r q f h = (rw f at h) ∙ ap (λ (m : Dict). room_at m.slots (slot_in m.objects i k)) q

pub invariant_of-first : goal.invariant_of-first
invariant_of-first c =
    let r = row_lies _ c.d.invariant c.args.i (rw (sym c.d.view_is) at c.requires.0) in
    (r.small, r.inside)

pub overflow_add-first : goal.overflow_add-first
overflow_add-first c =
    let b = rw (sym c.d.view_is) at c.requires in
    let f = facts _ c.d.invariant c.args.stored.now c.args.i c.args.k b.0 b.1 in
    omega (arith, f.low, c.first.ensures)

pub invariant_of-room : goal.invariant_of-room
invariant_of-room c =
    let b = rw (sym c.d.view_is) at c.requires in
    let f = facts _ c.d.invariant c.args.stored.now c.args.i c.args.k b.0 b.1 in
    rw c.first.ensures (f.low, f.slot)

pub head-head-requires : goal.head-head-requires
head-head-requires c = rw c.choose-choice.ensures.image ((chosen_stored c.args.d.now c.args.stored.now c.args.i c.args.k _ (sym c.choose-choice.ensures.choice ∙ c.in-Stored.is)).body.head)

pub invariant_of-value_type : goal.invariant_of-value_type
invariant_of-value_type c =
    let b = rw (sym c.d.view_is) at c.requires in
    let f = default-there _ c.d.invariant c.args.stored.now c.args.i c.args.k b.0 b.1 _ (rw (sym c.d.view_is) at c.choose-choice.ensures.choice) _ c.in-Default.is in
    (f.low, f.slot)

pub offset_bounds-d-inside-q : goal.offset_bounds-d-inside-q
offset_bounds-d-inside-q c =
    let b = rw (sym c.d.view_is) at c.requires in
    let f = default-there _ c.d.invariant c.args.stored.now c.args.i c.args.k b.0 b.1 _ (rw (sym c.d.view_is) at c.choose-choice.ensures.choice) _ c.in-Default.is in
    omega (arith, f.low)

pub bounds-d-inside-q : goal.bounds-d-inside-q
bounds-d-inside-q c =
    let b = rw (sym c.d.view_is) at c.requires in
    let f = default-there _ c.d.invariant c.args.stored.now c.args.i c.args.k b.0 b.1 _ (rw (sym c.d.view_is) at c.choose-choice.ensures.choice) _ c.in-Default.is in
    f.word

pub returns-in-Keep-clause-fits : goal.returns-in-Keep-clause-fits
unfolding fits_room
returns-in-Keep-clause-fits c = fit c.args.d.now c.args.stored.now c.args.i c.args.k _ _ c.choose-choice.ensures.choice c.in-Keep.is

pub returns-in-Stored-clause-fits : goal.returns-in-Stored-clause-fits
unfolding fits_room
returns-in-Stored-clause-fits c =
    c.text_fits.ensures
    ∙ rw (c.head-head.ensures, c.choose-choice.ensures.image, room _ _ c.args.i c.args.k _ _ c.d.view_is c.first.ensures c.room-room.ensures) (fit c.args.d.now c.args.stored.now c.args.i c.args.k _ _ c.choose-choice.ensures.choice c.in-Stored.is)

pub returns-in-Default-clause-fits : goal.returns-in-Default-clause-fits
unfolding fits_room
returns-in-Default-clause-fits c =
    c.text_fits-in-Default.ensures
    ∙ rw (c.value_type.ensures, room _ _ c.args.i c.args.k _ _ c.d.view_is c.first.ensures c.room-room.ensures, ← c.d.view_is) (fit _ c.args.stored.now c.args.i c.args.k _ _ (rw (sym c.d.view_is) at c.choose-choice.ensures.choice) c.in-Default.is)
