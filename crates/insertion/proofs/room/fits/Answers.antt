-- `insertion::room::fits` meets its contract: what it sums up is what is left once the objects are gone. Assumes nothing.
use mathlib.Core.Path.{◌≡◌, refl, sym, ap, ◌∙◌}
use mir.Val.{bool_byte}
use mathlib.Core.Bool.{Bool, true, false, cond}
use Prim.Native.Nat.{ℕ, ◌+◌, ◌-◌, ◌≤◌}
use Rattle.entry.specs.Table.{Dict, number_of, values_before, bytes_before}
use Rattle.entry.specs.Judge.{well_formed}
use Rattle.entry.proofs.JudgeLaws.{headed}
use Rattle.insertion.specs.Insert.{fits_in}
use Rattle.insertion.specs.Replace.{without}
use Rattle.insertion.proofs.GoneLaws.{values_within, bytes_within, fits-left}
use native.Mathlib.Omega.{arith}
use Rattle.insertion.proofs.room.fits.Goals as goal

byte_is : (b : Bool) → bool_byte b ≡ cond b 1 0
byte_is true = refl
byte_is false = refl

-- what lies before place i
module _ (d : Dict) (w : well_formed d ≡ true) (i x : ℕ) (h : i ≤ number_of d.objects) where
  few_values : x ≡ values_before d.objects i → x ≤ 6144
  few_values e = omega (arith, e, values_within d w i h, (headed d w).values)

  few_bytes : x ≡ bytes_before d.objects i → x ≤ 32768
  few_bytes e = omega (arith, e, bytes_within d w i h, (headed d w).total)

pub before-v-requires : goal.before-v-requires
before-v-requires c = let h = headed _ c.d.invariant in (h.few, h.rows)

pub overflow_add-i : goal.overflow_add-i
overflow_add-i c = omega (arith, (rw (sym c.d.view_is, sym (byte_is c.args.replaces)) at c.requires.0), (headed _ c.d.invariant).few)

pub before-e-requires : goal.before-e-requires
before-e-requires c = let h = headed _ c.d.invariant in (h.few, h.rows)

pub number_of-requires : goal.number_of-requires
number_of-requires c = omega (arith, (headed _ c.d.invariant).rows)

pub overflow_sub-n : goal.overflow_sub-n
overflow_sub-n c = omega (arith, c.number_of.ensures, (rw (sym c.d.view_is, sym (byte_is c.args.replaces)) at c.requires.0))

pub values_of-requires : goal.values_of-requires
values_of-requires c = omega (arith, (headed _ c.d.invariant).rows)

pub overflow_sub-m : goal.overflow_sub-m
overflow_sub-m c = omega (arith, c.before-e.ensures.values, c.values_of.ensures, values_within _ c.d.invariant _ (rw (sym c.d.view_is, sym (byte_is c.args.replaces)) at c.requires.0))

pub overflow_add-m : goal.overflow_add-m
overflow_add-m c =
    let b = rw (sym c.d.view_is, sym (byte_is c.args.replaces)) at c.requires.0 in
    omega (arith, few_values _ c.d.invariant c.args.i _ (omega (arith, b)) c.before-v.ensures.values, c.values_of.ensures, (headed _ c.d.invariant).values)

pub overflow_add-m-2 : goal.overflow_add-m-2
overflow_add-m-2 c =
    let b = rw (sym c.d.view_is, sym (byte_is c.args.replaces)) at c.requires.0 in
    omega (arith, few_values _ c.d.invariant c.args.i _ (omega (arith, b)) c.before-v.ensures.values, c.values_of.ensures, (headed _ c.d.invariant).values, c.requires.1)

pub used_of-requires : goal.used_of-requires
used_of-requires c = omega (arith, (headed _ c.d.invariant).rows)

pub overflow_sub-t : goal.overflow_sub-t
overflow_sub-t c = omega (arith, c.before-e.ensures.bytes, c.used_of.ensures, bytes_within _ c.d.invariant _ (rw (sym c.d.view_is, sym (byte_is c.args.replaces)) at c.requires.0))

pub overflow_add-t : goal.overflow_add-t
overflow_add-t c =
    let b = rw (sym c.d.view_is, sym (byte_is c.args.replaces)) at c.requires.0 in
    omega (arith, few_bytes _ c.d.invariant c.args.i _ (omega (arith, b)) c.before-v.ensures.bytes, c.used_of.ensures, (headed _ c.d.invariant).total)

pub overflow_add-t-2 : goal.overflow_add-t-2
overflow_add-t-2 c =
    let b = rw (sym c.d.view_is, sym (byte_is c.args.replaces)) at c.requires.0 in
    omega (arith, few_bytes _ c.d.invariant c.args.i _ (omega (arith, b)) c.before-v.ensures.bytes, c.used_of.ensures, (headed _ c.d.invariant).total, c.requires.2)

pub row_end-requires : goal.row_end-requires
row_end-requires c = omega (arith, c.number_of.ensures, (headed _ c.d.invariant).few)

pub slot_place-requires : goal.slot_place-requires
slot_place-requires c =
    let b = rw (sym c.d.view_is, sym (byte_is c.args.replaces)) at c.requires.0 in
    omega (arith, few_values _ c.d.invariant c.args.i _ (omega (arith, b)) c.before-v.ensures.values, c.values_of.ensures, (headed _ c.d.invariant).values, c.requires.1)

pub returns : goal.returns
returns c =
    let k = bool_byte c.args.replaces in
    let b = rw (sym c.d.view_is, sym (byte_is c.args.replaces)) at c.requires.0 in
    rw (c.slot_place.ensures, c.row_end.ensures)
    (sym (fits-left _ c.d.invariant c.args.i k b c.args.u c.args.g (c.number_of.result - k) (c.values_of.result - c.before-e.result.0 + c.before-v.result.0 + c.args.u) (c.used_of.result - c.before-e.result.1 + c.before-v.result.1 + c.args.g)
    (ap (λ x. x - k) c.number_of.ensures)
    (cc (c.before-v.ensures.values, c.before-e.ensures.values, c.values_of.ensures))
    (cc (c.before-v.ensures.bytes, c.before-e.ensures.bytes, c.used_of.ensures))))
    ∙ ap (λ m. fits_in (without c.args.i k m) c.args.u c.args.g) c.d.view_is ∙ ap (λ n. fits_in (without c.args.i n c.args.d.now) c.args.u c.args.g) (byte_is c.args.replaces)
