-- `pdo_channel::u8_in` meets its contract: each place is a case of the definition. Assumes nothing.
use Rattle.std.specs.Prelude.{Some}
use mathlib.Core.Bool.{true}
use mathlib.Core.Path.{◌≡◌, sym, ap, ◌∙◌}
use Prim.Native.Nat.{ℕ}
use Rattle.entry.specs.Table.{Dict}
use Rattle.entry.specs.Find.{sub_at, find_row}
use Rattle.entry.specs.Judge.{well_formed}
use Rattle.entry.specs.declared.Place.TheVariants.{Value}
use Rattle.entry.proofs.ValueLaws.{ValueFacts, rows_of, found_lies, value_lies}
use Rattle.pdo_channel.proofs.ChannelLaws.{value_byte}
use Rattle.pdo_channel.proofs.u8_in.Goals as goal

pub sub_at-requires-clause-rows : goal.sub_at-requires-clause-rows
sub_at-requires-clause-rows c = rows_of _ c.d.invariant

pub sub_at-requires-clause-i_bound : goal.sub_at-requires-clause-i_bound
sub_at-requires-clause-i_bound c = (found_lies _ c.d.invariant c.args.index c.args.i (ap (λ (d : Dict). find_row d.objects c.args.index) c.d.view_is ∙ c.requires)).below

there : (d v : Dict) → well_formed d ≡ true → d ≡ v → (x sub i p : ℕ) → find_row v.objects x ≡ Some i → Some (Value p) ≡ sub_at d.objects i sub → ValueFacts d p
there d v w h x sub i p f e = value_lies d w x sub i p (ap (λ (d : Dict). find_row d.objects x) h ∙ f) (sym e)

pub invariant_of-value_type : goal.invariant_of-value_type
invariant_of-value_type c =
    let f = there _ _ c.d.invariant c.d.view_is c.args.index c.args.sub c.args.i c.in-Some-Value.p c.requires (sym (ap Some c.in-Some-Value.field-0-is) ∙ c.in-Some-Value.ensures) in
    (f.low, f.slot)

pub bounds-d-inside-p : goal.bounds-d-inside-p
bounds-d-inside-p c = (there _ _ c.d.invariant c.d.view_is c.args.index c.args.sub c.args.i c.in-Some-Value.p c.requires (sym (ap Some c.in-Some-Value.field-0-is) ∙ c.in-Some-Value.ensures)).word

pub overflow_cast-result : goal.overflow_cast-result
overflow_cast-result c =
    let f = there _ _ c.d.invariant c.d.view_is c.args.index c.args.sub c.args.i c.in-Some-Value.p c.requires (sym (ap Some c.in-Some-Value.field-0-is) ∙ c.in-Some-Value.ensures) in
    record { fits = value_byte _ c.in-Some-Value.p f (sym c.value_type.ensures ∙ c.if-value_type-eq5.true) }
