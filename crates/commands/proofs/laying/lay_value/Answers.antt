-- `commands::laying::lay_value` meets its contract: the columns of row i and slot p make the record, and the value its body. Assumes nothing.
use Rattle.std.proofs.Common.{◌+◌, arith, sym, ap, ap₂, ◌∙◌}
use Rattle.lists.specs.Lists.{over}
use Rattle.entry.specs.Table.{dict, type_at}
use Rattle.entry.specs.Encode.{encoding_at}
use Rattle.entry.proofs.ValueLaws.{row_lies}
use Rattle.image.specs.Image.{sub_in}
use Rattle.commands.proofs.OfferLaws.{one_body}
use Rattle.commands.proofs.WalkLaws.{value_few, value_there, value-length, value_lays, one_laid}
use Rattle.commands.proofs.laying.lay_value.Goals as goal

pub invariant_of-row : goal.invariant_of-row
invariant_of-row c =
    let l = row_lies (dict c.d.inside.objects.now c.d.inside.slots.now c.d.inside.words.now c.d.inside.bytes.now) c.d.invariant c.args.i (rw (sym c.d.view_is) at c.requires.row.0.below) in
    (l.small, l.inside)

pub overflow_add-p : goal.overflow_add-p
overflow_add-p c =
    let v = value_there _ _ c.d.view_is c.d.invariant c.args.i (c.args.k + 1) c.requires.row.0 c.args.k (omega arith) _ c.first.ensures in
    omega (arith, v)

pub sub_in-sub-requires : goal.sub_in-sub-requires
sub_in-sub-requires c =
    omega (arith, value_few _ _ c.d.view_is c.d.invariant c.args.i (c.args.k + 1) c.requires.row.0 c.args.k (omega arith) _ c.first.ensures)

pub invariant_of-value_type : goal.invariant_of-value_type
invariant_of-value_type c =
    let v = value_there _ _ c.d.view_is c.d.invariant c.args.i (c.args.k + 1) c.requires.row.0 c.args.k (omega arith) _ c.first.ensures in
    (v.0, v.1)

pub length_at-len-requires : goal.length_at-len-requires
length_at-len-requires c =
    value_there _ _ c.d.view_is c.d.invariant c.args.i (c.args.k + 1) c.requires.row.0 c.args.k (omega arith) _ c.first.ensures

pub lay_encoding-requires : goal.lay_encoding-requires
lay_encoding-requires c =
    value_lays _ _ c.d.view_is c.d.invariant c.args.i (c.args.k + 1) c.requires.row.0 c.args.k (omega arith) _ c.first.ensures _ _ (omega arith)

pub returns-clause-value : goal.returns-clause-value
returns-clause-value c =
    value-length _ _ c.d.view_is c.d.invariant c.args.i (c.args.k + 1) c.requires.row.0 c.args.k (omega arith) _ c.first.ensures _ c.length_at-len.ensures
    ∙ sym (one_body c.args.d.now c.args.i c.args.k)

pub returns-clause-store_after : goal.returns-clause-store_after
returns-clause-store_after c =
    let d = dict c.d.inside.objects.now c.d.inside.slots.now c.d.inside.words.now c.d.inside.bytes.now in
    let a = c.args in
    rw (sym c.d.view_is)
    (c.lay_encoding.ensures
    ∙ ap₂ (λ x m. over x (a.bodies_at + a.start) (encoding_at d (m + a.k))) c.lay_head.ensures c.first.ensures
    ∙ one_laid d a.i a.store.now a.at a.bodies_at a.k _ _ _ a.start _ c.index-index.ensures
    (c.sub_in-sub.ensures ∙ ap (λ m. sub_in m a.k) c.kind.ensures)
    (c.value_type-t.ensures ∙ ap (λ m. type_at c.d.inside.slots.now (m + a.k)) c.first.ensures)
    (rw (sym c.d.view_is) at (value-length _ _ c.d.view_is c.d.invariant a.i (a.k + 1) c.requires.row.0 a.k (omega arith) _ c.first.ensures _ c.length_at-len.ensures)))
