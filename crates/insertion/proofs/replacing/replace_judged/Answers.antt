-- `insertion::replacing::replace_judged` meets its contract. Each way out is one of ReplacingLaws. Assumes nothing.
use mathlib.Core.Path.{sym, ◌∙◌}
use Rattle.entry.specs.Table.{Dict, dict}
use Rattle.entry.proofs.JudgeLaws.{headed}
use Rattle.entry.proofs.ValueLaws.{rows_of}
use Rattle.insertion.proofs.IndexLaws.{taken_is}
use Rattle.insertion.proofs.AnswerLaws.{sized, size_none}
use Rattle.insertion.proofs.ReplacingLaws.{bad_value, inside, put}
use Rattle.insertion.proofs.replacing.replace_judged.Goals as goal

pub returns-in_default : goal.returns-in_default
returns-in_default c =
    let a = c.args in
    let w = bad_value a.head a.name.now a.vals.now a.encodings.now _ c.requires (size_none a.head a.name.now a.vals.now a.encodings.now (sym c.size_in.ensures ∙ c.in_default.is)) in
    record { answer = w.0; memory = w.1 }

pub lower-i-requires : goal.lower-i-requires
lower-i-requires c = let a = c.args in rows_of (dict a.objects.now a.slots.now a.words.now a.bytes.now) c.requires

pub occupied-replaces-requires : goal.occupied-replaces-requires
occupied-replaces-requires c = let a = c.args in let h = headed (dict a.objects.now a.slots.now a.words.now a.bytes.now) c.requires in (h.few, h.rows)

pub put_in-requires-clause-i_bound : goal.put_in-requires-clause-i_bound
put_in-requires-clause-i_bound c =
    let a = c.args in
    let d : Dict = dict a.objects.now a.slots.now a.words.now a.bytes.now in
    let s = sized a.head a.name.now a.vals.now a.encodings.now c.in-Some.g (sym c.size_in.ensures ∙ c.in-Some.is) in
    let t = c.occupied-replaces.ensures ∙ sym (taken_is d a.head.index _ c.requires c.lower-i.ensures) in
    (inside a.head a.name.now a.vals.now a.encodings.now d c.requires _ s _ c.lower-i.ensures _ t, s.values.few, s.small)

pub put_in-requires-clause-values : goal.put_in-requires-clause-values
put_in-requires-clause-values c =
    let a = c.args in
    let s = sized a.head a.name.now a.vals.now a.encodings.now c.in-Some.g (sym c.size_in.ensures ∙ c.in-Some.is) in
    (s.values, s.flagged, s.sum)

pub returns : goal.returns
returns c =
    let a = c.args in
    let d : Dict = dict a.objects.now a.slots.now a.words.now a.bytes.now in
    let s = sized a.head a.name.now a.vals.now a.encodings.now c.in-Some.g (sym c.size_in.ensures ∙ c.in-Some.is) in
    let t = c.occupied-replaces.ensures ∙ sym (taken_is d a.head.index _ c.requires c.lower-i.ensures) in
    let w = put a.head a.name.now a.vals.now a.encodings.now d c.requires _ s _ c.lower-i.ensures _ t _ _ c.put_in.ensures.answer c.put_in.ensures.memory in
    record { answer = w.0; memory = w.1 }
