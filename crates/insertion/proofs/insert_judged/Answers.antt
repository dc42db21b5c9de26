-- `insertion::insert_judged` meets its contract. Each way out is one of AnswerLaws, or puts the object in the place of none. Assumes nothing.
use mathlib.Core.Path.{sym, ◌∙◌}
use mathlib.Core.Bool.{false}
use native.Mathlib.Omega.{arith}
use Rattle.entry.specs.Table.{Dict, dict}
use Rattle.entry.proofs.JudgeLaws.{headed}
use Rattle.entry.proofs.ValueLaws.{rows_of}
use Rattle.insertion.proofs.IndexLaws.{taken_is}
use Rattle.insertion.proofs.AnswerLaws.{bad_value, occupied_by, sized, size_none}
use Rattle.insertion.proofs.ReplacingLaws.{put, as_inserted}
use Rattle.insertion.proofs.insert_judged.Goals as goal

pub returns-in_default : goal.returns-in_default
returns-in_default c =
    let a = c.args in
    let w = bad_value a.head a.name.now a.vals.now a.encodings.now _ c.requires (size_none a.head a.name.now a.vals.now a.encodings.now (sym c.size_in.ensures ∙ c.in_default.is)) in
    record { answer = w.0; memory = w.1 }

pub lower-i-requires : goal.lower-i-requires
lower-i-requires c = let a = c.args in rows_of (dict a.objects.now a.slots.now a.words.now a.bytes.now) c.requires

pub occupied-requires : goal.occupied-requires
occupied-requires c = let a = c.args in let h = headed (dict a.objects.now a.slots.now a.words.now a.bytes.now) c.requires in (h.few, h.rows)

pub returns-then-occupied : goal.returns-then-occupied
returns-then-occupied c =
    let a = c.args in
    let d : Dict = dict a.objects.now a.slots.now a.words.now a.bytes.now in
    let s = sized a.head a.name.now a.vals.now a.encodings.now c.in-Some.g (sym c.size_in.ensures ∙ c.in-Some.is) in
    let w = occupied_by a.head a.name.now a.vals.now a.encodings.now d c.requires s.right (taken_is d a.head.index _ c.requires c.lower-i.ensures ∙ sym c.occupied.ensures ∙ c.if-occupied.true) in
    record { answer = w.0; memory = w.1 }

pub put_in-requires-clause-i_bound : goal.put_in-requires-clause-i_bound
put_in-requires-clause-i_bound c =
    let a = c.args in
    let s = sized a.head a.name.now a.vals.now a.encodings.now c.in-Some.g (sym c.size_in.ensures ∙ c.in-Some.is) in
    (omega (arith, c.lower-i.ensures.within), s.values.few, s.small)

pub put_in-requires-clause-values : goal.put_in-requires-clause-values
put_in-requires-clause-values c =
    let a = c.args in
    let s = sized a.head a.name.now a.vals.now a.encodings.now c.in-Some.g (sym c.size_in.ensures ∙ c.in-Some.is) in
    (s.values, s.flagged, s.sum)

-- none has the index, so it is put in the place of none
pub returns : goal.returns
returns c =
    let a = c.args in
    let d : Dict = dict a.objects.now a.slots.now a.words.now a.bytes.now in
    let s = sized a.head a.name.now a.vals.now a.encodings.now c.in-Some.g (sym c.size_in.ensures ∙ c.in-Some.is) in
    let t = taken_is d a.head.index _ c.requires c.lower-i.ensures ∙ sym c.occupied.ensures ∙ c.if-occupied.false in
    let w = put a.head a.name.now a.vals.now a.encodings.now d c.requires _ s _ c.lower-i.ensures false (sym t) _ _ c.put_in.ensures.answer c.put_in.ensures.memory in
    let i = as_inserted a.head a.name.now a.vals.now a.encodings.now d t in
    record { answer = w.0 ∙ i.0; memory = w.1 ∙ i.1 }
