-- `placing::insert_at` meets its contract. Assumes nothing.
use mathlib.Core.Path.{sym, ap, ◌∙◌}
use Prim.Native.Nat.{◌≤◌, ◌+◌}
use lib.ListN.{length}
use Rattle.entry.specs.Table.{Dict, dict, model_of, values_of, used_of, before}
use Rattle.given.specs.Given.{count_in}
use Rattle.given.proofs.GivenLaws.{given-length, length-rooms}
use Rattle.placing.proofs.ActLaws.{values_before_lem, bytes_before_lem, first_small, name_small, start_small, Read, words_read, bytes_read, slots_read, objects_read, dict_is}
use native.Mathlib.Omega.{arith}
use Rattle.placing.proofs.insert_at.Goals as goal
use Rattle.placing.proofs.insert_at.Goals.{After-before-v}

abbrev D : After-before-v → Dict
D c = dict c.args.objects.now c.args.slots.now c.args.words.now c.args.bytes.now

-- what was read off the header, and where the object goes
begun : (c : After-before-v) → Read (D c) c.args.i c.number_of-n.result c.values_of-m.result c.used_of-used.result c.before-v.result.0 c.before-v.result.1
begun c =
    record { number = c.number_of-n.ensures; values = c.values_of-m.ensures; bytes = c.used_of-used.ensures; first = c.before-v.ensures.values; start = c.before-v.ensures.bytes }

v≤ : (c : After-before-v) → before c.args.objects.now c.args.i 16 1 ≤ values_of c.args.objects.now
v≤ c = values_before_lem (model_of (D c)) (D c) c.requires.lies c.args.i c.requires.room.place

b≤ : (c : After-before-v) → before c.args.objects.now c.args.i 17 2 ≤ used_of c.args.objects.now
b≤ c = bytes_before_lem (model_of (D c)) (D c) c.requires.lies c.args.i c.requires.room.place

pub invariant_of-values : goal.invariant_of-values
invariant_of-values c = c.requires.values.0

pub insert_words-requires : goal.insert_words-requires
insert_words-requires c =
    let p = (goal.at.insert_words-requires c).After-before-v in
    let k = begun p in
    (omega (arith, v≤ p, k.values, k.first), omega (arith, k.values, c.requires.room.worded), sym (given-length _ _ _ _ _))

pub overflow_add-b : goal.overflow_add-b
overflow_add-b c = omega (arith, b≤ (goal.at.overflow_add-b c).After-before-v, c.before-v.ensures.bytes, c.requires.room.total, c.requires.values.2)

pub insert_slots-requires-clause-u_bound : goal.insert_slots-requires-clause-u_bound
insert_slots-requires-clause-u_bound c =
    let p = (goal.at.insert_slots-requires-clause-u_bound c).After-before-v in
    let k = begun p in
    let r = c.requires.room in
    let q = c.requires.values in
    (q.0.few, omega (arith, v≤ p, k.values, k.first), omega (arith, k.values, r.values), omega (arith, k.values, r.slotted), q.0.long, omega (arith, b≤ p, k.start, r.total, q.2))

pub insert_slots-requires-clause-by_index : goal.insert_slots-requires-clause-by_index
insert_slots-requires-clause-by_index c =
    let p = (goal.at.insert_slots-requires-clause-by_index c).After-before-v in
    let k = begun p in
    let r = c.requires.room in
    λ j l. rw k.first (omega (arith, start_small (model_of (D p)) (D p) c.requires.lies c.args.i r.place j (omega (arith, l, k.values, k.first)), r.total))

pub insert_bytes-requires : goal.insert_bytes-requires
insert_bytes-requires c =
    let p = (goal.at.insert_bytes-requires c).After-before-v in
    let k = begun p in
    (omega (arith, b≤ p, k.start, k.bytes), omega (arith, c.requires.room.arena, k.bytes), c.requires.values.2 ∙ ap (λ n. length c.args.name.now + n) (sym (length-rooms _ _ _ _ _)))

pub insert_object-requires-clause-i_le_n : goal.insert_object-requires-clause-i_le_n
insert_object-requires-clause-i_le_n c =
    let k = begun (goal.at.insert_object-requires-clause-i_le_n c).After-before-v in
    let r = c.requires.room in
    (omega (arith, r.place, k.number), omega (arith, r.few, k.number), omega (arith, r.rows, k.number), c.requires.values.1)

pub insert_object-requires-clause-u_bound : goal.insert_object-requires-clause-u_bound
insert_object-requires-clause-u_bound c = (omega (arith, c.requires.room.values), omega (arith, c.requires.room.total))

pub insert_object-requires-clause-by_index : goal.insert_object-requires-clause-by_index
insert_object-requires-clause-by_index c =
    let p = (goal.at.insert_object-requires-clause-by_index c).After-before-v in
    let k = begun p in
    let r = c.requires.room in
    λ j l. omega (arith, first_small (model_of (D p)) (D p) c.requires.lies c.args.i r.place j (omega (arith, l, k.number)), r.values)

pub insert_object-requires-clause-by_index_2 : goal.insert_object-requires-clause-by_index_2
insert_object-requires-clause-by_index_2 c =
    let p = (goal.at.insert_object-requires-clause-by_index_2 c).After-before-v in
    let k = begun p in
    let r = c.requires.room in
    λ j l. rw k.number (omega (arith, name_small (model_of (D p)) (D p) c.requires.lies c.args.i r.place (count_in c.args.vals.now) j (omega (arith, l, k.number)), r.total))

pub returns : goal.returns
returns c =
    let p = (goal.at.returns c).After-before-v in
    let k = begun p in
    let a = c.args in
    let os = model_of (D p) in
    let r = c.requires.room in
    let q = c.requires.values.2 in
    dict_is
    (c.insert_object.ensures ∙ objects_read os (D p) c.requires.lies a.i r.place a.head a.name.now a.vals.now a.encodings.now a.g q _ _ _ _ _ k)
    (c.insert_slots.ensures ∙ slots_read os (D p) c.requires.lies a.i r.place a.head a.name.now a.vals.now a.encodings.now a.g q _ _ _ _ _ k)
    (c.insert_words.ensures ∙ words_read os (D p) c.requires.lies a.i r.place a.head a.name.now a.vals.now a.encodings.now a.g q _ _ _ _ _ k)
    (c.insert_bytes.ensures ∙ bytes_read os (D p) c.requires.lies a.i r.place a.head a.name.now a.vals.now a.encodings.now a.g q _ _ _ _ _ k)
