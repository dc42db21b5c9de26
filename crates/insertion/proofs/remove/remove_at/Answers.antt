-- `insertion::remove::remove_at` meets its contract. Assumes nothing.
use mathlib.Core.Path.{◌∙◌}
use native.Mathlib.Omega.{arith}
use Rattle.entry.specs.Table.{Dict, dict, model_of}
use Rattle.placing.proofs.ActLaws.{dict_is}
use Rattle.insertion.proofs.RemoveLaws.{Spot, Within, within, words_gone, slots_gone, bytes_gone, objects_gone}
use Rattle.insertion.proofs.remove.remove_at.Goals as goal
use Rattle.insertion.proofs.remove.remove_at.Goals.{After-before-e}

abbrev D : After-before-e → Dict
D c = dict c.args.objects.now c.args.slots.now c.args.words.now c.args.bytes.now

spot : (c : After-before-e) → Spot (D c) c.args.i c.number_of-n.result c.values_of-m.result c.used_of-used.result c.before-v.result.0 c.before-e.result.0 c.before-v.result.1 c.before-e.result.1
spot c =
    record { number = c.number_of-n.ensures; values = c.values_of-m.ensures; bytes = c.used_of-used.ensures; first = c.before-v.ensures.values; next = c.before-e.ensures.values; start = c.before-v.ensures.bytes; stop = c.before-e.ensures.bytes }

inside : (c : After-before-e) → Within c.before-v.result.0 c.before-e.result.0 c.values_of-m.result c.before-v.result.1 c.before-e.result.1 c.used_of-used.result
inside c = within (model_of (D c)) (D c) c.requires.lies c.args.i _ _ _ _ _ _ _ c.requires.long.1 (spot c)

pub overflow_sub-u : goal.overflow_sub-u
overflow_sub-u c = (inside (goal.at.overflow_sub-u c).After-before-e).values

pub overflow_sub-g : goal.overflow_sub-g
overflow_sub-g c = (inside (goal.at.overflow_sub-g c).After-before-e).bytes

pub move_down-requires : goal.move_down-requires
move_down-requires c =
    let p = (goal.at.move_down-requires c).After-before-e in
    ((inside p).values, (inside p).last, omega (arith, (spot p).values, c.requires.long.0.words))

pub remove_slots-requires : goal.remove_slots-requires
remove_slots-requires c =
    let p = (goal.at.remove_slots-requires c).After-before-e in
    ((inside p).values, (inside p).last, omega (arith, (spot p).values, c.requires.long.0.values), omega (arith, (spot p).values, c.requires.long.0.slots))

pub move_down-requires-2 : goal.move_down-requires-2
move_down-requires-2 c =
    let p = (goal.at.move_down-requires-2 c).After-before-e in
    ((inside p).bytes, (inside p).end, omega (arith, (spot p).bytes, c.requires.long.0.bytes))

pub returns : goal.returns
returns c =
    let p = (goal.at.returns c).After-before-e in
    dict_is
    (c.remove_row.ensures ∙ objects_gone (model_of (D p)) (D p) c.requires.lies c.args.i _ _ _ _ _ _ _ c.requires.long.1 (spot p))
    (c.remove_slots.ensures ∙ slots_gone (model_of (D p)) (D p) c.requires.lies c.args.i _ _ _ _ _ _ _ c.requires.long.1 (spot p))
    (c.move_down.ensures ∙ words_gone (model_of (D p)) (D p) c.requires.lies c.args.i _ _ _ _ _ _ _ c.requires.long.1 (spot p))
    (c.move_down-2.ensures ∙ bytes_gone (model_of (D p)) (D p) c.requires.lies c.args.i _ _ _ _ _ _ _ c.requires.long.1 (spot p))
