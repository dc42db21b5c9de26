-- What ends a pass, computed: a restore, and a payload that rewrites the channel's own list. RULES.md R12.10 and R12.11. Assumes nothing.
use Rattle.std.specs.Prelude.{ℕ, ◌≡◌, refl, true, List, [], ◌∷◌}
use Rattle.lists.specs.Numbers.{number, bytes_of}
use Rattle.lists.specs.Lists.{over}
use Rattle.text.specs.Machine.{judge_at}
use Rattle.mapping.specs.Word.{entry_of, field_of}
use Rattle.value.specs.Codec.{size_of, word_at, text_word, encoding}
use Rattle.entry.specs.Model.{Val, all_objects, all_slots, all_words, all_bytes, rows_of, slots_of, words_of, rooms}
use Rattle.entry.specs.Table.{Dict, dict, list_count}
use Rattle.entry.specs.Rules.{word_ok, val_ok, held_ok, head_ok, extra_ok, range_ok, is_edition}
use Rattle.entry.specs.Judge.{slot_ok, slots_from, row_ok, row_fits, rows_from, reserved, header_ok, well_formed}
use Rattle.entry.specs.Find.{find_from, sub_at}
use Rattle.entry.specs.Put.{contents, filled, put_in}
use Rattle.image.specs.Ranges.{covers}
use Rattle.image.specs.Readable.{readable}
use Rattle.fitting.specs.Records.{record_from}
use Rattle.fitting.specs.Fit.{chosen_at, fits_room, values_fit, rows_fit}
use Rattle.restoring.specs.Restore.{restored_by, values_restored, rows_restored, restore_of}
use Rattle.pdo_validator.specs.Counting.{ends_from}
use Rattle.pdo_step.specs.Outcomes.{outcome_of, on_count}
use Rattle.aim.specs.Aims.{class_of}
use Rattle.pdo_step.specs.Steps.{applied}
use Rattle.pdo_channel.specs.Channel.{channel_from}
use Rattle.pdo_run.specs.Run.{act_of, run_from}
use Rattle.pdo_handler.specs.Consume.{consumed_by, consume_of}
use Rattle.element.specs.declared.Fault.TheVariants.{NoTarget, WrongLength}
use Rattle.channel.specs.declared.Checked.TheVariants.{Pass, Element}
use Rattle.element.specs.Elements.{word_verdict}
use Rattle.channel.specs.Check.{fault_from, check_of}
use Rattle.demand.specs.Twelve.{value, object}

-- node 5's channel 0 with a list, and 6000h, an Unsigned16 with a default of another type
abbrev rig : List Val → Dict
rig ws =
    let os = object 0x1400 2 0 (value 5 5 ∷ value 5 0 ∷ []) ∷ object 0x1600 1 0 ws ∷ object 0x6000 0 1 (value 6 0 ∷ value 7 0 ∷ []) ∷ [] in
    dict (all_objects 1 os) (all_slots 0 os) (all_words os) (all_bytes os)

-- two bytes onto 6000h
abbrev mapped : Dict
mapped = rig (value 8 0x0010000000006000 ∷ [])

-- the restore puts the default, an Unsigned32, so two bytes are no longer its length
pub restored : (check_of mapped 0 ≡ Pass) × (check_of (restore_of mapped [] 0x6000 0x6000).memory 0 ≡ Element 1 WrongLength)
unfolding check_of well_formed header_ok reserved rows_from row_fits row_ok extra_ok range_ok is_edition slots_from slot_ok head_ok held_ok val_ok word_ok text_word judge_at channel_from fault_from word_verdict ends_from entry_of field_of find_from sub_at list_count size_of all_slots all_words all_bytes rows_of slots_of words_of rooms restore_of rows_fit covers values_fit fits_room chosen_at record_from readable rows_restored values_restored restored_by put_in number encoding bytes_of
restored = (refl, refl)

-- eight bytes onto the list's own element 2, which maps two bytes onto 6000h
abbrev own : Dict
own = rig (value 8 0x0040000000021600 ∷ value 8 0x0010004000006000 ∷ [])

-- the payload makes element 2 map 6001h, which is not there; it is itself still written whole
pub rewritten : (check_of own 0 ≡ Pass) × (check_of (filled own (consume_of own (0x01 ∷ 0x60 ∷ 0x00 ∷ 0x00 ∷ 0x40 ∷ 0x00 ∷ 0x10 ∷ 0x00 ∷ 0x2A ∷ 0x00 ∷ []) 5 0 true 254 []).contents) 0 ≡ Element 2 NoTarget)
unfolding check_of well_formed header_ok reserved rows_from row_fits row_ok extra_ok range_ok is_edition slots_from slot_ok head_ok held_ok val_ok word_ok text_word judge_at channel_from fault_from word_verdict ends_from entry_of field_of find_from sub_at list_count size_of all_slots all_words all_bytes rows_of slots_of words_of rooms consume_of consumed_by run_from act_of applied outcome_of class_of on_count put_in word_at number over
rewritten = (refl, refl)
