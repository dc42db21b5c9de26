-- The twelve cases, one table under one theorem: RULES.md 14. Assumes nothing.
use Rattle.std.specs.Prelude.{ℕ, ◌-◌, ◌≡◌, refl, Bool, true, false, List, [], ◌∷◌, negsuc, length, set, Result, Ok}
use Rattle.lists.specs.Numbers.{number}
use Rattle.lists.specs.Lists.{over}
use Rattle.text.specs.Machine.{judge_at}
use Rattle.mapping.specs.Word.{entry_of, word_of, field_of}
use Rattle.mapping.specs.declared.PdoMappingEntry.{PdoMappingEntry}
use Rattle.value.specs.declared.DecodeFault.{DecodeFault}
use Rattle.value.specs.declared.ObjectValue.{ObjectValue}
use Rattle.value.specs.declared.ObjectValue.TheVariants.{Integer16}
use Rattle.value.specs.Meaning.{readings}
use Rattle.value.specs.Codec.{size_of, word_at, text_word, decode_of}
use Rattle.entry.specs.Model.{Val, Obj, plainly, all_objects, all_slots, all_words, all_bytes, rows_of, slots_of, words_of, rooms}
use Rattle.entry.specs.Table.{Dict, dict, list_count}
use Rattle.entry.specs.Find.{find_from, sub_at}
use Rattle.entry.specs.Put.{contents, put_in}
use Rattle.pdo_step.specs.Outcomes.{outcome_of, on_count}
use Rattle.aim.specs.Aims.{class_of}
use Rattle.event.specs.declared.Cause.TheVariants as cause
use Rattle.event.specs.declared.Event.TheVariants.{PayloadShort}
use Rattle.event.specs.Record.{record_at}
use Rattle.pdo_step.specs.Steps.{applied}
use Rattle.pdo_step.specs.Bits.{bit_at, marked_in}
use Rattle.pdo_channel.specs.Channel.{right_version, channel_from}
use Rattle.pdo_run.specs.Run.{frame, Ran, ran, act_of, run_from}
use Rattle.pdo_handler.specs.Consume.{consumed_by}
use Rattle.pdo_validator.specs.Counting.{ends_from}
use Rattle.element.specs.declared.Fault.TheVariants.{WrongLength}
use Rattle.channel.specs.declared.Checked.{Checked}
use Rattle.channel.specs.declared.Checked.TheVariants.{Pass, Element}
use Rattle.element.specs.Elements.{word_verdict}
use Rattle.channel.specs.Check.{fault_from, check_of}
use Rattle.entry.specs.Rules.{word_ok, val_ok, held_ok, head_ok, extra_ok, range_ok, is_edition}
use Rattle.entry.specs.Judge.{slot_ok, slots_from, row_ok, row_fits, rows_from, reserved, header_ok, well_formed}

-- ---- the set-up of R14.2, with the first mapping word as a case has it
abbrev pub value : ℕ → ℕ → Val
value t w = record { type = t; word = w; room = [] }

-- no name, access absent
abbrev pub object : ℕ → ℕ → ℕ → List Val → Obj
object x kind default vs = record { index = x; kind = kind; access = 7; default = default; extra = plainly (length vs - default); name = []; values = vs }

abbrev zeros : List ℕ
zeros = 0 ∷ 0 ∷ 0 ∷ 0 ∷ 0 ∷ 0 ∷ 0 ∷ 0 ∷ 0 ∷ 0 ∷ 0 ∷ 0 ∷ 0 ∷ 0 ∷ 0 ∷ 0 ∷ 0 ∷ 0 ∷ 0 ∷ 0 ∷ 0 ∷ 0 ∷ 0 ∷ 0 ∷ 0 ∷ 0 ∷ 0 ∷ 0 ∷ 0 ∷ 0 ∷ 0 ∷ 0 ∷ []

abbrev set_up : ℕ → List Obj
set_up w =
    object 0x1400 2 0 (value 5 5 ∷ value 5 0x10 ∷ [])
    ∷ object 0x1600 1 0 (value 8 w ∷ value 8 0x0020001000036200 ∷ [])
    ∷ object 0x1C81 0 0 (record { type = 12; word = 32; room = zeros } ∷ [])
    ∷ object 0x6000 0 0 (value 6 0 ∷ [])
    ∷ object 0x6200 1 0 (value 7 0 ∷ value 7 0 ∷ value 7 0 ∷ [])
    ∷ []

abbrev pub laid : ℕ → Dict
laid w = dict (all_objects 1 (set_up w)) (all_slots 0 (set_up w)) (all_words (set_up w)) (all_bytes (set_up w))

-- ---- what a case asks of the definitions, and what they answer
pub data Asked : Type 0 where
  taken-apart : ℕ → Asked
  encoded-again : ℕ → Asked
  decoded : ℕ → List ℕ → Asked
  versions : ℕ → ℕ → Asked
  bit-set : ℕ → Asked
  consumed : ℕ → List ℕ → Asked
  checked : ℕ → Asked

pub data Answered : Type 0 where
  entry : PdoMappingEntry → Answered
  word : ℕ → Answered
  read_as : Result ObjectValue DecodeFault → Answered
  right : Bool → Answered
  errors : List ℕ → Answered
  run : Ran → Answered
  said : Checked → Answered

-- payloads are ready, of node 5 in version 12h
abbrev pub answer_to : Asked → Answered
answer_to (taken-apart w) = entry (entry_of w)
answer_to (encoded-again w) = word (word_of (entry_of w))
answer_to (decoded t s) = read_as (decode_of t s)
answer_to (versions expected received) = right (right_version expected received)
answer_to (bit-set n) = let d = laid 0x0010000000006000 in errors (marked_in d.objects d.slots d.words d.bytes 0x1C81 n)
answer_to (consumed w payload) = let d = laid w in run (consumed_by (frame d.objects d.slots payload 5 0) (contents d.words d.bytes) 0x12)
answer_to (checked w) = said (check_of (laid w) 0)

-- ---- the table: each case, what it asks and what it wants
pub record Line : Type 0 where
  pub asked : Asked
  pub wanted : Answered

abbrev asks : Asked → Answered → Line
asks a w = record { asked = a; wanted = w }

-- the words after a payload: 6000h and 6200h/3 are a and b
abbrev left : ℕ → ℕ → ℕ → List ℕ
left w a b = 5 ∷ 0x10 ∷ w ∷ 0x0020001000036200 ∷ 32 ∷ a ∷ 0 ∷ 0 ∷ b ∷ []

abbrev pub table : List (List Line)
table =
    (asks (taken-apart 0x00200010AB036200) (entry (record { index = 0x6200; sub_index = 3; offset_bits = 16; length_bits = 32 })) ∷ [])
    ∷ (asks (encoded-again 0x00200010AB036200) (word 0x0020001000036200) ∷ [])
    ∷ (asks (decoded 2 (0xFF ∷ 0xFF ∷ [])) (read_as (Ok (Integer16 (negsuc 0)))) ∷ [])
    ∷ (asks (decoded 2 (0x00 ∷ 0x80 ∷ [])) (read_as (Ok (Integer16 (negsuc 32767)))) ∷ [])
    ∷ (asks (versions 0x00 0x00) (right true) ∷ [])
    ∷ (asks (versions 0x10 0x12) (right true) ∷ asks (versions 0x12 0x11) (right false) ∷ asks (versions 0x12 0x22) (right false) ∷ [])
    ∷ (asks (bit-set 239) (errors (set zeros 29 0x40)) ∷ asks (bit-set 240) (errors zeros) ∷ [])
    ∷ (asks (consumed 0x0010000000006000 (0xC4 ∷ 0x09 ∷ 0x10 ∷ 0x27 ∷ 0x00 ∷ 0x00 ∷ [])) (run (ran (contents (left 0x0010000000006000 2500 10000) zeros) [])) ∷ [])
    ∷ (asks (consumed 0x0010000000006000 (0xC4 ∷ 0x09 ∷ 0x10 ∷ 0x27 ∷ 0x00 ∷ [])) (run (ran (contents (left 0x0010000000006000 2500 0) (set zeros 0 0x10)) (record_at 0 2 (PayloadShort cause.Frame) ∷ []))) ∷ [])
    ∷ (asks (consumed 0x0008000000006000 (0xC4 ∷ 0x09 ∷ 0x10 ∷ 0x27 ∷ 0x00 ∷ 0x00 ∷ [])) (run (ran (contents (left 0x0008000000006000 0 0) zeros) (record_at 0 1 (PayloadShort (cause.Value 2 1)) ∷ []))) ∷ [])
    ∷ (asks (consumed 0x0020000000006000 (0x90 ∷ 0x5F ∷ 0x01 ∷ 0x00 ∷ 0x00 ∷ 0x00 ∷ [])) (run (ran (contents (left 0x0020000000006000 24464 1) zeros) [])) ∷ [])
    ∷ (asks (checked 0x0020000000006000) (said (Element 1 WrongLength)) ∷ [])
    ∷ []

-- of each case, what the definitions answer, and what is wanted
unfoldable pub answers : List Line → List Answered
answers [] = []
answers (l ∷ ls) = answer_to l.asked ∷ answers ls

unfoldable pub wants : List Line → List Answered
wants [] = []
wants (l ∷ ls) = l.wanted ∷ wants ls

unfoldable pub each : (List Line → List Answered) → List (List Line) → List (List Answered)
each f [] = []
each f (c ∷ cs) = f c ∷ each f cs

-- ---- the theorem
pub twelve : each answers table ≡ each wants table
unfolding answers wants each entry_of field_of decode_of word_at text_word size_of number readings marked_in bit_at consumed_by channel_from run_from act_of applied outcome_of class_of on_count find_from sub_at list_count put_in over check_of well_formed header_ok reserved rows_from row_fits row_ok extra_ok range_ok is_edition slots_from slot_ok head_ok held_ok val_ok word_ok judge_at fault_from word_verdict ends_from all_slots all_words all_bytes rows_of slots_of words_of rooms
twelve = refl

-- and case 8's channel passes: the check refuses no right one
pub mended : check_of (laid 0x0010000000006000) 0 ≡ Pass
unfolding entry_of field_of text_word size_of channel_from find_from sub_at list_count check_of well_formed header_ok reserved rows_from row_fits row_ok extra_ok range_ok is_edition slots_from slot_ok head_ok held_ok val_ok word_ok judge_at fault_from word_verdict ends_from all_slots all_words all_bytes rows_of slots_of words_of rooms
mended = refl
