-- Demand 3: which payloads a channel admits, and what it means that they are written whole. RULES.md R12.4 to R12.6. Assumes nothing.
use Rattle.std.specs.Prelude.{ℕ, ◌+◌, ◌≤◌, ◌<◌, ◌≡◌, Bool, true, false, List, [], ◌∷◌, eqb, length, Some, Ok}
use Rattle.lists.specs.Numbers.{Bytes}
use Rattle.text.specs.Machine.{judge}
use Rattle.mapping.specs.Word.{entry_of, field_of, end_of, field_at}
use Rattle.entry.specs.Table.{Dict, kind_at, list_count, first_at, type_at, room_at}
use Rattle.entry.specs.Find.{find_row}
use Rattle.entry.specs.Put.{Contents, contents, put_in}
use Rattle.entry.specs.Encode.{encoding_in}
use Rattle.aim.specs.Aims.{aim_of, class_of}
use Rattle.aim.specs.declared.Class.{Class}
use Rattle.aim.specs.declared.Class.TheVariants as class
use Rattle.pdo_step.specs.declared.Outcome.TheVariants.{Stored}
use Rattle.pdo_step.specs.Outcomes.{part}
use Rattle.pdo_channel.specs.Channel.{first_match, expected_of, right_version}
use Rattle.pdo_run.specs.Run.{Frame, frame, decided, act_of, ran, list_in}
use Rattle.pdo_handler.specs.Consume.{received_by}

-- R12.4: "its length is from the largest end of the list's U64 elements": each of them ends within the payload. The list's first slot is p,
-- and j of its words lie before.
abbrev pub Long : List ℕ → List ℕ → ℕ → List ℕ → ℕ → Type 0
Long slots payload p [] j = Unit {0}
Long slots payload p (w ∷ ws) j = (type_at slots (p + j) ≡ 8 → end_of (entry_of w) ≤ length payload) × Long slots payload p ws (j + 1)

-- "every VisibleString field (aligned, target outside 1200h..12FFh) is UTF-8"
pub record TextAt (objects slots payload : List ℕ) (w : ℕ) : Type 0 where
  pub good : (start n p : ℕ) → class_of (aim_of objects w) ≡ class.Value start n p → type_at slots p ≡ 11 → judge (part payload start n) ≡ Ok tt

abbrev pub Texts : List ℕ → List ℕ → List ℕ → ℕ → List ℕ → ℕ → Type 0
Texts objects slots payload p [] j = Unit {0}
Texts objects slots payload p (w ∷ ws) j = (type_at slots (p + j) ≡ 8 → TextAt objects slots payload w) × Texts objects slots payload p ws (j + 1)

-- "it is ready; i is the first match of the sender; the version is right; its length is .. to 1,490 bytes"; the channel's list is in row r
pub record Admitted (d : Dict) (i r : ℕ) (payload : List ℕ) (sender version : ℕ) (ready : Bool) : Type 0 where
  pub is-ready : ready ≡ true
  pub first : first_match d sender ≡ Some i
  pub right : right_version (expected_of d i) version ≡ true
  pub long : Long d.slots payload (first_at d.objects r) (list_in d.objects d.words r) 0
  pub short : length payload ≤ 1490
  pub texts : Texts d.objects d.slots payload (first_at d.objects r) (list_in d.objects d.words r) 0

-- R12.5: "its step .. stores a value whose encoding is the field"
pub record Whole (f : Frame) (c : Contents) (w : ℕ) : Type 0 where
  pub target : ℕ
  pub start : ℕ
  pub len : ℕ
  pub field : field_of (entry_of w) ≡ field_at start len
  pub stores : decided f w ≡ Stored target start len
  pub encodes : encoding_in f.slots (act_of f c (decided f w)).words (act_of f c (decided f w)).bytes target ≡ part f.payload start len

-- R12.6: "putting (R5.7) each field at its target, in list order"
abbrev pub put_field : Frame → Contents → Class → Contents
put_field f c class.Misaligned = c
put_field f c (class.Server start n) = c
put_field f c (class.Client start n) = c
put_field f c class.NoTarget = c
put_field f c (class.Count start n) = c
put_field f c (class.Value start n p) = put_in f.slots c p (part f.payload start n)

abbrev pub put_word : Frame → Contents → ℕ → Contents
put_word f c w = put_field f c (class_of (aim_of f.objects w))

unfoldable pub put_all : Frame → List ℕ → Contents → Contents
put_all f [] c = c
put_all f (w ∷ ws) c = put_all f ws (put_word f c w)

-- "every element whole"; an element that is not U64 has no step
abbrev pub AllWhole : Frame → ℕ → List ℕ → ℕ → Contents → Type 0
AllWhole f p [] j c = Unit {0}
AllWhole f p (w ∷ ws) j c = (type_at f.slots (p + j) ≡ 8) × Whole f c w × AllWhole f p ws (j + 1) (put_word f c w)

-- "writes every element whole, gives no event and changes nothing else"
pub record Written (f : Frame) (c : Contents) (version : ℕ) (ready : Bool) (p : ℕ) (ws : List ℕ) : Type 0 where
  pub silent : received_by f c version ready ≡ ran (put_all f ws c) []
  pub whole : AllWhole f p ws 0 c

-- "an admitted payload exists"
pub record Admits (d : Dict) (i r : ℕ) : Type 0 where
  pub payload : List ℕ
  pub bytes : Bytes payload
  pub sender : ℕ
  pub a_sender : sender < 256
  pub version : ℕ
  pub a-version : version < 256
  pub admitted : Admitted d i r payload sender version true

-- "the list has an element, an admitted payload exists, and every admitted payload writes every element whole .."
pub record Demand (d : Dict) (i : ℕ) : Type 0 where
  pub row : ℕ
  pub found : find_row d.objects (0x1600 + i) ≡ Some row
  pub list : eqb (kind_at d.objects row) 0 ≡ false
  pub some : eqb (list_count d.objects row) 0 ≡ false
  pub exists : Admits d i row
  pub all : (payload : List ℕ) → Bytes payload → (sender version : ℕ) (ready : Bool) (k : ℕ) → Admitted d i row payload sender version ready
      → Written (frame d.objects d.slots payload sender k) (contents d.words d.bytes) version ready (first_at d.objects row) (list_in d.objects d.words row)
