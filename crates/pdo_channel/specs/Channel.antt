-- The channel that a sender has, and its version: RULES.md 11. Assumes nothing.
use Rattle.std.specs.Prelude.{ℕ, zero, suc, ◌+◌, ◌/◌, ◌%◌, Bool, false, cond, not, ◌&&◌, ◌||◌, eqb, leb, ltb, get_or, Option, Some, None, Result, Ok, Err}
use Rattle.entry.specs.Table.{Dict, type_at}
use Rattle.entry.specs.Find.{place_of}
use Rattle.entry.specs.declared.Place.{Place}
use Rattle.entry.specs.declared.Place.TheVariants.{Count, Value}
use Rattle.entry.specs.declared.Missing.{Missing}

-- a U8 at a place, or none
abbrev pub u8_in : Dict → Result Place Missing → Option ℕ
u8_in d (Err m) = None
u8_in d (Ok (Count n)) = None
u8_in d (Ok (Value p)) = cond (eqb (type_at d.slots p) 5) (Some (get_or d.words p 0)) None

-- the U8 at a sub-index above 0, which only lists have
abbrev pub u8_at : Dict → ℕ → ℕ → Option ℕ
u8_at d x sub = u8_in d (place_of d.objects x sub)

-- R11.2: "matches the sender: equal to a sender that is not 0, or 0 with sender 240"
abbrev pub is_sender : ℕ → ℕ → Bool
is_sender sender v = (eqb v sender && not (eqb sender 0)) || (eqb v 0 && eqb sender 240)

-- R12.3: "A U8 of 0 or 240 at 1400h+i/1 gives sender 240, any other value gives itself; an earlier channel that matches that sender takes it."
abbrev pub sender_for : ℕ → ℕ
sender_for v = cond (eqb v 0) 240 v

abbrev pub matches_in : ℕ → Option ℕ → Bool
matches_in sender (Some v) = is_sender sender v
matches_in sender None = false

abbrev pub comm_index : ℕ → ℕ
comm_index i = 0x1400 + i

-- the first of n channels from channel i on that matches
unfoldable pub channel_from : Dict → ℕ → ℕ → ℕ → Option ℕ
channel_from d sender zero i = None
channel_from d sender (suc n) i = cond (matches_in sender (u8_at d (comm_index i) 1)) (Some i) (channel_from d sender n (suc i))

-- "The channel is the first i in 0..255"
abbrev pub first_match : Dict → ℕ → Option ℕ
first_match d sender = channel_from d sender 256 0

-- R11.3: "Expected version: the U8 at 1400h+i/2, else 0."
abbrev pub or_zero : Option ℕ → ℕ
or_zero (Some v) = v
or_zero None = 0

abbrev pub expected_of : Dict → ℕ → ℕ
expected_of d i = or_zero (u8_at d (comm_index i) 2)

-- "Right: expected and received are both 0; or expected is above 0, high nibbles agree and the received low nibble is not smaller."
abbrev pub right_version : ℕ → ℕ → Bool
right_version e v = (eqb e 0 && eqb v 0) || (ltb 0 e && (eqb (e / 16) (v / 16) && leb (e % 16) (v % 16)))
