-- The payloads of a cycle: RULES.md R11.12. Assumes nothing.
use Rattle.std.specs.Prelude.{ℕ, ◌+◌, ◌*◌, ◌/◌, ◌%◌, ◌<◌, ◌≤◌, Bool, not, ◌&&◌, List, eqb, leb, length, take, drop, get_or}
use Rattle.lists.specs.Tests.{below}

-- "of each payload where it starts there, its length, sender, version and ready"
abbrev pub number_at : List ℕ → ℕ → ℕ → ℕ
number_at ps i k = get_or ps (5 * i + k) 0

abbrev pub start_of : List ℕ → ℕ → ℕ
start_of ps i = number_at ps i 0

abbrev pub length_of : List ℕ → ℕ → ℕ
length_of ps i = number_at ps i 1

abbrev pub sender_of : List ℕ → ℕ → ℕ
sender_of ps i = number_at ps i 2

abbrev pub version_of : List ℕ → ℕ → ℕ
version_of ps i = number_at ps i 3

abbrev pub ready_of : List ℕ → ℕ → Bool
ready_of ps i = not (eqb (number_at ps i 4) 0)

abbrev pub payload_of : List ℕ → List ℕ → ℕ → List ℕ
payload_of delivered ps i = take (length_of ps i) (drop (start_of ps i) delivered)

abbrev pub payloads_in : List ℕ → ℕ
payloads_in ps = length ps / 5

-- "a payload not within the bytes, a sender or version over 255: BadValue (2)"
abbrev pub is_placed : ℕ → List ℕ → ℕ → Bool
is_placed size ps i = leb (start_of ps i + length_of ps i) size && (leb (sender_of ps i) 255 && leb (version_of ps i) 255)

-- "over 1,024 payloads": five numbers each
abbrev pub are_shaped : List ℕ → Bool
are_shaped ps = eqb (length ps % 5) 0 && leb (payloads_in ps) 1024

abbrev pub are_placed : ℕ → List ℕ → Bool
are_placed size ps = below (payloads_in ps) (is_placed size ps)

-- "a payload over 1,490 bytes: PayloadTooLong (14)"
abbrev pub is_short : List ℕ → ℕ → Bool
is_short ps i = leb (length_of ps i) 1490

abbrev pub are_short : List ℕ → Bool
are_short ps = below (payloads_in ps) (is_short ps)

-- what consuming payload i needs
pub record Lies (size : ℕ) (ps : List ℕ) (i : ℕ) : Type 0 where
  pub numbers : 5 * i + 5 ≤ length ps
  pub few : i < 1024
  pub within : start_of ps i + length_of ps i ≤ size
  pub sender : sender_of ps i ≤ 255
  pub version : version_of ps i ≤ 255
  pub short : length_of ps i ≤ 1490
