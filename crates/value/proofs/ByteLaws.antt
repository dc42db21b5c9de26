-- The bytes of a value of several parts, as EPSG DS 301 lays them: part behind part, each little-endian, an address in transmission order.
-- Assumes nothing.
use mathlib.Core.Path.{◌≡◌}
use mathlib.Core.List.{List, [], ◌∷◌, ◌++◌}
use Prim.Native.Nat.{ℕ, ◌*◌, ◌%◌, ◌^◌, ◌<◌}
use native.Mathlib.Nat.{div-one}
use native.Mathlib.Omega.{arith}
use lib.ListN.{length, get_or}
use Rattle.lists.specs.Numbers.{number, bytes_of, bits, Bytes}
use Rattle.lists.proofs.NumberLaws.{bytes_of_two, bytes_of-number, bits-number, bytes_each}
use Rattle.value.specs.declared.TimeOfDay.{TimeOfDay as Day}
use Rattle.value.specs.declared.TimeDifference.{TimeDifference as Difference}
use Rattle.value.specs.declared.NetTime.{NetTime as Net}
use Rattle.value.specs.declared.MacAddress.{MacAddress as Mac}
use Rattle.value.specs.declared.IpAddress.{IpAddress as Ip}
use Rattle.value.specs.declared.ObjectValue.TheVariants.{TimeOfDay, TimeDifference, NetTime, MacAddress, IpAddress}
use Rattle.value.specs.Meaning.{mac_address, ip_address, word_of}
use Rattle.value.specs.Range.{InRange}
use Rattle.value.specs.Codec.{size_of, encoding}

-- ---- times: the lower part first
pub time_of_day_bytes : (v : Day) (part : List ℕ) → InRange (TimeOfDay v)
    → encoding 15 (word_of (TimeOfDay v)) part ≡ bytes_of 4 v.ms ++ bytes_of 2 v.days
unfolding encoding size_of word_of InRange
time_of_day_bytes v part h = bytes_of_two 4 2 v.ms v.days h.0

pub time_difference_bytes : (v : Difference) (part : List ℕ) → InRange (TimeDifference v)
    → encoding 16 (word_of (TimeDifference v)) part ≡ bytes_of 4 v.ms ++ bytes_of 2 v.days
unfolding encoding size_of word_of InRange
time_difference_bytes v part h = bytes_of_two 4 2 v.ms v.days h.0

pub net_time_bytes : (v : Net) (part : List ℕ) → InRange (NetTime v)
    → encoding 17 (word_of (NetTime v)) part ≡ bytes_of 4 v.seconds ++ bytes_of 4 v.nanoseconds
unfolding encoding size_of word_of InRange
net_time_bytes v part h = bytes_of_two 4 4 v.seconds v.nanoseconds h.0

-- ---- addresses: byte by byte
-- a word that is the number of bytes
record Spells (w : ℕ) (s : List ℕ) : Type 0 where
  bytes : bytes_of (length s) w ≡ s
  first : 0 < length s → w % 2 ^ 8 ≡ get_or s 0 0
  byte : (i : ℕ) → i < length s → bits (8 * i) 8 w ≡ get_or s i 0

spells : (w : ℕ) (s : List ℕ) → Bytes s → w ≡ number s → Spells w s
spells w s h e = record { bytes = rw e (bytes_of-number s h); first = λ l. rw (← div-one w, byte 0 l); byte = byte }
  where
    byte : (i : ℕ) → i < length s → bits (8 * i) 8 w ≡ get_or s i 0
    byte i l = rw e (bits-number s h i l)

abbrev pub mac_bytes : Mac → List ℕ
mac_bytes a = a.0 ∷ a.1 ∷ a.2 ∷ a.3 ∷ a.4 ∷ a.5 ∷ []

abbrev pub ip_bytes : Ip → List ℕ
ip_bytes a = a.0 ∷ a.1 ∷ a.2 ∷ a.3 ∷ []

mac : (a : Mac) → InRange (MacAddress a) → Spells (word_of (MacAddress a)) (mac_bytes a)
unfolding word_of InRange number
mac a h = spells _ (mac_bytes a) (bytes_each (mac_bytes a) (h.0, (h.1, (h.2, (h.3, (h.4, (h.5, tt))))))) (omega arith)

ip : (a : Ip) → InRange (IpAddress a) → Spells (word_of (IpAddress a)) (ip_bytes a)
unfolding word_of InRange number
ip a h = spells _ (ip_bytes a) (bytes_each (ip_bytes a) (h.0, (h.1, (h.2, (h.3, tt))))) (omega arith)

pub mac_bytes_lem : (a : Mac) (part : List ℕ) → InRange (MacAddress a) → encoding 19 (word_of (MacAddress a)) part ≡ mac_bytes a
unfolding encoding size_of
mac_bytes_lem a part h = (mac a h).bytes

pub ip_bytes_lem : (a : Ip) (part : List ℕ) → InRange (IpAddress a) → encoding 20 (word_of (IpAddress a)) part ≡ ip_bytes a
unfolding encoding size_of
ip_bytes_lem a part h = (ip a h).bytes

-- so each byte is read back
pub mac_back : (a : Mac) → InRange (MacAddress a) → mac_address (word_of (MacAddress a)) ≡ a
mac_back a h =
    let b = mac a h in
    rw (b.first (omega arith), b.byte 1 (omega arith), b.byte 2 (omega arith), b.byte 3 (omega arith), b.byte 4 (omega arith), b.byte 5 (omega arith))

pub ip_back : (a : Ip) → InRange (IpAddress a) → ip_address (word_of (IpAddress a)) ≡ a
ip_back a h =
    let b = ip a h in
    rw (b.first (omega arith), b.byte 1 (omega arith), b.byte 2 (omega arith), b.byte 3 (omega arith))
