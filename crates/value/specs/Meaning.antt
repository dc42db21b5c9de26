-- What the bits of a value mean, type by type: EPSG DS 301, 6.1.4 to 6.1.6, over the little-endian number of a value's bytes.
-- Bit i of the number is bit i of the standard's bit sequence.
-- Assumes nothing.
use Rattle.std.specs.Prelude.{ℕ, suc, ◌+◌, ◌-◌, ◌*◌, ◌/◌, ◌%◌, ◌^◌, List, [], ◌∷◌, ◌++◌, ℤ, pos, negsuc, ◌-ℤ◌, get_or, take, replicate}
use Rattle.lists.specs.Numbers.{bits}
use Rattle.value.specs.declared.TimeOfDay.{TimeOfDay as Day}
use Rattle.value.specs.declared.TimeDifference.{TimeDifference as Difference}
use Rattle.value.specs.declared.NetTime.{NetTime as Net}
use Rattle.value.specs.declared.MacAddress.{MacAddress as Mac}
use Rattle.value.specs.declared.IpAddress.{IpAddress as Ip}
use Rattle.value.specs.declared.ObjectValue.{ObjectValue}
use Rattle.value.specs.declared.ObjectValue.TheVariants.{Boolean, Integer8, Integer16, Integer32, Integer64, Unsigned8, Unsigned16, Unsigned32, Unsigned64, Real32, Real64, VisibleString, OctetString, UnicodeString, Domain, TimeOfDay, TimeDifference, NetTime, RelativeTime, MacAddress, IpAddress}

-- UNSIGNEDn: the sum of the n low bits
abbrev pub unsigned : ℕ → ℕ → ℕ
unsigned n x = x % 2 ^ n

-- INTEGERn with half = 2^(n-1): the sum of the bits below the last, less half for the last one
abbrev pub integer : ℕ → ℕ → ℤ
integer half x = pos (x % half) -ℤ pos (x / half % 2 * half)

-- the n bits that say an integer
abbrev pub twos : ℕ → ℤ → ℕ
twos half (pos k) = k
twos half (negsuc k) = half + half - suc k

-- TIME_OF_DAY and TIME_DIFFERENCE: 28 bits of milliseconds and 4 reserved bits, which are kept as part of ms (Standard.antt); then 16 bits of days
abbrev pub time_of_day : ℕ → Day
time_of_day x = record { ms = unsigned 32 x; days = bits 32 16 x }

abbrev pub time_difference : ℕ → Difference
time_difference x = record { ms = unsigned 32 x; days = bits 32 16 x }

-- NETTIME: 32 bits of seconds, 32 bits of nanoseconds
abbrev pub net_time : ℕ → Net
net_time x = record { seconds = unsigned 32 x; nanoseconds = bits 32 32 x }

-- addresses: bytes in the order of transmission
abbrev pub mac_address : ℕ → Mac
mac_address x = record { 0 = unsigned 8 x; 1 = bits 8 8 x; 2 = bits 16 8 x; 3 = bits 24 8 x; 4 = bits 32 8 x; 5 = bits 40 8 x }

abbrev pub ip_address : ℕ → Ip
ip_address x = record { 0 = unsigned 8 x; 1 = bits 8 8 x; 2 = bits 16 8 x; 3 = bits 24 8 x }

-- the 21 types in the order of their numbers, each read off the number x of its bytes; of the four types that have a room x is the length
unfoldable pub readings : ℕ → List ObjectValue
readings x =
    Boolean (unsigned 8 x)
    ∷ Integer8 (integer (2 ^ 7) x)
    ∷ Integer16 (integer (2 ^ 15) x)
    ∷ Integer32 (integer (2 ^ 31) x)
    ∷ Integer64 (integer (2 ^ 63) x)
    ∷ Unsigned8 (unsigned 8 x)
    ∷ Unsigned16 (unsigned 16 x)
    ∷ Unsigned32 (unsigned 32 x)
    ∷ Unsigned64 (unsigned 64 x)
    ∷ Real32 (unsigned 32 x)
    ∷ Real64 (unsigned 64 x)
    ∷ VisibleString x
    ∷ OctetString x
    ∷ UnicodeString x
    ∷ Domain x
    ∷ TimeOfDay (time_of_day x)
    ∷ TimeDifference (time_difference x)
    ∷ NetTime (net_time x)
    ∷ RelativeTime (record { 0 = unsigned 64 x })
    ∷ MacAddress (mac_address x)
    ∷ []

-- the value that type t and its word say
abbrev pub reading : ℕ → ℕ → ObjectValue
reading t x = get_or (readings x) t (IpAddress (ip_address x))

-- R3.1: the numbers 0..20
unfoldable pub type_of : ObjectValue → ℕ
type_of (Boolean v) = 0
type_of (Integer8 v) = 1
type_of (Integer16 v) = 2
type_of (Integer32 v) = 3
type_of (Integer64 v) = 4
type_of (Unsigned8 v) = 5
type_of (Unsigned16 v) = 6
type_of (Unsigned32 v) = 7
type_of (Unsigned64 v) = 8
type_of (Real32 v) = 9
type_of (Real64 v) = 10
type_of (VisibleString n) = 11
type_of (OctetString n) = 12
type_of (UnicodeString n) = 13
type_of (Domain n) = 14
type_of (TimeOfDay v) = 15
type_of (TimeDifference v) = 16
type_of (NetTime v) = 17
type_of (RelativeTime v) = 18
type_of (MacAddress v) = 19
type_of (IpAddress v) = 20

-- the number of a value's bytes, or its length: the parts of a value lie from the lowest bit on
unfoldable pub word_of : ObjectValue → ℕ
word_of (Boolean v) = v
word_of (Integer8 v) = twos (2 ^ 7) v
word_of (Integer16 v) = twos (2 ^ 15) v
word_of (Integer32 v) = twos (2 ^ 31) v
word_of (Integer64 v) = twos (2 ^ 63) v
word_of (Unsigned8 v) = v
word_of (Unsigned16 v) = v
word_of (Unsigned32 v) = v
word_of (Unsigned64 v) = v
word_of (Real32 v) = v
word_of (Real64 v) = v
word_of (VisibleString n) = n
word_of (OctetString n) = n
word_of (UnicodeString n) = n
word_of (Domain n) = n
word_of (TimeOfDay v) = v.ms + v.days * 2 ^ 32
word_of (TimeDifference v) = v.ms + v.days * 2 ^ 32
word_of (NetTime v) = v.seconds + v.nanoseconds * 2 ^ 32
word_of (RelativeTime v) = v.0
word_of (MacAddress v) = v.0 + v.1 * 2 ^ 8 + v.2 * 2 ^ 16 + v.3 * 2 ^ 24 + v.4 * 2 ^ 32 + v.5 * 2 ^ 40
word_of (IpAddress v) = v.0 + v.1 * 2 ^ 8 + v.2 * 2 ^ 16 + v.3 * 2 ^ 24

-- the parts of a value as numbers: an integer in 64 bits, a real by its bits, a text and bytes by their length
unfoldable pub parts_of : ObjectValue → List ℕ
parts_of (Boolean v) = v ∷ []
parts_of (Integer8 v) = twos (2 ^ 63) v ∷ []
parts_of (Integer16 v) = twos (2 ^ 63) v ∷ []
parts_of (Integer32 v) = twos (2 ^ 63) v ∷ []
parts_of (Integer64 v) = twos (2 ^ 63) v ∷ []
parts_of (Unsigned8 v) = v ∷ []
parts_of (Unsigned16 v) = v ∷ []
parts_of (Unsigned32 v) = v ∷ []
parts_of (Unsigned64 v) = v ∷ []
parts_of (Real32 v) = v ∷ []
parts_of (Real64 v) = v ∷ []
parts_of (VisibleString n) = n ∷ []
parts_of (OctetString n) = n ∷ []
parts_of (UnicodeString n) = n ∷ []
parts_of (Domain n) = n ∷ []
parts_of (TimeOfDay v) = v.ms ∷ v.days ∷ []
parts_of (TimeDifference v) = v.ms ∷ v.days ∷ []
parts_of (NetTime v) = v.seconds ∷ v.nanoseconds ∷ []
parts_of (RelativeTime v) = v.0 ∷ []
parts_of (MacAddress v) = v.0 ∷ v.1 ∷ v.2 ∷ v.3 ∷ v.4 ∷ v.5 ∷ []
parts_of (IpAddress v) = v.0 ∷ v.1 ∷ v.2 ∷ v.3 ∷ []

-- the same as six numbers, 0 behind the last part
unfoldable pub fields_of : ObjectValue → List ℕ
fields_of v = take 6 (parts_of v ++ replicate 6 0)
