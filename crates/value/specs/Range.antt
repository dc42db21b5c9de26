-- The values that code can hold: each part fits its bits, and a length 64.
-- Assumes nothing.
use Rattle.std.specs.Prelude.{◌^◌, ◌<◌}
use Rattle.std.specs.Int.Signed.{mag}
use Rattle.value.specs.declared.ObjectValue.{ObjectValue}
use Rattle.value.specs.declared.ObjectValue.TheVariants.{Boolean, Integer8, Integer16, Integer32, Integer64, Unsigned8, Unsigned16, Unsigned32, Unsigned64, Real32, Real64, VisibleString, OctetString, UnicodeString, Domain, TimeOfDay, TimeDifference, NetTime, RelativeTime, MacAddress, IpAddress}

-- `mag z` is z, and -1 - z where z is below 0
unfoldable pub InRange : ObjectValue → Type 0
InRange (Boolean v) = v < 2 ^ 8
InRange (Integer8 v) = mag v < 2 ^ 7
InRange (Integer16 v) = mag v < 2 ^ 15
InRange (Integer32 v) = mag v < 2 ^ 31
InRange (Integer64 v) = mag v < 2 ^ 63
InRange (Unsigned8 v) = v < 2 ^ 8
InRange (Unsigned16 v) = v < 2 ^ 16
InRange (Unsigned32 v) = v < 2 ^ 32
InRange (Unsigned64 v) = v < 2 ^ 64
InRange (Real32 v) = v < 2 ^ 32
InRange (Real64 v) = v < 2 ^ 64
InRange (VisibleString n) = n < 2 ^ 64
InRange (OctetString n) = n < 2 ^ 64
InRange (UnicodeString n) = n < 2 ^ 64
InRange (Domain n) = n < 2 ^ 64
InRange (TimeOfDay v) = (v.ms < 2 ^ 32) × (v.days < 2 ^ 16)
InRange (TimeDifference v) = (v.ms < 2 ^ 32) × (v.days < 2 ^ 16)
InRange (NetTime v) = (v.seconds < 2 ^ 32) × (v.nanoseconds < 2 ^ 32)
InRange (RelativeTime v) = v.0 < 2 ^ 64
InRange (MacAddress v) = (v.0 < 2 ^ 8) × (v.1 < 2 ^ 8) × (v.2 < 2 ^ 8) × (v.3 < 2 ^ 8) × (v.4 < 2 ^ 8) × (v.5 < 2 ^ 8)
InRange (IpAddress v) = (v.0 < 2 ^ 8) × (v.1 < 2 ^ 8) × (v.2 < 2 ^ 8) × (v.3 < 2 ^ 8)
