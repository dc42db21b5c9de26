-- Records and numbers of events. Assumes nothing.
use mathlib.Core.Path.{◌≡◌, refl, ap, ◌∙◌}
use mathlib.Core.Logic.{◌≢◌}
use Prim.Native.Nat.{ℕ, ◌+◌, ◌*◌, ◌/◌, ◌%◌, ◌<◌}
use native.Mathlib.Nat.{mod-eq_of_lt, add-mul-mod_self_left}
use native.Mathlib.Omega.{arith}
use borrow.Author.Tests.{ne_eqb}
use Rattle.event.specs.declared.Cause.TheVariants.{Frame, Value, Text, Odd}
use Rattle.event.specs.declared.Unwritten.TheVariants.{CountNotWritable, TooLong}
use Rattle.event.specs.declared.Event.{Event}
use Rattle.event.specs.declared.Event.TheVariants.{MapVersion, PayloadShort, Server, Client, WriteRefused}
use Rattle.event.specs.declared.EventRecord.{EventRecord}
use Rattle.event.specs.Record.{kind_of, detail_of, packed, event_number, cause_of, event_of, record_of, Small, record_at}

-- an event that is of none of the other kinds
pub event_short : {kind : ℕ} (x start n : ℕ) → kind ≢ 1 → kind ≢ 6 → kind ≢ 7 → kind ≢ 8 → kind ≢ 9 → PayloadShort (cause_of kind start n) ≡ event_of kind x start n
unfolding event_of
event_short {kind} x start n a b c d e = simp (ne_eqb kind 1 a, ne_eqb kind 6 b, ne_eqb kind 7 c, ne_eqb kind 8 d, ne_eqb kind 9 e)

-- ---- the fields of a packed number
low : {a z : ℕ} (m b : ℕ) → z ≡ a + m * b → a < m → z % m ≡ a
low {a} m b e h = ap (λ (x : ℕ). x % m) e ∙ add-mul-mod_self_left a m b ∙ mod-eq_of_lt h

pub packed_record : (i kind k x start n : ℕ) → kind < 16 → k < 256 → x < 65536 → start < 8192 → n < 8192 → record_of (packed i kind k x start n) ≡ record_at i k (event_of kind x start n)
unfolding record_of
packed_record i kind k x start n hk he hx hs hn = fields (packed i kind k x start n) refl
  where
    fields : (e : ℕ) → e ≡ packed i kind k x start n → record_of e ≡ record_at i k (event_of kind x start n)
    fields e is =
        let a : e / 18014398509481984 ≡ i = omega arith in
        let b : e / 16 % 256 ≡ k = low 256 (x + 65536 * (start + 8192 * (n + 8192 * i))) (omega arith) he in
        let c : e % 16 ≡ kind = low 16 (k + 256 * (x + 65536 * (start + 8192 * (n + 8192 * i)))) is hk in
        let d : e / 4096 % 65536 ≡ x = low 65536 (start + 8192 * (n + 8192 * i)) (omega arith) hx in
        let f : e / 268435456 % 8192 ≡ start = low 8192 (n + 8192 * i) (omega arith) hs in
        let g : e / 2199023255552 % 8192 ≡ n = low 8192 i (omega arith) hn in
        rw (a, b, c, d, f, g)

-- ---- the number of a record says that record
kind_small : (v : Event) → kind_of v < 16
kind_small MapVersion = omega arith
kind_small (PayloadShort Frame) = omega arith
kind_small (PayloadShort (Value needed had)) = omega arith
kind_small (PayloadShort (Text at)) = omega arith
kind_small (PayloadShort Odd) = omega arith
kind_small (Server x start n) = omega arith
kind_small (Client x start n) = omega arith
kind_small (WriteRefused CountNotWritable) = omega arith
kind_small (WriteRefused TooLong) = omega arith

event_kind : (v : Event) → event_of (kind_of v) (detail_of v).index (detail_of v).start (detail_of v).len ≡ v
unfolding event_of
event_kind MapVersion = refl
event_kind (PayloadShort Frame) = refl
event_kind (PayloadShort (Value needed had)) = refl
event_kind (PayloadShort (Text at)) = refl
event_kind (PayloadShort Odd) = refl
event_kind (Server x start n) = refl
event_kind (Client x start n) = refl
event_kind (WriteRefused CountNotWritable) = refl
event_kind (WriteRefused TooLong) = refl

pub record_number : (r : EventRecord) → Small r → record_of (event_number r) ≡ r
record_number r s =
    packed_record r.payload (kind_of r.event) r.element (detail_of r.event).index (detail_of r.event).start (detail_of r.event).len (kind_small r.event) s.element s.index s.start s.len
    ∙ ap (record_at r.payload r.element) (event_kind r.event)

-- and it is no 0, which stands for no event
pub number_some : (r : EventRecord) → 0 < event_number r
number_some r = let k = kind_some r.event in omega (arith, k)
  where
    kind_some : (v : Event) → 0 < kind_of v
    kind_some MapVersion = omega arith
    kind_some (PayloadShort Frame) = omega arith
    kind_some (PayloadShort (Value needed had)) = omega arith
    kind_some (PayloadShort (Text at)) = omega arith
    kind_some (PayloadShort Odd) = omega arith
    kind_some (Server x start n) = omega arith
    kind_some (Client x start n) = omega arith
    kind_some (WriteRefused CountNotWritable) = omega arith
    kind_some (WriteRefused TooLong) = omega arith
