-- A number says a record exactly where it is that record's number. Assumes nothing.
use Rattle.std.specs.Prelude.{Some, None}
use mathlib.Core.Path.{◌≡◌, refl, sym, ap, subst, ◌∙◌}
use mathlib.Core.Bool.{Bool, true, false, cond, ◌&&◌}
use mathlib.Core.Logic.{◌≢◌}
use Prim.Native.Nat.{ℕ, ◌+◌, ◌*◌, ◌/◌, ◌%◌, ◌<◌, ◌≤◌}
use native.Mathlib.Omega.{arith}
use borrow.Author.Tests.{eq-eqb, ne_eqb, eqb-true, eqb-false, leb-true}
use lib.Dec.{eqb, leb}
use Rattle.event.specs.declared.Cause.TheVariants.{Frame, Value, Text, Odd}
use Rattle.event.specs.declared.Unwritten.TheVariants.{CountNotWritable, TooLong}
use Rattle.event.specs.declared.Event.{Event}
use Rattle.event.specs.declared.Event.TheVariants.{MapVersion, PayloadShort, Server, Client, WriteRefused}
use Rattle.event.specs.declared.EventRecord.{EventRecord}
use Rattle.event.specs.Record.{kind_of, detail_of, packed, event_number, event_of, record_of, Small, recorded_of, may_have, is_record}
use Rattle.event.proofs.RecordLaws.{record_number}

-- ---- a number from 1 to 9 is one of them
above : (k m : ℕ) → m ≤ k → k ≢ m → m + 1 ≤ k
above k m l n = omega (arith, l, n)

none_left : {A : Type 0} (k : ℕ) → 1 ≤ k → k ≤ 9 → k ≢ 1 → k ≢ 2 → k ≢ 3 → k ≢ 4 → k ≢ 5 → k ≢ 6 → k ≢ 7 → k ≢ 8 → k ≢ 9 → A
none_left k l m a b c d e f g h i =
    let u = above k 9 (above k 8 (above k 7 (above k 6 (above k 5 (above k 4 (above k 3 (above k 2 (above k 1 l a) b) c) d) e) f) g) h) i in
    absurd (omega (arith, u, m))

-- ---- what a kind may have is what its events have
module _ (i k x s n : ℕ) (hx : x < 65536) (hs : s < 8192) (hn : n < 8192) where
  -- whether the number of a kind with another detail is the one with the index x, the start s and the length n
  abbrev given : ℕ → ℕ
  given kind = packed i kind k x s n

  abbrev same : ℕ → ℕ → ℕ → ℕ → Bool
  same kind y t m = eqb (packed i kind k y t m) (given kind)

  needed_had : (kind : ℕ) → same kind 0 s n ≡ (eqb x 0 && true)
  needed_had kind = go (eqb x 0) refl
    where
      go : (a : Bool) → eqb x 0 ≡ a → same kind 0 s n ≡ (a && true)
      go true p = let u = eqb-true x 0 p in eq-eqb (packed i kind k 0 s n) (given kind) (omega (arith, u))
      go false p = let u = eqb-false x 0 p in ne_eqb (packed i kind k 0 s n) (given kind) (λ z. omega (arith, u, z))

  place : (kind : ℕ) → same kind 0 s 0 ≡ (eqb x 0 && (eqb n 0 && true))
  place kind = go (eqb x 0) refl (eqb n 0) refl
    where
      go : (a : Bool) → eqb x 0 ≡ a → (b : Bool) → eqb n 0 ≡ b → same kind 0 s 0 ≡ (a && (b && true))
      go true p true q = let u = eqb-true x 0 p in let v = eqb-true n 0 q in eq-eqb (packed i kind k 0 s 0) (given kind) (omega (arith, u, v))
      go true p false q = let v = eqb-false n 0 q in ne_eqb (packed i kind k 0 s 0) (given kind) (λ z. omega (arith, v, z))
      go false p b q = let u = eqb-false x 0 p in ne_eqb (packed i kind k 0 s 0) (given kind) (λ z. omega (arith, u, z))

  bare : (kind : ℕ) → same kind 0 0 0 ≡ (eqb x 0 && (eqb n 0 && (eqb s 0 && true)))
  bare kind = go (eqb x 0) refl (eqb n 0) refl (eqb s 0) refl
    where
      go : (a : Bool) → eqb x 0 ≡ a → (b : Bool) → eqb n 0 ≡ b → (c : Bool) → eqb s 0 ≡ c → same kind 0 0 0 ≡ (a && (b && (c && true)))
      go true p true q true r = let u = eqb-true x 0 p in let v = eqb-true n 0 q in let w = eqb-true s 0 r in eq-eqb (packed i kind k 0 0 0) (given kind) (omega (arith, u, v, w))
      go true p true q false r = let w = eqb-false s 0 r in ne_eqb (packed i kind k 0 0 0) (given kind) (λ z. omega (arith, w, z))
      go true p false q c r = let v = eqb-false n 0 q in ne_eqb (packed i kind k 0 0 0) (given kind) (λ z. omega (arith, v, z))
      go false p b q c r = let u = eqb-false x 0 p in ne_eqb (packed i kind k 0 0 0) (given kind) (λ z. omega (arith, u, z))

  -- the number of the event that a kind and a detail say is their own, just where the kind may have the detail
  abbrev Claim : ℕ → Type 0
  Claim kind = let d = detail_of (event_of kind x s n) in eqb (packed i (kind_of (event_of kind x s n)) k d.index d.start d.len) (packed i kind k x s n) ≡ may_have kind x s n

  other_kind : (kind : ℕ) → kind < 16 → kind ≢ 5 → packed i 5 k 0 0 0 ≢ given kind
  other_kind kind h e z = omega (arith, h, e, z)

  -- 0 and what is above 9 are taken for the last cause, of kind 5
  no_kind : (kind : ℕ) → kind < 16 → kind ≢ 1 → kind ≢ 2 → kind ≢ 3 → kind ≢ 4 → kind ≢ 5 → kind ≢ 6 → kind ≢ 7 → kind ≢ 8 → kind ≢ 9 → Claim kind
  unfolding event_of may_have
  no_kind kind h a b c d e f g j l =
      rw (ne_eqb kind 1 a, ne_eqb kind 2 b, ne_eqb kind 3 c, ne_eqb kind 4 d, ne_eqb kind 6 f, ne_eqb kind 7 g, ne_eqb kind 8 j, ne_eqb kind 9 l)
      (ne_eqb (packed i 5 k 0 0 0) (given kind) (other_kind kind h e) ∙ none (eqb x 0) (eqb n 0) (eqb s 0) (leb 1 kind) refl (leb kind 9) refl)
    where
      none : (p q r t : Bool) → leb 1 kind ≡ t → (u : Bool) → leb kind 9 ≡ u → false ≡ (p && (q && (r && (t && u))))
      none false q r t v u w = refl
      none true false r t v u w = refl
      none true true false t v u w = refl
      none true true true false v u w = refl
      none true true true true v false w = refl
      none true true true true v true w = let y = leb-true 1 kind v in let z = leb-true kind 9 w in none_left kind y z a b c d e f g j l

  kinds : (kind : ℕ) → kind < 16 → Claim kind
  unfolding event_of may_have
  kinds kind h = go (eqb kind 1) refl (eqb kind 2) refl (eqb kind 3) refl (eqb kind 4) refl (eqb kind 5) refl (eqb kind 6) refl (eqb kind 7) refl (eqb kind 8) refl (eqb kind 9) refl
    where
      at : (j : ℕ) → eqb kind j ≡ true → Claim j → Claim kind
      at j e c = subst Claim (sym (eqb-true kind j e)) c

      go : (a : Bool) → eqb kind 1 ≡ a → (b : Bool) → eqb kind 2 ≡ b → (c : Bool) → eqb kind 3 ≡ c → (d : Bool) → eqb kind 4 ≡ d → (e : Bool) → eqb kind 5 ≡ e → (f : Bool) → eqb kind 6 ≡ f → (g : Bool) → eqb kind 7 ≡ g → (j : Bool) → eqb kind 8 ≡ j → (l : Bool) → eqb kind 9 ≡ l → Claim kind
      go true p b q c r d t e u f v g w j y l z = at 1 p (bare 1)
      go false p true q c r d t e u f v g w j y l z = at 2 q (bare 2)
      go false p false q true r d t e u f v g w j y l z = at 3 r (needed_had 3)
      go false p false q false r true t e u f v g w j y l z = at 4 t (place 4)
      go false p false q false r false t true u f v g w j y l z = at 5 u (bare 5)
      go false p false q false r false t false u true v g w j y l z = at 6 v (eq-eqb (given 6) (given 6) refl)
      go false p false q false r false t false u false v true w j y l z = at 7 w (eq-eqb (given 7) (given 7) refl)
      go false p false q false r false t false u false v false w true y l z = at 8 y (bare 8)
      go false p false q false r false t false u false v false w false y true z = at 9 z (bare 9)
      go false p false q false r false t false u false v false w false y false z =
          no_kind kind h (eqb-false kind 1 p) (eqb-false kind 2 q) (eqb-false kind 3 r) (eqb-false kind 4 t) (eqb-false kind 5 u) (eqb-false kind 6 v) (eqb-false kind 7 w) (eqb-false kind 8 y) (eqb-false kind 9 z)

-- ---- a number is made of its parts
joined : (e a b c d i kind k x start n : ℕ) → e ≡ kind + 16 * a → a ≡ k + 256 * b → b ≡ x + 65536 * c → c ≡ start + 8192 * d → d ≡ n + 8192 * i → packed i kind k x start n ≡ e
joined e a b c d i kind k x start n p q r s t = omega (arith, p, q, r, s, t)

module _ (e : ℕ) where
  -- the test by the parts is that the number is its record's
  pub is_record_lem : is_record e ≡ eqb (event_number (record_of e)) e
  unfolding record_of
  is_record_lem =
      let i = e / 18014398509481984 in
      let k = e / 16 % 256 in
      let kind = e % 16 in
      let x = e / 4096 % 65536 in
      let s = e / 268435456 % 8192 in
      let n = e / 2199023255552 % 8192 in
      let whole : packed i kind k x s n ≡ e = joined e (e / 16) (e / 4096) (e / 268435456) (e / 2199023255552) i kind k x s n (omega arith) (omega arith) (omega arith) (omega arith) (omega arith) in
      sym (ap (eqb (event_number (record_of e))) (sym whole) ∙ kinds i k x s n (omega arith) (omega arith) (omega arith) kind (omega arith))

  pub recorded_is : is_record e ≡ true → Some (record_of e) ≡ recorded_of e
  unfolding recorded_of
  recorded_is h = rw (sym is_record_lem ∙ h)

  pub recorded_none : is_record e ≡ false → None ≡ recorded_of e
  unfolding recorded_of
  recorded_none h = rw (sym is_record_lem ∙ h)

-- ---- what a number says has parts that have room in a number
small : (e : ℕ) → Small (record_of e)
unfolding record_of event_of
small e =
    let l = lies (e % 16) (e / 4096 % 65536) (e / 268435456 % 8192) (e / 2199023255552 % 8192) in
    record { element = omega arith; index = omega (arith, l.0); start = omega (arith, l.1); len = omega (arith, l.2) }
  where
    Lies : ℕ → ℕ → ℕ → Event → Type 0
    Lies x s n v = ((detail_of v).index ≤ x) × ((detail_of v).start ≤ s) × ((detail_of v).len ≤ n)

    lies : (kind x s n : ℕ) → Lies x s n (event_of kind x s n)
    lies kind x s n = go (eqb kind 1) (eqb kind 6) (eqb kind 7) (eqb kind 8) (eqb kind 9) (eqb kind 2) (eqb kind 3) (eqb kind 4)
      where
        go : (a b c d e f g h : Bool)
            → Lies x s n (cond a MapVersion (cond b (Server x s n) (cond c (Client x s n) (cond d (WriteRefused CountNotWritable) (cond e (WriteRefused TooLong) (PayloadShort (cond f Frame (cond g (Value s n) (cond h (Text s) Odd)))))))))
        go true b c d e f g h = (omega arith, omega arith, omega arith)
        go false true c d e f g h = (omega arith, omega arith, omega arith)
        go false false true d e f g h = (omega arith, omega arith, omega arith)
        go false false false true e f g h = (omega arith, omega arith, omega arith)
        go false false false false true f g h = (omega arith, omega arith, omega arith)
        go false false false false false true g h = (omega arith, omega arith, omega arith)
        go false false false false false false true h = (omega arith, omega arith, omega arith)
        go false false false false false false false true = (omega arith, omega arith, omega arith)
        go false false false false false false false false = (omega arith, omega arith, omega arith)

-- ---- the theorem, both ways
pub recorded-number : (e : ℕ) (r : EventRecord) → recorded_of e ≡ Some r → (event_number r ≡ e) × Small r
unfolding recorded_of
recorded-number e r h = go (is_record e) refl
  where
    go : (b : Bool) → is_record e ≡ b → (event_number r ≡ e) × Small r
    go true p =
        let i : Some (record_of e) ≡ Some r = recorded_is e p ∙ h in
        let u : record_of e ≡ r = cc in
        (rw (sym u) (eqb-true _ e (sym (is_record_lem e) ∙ p)), rw u at (small e))
    go false p = let n : None ≡ Some r = recorded_none e p ∙ h in let z : ◌≡◌ {A = ℕ} 0 1 = cc in absurd (omega arith)

pub number-recorded : (r : EventRecord) → Small r → recorded_of (event_number r) ≡ Some r
unfolding recorded_of
number-recorded r s = let n = record_number r s in rw (n, eq-eqb (event_number r) (event_number r) refl)
