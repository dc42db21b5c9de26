-- What a word that is stored comes from: its target takes the field, and has room for it. Assumes nothing.
use Rattle.std.specs.Prelude.{Option, Some, None, Result, Ok, Err}
use Rattle.mapping.specs.declared.Field.{Field}
use Rattle.value.specs.declared.CodecFault.{CodecFault}
use mathlib.Core.Path.{◌≡◌, refl, sym, ap, ◌∙◌}
use mathlib.Core.Bool.{Bool, true, false, cond, ◌&&◌}
use mathlib.Core.List.{List}
use Prim.Native.Nat.{ℕ, ◌+◌, ◌≤◌}
use native.Mathlib.Omega.{arith}
use borrow.Author.Tests.{ltb-false}
use lib.Dec.{eqb, ltb}
use lib.ListN.{length, drop}
use Rattle.lists.specs.Numbers.{Bytes}
use Rattle.lists.proofs.NumberLaws.{part_length, bytes_take, bytes_drop, bytes_over}
use Rattle.value.specs.Codec.{is_text, word_at}
use Rattle.value.specs.declared.CodecFault.TheVariants as fault
use Rattle.value.proofs.FaultLaws.{word_tells, told_small}
use Rattle.mapping.specs.Word.{entry_of, field_of, field_at}
use Rattle.mapping.specs.declared.PdoMappingEntry.{PdoMappingEntry}
use Rattle.mapping.proofs.WordLaws.{whole_field, entry_in_range}
use Rattle.entry.specs.Table.{Dict, type_at, start_at, room_at, is_mapping}
use Rattle.entry.specs.Find.{place_of}
use Rattle.entry.specs.Judge.{well_formed}
use Rattle.entry.specs.declared.Place.{Place}
use Rattle.entry.specs.declared.Place.TheVariants.{Count, Value}
use Rattle.entry.specs.declared.Missing.{Missing}
use Rattle.entry.proofs.ValueLaws.{rows_of, element_of_lem, element_facts}
use Rattle.entry.specs.Put.{contents, filled, put_in}
use Rattle.entry.proofs.PutLaws.{put_text, put_fixed}
use Rattle.entry.proofs.KeepLaws.{Fits, put_element}
use Rattle.aim.specs.Aims.{between}
use Rattle.pdo_step.specs.declared.Outcome.{Outcome}
use Rattle.pdo_step.specs.declared.Outcome.TheVariants as outcome
use Rattle.pdo_step.specs.Outcomes.{part, on_count, on_value, outcome_of, Shape, reach}
use Rattle.pdo_step.specs.Steps.{applied}
use Rattle.pdo_step.proofs.FormLaws.{on_place, on_index, on_field, outcome_form}

pub shape_of : (d : Dict) → well_formed d ≡ true → Shape d.objects d.slots
shape_of d e =
    record { rows = rows_of d e; value = λ x sub p q. let f = element_facts d e (element_of_lem d e x sub p q) in (f.low, f.slot) }

pub record StoredBy (d : Dict) (payload : List ℕ) (p start n : ℕ) : Type 0 where
  pub index : ℕ
  pub sub : ℕ
  pub word : ℕ
  pub place : place_of d.objects index sub ≡ Ok (Value p)
  pub within : start + n ≤ length payload
  pub small : start + n ≤ 16382
  pub fits : Fits d p (part payload start n) word

module _ (d : Dict) (payload : List ℕ) (p a n : ℕ) where
  record Lies (b m : ℕ) : Type 0 where
    within : b + m ≤ length payload
    small : b + m ≤ 16382

  at_value_lem : (x sub q b m : ℕ) → place_of d.objects x sub ≡ Ok (Value q) → Lies b m → (w : Result ℕ CodecFault) → word_at (type_at d.slots q) (part payload b m) ≡ w → on_value d.slots q b m w ≡ outcome.Stored p a n → StoredBy d payload p a n
  at_value_lem x sub q b m l h (Err f) k e = let z : ◌≡◌ {A = ℕ} 0 1 = cc in absurd (omega arith)
  at_value_lem x sub q b m l h (Ok w) k e = room (is_text (type_at d.slots q) && ltb (room_at d.slots q) m) refl e
    where
      same : (q ≡ p) → (b ≡ a) → (m ≡ n) → (is_text (type_at d.slots q) ≡ true → m ≤ room_at d.slots q) → StoredBy d payload p a n
      same u v y r =
          rw (← u, ← v, ← y) (record { index = x; sub = sub; word = w; place = l; within = h.within; small = h.small; fits = record { taken = k; room = λ t. omega (arith, part_length payload b m h.within, r t) } })

      room : (c : Bool) → (is_text (type_at d.slots q) && ltb (room_at d.slots q) m) ≡ c → cond c outcome.TooLong (outcome.Stored q b m) ≡ outcome.Stored p a n → StoredBy d payload p a n
      room true r e = let z : ◌≡◌ {A = ℕ} 0 1 = cc in absurd (omega arith)
      room false r e = same (cc) (cc) (cc) (λ t. ltb-false (room_at d.slots q) m (sym (ap (λ c. c && ltb (room_at d.slots q) m) t) ∙ r))

  at_count : (x m : ℕ) → on_count x m ≡ outcome.Stored p a n → StoredBy d payload p a n
  unfolding on_count
  at_count x m e = none (eqb m 0) (is_mapping x) e
    where
      none : (b c : Bool) → cond b (outcome.Undecodable (fault.Value 1 0)) (cond c outcome.Count outcome.CountRefused) ≡ outcome.Stored p a n → StoredBy d payload p a n
      none true c e = let z : ◌≡◌ {A = ℕ} 0 1 = cc in absurd (omega arith)
      none false true e = let z : ◌≡◌ {A = ℕ} 0 1 = cc in absurd (omega arith)
      none false false e = let z : ◌≡◌ {A = ℕ} 0 1 = cc in absurd (omega arith)

  at_place : (x sub b m : ℕ) → Lies b m → (q : Result Place Missing) → place_of d.objects x sub ≡ q → on_place d.slots payload x b m q ≡ outcome.Stored p a n → StoredBy d payload p a n
  at_place x sub b m h (Err r) l e = let z : ◌≡◌ {A = ℕ} 0 1 = cc in absurd (omega arith)
  at_place x sub b m h (Ok (Count c)) l e = at_count x m e
  at_place x sub b m h (Ok (Value q)) l e = at_value_lem x sub q b m l h (word_at (type_at d.slots q) (part payload b m)) refl e

  pub stored_by : (w : ℕ) → outcome_of d.objects d.slots payload w ≡ outcome.Stored p a n → StoredBy d payload p a n
  unfolding on_index
  stored_by w e = fielded (field_of (entry_of w)) refl (sym (outcome_form d.objects d.slots payload w) ∙ e)
    where
      x : ℕ
      x = (entry_of w).index

      sub : ℕ
      sub = (entry_of w).sub_index

      client : (b m : ℕ) → Lies b m → (c : Bool) → cond c (outcome.Client x b m) (on_place d.slots payload x b m (place_of d.objects x sub)) ≡ outcome.Stored p a n → StoredBy d payload p a n
      client b m h true e = let z : ◌≡◌ {A = ℕ} 0 1 = cc in absurd (omega arith)
      client b m h false e = at_place x sub b m h (place_of d.objects x sub) refl e

      server : (b m : ℕ) → Lies b m → (c : Bool)
          → cond c (outcome.Server x b m) (cond (between 0x1280 0x12FF x) (outcome.Client x b m) (on_place d.slots payload x b m (place_of d.objects x sub))) ≡ outcome.Stored p a n → StoredBy d payload p a n
      server b m h true e = let z : ◌≡◌ {A = ℕ} 0 1 = cc in absurd (omega arith)
      server b m h false e = client b m h (between 0x1280 0x12FF x) e

      short : (b m : ℕ) → field_of (entry_of w) ≡ field_at b m → (c : Bool) → ltb (length payload) (b + m) ≡ c → cond c outcome.Short (on_index d.objects d.slots payload (entry_of w) b m) ≡ outcome.Stored p a n → StoredBy d payload p a n
      short b m q true l e = let z : ◌≡◌ {A = ℕ} 0 1 = cc in absurd (omega arith)
      short b m q false l e =
          server b m (record { within = ltb-false (length payload) (b + m) l; small = (whole_field (entry_of w) (entry_in_range w) b m q).end_small }) (between 0x1200 0x127F x) e

      fielded : (f : Option Field) → field_of (entry_of w) ≡ f → on_field d.objects d.slots payload (entry_of w) f ≡ outcome.Stored p a n → StoredBy d payload p a n
      fielded None q e = let z : ◌≡◌ {A = ℕ} 0 1 = cc in absurd (omega arith)
      fielded (Some v) q e = short v.start v.length q (ltb (length payload) (v.start + v.length)) refl e

-- ---- a field ends within the payload, and what its fault tells is as small
module _ (objects slots payload : List ℕ) (w : ℕ) where
  reach-value : (q b m : ℕ) → b + m ≤ length payload → (v : Result ℕ CodecFault) → word_at (type_at slots q) (part payload b m) ≡ v → reach (on_value slots q b m v) ≤ length payload + 16
  reach-value q b m h (Err f) e = omega (arith, h, part_length payload b m h, told_small (type_at slots q) (part payload b m) f (word_tells (type_at slots q) (part payload b m) f e))
  reach-value q b m h (Ok v) e = go (is_text (type_at slots q) && ltb (room_at slots q) m)
    where
      go : (c : Bool) → reach (cond c outcome.TooLong (outcome.Stored q b m)) ≤ length payload + 16
      go true = omega arith
      go false = omega (arith, h)

  reach-place : (x b m : ℕ) → b + m ≤ length payload → (q : Result Place Missing) → reach (on_place slots payload x b m q) ≤ length payload + 16
  unfolding on_count
  reach-place x b m h (Err r) = omega arith
  reach-place x b m h (Ok (Count n)) = go (eqb m 0) (is_mapping x)
    where
      go : (c e : Bool) → reach (cond c (outcome.Undecodable (fault.Value 1 0)) (cond e outcome.Count outcome.CountRefused)) ≤ length payload + 16
      go true e = omega arith
      go false true = omega arith
      go false false = omega arith
  reach-place x b m h (Ok (Value q)) = reach-value q b m h (word_at (type_at slots q) (part payload b m)) refl

  pub reach_within : reach (outcome_of objects slots payload w) ≤ length payload + 16
  unfolding on_index
  reach_within = rw outcome_form (fielded (field_of (entry_of w)))
    where
      e : PdoMappingEntry
      e = entry_of w

      go : (b m : ℕ) (short server client : Bool) → ltb (length payload) (b + m) ≡ short
          → reach (cond short outcome.Short (cond server (outcome.Server e.index b m) (cond client (outcome.Client e.index b m) (on_place slots payload e.index b m (place_of objects e.index e.sub_index))))) ≤ length payload + 16
      go b m true s c h = omega arith
      go b m false true c h = omega (arith, ltb-false (length payload) (b + m) h)
      go b m false false true h = omega (arith, ltb-false (length payload) (b + m) h)
      go b m false false false h = reach-place e.index b m (ltb-false (length payload) (b + m) h) (place_of objects e.index e.sub_index)

      fielded : (f : Option Field) → reach (on_field objects slots payload (entry_of w) f) ≤ length payload + 16
      fielded None = omega arith
      fielded (Some v) = go v.start v.length (ltb (length payload) (v.start + v.length)) (between 0x1200 0x127F e.index) (between 0x1280 0x12FF e.index) refl

-- ---- a step keeps the dictionary well-formed
pub step_keeps : (d : Dict) (payload : List ℕ) (w : ℕ) → well_formed d ≡ true → Bytes payload → well_formed (filled d (applied d.slots payload (contents d.words d.bytes) (outcome_of d.objects d.slots payload w))) ≡ true
unfolding applied
step_keeps d payload w e b = go (outcome_of d.objects d.slots payload w) refl
  where
    go : (o : Outcome) → outcome_of d.objects d.slots payload w ≡ o → well_formed (filled d (applied d.slots payload (contents d.words d.bytes) o)) ≡ true
    go outcome.Misaligned q = e
    go outcome.Short q = e
    go (outcome.Server x start n) q = e
    go (outcome.Client x start n) q = e
    go outcome.NoTarget q = e
    go outcome.Count q = e
    go outcome.CountRefused q = e
    go (outcome.Undecodable f) q = e
    go outcome.TooLong q = e
    go (outcome.Stored p start n) q =
        let s = stored_by d payload p start n w q in
        put_element d (part payload start n) e (element_of_lem d e s.index s.sub p s.place) (bytes_take n (drop start payload) (bytes_drop start payload b)) s.word s.fits

pub step_bytes : (d : Dict) (payload : List ℕ) (w : ℕ) → well_formed d ≡ true → Bytes payload → Bytes d.bytes → Bytes (applied d.slots payload (contents d.words d.bytes) (outcome_of d.objects d.slots payload w)).bytes
unfolding applied
step_bytes d payload w e b bd = go (outcome_of d.objects d.slots payload w) refl
  where
    put : (p start n : ℕ) → StoredBy d payload p start n → (t : Bool) → is_text (type_at d.slots p) ≡ t → Bytes (put_in d.slots (contents d.words d.bytes) p (part payload start n)).bytes
    put p start n s true q i =
        let f = element_facts d e (element_of_lem d e s.index s.sub p s.place) in
        rw (ap (λ c. c.bytes) (put_text d.slots (contents d.words d.bytes) p (part payload start n) q))
        (bytes_over d.bytes (start_at d.slots p) (part payload start n) (omega (arith, f.within, f.bytes)) bd (bytes_take n (drop start payload) (bytes_drop start payload b)) i)
    put p start n s false q i = rw (ap (λ c. c.bytes) (put_fixed d.slots (contents d.words d.bytes) p (part payload start n) q)) (bd i)

    go : (o : Outcome) → outcome_of d.objects d.slots payload w ≡ o → Bytes (applied d.slots payload (contents d.words d.bytes) o).bytes
    go outcome.Misaligned q = bd
    go outcome.Short q = bd
    go (outcome.Server x start n) q = bd
    go (outcome.Client x start n) q = bd
    go outcome.NoTarget q = bd
    go outcome.Count q = bd
    go outcome.CountRefused q = bd
    go (outcome.Undecodable f) q = bd
    go outcome.TooLong q = bd
    go (outcome.Stored p start n) q = put p start n (stored_by d payload p start n w q) (is_text (type_at d.slots p)) refl
