-- What a value gets, put as it fits, keeps the dictionary well-formed and changes that value alone.
-- Assumes nothing.
use mathlib.Core.Path.{◌≡◌, refl, sym, ap, ◌∙◌}
use mathlib.Core.Bool.{Bool, true, false}
use mathlib.Core.List.{List}
use Prim.Native.Nat.{ℕ, ◌+◌, ◌*◌, ◌<◌, ◌≤◌}
use native.Mathlib.Omega.{arith}
use borrow.Author.Tests.{ltb-true}
use lib.ListN.{length, take, drop, get_or, length-set}
use Rattle.lists.specs.Numbers.{Bytes}
use Rattle.lists.proofs.NumberLaws.{bytes_take, bytes_drop, bytes_over, bytes_bytes_of}
use Rattle.value.specs.Codec.{is_text, size_of}
use Rattle.value.proofs.CodecLaws.{word_in, exact_facts, encoding_text, encoding_fixed}
use Rattle.entry.specs.Table.{Dict, number_of, values_of, count_at, type_at, start_at, room_at}
use Rattle.entry.specs.Encode.{encoding_at}
use Rattle.entry.specs.Judge.{well_formed}
use Rattle.entry.specs.Put.{contents, put_new, typed, Puts}
use Rattle.entry.proofs.ApartLaws.{apart}
use Rattle.entry.proofs.ValueLaws.{ValueFacts, every_value}
use Rattle.entry.proofs.EncodeLaws.{decode_stored}
use Rattle.entry.proofs.PutLaws.{put_text, put_fixed}
use Rattle.entry.proofs.KeepLaws.{FitsAs, takes_text, takes_fixed, type_new, start_new, as_put, new_data}
use Rattle.image.specs.Readable.{field, type_in, start_in, size_at}
use Rattle.fitting.specs.Records.{record_place, body_in}
use Rattle.fitting.specs.Fit.{slot_in, chosen_at, fits_room}
use Rattle.restoring.specs.Restore.{restored_by, Copies}
use Rattle.fitting.specs.declared.Choice.{Choice}
use Rattle.fitting.specs.declared.Choice.TheVariants.{Keep, Stored, Default}
use Rattle.fitting.proofs.ChoiceLaws.{StoredAt, chosen_stored, chosen_default, room_if}
use Rattle.fitting.proofs.SlotLaws.{facts, default_slot}
use Rattle.restoring.proofs.OnlyLaws.{Only, only_same, only_put}

-- ---- bytes stay bytes
bytes_encoding : (d : Dict) (q : ℕ) → Bytes d.bytes → Bytes (encoding_at d q)
bytes_encoding d q b = go (is_text (type_at d.slots q)) refl
  where
    go : (x : Bool) → is_text (type_at d.slots q) ≡ x → Bytes (encoding_at d q)
    go true x i =
        rw (encoding_text (type_at d.slots q) (get_or d.words q 0) (take (get_or d.words q 0) (drop (start_at d.slots q) d.bytes)) x)
        (bytes_take (get_or d.words q 0) (drop (start_at d.slots q) d.bytes) (bytes_drop (start_at d.slots q) d.bytes b) i)
    go false x i =
        rw (encoding_fixed (type_at d.slots q) (get_or d.words q 0) (take (get_or d.words q 0) (drop (start_at d.slots q) d.bytes)) x)
        (bytes_bytes_of (size_of (type_at d.slots q)) (get_or d.words q 0) i)

-- ---- a put of what fits
pub record Kept (P : ℕ → Type 0) (d e : Dict) : Type 0 where
  pub well : well_formed e ≡ true
  pub bytes : Bytes e.bytes
  pub only : Only P d e

module _ (d : Dict) (p t : ℕ) (v : List ℕ) (w : ℕ) (f : ValueFacts d p) (g : FitsAs d p t v w) where
  new_type : type_at (typed d p t).slots p ≡ t
  new_type = type_new d p t f.slot

  inside : is_text t ≡ true → start_at d.slots p + length v ≤ length d.bytes
  inside x = omega (arith, g.room x, f.within, f.bytes)

  pub puts-new : Puts (typed d p t).slots d.words d.bytes p v
  puts-new =
      record {
        low = f.low;
        slot = rw (length-set d.slots (3 * p) t) f.slot;
        word = f.word;
        text = λ x. rw (start_new d p t p) (inside (sym (ap is_text new_type) ∙ x));
        fixed = λ x. rw new_type (takes_fixed t v w (sym (ap is_text new_type) ∙ x) g.taken).0;
      }

  bytes_new : Bytes d.bytes → Bytes v → Bytes (put_new d p t v).bytes
  bytes_new bd bv = go (is_text t) refl
    where
      go : (x : Bool) → is_text t ≡ x → Bytes (put_new d p t v).bytes
      go true x i =
          rw (ap (λ c. c.bytes) (put_text (typed d p t).slots (contents d.words d.bytes) p v (ap is_text new_type ∙ x)), start_new d p t p)
          (bytes_over d.bytes (start_at d.slots p) v (omega (arith, inside x)) bd bv i)
      go false x i =
          rw (ap (λ c. c.bytes) (put_fixed (typed d p t).slots (contents d.words d.bytes) p v (ap is_text new_type ∙ x))) (bd i)

-- ---- the value's turn
module _ (d : Dict) (e : well_formed d ≡ true) (s : List ℕ) (i k : ℕ) (hi : i < number_of d.objects) (hk : k < count_at d.objects i) where
  abbrev p : ℕ
  p = slot_in d.objects i k

  pub stored-fits : (a : ℕ) → StoredAt s a → fits_room d s p (Stored a) ≡ true → FitsAs d p (type_in s a) (body_in s a) (word_in (type_in s a) (body_in s a))
  unfolding fits_room
  stored-fits a m f =
      let x = exact_facts (type_in s a) (body_in s a) m.value in
      record {
        known = x.type;
        taken = x.taken;
        room = λ t. omega (arith, m.long, room_if (is_text (type_in s a)) (size_at s a) (room_at d.slots p) f t);
      }

  pub default_fits : (r : ℕ) → r < values_of d.objects → fits_room d s p (Default r) ≡ true → FitsAs d p (type_at d.slots r) (encoding_at d r) (get_or d.words r 0)
  unfolding fits_room
  default_fits r h f =
      let t = decode_stored d e r h in
      record {
        known = (every_value d e r h).type;
        taken = t;
        room = λ x. omega (arith, (takes_text (type_at d.slots r) (encoding_at d r) (get_or d.words r 0) x t).0, room_if (is_text (type_at d.slots r)) (get_or d.words r 0) (room_at d.slots p) f x);
      }

  pub copies : (r : ℕ) → (r < values_of d.objects) × (p < r) → Copies d.slots d.words d.bytes p r
  copies r h =
      let f = facts d e s i k hi hk in
      let g = every_value d e r h.0 in
      record {
        low = (f.low, g.low);
        slot = (f.slot, g.slot);
        word = (f.word, g.word);
        text = λ x. (omega (arith, apart d e p r h.1 h.0), omega (arith, (g.text x).0, g.within, g.bytes), omega (arith, (g.text x).0, g.within, g.total));
        fixed = λ x. ltb-true _ _ (g.fixed x);
      }

  put_keeps : (t : ℕ) (v : List ℕ) (w : ℕ) → FitsAs d p t v w → Bytes v → Bytes d.bytes → Kept (λ q. q ≡ p) d (put_new d p t v)
  put_keeps t v w g bv bd =
      let f = facts d e s i k hi hk in
      let a = as_put d p t v w f g bv in
      record { well = new_data d i k t v e hi hk bv w g; bytes = bytes_new d p t v w f g bd bv; only = rw a.same (only_put d e p t w a.room f.below a.long) }

  pub turn : Bytes s → Bytes d.bytes → fits_room d s p (chosen_at d s i k) ≡ true → Kept (λ q. q ≡ p) d (restored_by d s p (chosen_at d s i k))
  unfolding restored_by
  turn bs bd f = go (chosen_at d s i k) refl f
    where
      go : (c : Choice) → chosen_at d s i k ≡ c → fits_room d s p c ≡ true → Kept (λ q. q ≡ p) d (restored_by d s p c)
      go Keep q f = record { well = e; bytes = bd; only = only_same (λ q. q ≡ p) d }
      go (Stored a) q f =
          put_keeps (type_in s a) (body_in s a) _ (stored-fits a (chosen_stored d s i k a q) f) (bytes_take (size_at s a) _ (bytes_drop (record_place (field s 0 2) + start_in s a) s bs)) bd
      go (Default r) q f =
          let h = default_slot d e s i k hi hk r (chosen_default d s i k r q) in
          put_keeps (type_at d.slots r) (encoding_at d r) _ (default_fits r h.0 f) (bytes_encoding d r bd) bd
