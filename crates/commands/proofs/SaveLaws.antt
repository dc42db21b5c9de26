-- The two answers of a save, and what StoreFull is judged by.
-- Assumes nothing.
use Rattle.std.specs.Prelude.{Ok, Err}
use mathlib.Core.Path.{◌≡◌, sym, ap, ◌∙◌}
use mathlib.Core.Bool.{true, false}
use mathlib.Core.List.{List}
use Prim.Native.Nat.{ℕ, ◌+◌, ◌*◌, ◌≤◌, ◌<◌}
use native.Mathlib.Nat.{add-zero}
use native.Mathlib.Omega.{arith}
use borrow.Author.Tests.{le-leb, lt-leb}
use lib.Dec.{leb}
use lib.ListN.{length}
use Rattle.answers.specs.declared.Refusal.TheVariants.{StoreFull}
use Rattle.lists.specs.Lists.{over}
use Rattle.lists.specs.Numbers.{bytes_of}
use Rattle.entry.specs.Table.{Dict}
use Rattle.entry.proofs.WalkLaws.{and_false}
use Rattle.image.specs.Image.{Rec, bodies, image_of, new_table, offered_in, offered}
use Rattle.std.specs.declared.ops.RangeInclusive.{RangeInclusive}
use Rattle.image.specs.Ranges.{range_of}
use Rattle.commands.specs.Save.{fits, after_save, save_of, size_in, recs_laid}
use Rattle.commands.specs.declared.offering.Size.{Size}
use Rattle.commands.proofs.ImageLaws.{image-laid, length-image}

module _ (rs : List Rec) (store : List ℕ) where
  pub many_records : 2048 < length rs → fits rs store ≡ false
  unfolding fits
  many_records h = rw (lt-leb _ _ h)

  pub many_bytes : 16384 < length (bodies rs) → fits rs store ≡ false
  unfolding fits
  many_bytes h = rw (lt-leb _ _ h) (and_false (leb (length rs) 2048))

  pub short_store : length store < 2 + 8 * length rs + length (bodies rs) → fits rs store ≡ false
  unfolding fits
  short_store h =
      let e : leb (length (image_of rs)) (length store) ≡ false = lt-leb (length (image_of rs)) (length store) (omega (arith, length-image rs)) in
      rw (e, and_false (leb (length (bodies rs)) 16384)) (and_false (leb (length rs) 2048))

  pub it_fits : length rs ≤ 2048 → length (bodies rs) ≤ 16384 → 2 + 8 * length rs + length (bodies rs) ≤ length store → fits rs store ≡ true
  unfolding fits
  it_fits a b c =
      let e : length (image_of rs) ≤ length store = omega (arith, length-image rs) in
      rw (le-leb _ _ a, le-leb _ _ b, le-leb _ _ e)

module _ (d : Dict) (l : ℕ) (store : List ℕ) where
  -- R10.3: "StoreFull (18), judged before the first byte"
  pub save-full : fits (new_table d l store) store ≡ false → save_of d store l ≡ after_save (Err StoreFull) store
  unfolding save_of
  save-full e = rw e

  pub save_done : fits (new_table d l store) store ≡ true → save_of d store l ≡ after_save (Ok tt) (over store 0 (image_of (new_table d l store)))
  unfolding save_of
  save_done e = rw e

-- ---- by what was measured
module _ (d : Dict) (store : List ℕ) (l : ℕ) (range : RangeInclusive ℕ) (e : range ≡ range_of l) (first last : ℕ) (f : first ≡ range.start) (t : last ≡ range.end)
    (z : Size) (h : z ≡ size_in (offered_in d first last)) where
  listed : offered_in d first last ≡ offered d l
  listed = rw (f, t, e)

  pub measured_records : z.records ≡ length (offered d l)
  measured_records = ap (λ (z : Size). z.records) h ∙ ap length listed

  pub measured_bytes : z.bytes ≡ length (bodies (offered d l))
  measured_bytes = ap (λ (z : Size). z.bytes) h ∙ ap (λ rs. length (bodies rs)) listed

  pub full_of_records : 2048 < z.records → after_save (Err StoreFull) store ≡ save_of d store l
  full_of_records k = sym (save-full d l store (many_records (offered d l) store (omega (arith, measured_records))))

  pub full_of_bytes : 16384 < z.bytes → after_save (Err StoreFull) store ≡ save_of d store l
  full_of_bytes k = sym (save-full d l store (many_bytes (offered d l) store (omega (arith, measured_bytes))))

  pub full_of_length : length store < 2 + 8 * z.records + z.bytes → after_save (Err StoreFull) store ≡ save_of d store l
  full_of_length k = sym (save-full d l store (short_store (offered d l) store (omega (arith, measured_records, measured_bytes))))

  -- the count, and the records and the bodies behind it, are the image
  pub laid : z.records ≤ 2048 → z.bytes ≤ 16384 → 2 + 8 * z.records + z.bytes ≤ length store → (a b : List ℕ) → a ≡ over store 0 (bytes_of 2 z.records)
      → b ≡ recs_laid a 2 (2 + 8 * z.records) 0 (offered_in d first last) → after_save (Ok tt) b ≡ save_of d store l
  laid k m n a b p q =
      let rs = offered d l in
      let w : length (image_of rs) ≤ length store = omega (arith, length-image rs, measured_records, measured_bytes) in
      let fit = it_fits rs store (omega (arith, measured_records)) (omega (arith, measured_bytes)) (omega (arith, measured_records, measured_bytes)) in
      ap (after_save (Ok tt)) (rw (q, p, listed, measured_records, add-zero) (image-laid store rs w)) ∙ sym (save_done d l store fit)
