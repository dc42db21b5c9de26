-- Laws of the mapping word: decoding and encoding undo each other, and what a whole field says.
-- Assumes nothing.
use Rattle.std.specs.Prelude.{None}
use Rattle.mapping.specs.declared.Field.{Field}
use Rattle.std.proofs.lemmas.Option.{same_Some}
use mathlib.Core.Path.{◌≡◌, refl, sym, ap, ◌∙◌}
use mathlib.Core.Bool.{Bool, true, false, cond, ◌&&◌}
use Prim.Native.Nat.{ℕ, ◌+◌, ◌-◌, ◌*◌, ◌/◌, ◌%◌, ◌^◌, ◌<◌, ◌≤◌}
use native.Mathlib.Nat.{mod-lt, mod-eq_of_lt, div-one}
use native.Mathlib.Omega.{arith}
use lib.Dec.{eqb}
use lib.Pow.{pow_pos, high, low, mod-pow-add}
use borrow.Author.Tests.{eqb-true, eq-eqb}
use Rattle.lists.specs.Numbers.{bits}
use Rattle.mapping.specs.declared.PdoMappingEntry.{PdoMappingEntry}
use Rattle.mapping.specs.Word.{InRange, entry_of, word_of, end_of, field_of, field_at}

-- ---- n bits of a number, from bit a on
pub bits_lt : (a n w : ℕ) → bits a n w < 2 ^ n
bits_lt a n w = mod-lt (w / 2 ^ a) (pow_pos n)

pub bits_low : (n w : ℕ) → bits 0 n w ≡ w % 2 ^ n
bits_low n w = ap (λ y. y % 2 ^ n) (div-one w)

-- they are what stands above the a bits of lo and below hi
pub bits_at : {w : ℕ} (a n hi x lo : ℕ) → w ≡ (hi * 2 ^ n + x) * 2 ^ a + lo → x < 2 ^ n → lo < 2 ^ a → bits a n w ≡ x
bits_at a n hi x lo e h l = ap (bits a n) e ∙ ap (λ y. y % 2 ^ n) (high (hi * 2 ^ n + x) a l) ∙ low hi n h

-- ---- decode, then encode
pub entry_in_range : (w : ℕ) → InRange (entry_of w)
unfolding entry_of
entry_in_range w = record { index = bits_lt 0 16 w; sub = bits_lt 16 8 w; offset = bits_lt 32 16 w; length = bits_lt 48 16 w }

-- what a word is without its reserved bits, cut at bits 48, 32, 24 and 16
unreserved : (index sub reserved offset length : ℕ) {w w48 w32 w24 : ℕ}
    → w ≡ length * 2 ^ 48 + w48
    → w48 ≡ offset * 2 ^ 32 + w32
    → w32 ≡ reserved * 2 ^ 24 + w24
    → w24 ≡ sub * 2 ^ 16 + index
    → index + sub * 2 ^ 16 + offset * 2 ^ 32 + length * 2 ^ 48 ≡ w - reserved * 2 ^ 24
unreserved index sub reserved offset length p q r s = omega arith

-- bits 24 to 31 are cleared, and no others
pub encode_decode : (w : ℕ) → w < 2 ^ 64 → word_of (entry_of w) ≡ w - bits 24 8 w * 2 ^ 24
unfolding entry_of
encode_decode w h =
    rw (bits_low 16 w)
    (unreserved _ _ _ _ _ (sym (mod-eq_of_lt h) ∙ mod-pow-add w 16 48) (mod-pow-add w 16 32) (mod-pow-add w 8 24) (mod-pow-add w 8 16))

-- ---- encode, then decode
module _ (e : PdoMappingEntry) (r : InRange e) where
  pub encode_reserved : bits 24 8 (word_of e) ≡ 0
  encode_reserved =
      bits_at 24 8 (e.length_bits * 2 ^ 16 + e.offset_bits) 0 (e.sub_index * 2 ^ 16 + e.index) (omega arith) (omega arith) (omega arith)

  pub encode_lt : word_of e < 2 ^ 64
  encode_lt = omega arith

  pub decode_encode : entry_of (word_of e) ≡ e
  unfolding entry_of
  decode_encode =
      let i : bits 0 16 (word_of e) ≡ e.index =
      bits_at 0 16 (e.length_bits * 2 ^ 32 + e.offset_bits * 2 ^ 16 + e.sub_index) e.index 0 (omega arith) r.index (omega arith) in
      let s : bits 16 8 (word_of e) ≡ e.sub_index =
      bits_at 16 8 (e.length_bits * 2 ^ 24 + e.offset_bits * 2 ^ 8) e.sub_index e.index (omega arith) r.sub r.index in
      let o : bits 32 16 (word_of e) ≡ e.offset_bits =
      bits_at 32 16 e.length_bits e.offset_bits (e.sub_index * 2 ^ 16 + e.index) (omega arith) r.offset (omega arith) in
      let l : bits 48 16 (word_of e) ≡ e.length_bits =
      bits_at 48 16 0 e.length_bits (e.offset_bits * 2 ^ 32 + e.sub_index * 2 ^ 16 + e.index) (omega arith) r.length (omega arith) in
      rw (i, s, o, l)

-- ---- the field in bytes
pub same_field : (s l s' l' : ℕ) → field_at s l ≡ field_at s' l' → (s ≡ s') × (l ≡ l')
same_field s l s' l' h =
    let e = same_Some _ _ h in
    (ap (λ (f : Field). f.start) e, ap (λ (f : Field). f.length) e)

apart : (p q : Bool) (s l s' l' : ℕ) → cond (p && q) (field_at s l) None ≡ field_at s' l' → (p ≡ true) × (q ≡ true) × (s ≡ s') × (l ≡ l')
apart true true s l s' l' h = let e = same_field _ _ _ _ h in (refl, refl, e.0, e.1)
apart true false s l s' l' h = let z : ◌≡◌ {A = ℕ} 0 1 = cc in absurd (omega arith)
apart false q s l s' l' h = let z : ◌≡◌ {A = ℕ} 0 1 = cc in absurd (omega arith)

-- what a whole field says
pub record WholeField (e : PdoMappingEntry) (s l : ℕ) : Type 0 where
  pub offset : e.offset_bits ≡ s * 8
  pub length : e.length_bits ≡ l * 8
  pub end : end_of e ≡ s + l
  pub start_small : s ≤ 8191
  pub length_small : l ≤ 8191
  pub end_small : s + l ≤ 16382

module _ (e : PdoMappingEntry) where
  pub whole_field : InRange e → (s l : ℕ) → field_of e ≡ field_at s l → WholeField e s l
  unfolding field_of
  whole_field r s l h =
      let p = apart (eqb (e.offset_bits % 8) 0) (eqb (e.length_bits % 8) 0) (e.offset_bits / 8) (e.length_bits / 8) s l h in
      let o : e.offset_bits ≡ s * 8 = omega (arith, eqb-true (e.offset_bits % 8) 0 p.0, p.2) in
      let n : e.length_bits ≡ l * 8 = omega (arith, eqb-true (e.length_bits % 8) 0 p.1, p.3) in
      record { offset = o; length = n; end = omega arith; start_small = omega arith; length_small = omega arith; end_small = omega arith }

  pub field_whole : (s l : ℕ) → e.offset_bits ≡ s * 8 → e.length_bits ≡ l * 8 → field_of e ≡ field_at s l
  unfolding field_of
  field_whole s l p q =
      let o : e.offset_bits % 8 ≡ 0 = omega arith in
      let n : e.length_bits % 8 ≡ 0 = omega arith in
      let i : e.offset_bits / 8 ≡ s = omega arith in
      let j : e.length_bits / 8 ≡ l = omega arith in
      rw (eq-eqb _ _ o, eq-eqb _ _ n, i, j)

  pub field_misaligned : field_of e ≡ None → e.offset_bits % 8 ≡ 0 → e.length_bits % 8 ≡ 0 → ⊥
  field_misaligned h p q =
      let w = field_whole (e.offset_bits / 8) (e.length_bits / 8) (omega arith) (omega arith) in
      let z : ◌≡◌ {A = ℕ} 0 1 = cc in
      omega arith
