-- Setting an error bit keeps the dictionary well-formed: it is a put of the same string with that bit. Assumes nothing.
use Rattle.std.specs.Prelude.{Option, Some, None, Ok}
use mathlib.Core.Path.{◌≡◌, refl, ap, ◌∙◌}
use mathlib.Core.Bool.{Bool, true, false, cond, ◌&&◌, ◌||◌}
use mathlib.Core.List.{List}
use Prim.Native.Nat.{ℕ, ◌+◌, ◌-◌, ◌%◌, ◌^◌, ◌<◌, ◌≤◌}
use native.Mathlib.Omega.{arith}
use borrow.Author.Tests.{eqb-true, ltb-true}
use lib.Bits.{bit_or, or_lt}
use lib.Dec.{eqb, ltb}
use lib.Pow.{pow_mono}
use lib.ListN.{length, take, drop, get_or, set, length-set, length-drop}
use lib.Seq.{length-take-le, set-get_or}
use Rattle.lists.specs.Numbers.{Bytes}
use Rattle.lists.proofs.NumberLaws.{bytes_take, bytes_drop, bytes_set}
use Rattle.lists.proofs.SpliceLaws.{set-part}
use Rattle.value.specs.Codec.{is_text, word_at, text_word}
use Rattle.entry.specs.Table.{Dict, count_at, kind_at, first_at, type_at, start_at}
use Rattle.entry.specs.Find.{find_row}
use Rattle.entry.specs.Judge.{well_formed}
use Rattle.entry.specs.Put.{contents, filled, put_at}
use Rattle.entry.proofs.JudgeLaws.{and_true, head_ok_lem}
use Rattle.entry.proofs.FactLaws.{row_facts}
use Rattle.entry.proofs.PutLaws.{put_text}
use Rattle.entry.proofs.KeepLaws.{put_data}
use Rattle.entry.proofs.ValueLaws.{found_lies}
use Rattle.pdo_step.specs.Bits.{byte_of, mask_of, bit_in, bit_at, marked_at, marked_in}
use Rattle.pdo_step.proofs.BitLaws.{variable_facts, bit_lies}

mask_small : (n : ℕ) → mask_of n < 256
mask_small n = let h : (n - 1) % 8 ≤ 7 = omega arith in let p : 2 ^ ((n - 1) % 8) ≤ 2 ^ 7 = pow_mono h in omega (arith, p)

-- ---- the theorem
module _ (d : Dict) (e : well_formed d ≡ true) (b : Bytes d.bytes) (x n i : ℕ) (f : find_row d.objects x ≡ Some i) (k : kind_at d.objects i ≡ 0) (t : type_at d.slots (first_at d.objects i) ≡ 12) (l : byte_of n < get_or d.words (first_at d.objects i) 0) where
  abbrev p : ℕ
  p = first_at d.objects i

  abbrev a : ℕ
  a = start_at d.slots p

  abbrev w : ℕ
  w = get_or d.words p 0

  abbrev v : ℕ
  v = bit_or (get_or d.bytes (a + byte_of n) 0) (mask_of n)

  abbrev old : List ℕ
  old = take w (drop a d.bytes)

  text : is_text (type_at d.slots p) ≡ true
  text = ap is_text t

  inside : a + w ≤ length d.bytes
  inside = let g = variable_facts d e x i f k in omega (arith, (g.text text).0, g.within, g.bytes)

  long : length old ≡ w
  long = length-take-le w (drop a d.bytes) (rw length-drop (omega (arith, inside)))

  long_set : length (set old (byte_of n) v) ≡ w
  long_set = length-set old (byte_of n) v ∙ long

  small : v < 256
  small = or_lt 8 (get_or d.bytes (a + byte_of n) 0) (mask_of n) (b (a + byte_of n)) (mask_small n)

  same : put_at d p (set old (byte_of n) v) ≡ filled d (contents d.words (set d.bytes (a + byte_of n) v))
  same =
      ap (filled d) (put_text d.slots (contents d.words d.bytes) p (set old (byte_of n) v) text)
      ∙ rw (long_set, set-get_or d.words p 0, set-part d.bytes a w (byte_of n) v inside l)

  taken : word_at (type_at d.slots p) (set old (byte_of n) v) ≡ Ok (length (set old (byte_of n) v))
  unfolding word_at text_word
  taken = rw t

  bit_kept : well_formed (filled d (contents d.words (set d.bytes (a + byte_of n) v))) ≡ true
  bit_kept =
      let r = found_lies d e x i f in
      let g = variable_facts d e x i f k in
      let one : count_at d.objects i ≡ 1 = (head_ok_lem _ _ _ _ _ _ (row_facts d e i r.below).head).variable k in
      let z : p + 0 ≡ p = omega arith in
      let s = set old (byte_of n) v in
      let y : well_formed (put_at d (p + 0) s) ≡ true = put_data d i 0 s e r.below (omega (arith, one)) (bytes_set old (byte_of n) v (bytes_take w (drop a d.bytes) (bytes_drop a d.bytes b)) (omega (arith, long, l)) small) (length s) (rw z taken) (λ h. rw z (omega (arith, long_set, (g.text text).0))) in
      rw same at (rw z at y)

pub mark_keeps : (d : Dict) → well_formed d ≡ true → Bytes d.bytes → (x n : ℕ) → well_formed (filled d (contents d.words (marked_in d.objects d.slots d.words d.bytes x n))) ≡ true
unfolding marked_in bit_at
mark_keeps d e b x n = node (eqb n 0 || ltb 239 n)
  where
    bit : (i : ℕ) → find_row d.objects x ≡ Some i → (c : Bool) → (eqb (kind_at d.objects i) 0 && (eqb (type_at d.slots (first_at d.objects i)) 12 && ltb (byte_of n) (get_or d.words (first_at d.objects i) 0))) ≡ c
        → well_formed (filled d (contents d.words (marked_at d.bytes n (cond c (Some (start_at d.slots (first_at d.objects i) + byte_of n)) None)))) ≡ true
    bit i f true h =
        let u = and_true (eqb (kind_at d.objects i) 0) _ h in
        let y = and_true (eqb (type_at d.slots (first_at d.objects i)) 12) _ u.1 in
        bit_kept d e b x n i f (eqb-true _ _ u.0) (eqb-true _ _ y.0) (ltb-true _ _ y.1)
    bit i f false h = e

    row : (g : Option ℕ) → find_row d.objects x ≡ g → well_formed (filled d (contents d.words (marked_at d.bytes n (bit_in d.objects d.slots d.words n g)))) ≡ true
    row (Some i) f = bit i f (eqb (kind_at d.objects i) 0 && (eqb (type_at d.slots (first_at d.objects i)) 12 && ltb (byte_of n) (get_or d.words (first_at d.objects i) 0))) refl
    row None f = e

    node : (c : Bool) → well_formed (filled d (contents d.words (marked_at d.bytes n (cond c None (bit_in d.objects d.slots d.words n (find_row d.objects x)))))) ≡ true
    node true = e
    node false = row (find_row d.objects x) refl

-- bytes stay bytes
pub mark_bytes : (d : Dict) → well_formed d ≡ true → Bytes d.bytes → (x n : ℕ) → Bytes (marked_in d.objects d.slots d.words d.bytes x n)
unfolding marked_in
mark_bytes d e b x n = go (bit_at d.objects d.slots d.words x n) refl
  where
    go : (g : Option ℕ) → bit_at d.objects d.slots d.words x n ≡ g → Bytes (marked_at d.bytes n g)
    go (Some a) q = bytes_set d.bytes a _ b (bit_lies d e x n a q).inside (or_lt 8 (get_or d.bytes a 0) (mask_of n) (b a) (mask_small n))
    go None q = b
