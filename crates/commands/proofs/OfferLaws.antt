-- The walks over the rows and their values, one turn at a time, and what a well-formed dictionary says of them.
-- Assumes nothing.
use mathlib.Core.Path.{◌≡◌, refl, sym, ap, ◌∙◌}
use mathlib.Core.Bool.{Bool, true, false, cond}
use mathlib.Core.List.{List, [], ◌++◌}
use Prim.Native.Nat.{ℕ, zero, suc, ◌+◌, ◌-◌, ◌≤◌, ◌<◌}
use native.Mathlib.Omega.{arith}
use lib.ListN.{length, take, drop, get_or, length-append, length-drop}
use lib.Seq.{length-take-le}
use Rattle.lists.proofs.NumberLaws.{length-bytes_of}
use Rattle.value.specs.Codec.{is_text, size_of}
use Rattle.value.proofs.CodecLaws.{encoding_text, encoding_fixed, size_le}
use Rattle.entry.specs.Table.{Dict, number_of, index_at, access_at, count_at, first_at, type_at, start_at}
use Rattle.entry.specs.Judge.{well_formed}
use Rattle.entry.specs.Encode.{encoding_at, Lays}
use Rattle.entry.proofs.ValueLaws.{ValueFacts, value_facts}
use Rattle.image.specs.Image.{stores, to_store, offers, recs_in, offered_from, offered_in, bodies}
use Rattle.image.specs.Ranges.{covers, Spans}
use Rattle.std.specs.declared.ops.Range.{Range}
use Rattle.image.proofs.RangeLaws.{row_covered, walk_from, walk_end}
use Rattle.commands.specs.Save.{Row, length_in}

-- ---- one turn of each walk
module _ (d : Dict) (i : ℕ) where
  pub recs_step : (n k : ℕ) → k < n → recs_in d i (n - k) k ≡ recs_in d i 1 k ++ recs_in d i (n - (k + 1)) (k + 1)
  unfolding recs_in
  recs_step n k h =
      let e : n - k ≡ suc (n - (k + 1)) = omega arith in
      let q : k + 1 ≡ suc k = omega arith in
      rw (e, q)

  pub recs_end : (n k : ℕ) → n ≤ k → recs_in d i (n - k) k ≡ []
  unfolding recs_in
  recs_end n k h = let e : n - k ≡ 0 = omega arith in rw e

  pub recs_all : (n : ℕ) → recs_in d i (n - 0) 0 ≡ recs_in d i n 0
  recs_all n = let e : n - 0 ≡ n = omega arith in rw e

  pub length_recs : (n k : ℕ) → length (recs_in d i n k) ≡ n
  unfolding recs_in
  length_recs zero k = refl
  length_recs (suc n) k = ap suc (length_recs n (suc k))

  -- one record
  pub one_body : (k : ℕ) → length (bodies (recs_in d i 1 k)) ≡ length (encoding_at d (first_at d.objects i + k))
  unfolding recs_in bodies
  one_body k = length-append (encoding_at d (first_at d.objects i + k)) [] ∙ omega arith

module _ (d : Dict) (first last : ℕ) where
  pub offered-step : (n i : ℕ) → i < n → offered_from d first last (n - i) i ≡ recs_in d i (offers d.objects first last i) 0 ++ offered_from d first last (n - (i + 1)) (i + 1)
  unfolding offered_from
  offered-step n i h =
      let e : n - i ≡ suc (n - (i + 1)) = omega arith in
      let q : i + 1 ≡ suc i = omega arith in
      rw (e, q)

  pub offers_few : (i : ℕ) → offers d.objects first last i ≤ count_at d.objects i
  unfolding offers to_store
  offers_few i = go (covers first last (index_at d.objects i)) (stores (access_at d.objects i))
    where
      go : (a b : Bool) → cond a (cond b (count_at d.objects i) 0) 0 ≤ count_at d.objects i
      go true true = omega arith
      go true false = omega arith
      go false b = omega arith

  -- a row outside the range offers nothing
  pub offered_skip : (n i : ℕ) → covers first last (index_at d.objects i) ≡ false → offered_from d first last (suc n) i ≡ offered_from d first last n (suc i)
  unfolding offered_from offers recs_in
  offered_skip n i e = rw e

  -- ---- the rows of the range
  module _ {s : Range ℕ} (c : Spans d.objects first last s) where
    pub offered_from_lem : offered_in d first last ≡ offered_from d first last (number_of d.objects - s.start) s.start
    offered_from_lem = walk_from c (offered_from d first last) offered_skip

    pub offered_end : (i : ℕ) → s.end ≤ i → i ≤ number_of d.objects → offered_from d first last (number_of d.objects - i) i ≡ []
    unfolding offered_from
    offered_end i h k = walk_end c (offered_from d first last) offered_skip i h k

    pub offers-row : (i m : ℕ) → s.start ≤ i → i < s.end → m ≡ to_store d.objects i → m ≡ offers d.objects first last i
    unfolding offers
    offers-row i m h k q = rw (row_covered c i h k) q

-- ---- of a well-formed dictionary
module _ (d : Dict) (e : well_formed d ≡ true) (i n : ℕ) (r : Row d.objects i n) (k : ℕ) (h : k < n) where
  abbrev p : ℕ
  p = first_at d.objects i + k

  abbrev w : ℕ
  w = get_or d.words p 0

  pub facts : ValueFacts d p
  facts = value_facts d e i k r.below (omega (arith, r.within))

  pub inside : is_text (type_at d.slots p) ≡ true → start_at d.slots p + w ≤ length d.bytes
  inside x = omega (arith, (facts.text x).0, facts.within, facts.bytes)

  pub length-value : length_in d.slots d.words p ≡ length (encoding_at d p)
  unfolding length_in
  length-value = go (is_text (type_at d.slots p)) refl
    where
      go : (b : Bool) → is_text (type_at d.slots p) ≡ b → cond (is_text (type_at d.slots p)) w (size_of (type_at d.slots p)) ≡ length (encoding_at d p)
      go true x =
          rw (x, encoding_text (type_at d.slots p) w (take w (drop (start_at d.slots p) d.bytes)) x)
          (sym (length-take-le w (drop (start_at d.slots p) d.bytes) (rw length-drop (omega (arith, inside x)))))
      go false x =
          rw (x, encoding_fixed (type_at d.slots p) w (take w (drop (start_at d.slots p) d.bytes)) x) (sym (length-bytes_of (size_of (type_at d.slots p)) w))

  pub length_small : length (encoding_at d p) ≤ 1490
  unfolding length_in
  length_small = rw (← length-value) (go (is_text (type_at d.slots p)) refl)
    where
      go : (b : Bool) → is_text (type_at d.slots p) ≡ b → cond (is_text (type_at d.slots p)) w (size_of (type_at d.slots p)) ≤ 1490
      go true x = rw x (omega (arith, (facts.text x).0, facts.room))
      go false x = rw x (omega (arith, size_le (type_at d.slots p)))

  pub lays : (store : List ℕ) (a : ℕ) → a + length (encoding_at d p) ≤ length store → Lays d.slots d.words d.bytes p store a
  lays store a m = record { low = facts.low; slot = facts.slot; word = facts.word; text = inside; room = m }
