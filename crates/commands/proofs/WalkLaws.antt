-- The loops' turns: what is measured and laid so far, and what the definition gives from here on.
-- Assumes nothing.
use mathlib.Core.Path.{◌≡◌, sym, ap, ◌∙◌}
use mathlib.Core.Bool.{true}
use mathlib.Core.List.{List, ◌++◌, append-nil}
use Prim.Native.Nat.{ℕ, zero, suc, ◌+◌, ◌-◌, ◌*◌, ◌≤◌, ◌<◌}
use native.Mathlib.Omega.{arith}
use lib.ListN.{length, length-append}
use Rattle.lists.specs.Lists.{over}
use Rattle.entry.specs.Table.{Dict, number_of, index_at, kind_at, first_at, type_at}
use Rattle.entry.specs.Judge.{well_formed}
use Rattle.entry.specs.Encode.{encoding_at, Lays}
use Rattle.image.specs.Image.{Rec, to_store, sub_in, head_of, recs_in, offers, offered_from, heads, bodies}
use Rattle.image.specs.Ranges.{Spans}
use Rattle.std.specs.declared.ops.Range.{Range}
use Rattle.commands.specs.Save.{Row, length_in, recs_laid}
use Rattle.commands.proofs.ImageLaws.{length-bodies, no_bytes, laid_two}
use Rattle.entry.proofs.ValueLaws.{row_lies}
use Rattle.commands.proofs.OfferLaws.{recs_step, recs_end, recs_all, length_recs, one_body, offered-step, offered_end, offers-row, offers_few, facts, length-value, length_small, lays}

-- ---- the values of row i
module _ (d : Dict) (i : ℕ) where
  -- what is offered from value k of n on
  abbrev pub left : ℕ → ℕ → ℕ
  left n k = length (bodies (recs_in d i (n - k) k))

  pub left_step : (n k : ℕ) → k < n → left n k ≡ length (encoding_at d (first_at d.objects i + k)) + left n (k + 1)
  left_step n k h =
      ap (λ rs. length (bodies rs)) (recs_step d i n k h)
      ∙ length-bodies (recs_in d i 1 k) (recs_in d i (n - (k + 1)) (k + 1))
      ∙ omega (arith, one_body d i k)

  pub left_end : (n k : ℕ) → n ≤ k → left n k ≡ 0
  unfolding bodies
  left_end n k h = ap (λ rs. length (bodies rs)) (recs_end d i n k h)

  -- the record and the body of value k
  pub one_laid : (store : List ℕ) (a b k x sub t s len : ℕ) → x ≡ index_at d.objects i → sub ≡ sub_in (kind_at d.objects i) k → t ≡ type_at d.slots (first_at d.objects i + k)
      → len ≡ length (encoding_at d (first_at d.objects i + k))
      → over (over store a (head_of x sub t s len)) (b + s) (encoding_at d (first_at d.objects i + k)) ≡ recs_laid store a b s (recs_in d i 1 k)
  unfolding recs_in heads bodies
  one_laid store a b k x sub t s len p q r e = rw (p, q, r, e) (simp append-nil)

  -- value k, and those behind it
  pub laid_more : (store store' : List ℕ) (at b n k s s' x : ℕ) → k < n → at + 8 * n ≤ b → b + s + left n k ≤ length store
      → x ≡ length (bodies (recs_in d i 1 k)) → s' ≡ s + x → store' ≡ recs_laid store (at + 8 * k) b s (recs_in d i 1 k)
      → recs_laid store (at + 8 * k) b s (recs_in d i (n - k) k) ≡ recs_laid store' (at + 8 * (k + 1)) b s' (recs_in d i (n - (k + 1)) (k + 1))
  laid_more store store' at b n k s s' x h l m e f q =
      let one = recs_in d i 1 k in
      let more = recs_in d i (n - (k + 1)) (k + 1) in
      let a' : at + 8 * k + 8 * length one ≡ at + 8 * (k + 1) = omega (arith, length_recs d i 1 k) in
      let g : s + length (bodies one) ≡ s' = omega arith in
      ap (recs_laid store (at + 8 * k) b s) (recs_step d i n k h)
      ∙ laid_two store (at + 8 * k) b s one more (omega (arith, length_recs d i 1 k, length_recs d i (n - (k + 1)) (k + 1))) (omega (arith, left_step n k h, one_body d i k))
      ∙ rw (a', g, q)

-- what was read of value k of row i, with f as the row's first slot, in the columns of m, of which d is the view
module _ (m d : Dict) (v : m ≡ d) (e : well_formed m ≡ true) (i n : ℕ) (r : Row d.objects i n) (k : ℕ) (h : k < n) (f : ℕ) (q : f ≡ first_at m.objects i) where
  row_in : Row m.objects i n
  row_in = rw v r

  pub value_few : n ≤ 254
  value_few = omega (arith, (row_lies m e i row_in.below).few, row_in.within)

  length_in_m : (x : ℕ) → x ≡ length_in m.slots m.words (f + k) → x ≡ length (encoding_at m (first_at m.objects i + k))
  length_in_m x z = z ∙ ap (λ t. length_in m.slots m.words (t + k)) q ∙ length-value m e i n row_in k h

  pub value_there : (f + k < 6144) × (3 * (f + k) + 3 ≤ length m.slots) × (f + k < length m.words)
  value_there = let t = facts m e i n row_in k h in rw q (t.low, t.slot, t.word)

  pub value-length : (x : ℕ) → x ≡ length_in m.slots m.words (f + k) → x ≡ length (encoding_at d (first_at d.objects i + k))
  value-length x z = rw (sym v) (length_in_m x z)

  pub value_small : (x : ℕ) → x ≡ length_in m.slots m.words (f + k) → x ≤ 1490
  value_small x z = omega (arith, length_in_m x z, length_small m e i n row_in k h)

  pub value_lays : (store : List ℕ) (a : ℕ) → a + length (bodies (recs_in d i 1 k)) ≤ length store → Lays m.slots m.words m.bytes (f + k) store a
  value_lays store a l =
      let l' : a + length (bodies (recs_in m i 1 k)) ≤ length store = rw v l in
      rw q (lays m e i n row_in k h store a (omega (arith, l', one_body m i k)))

-- ---- the rows of a range
module _ (d : Dict) (first last : ℕ) where
  -- what the rows from row i on offer, and how much row i does
  abbrev pub rest : ℕ → List Rec
  rest i = offered_from d first last (number_of d.objects - i) i

  abbrev pub here : ℕ → ℕ
  here i = offers d.objects first last i

  -- how many records, and how many bytes of bodies, the rows from row i on offer
  abbrev pub records : ℕ → ℕ
  records i = length (rest i)

  abbrev pub room : ℕ → ℕ
  room i = length (bodies (rest i))

  module _ {s : Range ℕ} (c : Spans d.objects first last s) where
    pub records_end : (i : ℕ) → s.end ≤ i → i ≤ number_of d.objects → records i ≡ 0
    records_end i h k = ap length (offered_end d first last c i h k)

    pub bytes_end : (i : ℕ) → s.end ≤ i → i ≤ number_of d.objects → room i ≡ 0
    bytes_end i h k = no_bytes (rest i) (offered_end d first last c i h k)

  module _ (i : ℕ) (h : i < number_of d.objects) where
    pub records-step : records i ≡ here i + records (i + 1)
    records-step =
        ap length (offered-step d first last (number_of d.objects) i h)
        ∙ length-append (recs_in d i (here i) 0) (rest (i + 1))
        ∙ omega (arith, length_recs d i (here i) 0)

    pub bytes_step : room i ≡ length (bodies (recs_in d i (here i) 0)) + room (i + 1)
    bytes_step =
        ap (λ rs. length (bodies rs)) (offered-step d first last (number_of d.objects) i h) ∙ length-bodies (recs_in d i (here i) 0) (rest (i + 1))

    -- of m records of row i, as many as it offers
    module _ (m : ℕ) (z : m ≡ here i) where
      split : rest i ≡ recs_in d i m 0 ++ rest (i + 1)
      split = offered-step d first last (number_of d.objects) i h ∙ ap (λ t. recs_in d i t 0 ++ rest (i + 1)) (sym z)

      pub laid_rows : (store store' : List ℕ) (at at' b s s' : ℕ) → at + 8 * records i ≤ b → b + s + room i ≤ length store → at' ≡ at + 8 * m
          → s' ≡ s + length (bodies (recs_in d i m 0)) → store' ≡ recs_laid store at b s (recs_in d i m 0)
          → recs_laid store at b s (rest i) ≡ recs_laid store' at' b s' (rest (i + 1))
      laid_rows store store' at at' b s s' h k f g q =
          let w : length (bodies (recs_in d i m 0)) ≡ length (bodies (recs_in d i (here i) 0)) = ap (λ t. length (bodies (recs_in d i t 0))) z in
          let a' : at + 8 * length (recs_in d i m 0) ≡ at' = omega (arith, length_recs d i m 0) in
          ap (recs_laid store at b s) split
          ∙ laid_two store at b s (recs_in d i m 0) (rest (i + 1)) (omega (arith, length_recs d i m 0, records-step)) (omega (arith, bytes_step))
          ∙ rw (a', g, q)

      -- what a row offers is there, and not too long
      pub row_there : Row d.objects i m
      row_there = record { below = h; within = omega (arith, offers_few d first last i) }

      pub row_few : well_formed d ≡ true → m ≤ 254
      row_few e = omega (arith, (row_lies d e i h).few, row_there.within)

-- a row's bodies are not too long
row_small : (d : Dict) → well_formed d ≡ true → (i n : ℕ) → Row d.objects i n → (k : ℕ) → k ≤ n → left d i n (n - k) ≤ 1490 * k
row_small d e i n r zero h = omega (arith, left_end d i n (n - 0) (omega arith))
row_small d e i n r (suc k) h =
    let z : n - suc k + 1 ≡ n - k = omega arith in
    omega (arith, left_step d i n (n - suc k) (omega arith), length_small d e i n r (n - suc k) (omega arith), row_small d e i n r k (omega arith), ap (left d i n) z)

pub row_bytes : (d : Dict) → well_formed d ≡ true → (i n : ℕ) → Row d.objects i n → length (bodies (recs_in d i n 0)) ≤ 1490 * n
row_bytes d e i n r =
    let z : n - n ≡ 0 = omega arith in
    omega (arith, row_small d e i n r n (omega arith), ap (left d i n) z, ap (λ rs. length (bodies rs)) (recs_all d i n))

-- ---- the turn of a row of the range, of which n values are for the store
pub record Turn (d : Dict) (first last i n : ℕ) : Type 0 where
  pub below : i < number_of d.objects
  pub low : i < 1024
  pub offer : n ≡ offers d.objects first last i
  pub row : Row d.objects i n
  pub few : n ≤ 254
  pub small : length (bodies (recs_in d i n 0)) ≤ 378460
  pub records : records d first last i ≡ n + records d first last (i + 1)
  pub room : room d first last i ≡ length (bodies (recs_in d i n 0)) + room d first last (i + 1)

pub turn : (d : Dict) → well_formed d ≡ true → (first last : ℕ) {s : Range ℕ} → Spans d.objects first last s → (i n : ℕ) → s.start ≤ i → i < s.end → n ≡ to_store d.objects i → Turn d first last i n
turn d e first last c i n lo hi q =
    let h : i < number_of d.objects = omega (arith, c.high.within) in
    let z = offers-row d first last c i n lo hi q in
    let r = row_there d first last i h n z in
    let f = row_few d first last i h n z e in
    let w = ap (λ k. length (bodies (recs_in d i k 0))) z in
    record {
      below = h;
      low = (row_lies d e i h).small;
      offer = z;
      row = r;
      few = f;
      small = omega (arith, f, row_bytes d e i n r);
      records = omega (arith, records-step d first last i h);
      room = omega (arith, bytes_step d first last i h, w);
    }

-- of the dictionary d, whose columns are those of m
pub turned : (m d : Dict) → m ≡ d → well_formed m ≡ true → (first last : ℕ) {s : Range ℕ} → Spans m.objects first last s → (i n : ℕ) → s.start ≤ i → i < s.end → n ≡ to_store m.objects i
    → Turn d first last i n
turned m d v e first last c i n lo hi q = rw (sym v) (turn m e first last c i n lo hi q)

pub spanned : (m d : Dict) → m ≡ d → (first last : ℕ) {s : Range ℕ} → Spans m.objects first last s → Spans d.objects first last s
spanned m d v first last c = rw (sym v) c
