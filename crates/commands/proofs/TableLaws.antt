-- An image and its table: the image of a right table is readable and holds it, whatever lies behind; and a readable image is the image
-- of the table that it holds.
-- Assumes nothing.
use Rattle.std.specs.Prelude.{Some, None}
use mathlib.Core.Path.{◌≡◌, refl, sym, ap, ap₂, ◌∙◌}
use mathlib.Core.Bool.{Bool, true, false, cond}
use mathlib.Core.List.{List, [], ◌∷◌, ◌++◌, append_assoc}
use Prim.Native.Nat.{ℕ, zero, suc, ◌+◌, ◌*◌, ◌^◌, ◌≤◌, ◌<◌}
use native.Mathlib.Nat.{add-zero}
use native.Mathlib.Omega.{arith}
use borrow.Author.Tests.{eq-eqb, le-leb, leb-true, ltb-true}
use lib.Dec.{leb, ltb}
use Rattle.value.specs.Codec.{exact}
use Rattle.value.proofs.CodecLaws.{exact_facts}
use lib.ListN.{length, take, drop, length-append, take-append-drop}
use lib.Seq.{take_at, drop_at, drop-drop}
use Rattle.lists.specs.Numbers.{number, bytes_of, Bytes}
use Rattle.lists.proofs.NumberLaws.{length-bytes_of, number-bytes_of, bytes_of-number, bytes_take, part_length, bytes_drop, part_lt}
use Rattle.lists.specs.Lists.{over}
use Rattle.entry.specs.Table.{Dict}
use Rattle.entry.specs.Judge.{well_formed}
use Rattle.entry.proofs.JudgeLaws.{and_true}
use Rattle.image.specs.Image.{Rec, head_of, heads, bodies, image_of, new_table}
use Rattle.commands.specs.Save.{fits}
use Rattle.image.specs.Readable.{key_of, rec_ok, recs_ok, Right, field, index_in, key_in, type_in, start_in, size_at, recs_at, placed, heads_ok, readable, table_of}
use Rattle.commands.proofs.ImageLaws.{length-heads, length-image}
use Rattle.image.proofs.ReadLaws.{Placed, placed_true, counted}
use Rattle.commands.proofs.RightLaws.{RecOk, recs_cons, saved_right}

-- ---- reading a number that lies at place a
-- what lies behind it
behind : (s xs ys : List ℕ) (a b : ℕ) → drop a s ≡ xs ++ ys → b ≡ a + length xs → drop b s ≡ ys
behind s xs ys a b e q = ap (λ n. drop n s) q ∙ sym (drop-drop (length xs) a s) ∙ ap (drop (length xs)) e ∙ drop_at xs ys (length xs) refl

field_is : (s : List ℕ) (a n x : ℕ) (ys : List ℕ) → drop a s ≡ bytes_of n x ++ ys → x < 2 ^ (8 * n) → field s a n ≡ x
field_is s a n x ys e h =
    ap (λ t. number (take n t)) e ∙ ap number (take_at (bytes_of n x) ys n (length-bytes_of n x)) ∙ number-bytes_of n x h

-- the five numbers of a record
record Head (s : List ℕ) (a : ℕ) (index sub type start len : ℕ) (ys : List ℕ) : Type 0 where
  index_is : field s a 2 ≡ index
  sub_is : field s (a + 2) 1 ≡ sub
  type_is : field s (a + 3) 1 ≡ type
  start_is : field s (a + 4) 2 ≡ start
  len_is : field s (a + 6) 2 ≡ len
  rest : drop (a + 8) s ≡ ys

head_is : (s : List ℕ) (a index sub type start len : ℕ) (ys : List ℕ) → drop a s ≡ head_of index sub type start len ++ ys → index < 65536 → sub < 256
    → type < 256 → start < 65536 → len < 65536 → Head s a index sub type start len ys
head_is s a index sub type start len ys e h₁ h₂ h₃ h₄ h₅ =
    let y₅ = bytes_of 2 len ++ ys in
    let y₄ = bytes_of 2 start ++ y₅ in
    let y₃ = bytes_of 1 type ++ y₄ in
    let y₂ = bytes_of 1 sub ++ y₃ in
    let e₁ : drop a s ≡ bytes_of 2 index ++ y₂ = e ∙ simp append_assoc in
    let e₂ = behind s (bytes_of 2 index) y₂ a (a + 2) e₁ (omega (arith, length-bytes_of 2 index)) in
    let e₃ = behind s (bytes_of 1 sub) y₃ (a + 2) (a + 3) e₂ (omega (arith, length-bytes_of 1 sub)) in
    let e₄ = behind s (bytes_of 1 type) y₄ (a + 3) (a + 4) e₃ (omega (arith, length-bytes_of 1 type)) in
    let e₅ = behind s (bytes_of 2 start) y₅ (a + 4) (a + 6) e₄ (omega (arith, length-bytes_of 2 start)) in
    record {
      index_is = field_is s a 2 index y₂ e₁ (omega arith);
      sub_is = field_is s (a + 2) 1 sub y₃ e₂ (omega arith);
      type_is = field_is s (a + 3) 1 type y₄ e₃ (omega arith);
      start_is = field_is s (a + 4) 2 start y₅ e₄ (omega arith);
      len_is = field_is s (a + 6) 2 len ys e₅ (omega arith);
      rest = behind s (bytes_of 2 len) ys (a + 6) (a + 8) e₅ (omega (arith, length-bytes_of 2 len));
    }

-- ---- a right record
rec_ok_lem : (r : Rec) → rec_ok r ≡ true → RecOk r
rec_ok_lem r e =
    let p = and_true (ltb r.index 65536) _ e in
    let q = and_true (ltb r.sub 256) _ p.1 in
    record { index = ltb-true _ _ p.0; sub = ltb-true _ _ q.0; value = q.1 }

record Cons (low : ℕ) (r : Rec) (rs : List Rec) : Type 0 where
  rises : low ≤ key_of r.index r.sub
  ok : RecOk r
  more : recs_ok (key_of r.index r.sub + 1) rs ≡ true

cons_ok : (low : ℕ) (r : Rec) (rs : List Rec) → recs_ok low (r ∷ rs) ≡ true → Cons low r rs
unfolding recs_ok
cons_ok low r rs e =
    let p = and_true (leb low (key_of r.index r.sub)) _ e in
    let q = and_true (rec_ok r) _ p.1 in
    record { rises = leb-true _ _ p.0; ok = rec_ok_lem r q.0; more = q.1 }

-- ---- the image of a right table
-- the test holds, and the records are read back
record Reads (s : List ℕ) (a b sum low : ℕ) (rs : List Rec) : Type 0 where
  good : heads_ok s (length rs) a b sum low ≡ true
  same : recs_at s (length rs) a (b + sum) ≡ rs

reads : (s : List ℕ) (b : ℕ) (rs : List Rec) (a sum low : ℕ) (xs ys : List ℕ) → drop a s ≡ heads sum rs ++ xs → drop (b + sum) s ≡ bodies rs ++ ys → b + sum + length (bodies rs) ≤ length s
    → recs_ok low rs ≡ true → sum + length (bodies rs) ≤ 16384 → Reads s a b sum low rs
unfolding heads bodies heads_ok recs_at placed
reads s b [] a sum low xs ys e f w g h = record { good = refl; same = refl }
reads s b (r ∷ rs) a sum low xs ys e f w g h =
    let c = cons_ok low r rs g in
    let n = length r.body in
    let m : length (r.body ++ bodies rs) ≡ n + length (bodies rs) = length-append r.body (bodies rs) in
    let e' = e ∙ append_assoc (head_of r.index r.sub r.type sum n) (heads (sum + n) rs) xs in
    let ih = head_is s a r.index r.sub r.type sum n (heads (sum + n) rs ++ xs) e' c.ok.index c.ok.sub (omega (arith, (exact_facts r.type r.body c.ok.value).type)) (omega arith) (omega arith) in
    let f' : drop (b + sum) s ≡ r.body ++ (bodies rs ++ ys) = f ∙ append_assoc r.body (bodies rs) ys in
    let t : take n (drop (b + sum) s) ≡ r.body = ap (take n) f' ∙ take_at r.body (bodies rs ++ ys) n refl in
    let z : b + sum + n ≡ b + (sum + n) = omega arith in
    let v = reads s b rs (a + 8) (sum + n) (key_of r.index r.sub + 1) xs ys ih.rest (behind s r.body (bodies rs ++ ys) (b + sum) (b + (sum + n)) f' (omega arith)) (omega arith) c.more (omega arith) in
    turn ih.index_is ih.sub_is ih.type_is ih.start_is ih.len_is t c v (omega arith) (omega arith)
  where
    turn : field s a 2 ≡ r.index → field s (a + 2) 1 ≡ r.sub → field s (a + 3) 1 ≡ r.type → field s (a + 4) 2 ≡ sum
        → field s (a + 6) 2 ≡ length r.body → take (length r.body) (drop (b + sum) s) ≡ r.body
        → Cons low r rs → Reads s (a + 8) b (sum + length r.body) (key_of r.index r.sub + 1) rs → sum + length r.body ≤ 16384 → b + (sum + length r.body) ≤ length s → Reads s a b sum low (r ∷ rs)
    turn p₁ p₂ p₃ p₄ p₅ t c v k l =
        let z : b + sum + length r.body ≡ b + (sum + length r.body) = omega arith in
        record {
          good = rw (p₁, p₂, p₃, p₄, p₅, le-leb _ _ c.rises, eq-eqb sum sum refl, le-leb _ _ k, le-leb _ _ l, t, c.ok.value) v.good;
          same = rw (p₁, p₂, p₃, p₅, t, z, v.same);
        }

-- R10.6: "A table determines its image", and is read back from it, whatever lies behind
pub image_read : (rs : List Rec) → Right rs → (more : List ℕ) → table_of (image_of rs ++ more) ≡ Some rs
unfolding image_of table_of
image_read rs r more =
    let s = image_of rs ++ more in
    let n = length rs in
    let l : length s ≡ 2 + 8 * n + length (bodies rs) + length more = length-append (image_of rs) more ∙ omega (arith, length-image rs) in
    let e₀ : drop 0 s ≡ bytes_of 2 n ++ (heads 0 rs ++ (bodies rs ++ more)) = simp append_assoc in
    let e₂ = behind s (bytes_of 2 n) (heads 0 rs ++ (bodies rs ++ more)) 0 2 e₀ (omega (arith, length-bytes_of 2 n)) in
    let e₃ = behind s (heads 0 rs) (bodies rs ++ more) 2 (2 + 8 * n + 0) e₂ (omega (arith, length-heads 0 rs)) in
    let f : field s 0 2 ≡ n = field_is s 0 2 n (heads 0 rs ++ (bodies rs ++ more)) e₀ (omega (arith, r.few)) in
    let w = reads s (2 + 8 * n) rs 2 0 0 (bodies rs ++ more) more e₂ e₃ (omega arith) r.good (omega (arith, r.small)) in
    let g : readable s ≡ true = counted s (omega (arith, r.few)) (omega arith) ∙ ap (λ k. heads_ok s k 2 (2 + 8 * k) 0 0) f ∙ w.good in
    let t : recs_at s (field s 0 2) 2 (2 + 8 * field s 0 2) ≡ rs = ap (λ k. recs_at s k 2 (2 + 8 * k)) f ∙ ap (recs_at s n 2) (sym (add-zero (2 + 8 * n))) ∙ w.same in
    ap (λ b. cond b (Some (recs_at s (field s 0 2) 2 (2 + 8 * field s 0 2))) None) g ∙ ap Some t

-- restore finds what a save laid
pub save_read : (d : Dict) → well_formed d ≡ true → (l : ℕ) (store : List ℕ) → fits (new_table d l store) store ≡ true → table_of (over store 0 (image_of (new_table d l store))) ≡ Some (new_table d l store)
unfolding over
save_read d e l store f =
    let rs = new_table d l store in
    image_read rs (saved_right d e l store f) (drop (0 + length (image_of rs)) store)

-- ---- a readable image
-- the n bytes at place a, as the number that they say
part_is : (s : List ℕ) → Bytes s → (a n b : ℕ) → b ≡ a + n → b ≤ length s → drop a s ≡ bytes_of n (field s a n) ++ drop b s
part_is s h a n b e l =
    let k : length (take n (drop a s)) ≡ n = part_length s a n (omega arith) in
    let f : bytes_of n (field s a n) ≡ take n (drop a s) = ap (λ m. bytes_of m (field s a n)) (sym k) ∙ bytes_of-number (take n (drop a s)) (bytes_take n (drop a s) (bytes_drop a s h)) in
    let g : drop n (drop a s) ≡ drop b s = drop-drop n a s ∙ ap (λ m. drop m s) (sym e) in
    sym (take-append-drop n (drop a s)) ∙ ap₂ (λ xs ys. xs ++ ys) (sym f) g

head_back : (s : List ℕ) → Bytes s → (a : ℕ) → a + 8 ≤ length s → drop a s ≡ head_of (index_in s a) (field s (a + 2) 1) (type_in s a) (start_in s a) (size_at s a) ++ drop (a + 8) s
head_back s h a l =
    let e₁ = part_is s h a 2 (a + 2) refl (omega arith) in
    let e₂ = part_is s h (a + 2) 1 (a + 3) (omega arith) (omega arith) in
    let e₃ = part_is s h (a + 3) 1 (a + 4) (omega arith) (omega arith) in
    let e₄ = part_is s h (a + 4) 2 (a + 6) (omega arith) (omega arith) in
    let e₅ = part_is s h (a + 6) 2 (a + 8) (omega arith) (omega arith) in
    e₁
    ∙ ap (λ t. bytes_of 2 (index_in s a) ++ t) (e₂ ∙ ap (λ t. bytes_of 1 (field s (a + 2) 1) ++ t) (e₃ ∙ ap (λ t. bytes_of 1 (type_in s a) ++ t) (e₄ ∙ ap (λ t. bytes_of 2 (start_in s a) ++ t) e₅)))
    ∙ simp append_assoc

-- n records from place a on, with their bodies, are those that are read there
record Holds (s : List ℕ) (n a b sum low : ℕ) (rs : List Rec) : Type 0 where
  heads_lie : drop a s ≡ heads sum rs ++ drop (a + 8 * n) s
  bodies_lie : drop (b + sum) s ≡ bodies rs ++ drop (b + sum + length (bodies rs)) s
  good : recs_ok low rs ≡ true
  small : sum + length (bodies rs) ≤ 16384
  count : length rs ≡ n

holds : (s : List ℕ) → Bytes s → (b n a sum low : ℕ) → a + 8 * n ≤ length s → sum ≤ 16384 → heads_ok s n a b sum low ≡ true → Holds s n a b sum low (recs_at s n a (b + sum))
unfolding heads bodies heads_ok recs_at recs_ok
holds s h b zero a sum low l m e = record { heads_lie = rw add-zero; bodies_lie = rw add-zero; good = refl; small = omega arith; count = refl }
holds s h b (suc n) a sum low l m e =
    let p = and_true (placed s a b sum low) _ e in
    let q = and_true (exact (type_in s a) (take (size_at s a) (drop (b + sum) s))) _ p.1 in
    let t = placed_true s a b sum low p.0 in
    turn t q.0 (holds s h b n (a + 8) (sum + size_at s a) (key_in s a + 1) (omega arith) t.small q.1)
  where
    r : Rec
    r = record { index = index_in s a; sub = field s (a + 2) 1; type = type_in s a; body = take (size_at s a) (drop (b + sum) s) }

    turn : Placed s a b sum low → exact (type_in s a) (take (size_at s a) (drop (b + sum) s)) ≡ true
        → Holds s n (a + 8) b (sum + size_at s a) (key_in s a + 1) (recs_at s n (a + 8) (b + (sum + size_at s a)))
        → Holds s (suc n) a b sum low (r ∷ recs_at s n (a + 8) (b + sum + size_at s a))
    turn t x w =
        let z : b + sum + size_at s a ≡ b + (sum + size_at s a) = omega arith in
        let rs = recs_at s n (a + 8) (b + (sum + size_at s a)) in
        let j : length (take (size_at s a) (drop (b + sum) s)) ≡ size_at s a = part_length s (b + sum) (size_at s a) (omega (arith, t.within)) in
        let u : length (r.body ++ bodies rs) ≡ size_at s a + length (bodies rs) = length-append r.body (bodies rs) ∙ omega arith in
        let v : a + 8 + 8 * n ≡ a + 8 * suc n = omega arith in
        let y : b + sum + (size_at s a + length (bodies rs)) ≡ b + (sum + size_at s a) + length (bodies rs) = omega arith in
        let i = part_lt s a 2 (omega arith) h in
        let o = part_lt s (a + 2) 1 (omega arith) h in
        rw z (record {
          heads_lie =
              head_back s h a (omega arith)
              ∙ ap₂ (λ st le. head_of (index_in s a) (field s (a + 2) 1) (type_in s a) st le ++ drop (a + 8) s) t.start (sym j)
              ∙ ap (λ xs. head_of (index_in s a) (field s (a + 2) 1) (type_in s a) sum (length r.body) ++ xs) (w.heads_lie ∙ ap₂ (λ st pl. heads (sum + st) rs ++ drop pl s) (sym j) v)
              ∙ sym (append_assoc (head_of (index_in s a) (field s (a + 2) 1) (type_in s a) sum (length r.body)) (heads (sum + length r.body) rs) (drop (a + 8 * suc n) s));
          bodies_lie =
              sym (take-append-drop (size_at s a) (drop (b + sum) s))
              ∙ ap (λ xs. r.body ++ xs) (drop-drop (size_at s a) (b + sum) s ∙ ap (λ pl. drop pl s) z ∙ w.bodies_lie ∙ ap (λ pl. bodies rs ++ drop pl s) (sym (ap (λ m. b + sum + m) u ∙ y)))
              ∙ sym (append_assoc r.body (bodies rs) (drop (b + sum + length (r.body ++ bodies rs)) s));
          good = recs_cons low r rs t.rises (record { index = omega (arith, i); sub = omega (arith, o); value = x }) w.good;
          small = omega (arith, u, w.small);
          count = ap suc w.count;
        })

-- what a readable image holds
pub record Readable (s : List ℕ) (rs : List Rec) : Type 0 where
  pub right : Right rs
  pub image : s ≡ image_of rs ++ drop (length (image_of rs)) s

by_table : (b : Bool) (ts : List Rec) {rs : List Rec} → cond b (Some ts) None ≡ Some rs → (b ≡ true) × (ts ≡ rs)
by_table true ts e = (refl, (cc))
by_table false ts e = let z : ◌≡◌ {A = ℕ} 0 1 = cc in absurd (omega arith)

-- an image that is accepted is the image of the table that it holds, and the rest
pub table-image : (s : List ℕ) → Bytes s → (rs : List Rec) → table_of s ≡ Some rs → Readable s rs
unfolding table_of readable image_of
table-image s h rs e =
    let n = field s 0 2 in
    let y = by_table (readable s) (recs_at s n 2 (2 + 8 * n)) e in
    let p = and_true (leb 2 (length s)) _ y.0 in
    let q = and_true (leb n 2048) _ p.1 in
    let r = and_true (leb (2 + 8 * n) (length s)) _ q.1 in
    let l : 2 + 8 * n ≤ length s = leb-true _ _ r.0 in
    let w : Holds s n 2 (2 + 8 * n) 0 0 rs = rw (add-zero (2 + 8 * n), y.1) at (holds s h (2 + 8 * n) n 2 0 0 l (omega arith) r.1) in
    let c : length (image_of rs) ≡ 2 + 8 * n + 0 + length (bodies rs) = length-image rs ∙ omega (arith, w.count) in
    record {
      right = record { good = w.good; few = omega (arith, w.count, leb-true n 2048 q.0); small = omega (arith, w.small) };
      image =
          part_is s h 0 2 2 refl (omega arith)
          ∙ ap₂ (λ m xs. bytes_of 2 m ++ xs) (sym w.count) (w.heads_lie ∙ ap (λ xs. heads 0 rs ++ xs) (ap (λ m. drop m s) (sym (add-zero (2 + 8 * n))) ∙ w.bodies_lie ∙ ap (λ m. bodies rs ++ drop m s) (sym c)))
          ∙ simp append_assoc;
    }
