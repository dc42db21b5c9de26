-- What the one pass finds right is a dictionary in canonical layout whose objects keep the rules.
-- Assumes nothing.
use Rattle.std.specs.Prelude.{Option, Some, None}
use Rattle.std.proofs.lemmas.Option.{some_pair_parts}
use mathlib.Core.Path.{ap₂, ◌≡◌, refl, sym, ap, ◌∙◌, subst}
use mathlib.Core.Bool.{Bool, true, false, cond, not, ◌&&◌, ◌||◌}
use mathlib.Core.List.{List, [], ◌∷◌, ◌++◌, append_assoc}
use Prim.Native.Nat.{ℕ, zero, suc, ◌+◌, ◌-◌, ◌*◌, ◌<◌, ◌≤◌}
use native.Mathlib.Nat.{add-zero, zero-add}
use native.Mathlib.Omega.{arith}
use borrow.Author.Tests.{eqb-true, leb-true, ltb-true, eq-eqb, le-leb}
use lib.Dec.{eqb, leb, ltb, T}
use lib.ListN.{length, take, drop, get_or, length-append, length-drop, take-append-drop}
use lib.Seq.{drop-cons, drop-drop, take-take, length-take-le}
use Rattle.text.specs.Machine.{judge}
use Rattle.lists.specs.Lists.{over}
use Rattle.entry.specs.Model.{rooms, words_of, slots_of, used, size, bytes_of, row, rows_of, header, all_objects, all_slots, all_words, all_bytes}
use Rattle.value.specs.Codec.{is_text, fits_type, takes, text_word, word_at}
use Rattle.entry.specs.Table.{extra_at, edition_of, Dict, model_of, vals_from, obj_at, objs_from, number_of, values_of, used_of, index_at, kind_at, access_at, count_at, first_at, name_at, name_len_at, default_at, type_at, start_at, room_at}
use Rattle.entry.specs.Rules.{is_edition, extra_ok, is_good, word_ok, val_ok, held_ok, vals_ok, head_ok, obj_ok, objs_ok}
use Rattle.entry.specs.Judge.{Sound, slot_ok, slots_from, used_at, row_ok, row_fits, and_then, rows_from, reserved, header_ok, whole_at, well_formed}

-- ---- tests
ff : false ≡ true → ⊥
ff e = subst T (sym e) tt

pub and_true : (a b : Bool) → (a && b) ≡ true → (a ≡ true) × (b ≡ true)
and_true true b e = (refl, e)
and_true false b e = (e, absurd (ff e))

-- ---- elements in front of what is dropped
next : (s : List ℕ) (p q : ℕ) → q ≡ suc p → p < length s → drop p s ≡ get_or s p 0 ∷ drop q s
next s p q e h = rw e (drop-cons s p 0 h)

row_cells : (s : List ℕ) (i : ℕ) → 12 * i + 24 ≤ length s → drop (12 * i + 12) s ≡ get_or s (12 * i + 12) 0 ∷ get_or s (12 * i + 13) 0 ∷ get_or s (12 * i + 14) 0 ∷ get_or s (12 * i + 15) 0 ∷ get_or s (12 * i + 16) 0 ∷ get_or s (12 * i + 17) 0 ∷ get_or s (12 * i + 18) 0 ∷ get_or s (12 * i + 19) 0 ∷ get_or s (12 * i + 20) 0 ∷ get_or s (12 * i + 21) 0 ∷ get_or s (12 * i + 22) 0 ∷ get_or s (12 * i + 23) 0 ∷ drop (12 * (i + 1) + 12) s
row_cells s i h =
    rw (next s (12 * i + 12) (12 * i + 13) (omega arith) (omega arith), next s (12 * i + 13) (12 * i + 14) (omega arith) (omega arith), next s (12 * i + 14) (12 * i + 15) (omega arith) (omega arith), next s (12 * i + 15) (12 * i + 16) (omega arith) (omega arith), next s (12 * i + 16) (12 * i + 17) (omega arith) (omega arith), next s (12 * i + 17) (12 * i + 18) (omega arith) (omega arith), next s (12 * i + 18) (12 * i + 19) (omega arith) (omega arith), next s (12 * i + 19) (12 * i + 20) (omega arith) (omega arith), next s (12 * i + 20) (12 * i + 21) (omega arith) (omega arith), next s (12 * i + 21) (12 * i + 22) (omega arith) (omega arith), next s (12 * i + 22) (12 * i + 23) (omega arith) (omega arith), next s (12 * i + 23) (12 * (i + 1) + 12) (omega arith) (omega arith))

header_cells : (s : List ℕ) → 12 ≤ length s → s ≡ get_or s 0 0 ∷ get_or s 1 0 ∷ get_or s 2 0 ∷ get_or s 3 0 ∷ get_or s 4 0 ∷ get_or s 5 0 ∷ get_or s 6 0 ∷ get_or s 7 0 ∷ get_or s 8 0 ∷ get_or s 9 0 ∷ get_or s 10 0 ∷ get_or s 11 0 ∷ drop 12 s
header_cells s h =
    let z : drop 0 s ≡ s = refl in
    sym z ∙ rw (next s 0 1 (omega arith) (omega arith), next s 1 2 (omega arith) (omega arith), next s 2 3 (omega arith) (omega arith), next s 3 4 (omega arith) (omega arith), next s 4 5 (omega arith) (omega arith), next s 5 6 (omega arith) (omega arith), next s 6 7 (omega arith) (omega arith), next s 7 8 (omega arith) (omega arith), next s 8 9 (omega arith) (omega arith), next s 9 10 (omega arith) (omega arith), next s 10 11 (omega arith) (omega arith), next s 11 12 (omega arith) (omega arith))

slot_cells : (s : List ℕ) (p : ℕ) → 3 * p + 3 ≤ length s → drop (3 * p) s ≡ get_or s (3 * p) 0 ∷ get_or s (3 * p + 1) 0 ∷ get_or s (3 * p + 2) 0 ∷ drop (3 * suc p) s
slot_cells s p h =
    rw (next s (3 * p) (3 * p + 1) (omega arith) (omega arith), next s (3 * p + 1) (3 * p + 2) (omega arith) (omega arith), next s (3 * p + 2) (3 * suc p) (omega arith) (omega arith))

-- ---- a value
word_room : (t w r : ℕ) (s : List ℕ) → word_ok t w r (take r s) ≡ word_ok t w r s
unfolding word_ok
word_room t w r s = go (leb w r) refl
  where
    go : (x : Bool) → leb w r ≡ x → cond (is_text t) (leb w r && takes (text_word t (take w (take r s)))) (fits_type t w) ≡ cond (is_text t) (leb w r && takes (text_word t (take w s))) (fits_type t w)
    go true e = rw (take-take w r s (leb-true _ _ e))
    go false e = simp e

pub val-room : (t w r : ℕ) (s : List ℕ) → val_ok t w r (take r s) ≡ val_ok t w r s
unfolding val_ok
val-room t w r s = rw (word_room t w r s)

-- of a text or bytes, what decoding takes is what the text test takes
pub text_word_lem : (t n m : ℕ) (s : List ℕ) → is_text t ≡ true → n ≡ m → takes (word_at t (take n s)) ≡ takes (text_word t (take m s))
unfolding word_at
text_word_lem t n m s e q = rw (e, q)

pub held-room : (n t w r : ℕ) (s : List ℕ) → held_ok n t w r (take r s) ≡ held_ok n t w r s
unfolding held_ok
held-room n t w r s = rw (val-room t w r s)

pub length_vals : (d : Dict) (k p : ℕ) → length (vals_from d k p) ≡ k
unfolding vals_from
length_vals d zero p = refl
length_vals d (suc k) p = ap suc (length_vals d k (suc p))

-- ---- the values of one object
pub record SlotsLie (d : Dict) (n k p b e : ℕ) : Type 0 where
  pub low : b ≤ e
  pub high : e ≤ used_of d.objects
  pub slots : drop (3 * p) d.slots ≡ slots_of b (vals_from d k p) ++ drop (3 * (p + k)) d.slots
  pub words : drop p d.words ≡ words_of (vals_from d k p) ++ drop (p + k) d.words
  pub bytes : drop b d.bytes ≡ rooms (vals_from d k p) ++ drop e d.bytes
  pub good : vals_ok n (vals_from d k p) ≡ true

pub record SlotOk (d : Dict) (n p b : ℕ) : Type 0 where
  pub start : start_at d.slots p ≡ b
  pub within : b + room_at d.slots p ≤ used_of d.objects
  pub val : held_ok n (type_at d.slots p) (get_or d.words p 0) (room_at d.slots p) (drop b d.bytes) ≡ true

pub slot_ok_lem : (d : Dict) (n p b : ℕ) → b ≤ used_of d.objects → slot_ok d n p b ≡ true → SlotOk d n p b
unfolding slot_ok
slot_ok_lem d n p b h e =
    let x = and_true _ _ e in
    let y = and_true _ _ x.1 in
    let l : room_at d.slots p ≤ used_of d.objects - b = leb-true _ _ y.0 in
    record { start = eqb-true _ _ x.0; within = omega arith; val = y.1 }

pub by_slot : (a : Bool) (x : Option ℕ) {e : ℕ} → cond a x None ≡ Some e → (a ≡ true) × (x ≡ Some e)
by_slot true x q = (refl, q)
by_slot false x q = let z : ◌≡◌ {A = ℕ} 0 1 = cc in absurd (omega arith)

pub slots_lie : (d : Dict) (n k p b e : ℕ) → b ≤ used_of d.objects → used_of d.objects ≤ length d.bytes → 3 * (p + k) ≤ length d.slots → p + k ≤ length d.words → slots_from d n k p b ≡ Some e → SlotsLie d n k p b e
unfolding slots_from vals_from slots_of words_of rooms vals_ok
slots_lie d n zero p b e h u s w q =
    let l : b ≡ e = cc in
    record { low = omega arith; high = omega arith; slots = rw add-zero; words = rw add-zero; bytes = ap (λ n. drop n d.bytes) l; good = refl }
slots_lie d n (suc k) p b e h u s w q =
    let z = by_slot (slot_ok d n p b) (slots_from d (n - 1) k (suc p) (b + room_at d.slots p)) q in
    let o = slot_ok_lem d n p b h z.0 in
    let r = room_at d.slots p in
    let t = slots_lie d (n - 1) k (suc p) (b + r) e o.within u (omega arith) (omega arith) z.1 in
    let m : length (take r (drop (start_at d.slots p) d.bytes)) ≡ r = length-take-le r (drop (start_at d.slots p) d.bytes) (rw length-drop (omega (arith, o.start, o.within))) in
    let f : p + suc k ≡ suc p + k = omega arith in
    record {
      low = omega (arith, t.low);
      high = t.high;
      slots = rw (slot_cells d.slots p (omega arith), m, o.start, f, t.slots);
      words = rw (next d.words p (suc p) refl (omega arith), f, t.words);
      bytes = rw (o.start, append_assoc, ← t.bytes, ← drop-drop r b d.bytes) (sym (take-append-drop r (drop b d.bytes)));
      good = rw (m, o.start, held-room n (type_at d.slots p) (get_or d.words p 0) r (drop b d.bytes), o.val) t.good;
    }

-- ---- one row
pub record RowOk (d : Dict) (i v b low : ℕ) : Type 0 where
  pub rises : leb low (index_at d.objects i) ≡ true
  pub head : head_ok (index_at d.objects i) (kind_at d.objects i) (access_at d.objects i) (count_at d.objects i) (default_at d.objects i) (name_len_at d.objects i) ≡ true
  pub first : first_at d.objects i ≡ v
  pub name : name_at d.objects i ≡ b
  pub extra : extra_ok (count_at d.objects i) (extra_at d.objects i) ≡ true

pub row_ok_lem : (d : Dict) (i v b low : ℕ) → row_ok d.objects i v b low ≡ true → RowOk d i v b low
unfolding row_ok
row_ok_lem d i v b low e =
    let x₀ = and_true _ _ e in
    let x₁ = and_true _ _ x₀.1 in
    let x₂ = and_true _ _ x₁.1 in
    let x₃ = and_true _ _ x₂.1 in
    record {
      rises = x₀.0;
      head = x₁.0;
      first = eqb-true _ _ x₂.0;
      name = eqb-true _ _ x₃.0;
      extra = x₃.1;
    }

pub record RowFits (d : Dict) (i v b : ℕ) : Type 0 where
  pub values : v + used_at d.objects i ≤ values_of d.objects
  pub bytes : b + name_len_at d.objects i ≤ used_of d.objects
  pub text : is_good (judge (take (name_len_at d.objects i) (drop b d.bytes))) ≡ true

pub row_fits_lem : (d : Dict) (i v b : ℕ) → v ≤ values_of d.objects → b ≤ used_of d.objects → row_fits d.objects d.bytes i v b ≡ true → RowFits d i v b
unfolding row_fits
row_fits_lem d i v b h k e =
    let x = and_true _ _ e in
    let y = and_true _ _ x.1 in
    let l : used_at d.objects i ≤ values_of d.objects - v = leb-true _ _ x.0 in
    let m : name_len_at d.objects i ≤ used_of d.objects - b = leb-true _ _ y.0 in
    record { values = omega arith; bytes = omega arith; text = y.1 }

pub by_row : (a e : Bool) (s : Option ℕ) (f : ℕ → Option (ℕ × ℕ)) (v b : ℕ) → cond a (cond e (and_then s f) None) None ≡ Some (v, b) → (n : ℕ) × (a ≡ true) × (e ≡ true) × (s ≡ Some n) × (f n ≡ Some (v, b))
by_row true true (Some n) f v b q = (n, refl, refl, refl, q)
by_row true true None f v b q = let z : ◌≡◌ {A = ℕ} 0 1 = cc in absurd (omega arith)
by_row true false s f v b q = let z : ◌≡◌ {A = ℕ} 0 1 = cc in absurd (omega arith)
by_row false e s f v b q = let z : ◌≡◌ {A = ℕ} 0 1 = cc in absurd (omega arith)

-- ---- all rows
pub record RowsLie (d : Dict) (k i v b low v' b' : ℕ) : Type 0 where
  pub values : v ≤ v'
  pub bytes_low : b ≤ b'
  pub rows : drop (12 * i + 12) d.objects ≡ rows_of v b (objs_from d k i) ++ drop (12 * (i + k) + 12) d.objects
  pub slots : drop (3 * v) d.slots ≡ all_slots b (objs_from d k i) ++ drop (3 * v') d.slots
  pub words : drop v d.words ≡ all_words (objs_from d k i) ++ drop v' d.words
  pub bytes : drop b d.bytes ≡ all_bytes (objs_from d k i) ++ drop b' d.bytes
  pub good : objs_ok low (objs_from d k i) ≡ true

-- the object of a row that is right
record ObjLies (d : Dict) (i v b e : ℕ) : Type 0 where
  o-used : used (obj_at d i) ≡ used_at d.objects i
  o_name : length (obj_at d i).name ≡ name_len_at d.objects i
  o-size : b + size (obj_at d i) ≡ e
  o-row : drop (12 * i + 12) d.objects ≡ row v b (obj_at d i) ++ drop (12 * (i + 1) + 12) d.objects
  o_slots : drop (3 * v) d.slots ≡ slots_of (b + length (obj_at d i).name) (obj_at d i).values ++ drop (3 * (v + used (obj_at d i))) d.slots
  o_words : drop v d.words ≡ words_of (obj_at d i).values ++ drop (v + used (obj_at d i)) d.words
  o_bytes : drop b d.bytes ≡ bytes_of (obj_at d i) ++ drop e d.bytes
  o_good : obj_ok (obj_at d i) ≡ true

obj_lies : (d : Dict) (i v b low e : ℕ) → used_of d.objects ≤ length d.bytes → 12 * i + 24 ≤ length d.objects → RowOk d i v b low → RowFits d i v b → SlotsLie d (count_at d.objects i) (used_at d.objects i) v (b + name_len_at d.objects i) e → ObjLies d i v b e
obj_lies d i v b low e h g r f s =
    let n = name_len_at d.objects i in
    let u = used_at d.objects i in
    let lu : length (vals_from d u (first_at d.objects i)) ≡ u = length_vals d u (first_at d.objects i) in
    let ln : length (take n (drop (name_at d.objects i) d.bytes)) ≡ n = length-take-le n (drop (name_at d.objects i) d.bytes) (rw length-drop (omega (arith, r.name, f.bytes))) in
    let c : u - default_at d.objects i ≡ count_at d.objects i = omega arith in
    let ob : drop b d.bytes ≡ bytes_of (obj_at d i) ++ drop e d.bytes =
    rw (r.first, r.name, append_assoc, ← s.bytes, ← drop-drop n b d.bytes) (sym (take-append-drop n (drop b d.bytes))) in
    let q = ap length ob ∙ length-append (bytes_of (obj_at d i)) (drop e d.bytes) in
    let lg : leb (default_at d.objects i) u ≡ true = le-leb (default_at d.objects i) u (omega arith) in
    record {
      o-used = lu;
      o_name = ln;
      o-size = omega (arith, q, length-drop b d.bytes, length-drop e d.bytes, s.low, s.high);
      o-row = rw (row_cells d.objects i g, lu, c, ln, r.first, r.name);
      o_slots = rw (ln, r.first, length_vals d u v) s.slots;
      o_words = rw (r.first, length_vals d u v) s.words;
      o_bytes = ob;
      o_good = rw (lu, c, ln, r.head, lg, r.name, f.text, r.extra, r.first) s.good;
    }

pub rows_lie : (d : Dict) (k i v b low v' b' : ℕ) → v ≤ values_of d.objects → b ≤ used_of d.objects
    → used_of d.objects ≤ length d.bytes → 3 * values_of d.objects ≤ length d.slots → values_of d.objects ≤ length d.words → 12 * (i + k) + 12 ≤ length d.objects
    → rows_from d k i v b low ≡ Some (v', b') → RowsLie d k i v b low v' b'
unfolding rows_from objs_from rows_of all_slots all_words all_bytes objs_ok
rows_lie d zero i v b low v' b' hv hb hu hs hw ho q =
    let (x, y) = some_pair_parts v v' b b' q in
    record { values = omega arith; bytes_low = omega arith; rows = rw add-zero; slots = rw x; words = rw x; bytes = rw y; good = refl }
rows_lie d (suc k) i v b low v' b' hv hb hu hs hw ho q =
    let u = used_at d.objects i in
    let x = by_row (row_ok d.objects i v b low) (row_fits d.objects d.bytes i v b) (slots_from d (count_at d.objects i) u v (b + name_len_at d.objects i)) _ v' b' q in
    let e = x.0 in
    let r = row_ok_lem d i v b low x.1 in
    let f = row_fits_lem d i v b hv hb x.2 in
    let s = slots_lie d (count_at d.objects i) u v (b + name_len_at d.objects i) e f.bytes hu (omega (arith, f.values)) (omega (arith, f.values)) x.3 in
    let o = obj_lies d i v b low e hu (omega arith) r f s in
    let t = rows_lie d k (suc i) (v + u) e (index_at d.objects i + 1) v' b' f.values s.high hu hs hw (omega arith) x.4 in
    let m : i + suc k ≡ suc i + k = omega arith in
    let n : i + 1 ≡ suc i = omega arith in
    record {
      values = omega (arith, t.values);
      bytes_low = omega (arith, t.bytes_low, s.low);
      rows = o.o-row ∙ rw (n, m, o.o-size, o.o-used, t.rows);
      slots = o.o_slots ∙ rw (o.o-size, o.o-used, t.slots) (sym (append_assoc (slots_of _ _) _ _));
      words = o.o_words ∙ rw (o.o-used, t.words) (sym (append_assoc (words_of _) _ _));
      bytes = o.o_bytes ∙ rw t.bytes (sym (append_assoc (bytes_of (obj_at d i)) _ _));
      good = rw (r.rises, o.o_good) t.good;
    }

pub length_objs : (d : Dict) (k i : ℕ) → length (objs_from d k i) ≡ k
unfolding objs_from
length_objs d zero i = refl
length_objs d (suc k) i = ap suc (length_objs d k (suc i))

-- a memory that begins with l, up to place n
lies_upto : (s l : List ℕ) (n : ℕ) → n ≤ length s → s ≡ l ++ drop n s → (length l ≡ n) × (over s 0 l ≡ s)
unfolding over
lies_upto s l n h e =
    let k : length l ≡ n = omega (arith, ap length e, length-append l (drop n s), length-drop n s) in
    (k, rw (zero-add, k) (sym e))

-- ---- the header
pub record Header (d : Dict) : Type 0 where
  pub few : number_of d.objects ≤ 1024
  pub rows : 12 * number_of d.objects + 12 ≤ length d.objects
  pub values : values_of d.objects ≤ 6144
  pub slots : 3 * values_of d.objects ≤ length d.slots
  pub words : values_of d.objects ≤ length d.words
  pub total : used_of d.objects ≤ 32768
  pub bytes : used_of d.objects ≤ length d.bytes
  pub rest : reserved d.objects ≡ true

pub header_ok_lem : (d : Dict) → header_ok d ≡ true → Header d
unfolding header_ok
header_ok_lem d e =
    let x₀ = and_true _ _ e in
    let x₁ = and_true _ _ x₀.1 in
    let x₂ = and_true _ _ x₁.1 in
    let x₃ = and_true _ _ x₂.1 in
    let x₄ = and_true _ _ x₃.1 in
    let x₅ = and_true _ _ x₄.1 in
    let x₆ = and_true _ _ x₅.1 in
    record {
      few = leb-true _ _ x₀.0;
      rows = leb-true _ _ x₁.0;
      values = leb-true _ _ x₂.0;
      slots = leb-true _ _ x₃.0;
      words = leb-true _ _ x₄.0;
      total = leb-true _ _ x₅.0;
      bytes = leb-true _ _ x₆.0;
      rest = x₆.1;
    }

header_is : (s : List ℕ) (n m b : ℕ) → 12 ≤ length s → get_or s 0 0 ≡ n → get_or s 1 0 ≡ m → get_or s 2 0 ≡ b → reserved s ≡ true → s ≡ (n ∷ m ∷ b ∷ get_or s 3 0 ∷ 0 ∷ 0 ∷ 0 ∷ 0 ∷ 0 ∷ 0 ∷ 0 ∷ 0 ∷ []) ++ drop 12 s
unfolding reserved
header_is s n m b h p q r e =
    let x₀ = and_true (is_edition (get_or s 3 0)) _ e in
    let x₁ = and_true _ _ x₀.1 in
    let x₂ = and_true _ _ x₁.1 in
    let x₃ = and_true _ _ x₂.1 in
    let x₄ = and_true _ _ x₃.1 in
    let x₅ = and_true _ _ x₄.1 in
    let x₆ = and_true _ _ x₅.1 in
    let x₇ = and_true _ _ x₆.1 in
    let c4 : get_or s 4 0 ≡ 0 = eqb-true (get_or s 4 0) 0 x₁.0 in
    let c5 : get_or s 5 0 ≡ 0 = eqb-true (get_or s 5 0) 0 x₂.0 in
    let c6 : get_or s 6 0 ≡ 0 = eqb-true (get_or s 6 0) 0 x₃.0 in
    let c7 : get_or s 7 0 ≡ 0 = eqb-true (get_or s 7 0) 0 x₄.0 in
    let c8 : get_or s 8 0 ≡ 0 = eqb-true (get_or s 8 0) 0 x₅.0 in
    let c9 : get_or s 9 0 ≡ 0 = eqb-true (get_or s 9 0) 0 x₆.0 in
    let c10 : get_or s 10 0 ≡ 0 = eqb-true (get_or s 10 0) 0 x₇.0 in
    let c11 : get_or s 11 0 ≡ 0 = eqb-true (get_or s 11 0) 0 x₇.1 in
    header_cells s h ∙ rw (p, q, r, c4, c5, c6, c7, c8, c9, c10, c11)

pub by_judge : (a : Bool) (v b : ℕ) (w : Option (ℕ × ℕ)) → cond a (whole_at v b w) false ≡ true → (a ≡ true) × (w ≡ Some (v, b))
by_judge true v b (Some n) q =
    let e = and_true (eqb n.0 v) (eqb n.1 b) q in
    (refl, ap₂ (λ (x y : ℕ). Some (x, y)) (eqb-true n.0 v e.0) (eqb-true n.1 b e.1))
by_judge true v b None q = absurd (ff q)
by_judge false v b w q = absurd (ff q)

-- ---- what is found right is sound
pub sound : (d : Dict) → well_formed d ≡ true → Sound d
unfolding well_formed reserved
sound d e =
    let j = by_judge (header_ok d) (values_of d.objects) (used_of d.objects) (rows_from d (number_of d.objects) 0 0 0 0) e in
    let h = header_ok_lem d j.0 in
    let n = number_of d.objects in
    let os = model_of d in
    let z : 0 + n ≡ n = zero-add n in
    let t = rows_lie d n 0 0 0 0 (values_of d.objects) (used_of d.objects) (omega arith) (omega arith) h.bytes h.slots h.words (rw z h.rows) j.1 in
    let w = lies_upto d.words (all_words os) (values_of d.objects) h.words t.words in
    let b = lies_upto d.bytes (all_bytes os) (used_of d.objects) h.bytes t.bytes in
    let s = lies_upto d.slots (all_slots 0 os) (3 * values_of d.objects) h.slots t.slots in
    let l = length_objs d n 0 in
    let o : d.objects ≡ all_objects (edition_of d.objects) os ++ drop (12 * n + 12) d.objects =
    header_is d.objects (length os) (length (all_words os)) (length (all_bytes os)) (omega (arith, h.rows)) (sym l) (sym w.0) (sym b.0) h.rest
    ∙ ap (λ k. header (edition_of d.objects) os ++ k) (rw z at t.rows) in
    record {
      lies = record { objects = (lies_upto d.objects (all_objects (edition_of d.objects) os) (12 * n + 12) h.rows o).1; slots = s.1; words = w.1; bytes = b.1 };
      good = t.good;
      few = record { objects = omega (arith, l, h.few); values = omega (arith, w.0, h.values); bytes = omega (arith, b.0, h.total) };
      edition = (and_true (is_edition (edition_of d.objects)) _ h.rest).0;
    }

-- what the head's test says of the numbers
pub record HeadOk (index kind count flag len : ℕ) : Type 0 where
  pub index_small : index < 65536
  pub count_small : count ≤ 254
  pub variable : kind ≡ 0 → count ≡ 1
  pub flag_small : flag ≤ 1
  pub len_small : len ≤ 32

pub head_ok_lem : (index kind access count flag len : ℕ) → head_ok index kind access count flag len ≡ true → HeadOk index kind count flag len
unfolding head_ok
head_ok_lem index kind access count flag len e =
    let x₀ = and_true _ _ e in
    let x₁ = and_true (ltb kind 3) _ x₀.1 in
    let x₂ = and_true (ltb access 8) _ x₁.1 in
    let x₃ = and_true _ _ x₂.1 in
    let x₄ = and_true (not (eqb kind 0) || eqb count 1) _ x₃.1 in
    let x₅ = and_true _ _ x₄.1 in
    record {
      index_small = ltb-true _ _ x₀.0;
      count_small = leb-true _ _ x₃.0;
      variable = λ z. eqb-true count 1 (rw (eq-eqb kind 0 z) at x₄.0);
      flag_small = leb-true _ _ x₅.0;
      len_small = leb-true _ _ x₅.1;
    }

pub headed : (d : Dict) → well_formed d ≡ true → Header d
unfolding well_formed
headed d e = header_ok_lem d (by_judge (header_ok d) (values_of d.objects) (used_of d.objects) (rows_from d (number_of d.objects) 0 0 0 0) e).0
