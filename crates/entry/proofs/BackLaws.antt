-- The other way round: from a canonical layout the same objects are read back, and where they keep the rules the one pass finds it right.
-- Assumes nothing.
use Rattle.std.specs.Prelude.{Some}
use mathlib.Core.Path.{◌≡◌, refl, sym, ap, ◌∙◌}
use mathlib.Core.Bool.{true}
use mathlib.Core.List.{List, [], ◌∷◌, ◌++◌, append_assoc}
use Prim.Native.Nat.{ℕ, suc, ◌+◌, ◌-◌, ◌*◌, ◌≤◌}
use native.Mathlib.Nat.{add-zero, zero-add}
use native.Mathlib.Omega.{arith}
use borrow.Author.Tests.{leb-true, eq-eqb, le-leb}
use lib.Dec.{eqb, leb}
use lib.ListN.{length, take, drop, get_or, length-append}
use lib.Seq.{drop-drop, get_or-drop, take-append_seam, drop-append_seam}
use Rattle.text.specs.Machine.{judge}
use Rattle.lists.specs.Lists.{over}
use Rattle.entry.specs.Model.{Val, Obj, rooms, words_of, slots_of, used, size, bytes_of, rows_of, header, all_objects, all_slots, all_words, all_bytes}
use Rattle.entry.specs.Table.{edition_of, Dict, Lies, model_of, vals_from, objs_from, values_of, used_of, type_at, start_at, room_at}
use Rattle.entry.specs.Rules.{is_edition, extra_ok, is_good, held_ok, vals_ok, head_ok, objs_ok, Few}
use Rattle.entry.specs.Judge.{Sound, slot_ok, slots_from, row_ok, row_fits, rows_from, reserved, header_ok, well_formed}
use Rattle.entry.proofs.JudgeLaws.{and_true, held-room}
use Rattle.entry.proofs.ModelLaws.{length-words_of, length-slots_of, length_rows, length_slots, begins, totals}

-- an element behind what is dropped
cell : (s l : List ℕ) (n c p : ℕ) → drop n s ≡ l → p ≡ n + c → get_or s p 0 ≡ get_or l c 0
cell s l n c p e q = rw q (sym (get_or-drop n s c 0) ∙ ap (λ k. get_or k c 0) e)

further : (s l : List ℕ) (n c p : ℕ) → drop n s ≡ l → p ≡ n + c → drop p s ≡ drop c l
further s l n c p e q = rw q (sym (drop-drop c n s) ∙ ap (drop c) e)

-- the front of what is dropped
front : (s l z : List ℕ) (b n m : ℕ) → drop b s ≡ l ++ z → m ≡ b → n ≡ length l → take n (drop m s) ≡ l
front s l z b n m e p q = rw (p, e, q) (take-append_seam l z)

behind : (s l z : List ℕ) (b n : ℕ) → drop b s ≡ l ++ z → n ≡ b + length l → drop n s ≡ z
behind s l z b n e q = further s (l ++ z) b (length l) n e q ∙ drop-append_seam l z

record ValsThere (d : Dict) (vs : List Val) (p b : ℕ) (x y z : List ℕ) : Type 0 where
  slots : drop (3 * p) d.slots ≡ slots_of b vs ++ x
  words : drop p d.words ≡ words_of vs ++ y
  bytes : drop b d.bytes ≡ rooms vs ++ z

-- the first value, and that the others follow
record ValThere (d : Dict) (v : Val) (vs : List Val) (p b : ℕ) (x y z : List ℕ) : Type 0 where
  type : type_at d.slots p ≡ v.type
  word : get_or d.words p 0 ≡ v.word
  start : start_at d.slots p ≡ b
  size : room_at d.slots p ≡ length v.room
  room : take (length v.room) (drop b d.bytes) ≡ v.room
  rest : ValsThere d vs (suc p) (b + length v.room) x y z

val_there : (d : Dict) (v : Val) (vs : List Val) (p b : ℕ) {x y z : List ℕ} → ValsThere d (v ∷ vs) p b x y z → ValThere d v vs p b x y z
unfolding slots_of words_of rooms
val_there d v vs p b {x} {y} {z} t =
    let e : drop b d.bytes ≡ v.room ++ (rooms vs ++ z) = t.bytes ∙ append_assoc v.room (rooms vs) z in
    record {
      type = cell d.slots _ (3 * p) 0 (3 * p) t.slots (omega arith);
      word = cell d.words _ p 0 p t.words (omega arith);
      start = cell d.slots _ (3 * p) 1 (3 * p + 1) t.slots refl;
      size = cell d.slots _ (3 * p) 2 (3 * p + 2) t.slots refl;
      room = front d.bytes v.room (rooms vs ++ z) b (length v.room) b e refl refl;
      rest = record {
        slots = further d.slots _ (3 * p) 3 (3 * suc p) t.slots (omega arith);
        words = further d.words _ p 1 (suc p) t.words (omega arith);
        bytes = behind d.bytes v.room (rooms vs ++ z) b (b + length v.room) e refl;
      };
    }

vals_back : (d : Dict) (vs : List Val) (p b : ℕ) {x y z : List ℕ} → ValsThere d vs p b x y z → vals_from d (length vs) p ≡ vs
unfolding vals_from
vals_back d [] p b t = refl
vals_back d (v ∷ vs) p b t =
    let h = val_there d v vs p b t in
    rw (h.type, h.word, h.start, h.size, h.room, vals_back d vs (suc p) (b + length v.room) h.rest)

slots_right : (d : Dict) (n : ℕ) (vs : List Val) (p b : ℕ) {x y z : List ℕ} → ValsThere d vs p b x y z → vals_ok n vs ≡ true → b + length (rooms vs) ≤ used_of d.objects → slots_from d n (length vs) p b ≡ Some (b + length (rooms vs))
unfolding slots_from vals_ok slot_ok rooms
slots_right d n [] p b t g l = rw add-zero
slots_right d n (v ∷ vs) p b t g l =
    let h = val_there d v vs p b t in
    let r = length v.room in
    let k = length-append v.room (rooms vs) in
    let q = and_true _ _ g in
    let i = slots_right d (n - 1) vs (suc p) (b + r) h.rest q.1 (omega arith) in
    let ok : held_ok n v.type v.word r (drop b d.bytes) ≡ true = sym (held-room n v.type v.word r (drop b d.bytes)) ∙ rw h.room q.0 in
    let e₁ : eqb (start_at d.slots p) b ≡ true = eq-eqb _ _ h.start in
    let e₂ : leb r (used_of d.objects - b) ≡ true = le-leb r (used_of d.objects - b) (omega arith) in
    let e₃ : (b + r) + length (rooms vs) ≡ b + length (v.room ++ rooms vs) = omega arith in
    rw (e₁, h.type, h.word, h.size, e₂, ok) (rw e₃ at i)

-- ---- objects
record ObjsThere (d : Dict) (os : List Obj) (i v b : ℕ) (w x y z : List ℕ) : Type 0 where
  rows : drop (12 * i + 12) d.objects ≡ rows_of v b os ++ w
  slots : drop (3 * v) d.slots ≡ all_slots b os ++ x
  words : drop v d.words ≡ all_words os ++ y
  bytes : drop b d.bytes ≡ all_bytes os ++ z

record ObjThere (d : Dict) (o : Obj) (os : List Obj) (i v b : ℕ) (w x y z : List ℕ) : Type 0 where
  index : get_or d.objects (12 * i + 12) 0 ≡ o.index
  kind : get_or d.objects (12 * i + 13) 0 ≡ o.kind
  access : get_or d.objects (12 * i + 14) 0 ≡ o.access
  count : get_or d.objects (12 * i + 15) 0 ≡ used o - o.default
  first : get_or d.objects (12 * i + 16) 0 ≡ v
  name : get_or d.objects (12 * i + 17) 0 ≡ b
  len : get_or d.objects (12 * i + 18) 0 ≡ length o.name
  flag : get_or d.objects (12 * i + 19) 0 ≡ o.default
  zero₀ : get_or d.objects (12 * i + 20) 0 ≡ o.extra.kept
  zero₁ : get_or d.objects (12 * i + 21) 0 ≡ o.extra.ranged
  zero₂ : get_or d.objects (12 * i + 22) 0 ≡ o.extra.low
  zero₃ : get_or d.objects (12 * i + 23) 0 ≡ o.extra.high
  text : take (length o.name) (drop b d.bytes) ≡ o.name
  values : ValsThere d o.values v (b + length o.name) (all_slots (b + size o) os ++ x) (all_words os ++ y) (all_bytes os ++ z)
  rest : ObjsThere d os (suc i) (v + used o) (b + size o) w x y z

obj_there : (d : Dict) (o : Obj) (os : List Obj) (i v b : ℕ) {w x y z : List ℕ} → ObjsThere d (o ∷ os) i v b w x y z → ObjThere d o os i v b w x y z
unfolding rows_of all_slots all_words all_bytes
obj_there d o os i v b {w} {x} {y} {z} t =
    let q = 12 * i + 12 in
    let e : drop b d.bytes ≡ o.name ++ (rooms o.values ++ (all_bytes os ++ z)) = t.bytes ∙ append_assoc (bytes_of o) (all_bytes os) z ∙ append_assoc o.name (rooms o.values) (all_bytes os ++ z) in
    let f : drop b d.bytes ≡ bytes_of o ++ (all_bytes os ++ z) = t.bytes ∙ append_assoc (bytes_of o) (all_bytes os) z in
    let g : drop (3 * v) d.slots ≡ slots_of (b + length o.name) o.values ++ (all_slots (b + size o) os ++ x) = t.slots ∙ append_assoc (slots_of (b + length o.name) o.values) (all_slots (b + size o) os) x in
    let h : drop v d.words ≡ words_of o.values ++ (all_words os ++ y) = t.words ∙ append_assoc (words_of o.values) (all_words os) y in
    record {
      index = cell d.objects _ q 0 (12 * i + 12) t.rows (omega arith);
      kind = cell d.objects _ q 1 (12 * i + 13) t.rows (omega arith);
      access = cell d.objects _ q 2 (12 * i + 14) t.rows (omega arith);
      count = cell d.objects _ q 3 (12 * i + 15) t.rows (omega arith);
      first = cell d.objects _ q 4 (12 * i + 16) t.rows (omega arith);
      name = cell d.objects _ q 5 (12 * i + 17) t.rows (omega arith);
      len = cell d.objects _ q 6 (12 * i + 18) t.rows (omega arith);
      flag = cell d.objects _ q 7 (12 * i + 19) t.rows (omega arith);
      zero₀ = cell d.objects _ q 8 (12 * i + 20) t.rows (omega arith);
      zero₁ = cell d.objects _ q 9 (12 * i + 21) t.rows (omega arith);
      zero₂ = cell d.objects _ q 10 (12 * i + 22) t.rows (omega arith);
      zero₃ = cell d.objects _ q 11 (12 * i + 23) t.rows (omega arith);
      text = front d.bytes o.name (rooms o.values ++ (all_bytes os ++ z)) b (length o.name) b e refl refl;
      values = record { slots = g; words = h; bytes = behind d.bytes o.name (rooms o.values ++ (all_bytes os ++ z)) b (b + length o.name) e refl };
      rest = record {
        rows = further d.objects _ q 12 (12 * suc i + 12) t.rows (omega arith);
        slots = behind d.slots (slots_of (b + length o.name) o.values) (all_slots (b + size o) os ++ x) (3 * v) (3 * (v + used o)) g (omega (arith, length-slots_of (b + length o.name) o.values));
        words = behind d.words (words_of o.values) (all_words os ++ y) v (v + used o) h (omega (arith, length-words_of o.values));
        bytes = behind d.bytes (bytes_of o) (all_bytes os ++ z) b (b + size o) f refl;
      };
    }

-- the rules of the first object, and of the others
pub record FirstOk (low : ℕ) (o : Obj) (os : List Obj) : Type 0 where
  pub rises : leb low o.index ≡ true
  pub head : head_ok o.index o.kind o.access (used o - o.default) o.default (length o.name) ≡ true
  pub flag : o.default ≤ used o
  pub text : is_good (judge o.name) ≡ true
  pub extra : extra_ok (used o - o.default) o.extra ≡ true
  pub values : vals_ok (used o - o.default) o.values ≡ true
  pub rest : objs_ok (o.index + 1) os ≡ true

pub first_ok : (low : ℕ) (o : Obj) (os : List Obj) → objs_ok low (o ∷ os) ≡ true → FirstOk low o os
unfolding objs_ok
first_ok low o os e =
    let x = and_true _ _ e in
    let y = and_true _ _ x.1 in
    let a = and_true _ _ y.0 in
    let b = and_true _ _ a.1 in
    let c = and_true _ _ b.1 in
    let g = and_true _ _ c.1 in
    record { rises = x.0; head = a.0; flag = leb-true _ _ b.0; text = c.0; extra = g.0; values = g.1; rest = y.1 }

objs_back : (d : Dict) (os : List Obj) (i v b low : ℕ) {w x y z : List ℕ} → ObjsThere d os i v b w x y z → objs_ok low os ≡ true → objs_from d (length os) i ≡ os
unfolding objs_from
objs_back d [] i v b low t g = refl
objs_back d (o ∷ os) i v b low t g =
    let h = obj_there d o os i v b t in
    let k = first_ok low o os g in
    let c : (used o - o.default) + o.default ≡ used o = omega (arith, k.flag) in
    let r = objs_back d os (suc i) (v + used o) (b + size o) (o.index + 1) h.rest k.rest in
    rw (h.index, h.kind, h.access, h.count, h.first, h.name, h.len, h.flag, h.zero₀, h.zero₁, h.zero₂, h.zero₃, h.text, c, vals_back d o.values v (b + length o.name) h.values, r)

rows_right : (d : Dict) (os : List Obj) (i v b low : ℕ) {w x y z : List ℕ} → ObjsThere d os i v b w x y z → objs_ok low os ≡ true
    → v + length (all_words os) ≤ values_of d.objects → b + length (all_bytes os) ≤ used_of d.objects
    → rows_from d (length os) i v b low ≡ Some (v + length (all_words os), b + length (all_bytes os))
unfolding rows_from row_ok row_fits all_words all_bytes
rows_right d [] i v b low t g m n = rw (add-zero, add-zero)
rows_right d (o ∷ os) i v b low t g m n =
    let h = obj_there d o os i v b t in
    let k = first_ok low o os g in
    let c : (used o - o.default) + o.default ≡ used o = omega (arith, k.flag) in
    let lw = length-append (words_of o.values) (all_words os) in
    let lv = length-words_of o.values in
    let lb = length-append (bytes_of o) (all_bytes os) in
    let ln = length-append o.name (rooms o.values) in
    let r = rows_right d os (suc i) (v + used o) (b + size o) (o.index + 1) h.rest k.rest (omega arith) (omega arith) in
    let s = slots_right d (used o - o.default) o.values v (b + length o.name) h.values k.values (omega arith) in
    let e₁ : eqb v v ≡ true = eq-eqb v v refl in
    let e₂ : eqb b b ≡ true = eq-eqb b b refl in
    let e₃ : leb (used o) (values_of d.objects - v) ≡ true = le-leb (used o) (values_of d.objects - v) (omega arith) in
    let e₄ : leb (length o.name) (used_of d.objects - b) ≡ true = le-leb (length o.name) (used_of d.objects - b) (omega arith) in
    let f₁ : (v + used o) + length (all_words os) ≡ v + length (words_of o.values ++ all_words os) = omega arith in
    let f₂ : (b + size o) + length (all_bytes os) ≡ b + length (bytes_of o ++ all_bytes os) = omega arith in
    let f₃ : (b + length o.name) + length (rooms o.values) ≡ b + size o = omega arith in
    rw (h.index, h.kind, h.access, h.count, h.first, h.name, h.len, h.flag, h.zero₀, h.zero₁, h.zero₂, h.zero₃, k.rises, k.head, k.extra, e₁, e₂, c, e₃, e₄, h.text, k.text, s, f₃)
    (rw (f₁, f₂) at r)

-- ---- the whole memory
long : (s l : List ℕ) → over s 0 l ≡ s → length l ≤ length s
long s l e = omega (arith, ap length (begins s l e), length-append l (drop (length l) s))

all_there : (os : List Obj) (d : Dict) → Lies os d → ObjsThere d os 0 0 0 (drop (length (all_objects (edition_of d.objects) os)) d.objects) (drop (length (all_slots 0 os)) d.slots) (drop (length (all_words os)) d.words) (drop (length (all_bytes os)) d.bytes)
all_there os d l =
    record {
      rows = ap (drop 12) (begins d.objects (all_objects (edition_of d.objects) os) l.objects);
      slots = begins d.slots (all_slots 0 os) l.slots;
      words = begins d.words (all_words os) l.words;
      bytes = begins d.bytes (all_bytes os) l.bytes;
    }

-- the objects that a layout was made of are read back
pub read_back : (os : List Obj) (d : Dict) → Lies os d → objs_ok 0 os ≡ true → model_of d ≡ os
read_back os d l g = rw (totals (edition_of d.objects) os d.objects l.objects).number (objs_back d os 0 0 0 0 (all_there os d l) g)

rest_right : (os : List Obj) (s : List ℕ) → over s 0 (all_objects (edition_of s) os) ≡ s → is_edition (edition_of s) ≡ true → reserved s ≡ true
unfolding over reserved
rest_right os s e g = sym (ap reserved e) ∙ rw g

header_right : (os : List Obj) (d : Dict) → Lies os d → is_edition (edition_of d.objects) ≡ true → Few os → header_ok d ≡ true
unfolding header_ok
header_right os d l v f =
    let t = totals (edition_of d.objects) os d.objects l.objects in
    let r = rest_right os d.objects l.objects v in
    let lo : 12 * length os + 12 ≤ length d.objects = omega (arith, long d.objects (all_objects (edition_of d.objects) os) l.objects, length-append (header (edition_of d.objects) os) (rows_of 0 0 os), length_rows 0 0 os) in
    let ls : 3 * length (all_words os) ≤ length d.slots = omega (arith, long d.slots (all_slots 0 os) l.slots, length_slots 0 os) in
    let lw = long d.words (all_words os) l.words in
    let lb = long d.bytes (all_bytes os) l.bytes in
    let e₁ : leb (length os) 1024 ≡ true = le-leb _ _ f.objects in
    let e₂ : leb (12 * length os + 12) (length d.objects) ≡ true = le-leb _ _ lo in
    let e₃ : leb (length (all_words os)) 6144 ≡ true = le-leb _ _ f.values in
    let e₄ : leb (3 * length (all_words os)) (length d.slots) ≡ true = le-leb _ _ ls in
    let e₅ : leb (length (all_words os)) (length d.words) ≡ true = le-leb _ _ lw in
    let e₆ : leb (length (all_bytes os)) 32768 ≡ true = le-leb _ _ f.bytes in
    let e₇ : leb (length (all_bytes os)) (length d.bytes) ≡ true = le-leb _ _ lb in
    rw (t.number, t.values, t.bytes, e₁, e₂, e₃, e₄, e₅, e₆, e₇, r)

pub complete : (os : List Obj) (d : Dict) → is_edition (edition_of d.objects) ≡ true → Lies os d → objs_ok 0 os ≡ true → Few os → well_formed d ≡ true
unfolding well_formed
complete os d v l g f =
    let t = totals (edition_of d.objects) os d.objects l.objects in
    let e₁ : eqb (length (all_words os)) (length (all_words os)) ≡ true = eq-eqb (length (all_words os)) (length (all_words os)) refl in
    let e₂ : eqb (length (all_bytes os)) (length (all_bytes os)) ≡ true = eq-eqb (length (all_bytes os)) (length (all_bytes os)) refl in
    let r = rows_right d os 0 0 0 0 (all_there os d l) g (omega (arith, t.values)) (omega (arith, t.bytes)) in
    rw (header_right os d l v f, t.number, t.values, t.bytes, r, zero-add (length (all_words os)), zero-add (length (all_bytes os)), e₁, e₂)

-- the one pass passes exactly what is sound
pub well_formed_lem : (d : Dict) → Sound d → well_formed d ≡ true
well_formed_lem d s = complete (model_of d) d s.edition s.lies s.good s.few
