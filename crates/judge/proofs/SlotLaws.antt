-- The slots of one object: where at most the last of them is a default's, they are walked with no count of elements, and the default is
-- judged at the end.
-- Assumes nothing.
use Rattle.std.specs.Prelude.{Option, Some, None}
use mathlib.Core.Path.{◌≡◌, refl, ap, ◌∙◌}
use mathlib.Core.Bool.{Bool, true, false, cond, ◌&&◌}
use Prim.Native.Nat.{ℕ, zero, suc, ◌+◌, ◌-◌, ◌<◌, ◌≤◌}
use native.Mathlib.Nat.{add-zero}
use native.Mathlib.Omega.{arith}
use native.Mathlib.Decide.{dec_lt}
use borrow.Author.Tests.{lt-ltb, leb-true}
use lib.Dec.{eqb, leb}
use lib.ListN.{drop, get_or}
use Rattle.entry.specs.Table.{Dict, used_of, type_at, start_at, room_at}
use Rattle.entry.specs.Rules.{val_ok, tight, held_ok}
use Rattle.entry.specs.Judge.{slot_ok, slots_from}
use Rattle.entry.proofs.JudgeLaws.{and_true}
use Rattle.entry.proofs.WalkLaws.{and_unit}

-- slot p is right as an element's
abbrev pub plain_ok : Dict → ℕ → ℕ → Bool
plain_ok d p b =
    eqb (start_at d.slots p) b && (leb (room_at d.slots p) (used_of d.objects - b) && val_ok (type_at d.slots p) (get_or d.words p 0) (room_at d.slots p) (drop b d.bytes))

-- and has no room but its bytes
abbrev pub tight_at : Dict → ℕ → Bool
tight_at d p = tight (type_at d.slots p) (get_or d.words p 0) (room_at d.slots p)

-- the bytes that lie before the room behind k elements' slots from slot p on
unfoldable pub plain_from : Dict → ℕ → ℕ → ℕ → Option ℕ
plain_from d zero p b = Some b
plain_from d (suc k) p b = cond (plain_ok d p b) (plain_from d k (suc p) (b + room_at d.slots p)) None

-- ---- one turn, and the end
pub plain_step : (d : Dict) (end p b : ℕ) → p < end → plain_from d (end - p) p b ≡ cond (plain_ok d p b) (plain_from d (end - (p + 1)) (p + 1) (b + room_at d.slots p)) None
unfolding plain_from
plain_step d end p b h =
    let e : end - p ≡ suc (end - (p + 1)) = omega arith in
    let q : p + 1 ≡ suc p = omega arith in
    rw (e, q)

pub plain_end : (d : Dict) (k p b : ℕ) → k ≡ 0 → plain_from d k p b ≡ Some b
unfolding plain_from
plain_end d k p b e = rw e

-- ---- one slot
pub plain_within : (d : Dict) (p b : ℕ) → b ≤ used_of d.objects → plain_ok d p b ≡ true → b + room_at d.slots p ≤ used_of d.objects
plain_within d p b h e =
    let v = val_ok (type_at d.slots p) (get_or d.words p 0) (room_at d.slots p) (drop b d.bytes) in
    let i = leb (room_at d.slots p) (used_of d.objects - b) in
    let l : room_at d.slots p ≤ used_of d.objects - b = leb-true _ _ (and_true i v (and_true (eqb (start_at d.slots p) b) (i && v) e).1).0 in
    omega arith

slot_element : (d : Dict) (n p b : ℕ) → 0 < n → slot_ok d n p b ≡ plain_ok d p b
unfolding slot_ok held_ok
slot_element d n p b h = simp (lt-ltb 0 n h, and_unit)

last_and : (x y v t : Bool) → (x && (y && (v && t))) ≡ ((x && (y && v)) && t)
last_and true true v t = refl
last_and true false v t = refl
last_and false y v t = refl

slot_default : (d : Dict) (p b : ℕ) → slot_ok d 0 p b ≡ (plain_ok d p b && tight_at d p)
unfolding slot_ok held_ok
slot_default d p b = last_and (eqb (start_at d.slots p) b) (leb (room_at d.slots p) (used_of d.objects - b)) (val_ok (type_at d.slots p) (get_or d.words p 0) (room_at d.slots p) (drop b d.bytes)) (tight_at d p)

-- ---- all slots are elements'
pub from_elements : (d : Dict) (n k p b : ℕ) → k ≤ n → slots_from d n k p b ≡ plain_from d k p b
unfolding slots_from plain_from
from_elements d n zero p b h = refl
from_elements d n (suc k) p b h =
    rw (slot_element d n p b (omega arith), from_elements d (n - 1) k (suc p) (b + room_at d.slots p) (omega arith))

-- ---- the last one is the default's
both : (x t : Bool) (s : Option ℕ) → cond (x && t) s None ≡ cond t (cond x s None) None
both true true s = refl
both true false s = refl
both false true s = refl
both false false s = refl

swap : (x t : Bool) (s : Option ℕ) → cond x (cond t s None) None ≡ cond t (cond x s None) None
swap true t s = refl
swap false true s = refl
swap false false s = refl

slots_once : (d : Dict) (n k p b : ℕ) → slots_from d n (suc k) p b ≡ cond (slot_ok d n p b) (slots_from d (n - 1) k (suc p) (b + room_at d.slots p)) None
unfolding slots_from
slots_once d n k p b = refl

plain_once : (d : Dict) (k p b : ℕ) → plain_from d (suc k) p b ≡ cond (plain_ok d p b) (plain_from d k (suc p) (b + room_at d.slots p)) None
unfolding plain_from
plain_once d k p b = refl

one_last : (d : Dict) (p b : ℕ) → slots_from d 0 1 p b ≡ cond (tight_at d p) (plain_from d 1 p b) None
unfolding slots_from plain_from
one_last d p b = rw (slot_default d p b) (both (plain_ok d p b) (tight_at d p) (Some (b + room_at d.slots p)))

default_last : (d : Dict) (n p b : ℕ) → slots_from d n (suc n) p b ≡ cond (tight_at d (p + n)) (plain_from d (suc n) p b) None
default_last d zero p b = rw (add-zero p) (one_last d p b)
default_last d (suc n) p b =
    let r = b + room_at d.slots p in
    let e : suc p + n ≡ p + suc n = omega arith in
    let q : suc n - 1 ≡ n = omega arith in
    let t : slots_from d (suc n - 1) (suc n) (suc p) r ≡ cond (tight_at d (p + suc n)) (plain_from d (suc n) (suc p) r) None =
    ap (λ m. slots_from d m (suc n) (suc p) r) q ∙ default_last d n (suc p) r ∙ ap (λ m. cond (tight_at d m) (plain_from d (suc n) (suc p) r) None) e in
    rw (plain_once d (suc n) p b, slots_once d (suc n) (suc n) p b, slot_element d (suc n) p b (omega arith), t)
    (swap (plain_ok d p b) (tight_at d (p + suc n)) (plain_from d (suc n) (suc p) r))

pub from_default : (d : Dict) (n k p b q : ℕ) → n < k → k ≤ n + 1 → q ≡ p + k - 1 → slots_from d n k p b ≡ cond (tight_at d q) (plain_from d k p b) None
from_default d n k p b q h l e =
    let m : k ≡ suc n = omega arith in
    let o : q ≡ p + n = omega arith in
    rw (m, o) (default_last d n p b)

-- ---- and where a slot is wrong
pub from_bad : (d : Dict) (n k p b : ℕ) → k ≤ n + 1 → plain_from d k p b ≡ None → slots_from d n k p b ≡ None
from_bad d n k p b l e = go (dec_lt n k)
  where
    same : (t : Bool) → ◌≡◌ {A = Option ℕ} (cond t None None) None
    same true = refl
    same false = refl

    go : Dec (n < k) → slots_from d n k p b ≡ None
    go (yes h) = from_default d n k p b (p + k - 1) h l refl ∙ ap (λ s. cond (tight_at d (p + k - 1)) s None) e ∙ same (tight_at d (p + k - 1))
    go (no h) = from_elements d n k p b (omega arith) ∙ e
