-- The judge's walks, one turn at a time, and its header test.
-- Assumes nothing.
use Rattle.std.specs.Prelude.{Some, None}
use mathlib.Core.Path.{◌≡◌, refl}
use mathlib.Core.Bool.{Bool, true, false, cond, ◌&&◌}
use Prim.Native.Nat.{ℕ, zero, suc, ◌+◌, ◌-◌, ◌*◌, ◌<◌, ◌≤◌}
use native.Mathlib.Omega.{arith}
use borrow.Author.Tests.{le-leb, lt-leb}
use lib.Dec.{leb}
use lib.ListN.{length}
use Rattle.entry.specs.Table.{Dict, number_of, values_of, used_of, index_at, count_at, name_len_at, room_at}
use Rattle.entry.specs.Judge.{slot_ok, slots_from, used_at, row_ok, row_fits, and_then, rows_from, reserved, header_ok}
use Rattle.entry.proofs.JudgeLaws.{slot_ok_lem, by_slot}

pub and_unit : (a : Bool) → (a && true) ≡ a
and_unit true = refl
and_unit false = refl

pub and_false : (a : Bool) → (a && false) ≡ false
and_false true = refl
and_false false = refl

-- ---- one turn of the walk over the rows
pub rows_step : (d : Dict) (n i v b low : ℕ) → i < n → rows_from d (n - i) i v b low ≡ cond (row_ok d.objects i v b low) (cond (row_fits d.objects d.bytes i v b) (and_then (slots_from d (count_at d.objects i) (used_at d.objects i) v (b + name_len_at d.objects i)) (λ e. rows_from d (n - (i + 1)) (i + 1) (v + used_at d.objects i) e (index_at d.objects i + 1))) None) None
unfolding rows_from
rows_step d n i v b low h =
    let e : n - i ≡ suc (n - (i + 1)) = omega arith in
    let q : i + 1 ≡ suc i = omega arith in
    rw (e, q)

pub rows_end : (d : Dict) (k i v b low : ℕ) → k ≡ 0 → rows_from d k i v b low ≡ Some (v, b)
unfolding rows_from
rows_end d k i v b low e = rw e

-- where a walk over slots ends
pub slots_upto : (d : Dict) (n k p b e : ℕ) → b ≤ used_of d.objects → slots_from d n k p b ≡ Some e → e ≤ used_of d.objects
unfolding slots_from
slots_upto d n zero p b e h q = let l : b ≡ e = cc in omega arith
slots_upto d n (suc k) p b e h q =
    let z = by_slot (slot_ok d n p b) (slots_from d (n - 1) k (suc p) (b + room_at d.slots p)) q in
    slots_upto d (n - 1) k (suc p) (b + room_at d.slots p) e (slot_ok_lem d n p b h z.0).within z.1

-- ---- the header
pub header_short : (d : Dict) → length d.objects < 12 → header_ok d ≡ false
unfolding header_ok
header_short d h =
    let e : leb (12 * number_of d.objects + 12) (length d.objects) ≡ false = lt-leb (12 * number_of d.objects + 12) (length d.objects) (omega arith) in
    rw e (and_false (leb (number_of d.objects) 1024))

pub header-rest : (d : Dict) → number_of d.objects ≤ 1024 → 12 * number_of d.objects + 12 ≤ length d.objects → values_of d.objects ≤ 6144
    → header_ok d ≡ (leb (3 * values_of d.objects) (length d.slots) && (leb (values_of d.objects) (length d.words) && (leb (used_of d.objects) 32768 && (leb (used_of d.objects) (length d.bytes) && reserved d.objects))))
unfolding header_ok
header-rest d a b c = rw (le-leb _ _ a, le-leb _ _ b, le-leb _ _ c)
