-- What a well-formed dictionary says of each of its rows and of each of its values.
-- Assumes nothing.
use Rattle.std.specs.Prelude.{Some}
use mathlib.Core.Path.{◌≡◌}
use mathlib.Core.Bool.{true}
use Prim.Native.Nat.{ℕ, zero, suc, ◌+◌, ◌-◌, ◌<◌, ◌≤◌}
use native.Mathlib.Nat.{add-zero, zero-add}
use native.Mathlib.Omega.{arith}
use lib.ListN.{take, drop, get_or}
use Rattle.text.specs.Machine.{judge}
use Rattle.entry.specs.Table.{Dict, extra_at, number_of, values_of, used_of, index_at, kind_at, access_at, count_at, first_at, name_at, name_len_at, default_at, type_at, start_at, room_at}
use Rattle.entry.specs.Rules.{extra_ok, is_good, held_ok, head_ok}
use Rattle.entry.specs.Judge.{slot_ok, slots_from, used_at, row_ok, row_fits, rows_from, header_ok, well_formed}
use Rattle.entry.proofs.JudgeLaws.{RowOk, RowFits, by_judge, by_slot, by_row, slot_ok_lem, row_ok_lem, row_fits_lem}
use Rattle.entry.proofs.WalkLaws.{slots_upto}

-- a value where n elements are left
pub record SlotFacts (d : Dict) (n p : ℕ) : Type 0 where
  pub within : start_at d.slots p + room_at d.slots p ≤ used_of d.objects
  pub held : held_ok n (type_at d.slots p) (get_or d.words p 0) (room_at d.slots p) (drop (start_at d.slots p) d.bytes) ≡ true

slots_each : (d : Dict) (n k p b e : ℕ) → b ≤ used_of d.objects → slots_from d n k p b ≡ Some e → (j : ℕ) → j < k → SlotFacts d (n - j) (p + j)
unfolding slots_from
slots_each d n zero p b e h q j l = absurd (omega arith)
slots_each d n (suc k) p b e h q zero l =
    let z = by_slot (slot_ok d n p b) (slots_from d (n - 1) k (suc p) (b + room_at d.slots p)) q in
    let o = slot_ok_lem d n p b h z.0 in
    let m : n - 0 ≡ n = omega arith in
    rw (add-zero, m) (record { within = omega (arith, o.start, o.within); held = rw o.start o.val })
slots_each d n (suc k) p b e h q (suc j) l =
    let z = by_slot (slot_ok d n p b) (slots_from d (n - 1) k (suc p) (b + room_at d.slots p)) q in
    let o = slot_ok_lem d n p b h z.0 in
    let f : p + suc j ≡ suc p + j = omega arith in
    let g : n - suc j ≡ n - 1 - j = omega arith in
    rw (f, g) (slots_each d (n - 1) k (suc p) (b + room_at d.slots p) e o.within z.1 j (omega arith))

-- a row
pub record RowFacts (d : Dict) (i : ℕ) : Type 0 where
  pub head : head_ok (index_at d.objects i) (kind_at d.objects i) (access_at d.objects i) (count_at d.objects i) (default_at d.objects i) (name_len_at d.objects i) ≡ true
  pub extra : extra_ok (count_at d.objects i) (extra_at d.objects i) ≡ true
  pub values : first_at d.objects i + used_at d.objects i ≤ values_of d.objects
  pub bytes : name_at d.objects i + name_len_at d.objects i ≤ used_of d.objects
  pub text : is_good (judge (take (name_len_at d.objects i) (drop (name_at d.objects i) d.bytes))) ≡ true
  pub slot : (j : ℕ) → j < used_at d.objects i → SlotFacts d (count_at d.objects i - j) (first_at d.objects i + j)

rows_each : (d : Dict) (k i v b low v' b' : ℕ) → v ≤ values_of d.objects → b ≤ used_of d.objects → rows_from d k i v b low ≡ Some (v', b') → (j : ℕ) → j < k → RowFacts d (i + j)
unfolding rows_from
rows_each d zero i v b low v' b' hv hb q j l = absurd (omega arith)
rows_each d (suc k) i v b low v' b' hv hb q j l =
    let u = used_at d.objects i in
    let c = count_at d.objects i in
    let x = by_row (row_ok d.objects i v b low) (row_fits d.objects d.bytes i v b) (slots_from d c u v (b + name_len_at d.objects i)) _ v' b' q in
    let r = row_ok_lem d i v b low x.1 in
    let f = row_fits_lem d i v b hv hb x.2 in
    let e = slots_upto d c u v (b + name_len_at d.objects i) x.0 f.bytes x.3 in
    go j l r f (slots_each d c u v (b + name_len_at d.objects i) x.0 f.bytes x.3) (λ m w. rows_each d k (suc i) (v + u) x.0 (index_at d.objects i + 1) v' b' f.values e x.4 m w)
  where
    go : (j : ℕ) → j < suc k → RowOk d i v b low → RowFits d i v b → ((m : ℕ) → m < used_at d.objects i → SlotFacts d (count_at d.objects i - m) (v + m)) → ((m : ℕ) → m < k → RowFacts d (suc i + m)) → RowFacts d (i + j)
    go zero l r f s ih =
        rw add-zero (record {
          head = r.head;
          extra = r.extra;
          values = omega (arith, r.first, f.values);
          bytes = omega (arith, r.name, f.bytes);
          text = rw r.name f.text;
          slot = rw r.first s;
        })
    go (suc j) l r f s ih = let e : i + suc j ≡ suc i + j = omega arith in rw e (ih j (omega arith))

pub row_facts : (d : Dict) → well_formed d ≡ true → (i : ℕ) → i < number_of d.objects → RowFacts d i
unfolding well_formed
row_facts d e i h =
    let j = by_judge (header_ok d) (values_of d.objects) (used_of d.objects) (rows_from d (number_of d.objects) 0 0 0 0) e in
    rw zero-add at (rows_each d (number_of d.objects) 0 0 0 0 (values_of d.objects) (used_of d.objects) (omega arith) (omega arith) j.1 i h)
