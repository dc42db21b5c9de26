-- The check of a channel and the explanation of an element, on rows that are alike.
-- Assumes nothing.
use Rattle.std.specs.Prelude.{Option, Some, None}
use Prim.Native.Nat.{ℕ, ◌+◌}
use mathlib.Core.Path.{◌≡◌, refl}
use mathlib.Core.List.{List, [], ◌∷◌}
use lib.ListN.{get_or}
use Rattle.mapping.specs.Word.{entry_of}
use Rattle.entry.specs.Table.{dict, first_at}
use Rattle.entry.specs.Find.{find_row, sub_at}
use Rattle.entry.specs.declared.Place.{Place}
use Rattle.entry.specs.declared.Place.TheVariants.{Count, Value}
use Rattle.pdo_channel.specs.Channel.{u8_at, comm_index, sender_for}
use Rattle.pdo_run.specs.Run.{list_in}
use Rattle.element.specs.Explain.{of_place, of_list}
use Rattle.element.specs.Elements.{word_verdict}
use Rattle.channel.specs.declared.Checked.{Checked}
use Rattle.channel.specs.Check.{fault_from, last_of, on_list, has_sender}
use Rattle.editions.proofs.SharedLaws.{u8_same, match_same}
use Rattle.ranges.specs.Alike.{Alike}
use Rattle.entry.proofs.SameLaws.{kind-same, first_same, row_same}
use Rattle.ranges.proofs.RowLaws.{list_same, sub_same, place_same}

verdict_same : {a b : List ℕ} → Alike a b → (s : List ℕ) (w : ℕ) → word_verdict a s w ≡ word_verdict b s w
unfolding word_verdict
verdict_same h s w = rw (place_same h (entry_of w).index (entry_of w).sub_index) refl

fault_same : {a b : List ℕ} → Alike a b → (s : List ℕ) (p : ℕ) (ws : List ℕ) (j : ℕ) (last : Checked) → fault_from a s p ws j last ≡ fault_from b s p ws j last
unfolding fault_from
fault_same h s p [] j last = refl
fault_same h s p (w ∷ ws) j last = rw (verdict_same h s w) (rw (fault_same h s p ws (j + 1) last) refl)

on_list_same : {a b : List ℕ} → Alike a b → (s w y : List ℕ) (f : Option ℕ) → on_list (dict a s w y) f ≡ on_list (dict b s w y) f
on_list_same h s w y None = refl
on_list_same {a} {b} h s w y (Some r) =
    rw (kind-same h.rows r)
    (rw (list_same h r) (rw (first_same h.rows r) (rw (fault_same h s (first_at b r) (list_in b w r) 0 (last_of (dict b s w y) r)) refl)))

has_sender_same : {a b : List ℕ} → Alike a b → (s w y : List ℕ) (i : ℕ) (f : Option ℕ) → has_sender (dict a s w y) i f ≡ has_sender (dict b s w y) i f
has_sender_same h s w y i (Some v) = rw (match_same h.rows s w y (sender_for v)) refl
has_sender_same h s w y i None = refl

pub sender_same : {a b : List ℕ} → Alike a b → (s w y : List ℕ) (i : ℕ)
    → has_sender (dict a s w y) i (u8_at (dict a s w y) (comm_index i) 1) ≡ has_sender (dict b s w y) i (u8_at (dict b s w y) (comm_index i) 1)
sender_same {a} {b} h s w y i = rw (u8_same h.rows s w y (comm_index i) 1) (has_sender_same h s w y i (u8_at (dict b s w y) (comm_index i) 1))

pub checked_list_same : {a b : List ℕ} → Alike a b → (s w y : List ℕ) (x : ℕ) → on_list (dict a s w y) (find_row a x) ≡ on_list (dict b s w y) (find_row b x)
checked_list_same {a} {b} h s w y x = rw (row_same h.rows x) (on_list_same h s w y (find_row b x))

-- ---- explaining
of_place-same : {a b : List ℕ} → Alike a b → (s w y : List ℕ) (q : Option Place) → of_place (dict a s w y) q ≡ of_place (dict b s w y) q
of_place-same h s w y None = refl
of_place-same h s w y (Some (Count n)) = refl
of_place-same h s w y (Some (Value p)) = let e = entry_of (get_or w p 0) in rw (place_same h e.index e.sub_index) refl

of_list_same : {a b : List ℕ} → Alike a b → (s w y : List ℕ) (k : ℕ) (f : Option ℕ) → of_list (dict a s w y) k f ≡ of_list (dict b s w y) k f
of_list_same h s w y k None = refl
of_list_same {a} {b} h s w y k (Some r) = rw (kind-same h.rows r) (rw (sub_same h r k) (rw (of_place-same h s w y (sub_at b r k)) refl))

pub explained_same : {a b : List ℕ} → Alike a b → (s w y : List ℕ) (k x : ℕ) → of_list (dict a s w y) k (find_row a x) ≡ of_list (dict b s w y) k (find_row b x)
explained_same {a} {b} h s w y k x = rw (row_same h.rows x) (of_list_same h s w y k (find_row b x))
