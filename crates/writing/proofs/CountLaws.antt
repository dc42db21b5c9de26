-- Where a write keeps a count: in edition 2, of a mapping's row, and no more than its elements. Assumes nothing.
use Rattle.std.specs.Prelude.{Option, Some, None, Result, Ok, Err}
use mathlib.Core.Path.{◌≡◌, refl, sym, ap, ◌∙◌}
use mathlib.Core.Bool.{Bool, true, false, cond, not, ◌&&◌, ◌||◌}
use mathlib.Core.List.{List}
use Prim.Native.Nat.{ℕ, ◌+◌, ◌-◌, ◌<◌, ◌≤◌}
use native.Mathlib.Omega.{arith}
use borrow.Author.Tests.{eqb-true, leb-true}
use lib.Dec.{eqb, leb, ltb}
use lib.ListN.{length, get_or}
use Rattle.lists.specs.Numbers.{number}
use Rattle.answers.specs.declared.Refusal.{Refusal}
use Rattle.answers.specs.declared.Refusal.TheVariants.{ObjectNotFound, MissingEntries, ReadOnly, TypeMismatch, TooLong, OutOfRange, CountNotWritable}
use Rattle.value.specs.Codec.{is_text}
use Rattle.entry.specs.declared.Extra.{Extra}
use Rattle.entry.specs.Table.{Dict, edition_of, is_mapping, number_of, kind_at, access_at, count_at, list_count, first_at, extra_at, type_at, room_at}
use Rattle.entry.specs.Find.{find_row, sub_at}
use Rattle.entry.specs.Judge.{well_formed}
use Rattle.entry.specs.declared.Place.{Place}
use Rattle.entry.specs.declared.Place.TheVariants.{Count, Value}
use Rattle.entry.proofs.ValueLaws.{found_lies}
use Rattle.pdo_validator.specs.Counting.{limit_of, ends_from, within_limit, count_on, count_of}
use Rattle.writing.specs.declared.Act.{Act}
use Rattle.writing.specs.declared.Act.TheVariants.{Put, Accepted, Keep}
use Rattle.writing.specs.Judging.{outside, at_value, keep_of, in_place, in_object, count_first, judge_of}
use Rattle.writing.proofs.ReachLaws.{reached}

-- what a kept count comes from
pub record Counted (d : Dict) (x sub : ℕ) (s : List ℕ) (i n : ℕ) : Type 0 where
  pub found : find_row d.objects x ≡ Some i
  pub number : n ≡ get_or s 0 0
  pub edition : eqb (edition_of d.objects) 2 ≡ true
  pub mapping : is_mapping x ≡ true
  pub count : eqb sub 0 ≡ true

sub-count : (objects : List ℕ) (i sub m : ℕ) → sub_at objects i sub ≡ Some (Count m) → eqb sub 0 ≡ true
unfolding sub_at
sub-count objects i sub m e = go (eqb (kind_at objects i) 0) (eqb sub 0) (leb sub (count_at objects i)) e
  where
    go : (k b l : Bool) → cond k (cond b (Some (Value (first_at objects i))) None) (cond b (Some (Count (list_count objects i))) (cond l (Some (Value (first_at objects i + (sub - 1)))) None)) ≡ Some (Count m) → b ≡ true
    go true true l e = refl
    go true false l e = let z : ◌≡◌ {A = ℕ} 0 1 = cc in absurd (omega arith)
    go false true l e = refl
    go false false true e = let z : ◌≡◌ {A = ℕ} 0 1 = cc in absurd (omega arith)
    go false false false e = let z : ◌≡◌ {A = ℕ} 0 1 = cc in absurd (omega arith)

-- a count that is right is of no more than the elements
count_fits : (d : Dict) (x n i : ℕ) → is_mapping x ≡ true → find_row d.objects x ≡ Some i → count_of d x n ≡ (Ok tt) → n ≤ count_at d.objects i
unfolding count_of count_on
count_fits d x n i m f e = go (eqb n 0) (is_mapping x) refl m (sym (ap (λ g. cond (eqb n 0 || not (is_mapping x)) (Ok tt) (count_on d x n g)) f) ∙ e)
  where
    on : (k l : Bool) → leb n (count_at d.objects i) ≡ l → cond k (cond l (within_limit (limit_of d x) (ends_from d.slots d.words n (first_at d.objects i) 0)) (Err MissingEntries)) (Err ObjectNotFound) ≡ (Ok tt) → n ≤ count_at d.objects i
    on true true q e = leb-true _ _ q
    on true false q e = let z : ◌≡◌ {A = ℕ} 0 1 = cc in absurd (omega arith)
    on false l q e = let z : ◌≡◌ {A = ℕ} 0 1 = cc in absurd (omega arith)

    go : (a b : Bool) → eqb n 0 ≡ a → b ≡ true → cond (a || not b) (Ok tt) (count_on d x n (Some i)) ≡ (Ok tt) → n ≤ count_at d.objects i
    go true b h m e = omega (arith, eqb-true n 0 h)
    go false true h m e = on (eqb (kind_at d.objects i) 1) (leb n (count_at d.objects i)) refl e
    go false false h m e = let z : ◌≡◌ {A = ℕ} 0 1 = cc in absurd (omega arith)

value_not_kept : (slots : List ℕ) (x : Extra) (q t : ℕ) (s : List ℕ) (i n : ℕ) → at_value slots x q t s ≡ Ok (Keep i n) → ⊥
unfolding at_value
value_not_kept slots x q t s i n e = go (eqb (type_at slots q) t) (outside x t (number s)) (is_text t && ltb (room_at slots q) (length s)) e
  where
    go : (a b c : Bool) → ◌≡◌ {A = Result Act Refusal} (cond a (cond b (Err OutOfRange) (cond c (Err TooLong) (Ok (Put q)))) (Err TypeMismatch)) (Ok (Keep i n)) → ⊥
    go true true c e = let z : ◌≡◌ {A = ℕ} 0 1 = cc in omega arith
    go true false true e = let z : ◌≡◌ {A = ℕ} 0 1 = cc in omega arith
    go true false false e = let z : ◌≡◌ {A = ℕ} 0 1 = cc in omega arith
    go false b c e = let z : ◌≡◌ {A = ℕ} 0 1 = cc in omega arith

object_kept : (d : Dict) (x sub t : ℕ) (s : List ℕ) (i n : ℕ) → in_object d x sub t s (find_row d.objects x) ≡ Ok (Keep i n) → Counted d x sub s i n
unfolding keep_of
object_kept d x sub t s i n e = row (find_row d.objects x) refl e
  where
    counted : (j m : ℕ) → find_row d.objects x ≡ Some j → sub_at d.objects j sub ≡ Some (Count m) → (a b : Bool) → is_mapping x ≡ a → eqb (edition_of d.objects) 2 ≡ b
        → ◌≡◌ {A = Result Act Refusal} (cond a (Ok (cond b (Keep j (get_or s 0 0)) Accepted)) (Err CountNotWritable)) (Ok (Keep i n)) → Counted d x sub s i n
    counted j m f w true true u v e = record { found = f ∙ ap Some (cc e); number = cc e; edition = v; mapping = u; count = sub-count d.objects j sub m w }
    counted j m f w true false u v e = let z : ◌≡◌ {A = ℕ} 0 1 = cc in absurd (omega arith)
    counted j m f w false b u v e = let z : ◌≡◌ {A = ℕ} 0 1 = cc in absurd (omega arith)

    place : (j : ℕ) → find_row d.objects x ≡ Some j → (q : Option Place) → sub_at d.objects j sub ≡ q → in_place d j x t s q ≡ Ok (Keep i n) → Counted d x sub s i n
    place j f None w e = let z : ◌≡◌ {A = ℕ} 0 1 = cc in absurd (omega arith)
    place j f (Some (Count m)) w e = counted j m f w (is_mapping x) (eqb (edition_of d.objects) 2) refl refl e
    place j f (Some (Value q)) w e = absurd (value_not_kept d.slots (extra_at d.objects j) q t s i n e)

    allowed : (j : ℕ) → find_row d.objects x ≡ Some j → (b : Bool) → cond b (Err ReadOnly) (in_place d j x t s (sub_at d.objects j sub)) ≡ Ok (Keep i n) → Counted d x sub s i n
    allowed j f true e = let z : ◌≡◌ {A = ℕ} 0 1 = cc in absurd (omega arith)
    allowed j f false e = place j f (sub_at d.objects j sub) refl e

    row : (f : Option ℕ) → find_row d.objects x ≡ f → in_object d x sub t s f ≡ Ok (Keep i n) → Counted d x sub s i n
    row (Some j) f e = allowed j f (eqb (access_at d.objects j) 0 || eqb (access_at d.objects j) 5) e
    row None f e = let z : ◌≡◌ {A = ℕ} 0 1 = cc in absurd (omega arith)

-- ---- so it is of a row that is there, and of no more than its elements
pub record Keeping (d : Dict) (x sub : ℕ) (s : List ℕ) (i n : ℕ) : Type 0 where
  pub counted : Counted d x sub s i n
  pub below : i < number_of d.objects
  pub few : n ≤ count_at d.objects i

pub judged_keep : (d : Dict) → well_formed d ≡ true → (m x sub t : ℕ) (s : List ℕ) (i n : ℕ) → judge_of d m x sub t s ≡ Ok (Keep i n) → Keeping d x sub s i n
unfolding count_first
judged_keep d w m x sub t s i n e =
    let r = reached d m x sub t s (Keep i n) tt e in
    let k = object_kept d x sub t s i n r.object in
    record { counted = k; below = (found_lies d w x i k.found).below; few = right k (eqb sub 0) (is_mapping x) (eqb t 5) k.count k.mapping r.counts }
  where
    right : Counted d x sub s i n → (a b c : Bool) → a ≡ true → b ≡ true → cond (a && b) (cond c (count_of d x (get_or s 0 0)) (Err TypeMismatch)) (Ok tt) ≡ (Ok tt) → n ≤ count_at d.objects i
    right k true true true p q e = rw k.number (count_fits d x (get_or s 0 0) i k.mapping k.found e)
    right k true true false p q e = let z : ◌≡◌ {A = ℕ} 0 1 = cc in absurd (omega arith)
    right k true false c p q e = let z : ◌≡◌ {A = ℕ} 0 1 = cc in absurd (omega arith)
    right k false b c p q e = let z : ◌≡◌ {A = ℕ} 0 1 = cc in absurd (omega arith)
