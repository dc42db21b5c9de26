-- Where a write puts a value, the value is of its type and fits its room; so a write keeps a dictionary well-formed.
-- Assumes nothing.
use Rattle.std.specs.Prelude.{Option, Some, None, Result, Ok, Err}
use mathlib.Core.Path.{◌≡◌, refl, sym, ap, ◌∙◌}
use mathlib.Core.Bool.{Bool, true, false, cond, ◌&&◌, ◌||◌}
use mathlib.Core.List.{List}
use Prim.Native.Nat.{ℕ, ◌≤◌}
use native.Mathlib.Omega.{arith}
use borrow.Author.Tests.{eqb-true, ltb-false}
use lib.Dec.{eqb, ltb}
use lib.ListN.{length, get_or}
use Rattle.lists.specs.Numbers.{number, Bytes}
use Rattle.answers.specs.declared.Refusal.{Refusal}
use Rattle.answers.specs.declared.Refusal.TheVariants.{ReadOnly, TypeMismatch, TooLong, OutOfRange, CountNotWritable}
use Rattle.value.specs.Codec.{is_text, exact}
use Rattle.value.proofs.CodecLaws.{word_in, exact_facts}
use Rattle.entry.specs.declared.Extra.{Extra}
use Rattle.entry.specs.Table.{Dict, edition_of, access_at, extra_at, type_at, room_at, is_mapping}
use Rattle.entry.specs.Find.{find_row, sub_at, place_of, or_no_sub, on_row}
use Rattle.entry.specs.Judge.{well_formed}
use Rattle.entry.specs.declared.Place.{Place}
use Rattle.entry.specs.declared.Place.TheVariants.{Count, Value}
use Rattle.entry.proofs.ValueLaws.{ValueFacts, element_of_lem, element_facts}
use Rattle.entry.proofs.KeepLaws.{Fits, put_element}
use Rattle.writing.specs.declared.Act.{Act}
use Rattle.writing.specs.declared.Act.TheVariants.{Put, Accepted, Keep, Save, Restore}
use Rattle.writing.specs.declared.WriteFault.{WriteFault}
use Rattle.writing.specs.Judging.{outside, at_value, keep_of, in_place, in_object, judge_of}
use Rattle.writing.specs.Writing.{written_in, write_act_of, write_of}
use Rattle.rows.proofs.KeptLaws.{kept_well_formed}
use Rattle.writing.proofs.ReachLaws.{reached}
use Rattle.writing.proofs.CountLaws.{judged_keep}

-- ---- what a put comes from
pub record Placed (d : Dict) (x sub t : ℕ) (s : List ℕ) (p : ℕ) : Type 0 where
  pub place : place_of d.objects x sub ≡ Ok (Value p)
  pub typed : type_at d.slots p ≡ t
  pub room : is_text t ≡ true → length s ≤ room_at d.slots p
  pub row : ℕ
  pub found : find_row d.objects x ≡ Some row
  pub inside : outside (extra_at d.objects row) t (number s) ≡ false

record PutAt (slots : List ℕ) (x : Extra) (q t : ℕ) (s : List ℕ) (p : ℕ) : Type 0 where
  same : q ≡ p
  typed : type_at slots q ≡ t
  inside : outside x t (number s) ≡ false
  room : is_text t ≡ true → length s ≤ room_at slots q

value-placed : (slots : List ℕ) (x : Extra) (q t : ℕ) (s : List ℕ) (p : ℕ) → at_value slots x q t s ≡ Ok (Put p) → PutAt slots x q t s p
unfolding at_value
value-placed slots x q t s p e = typed (eqb (type_at slots q) t) refl e
  where
    roomy : (b : Bool) → (is_text t && ltb (room_at slots q) (length s)) ≡ b → ◌≡◌ {A = Result Act Refusal} (cond b (Err TooLong) (Ok (Put q))) (Ok (Put p)) → outside x t (number s) ≡ false → type_at slots q ≡ t → PutAt slots x q t s p
    roomy true h e o k = let z : ◌≡◌ {A = ℕ} 0 1 = cc in absurd (omega arith)
    roomy false h e o k = record { same = cc; typed = k; inside = o; room = λ i. ltb-false (room_at slots q) (length s) (sym (ap (λ b. b && ltb (room_at slots q) (length s)) i) ∙ h) }

    within : (b : Bool) → outside x t (number s) ≡ b → ◌≡◌ {A = Result Act Refusal} (cond b (Err OutOfRange) (cond (is_text t && ltb (room_at slots q) (length s)) (Err TooLong) (Ok (Put q)))) (Ok (Put p)) → type_at slots q ≡ t → PutAt slots x q t s p
    within true h e k = let z : ◌≡◌ {A = ℕ} 0 1 = cc in absurd (omega arith)
    within false h e k = roomy (is_text t && ltb (room_at slots q) (length s)) refl e h k

    typed : (b : Bool) → eqb (type_at slots q) t ≡ b → ◌≡◌ {A = Result Act Refusal} (cond b (cond (outside x t (number s)) (Err OutOfRange) (cond (is_text t && ltb (room_at slots q) (length s)) (Err TooLong) (Ok (Put q)))) (Err TypeMismatch)) (Ok (Put p)) → PutAt slots x q t s p
    typed true h e = within (outside x t (number s)) refl e (eqb-true _ _ h)
    typed false h e = let z : ◌≡◌ {A = ℕ} 0 1 = cc in absurd (omega arith)

object-placed : (d : Dict) (x sub t : ℕ) (s : List ℕ) (p : ℕ) → in_object d x sub t s (find_row d.objects x) ≡ Ok (Put p) → Placed d x sub t s p
unfolding keep_of
object-placed d x sub t s p e = row (find_row d.objects x) refl e
  where
    counted : (a b : Bool) (i n : ℕ) → ◌≡◌ {A = Result Act Refusal} (cond a (Ok (cond b (Keep i n) Accepted)) (Err CountNotWritable)) (Ok (Put p)) → Placed d x sub t s p
    counted true true i n e = let z : ◌≡◌ {A = ℕ} 0 1 = cc in absurd (omega arith)
    counted true false i n e = let z : ◌≡◌ {A = ℕ} 0 1 = cc in absurd (omega arith)
    counted false b i n e = let z : ◌≡◌ {A = ℕ} 0 1 = cc in absurd (omega arith)

    place : (i : ℕ) → find_row d.objects x ≡ Some i → (q : Option Place) → place_of d.objects x sub ≡ or_no_sub q → in_place d i x t s q ≡ Ok (Put p) → Placed d x sub t s p
    place i f None h e = let z : ◌≡◌ {A = ℕ} 0 1 = cc in absurd (omega arith)
    place i f (Some (Count n)) h e = counted (is_mapping x) (eqb (edition_of d.objects) 2) i (get_or s 0 0) e
    place i f (Some (Value q)) h e =
        let v = value-placed d.slots (extra_at d.objects i) q t s p e in
        record { place = h ∙ ap (λ p. Ok (Value p)) v.same; typed = sym (ap (type_at d.slots) v.same) ∙ v.typed; room = rw v.same at v.room; row = i; found = f; inside = v.inside }

    allowed : (i : ℕ) → find_row d.objects x ≡ Some i → (b : Bool) → cond b (Err ReadOnly) (in_place d i x t s (sub_at d.objects i sub)) ≡ Ok (Put p) → Placed d x sub t s p
    allowed i f true e = let z : ◌≡◌ {A = ℕ} 0 1 = cc in absurd (omega arith)
    allowed i f false e = place i f (sub_at d.objects i sub) (ap (on_row d.objects sub) f) e

    row : (f : Option ℕ) → find_row d.objects x ≡ f → in_object d x sub t s f ≡ Ok (Put p) → Placed d x sub t s p
    row (Some i) f e = allowed i f (eqb (access_at d.objects i) 0 || eqb (access_at d.objects i) 5) e
    row None f e = let z : ◌≡◌ {A = ℕ} 0 1 = cc in absurd (omega arith)

pub judged_put : (d : Dict) (n x sub t : ℕ) (s : List ℕ) (p : ℕ) → judge_of d n x sub t s ≡ Ok (Put p) → (exact t s ≡ true) × Placed d x sub t s p
judged_put d n x sub t s p e = let r = reached d n x sub t s (Put p) tt e in (r.exactly, object-placed d x sub t s p r.object)

-- so it fits
pub judged_fits : (d : Dict) (n x sub t : ℕ) (s : List ℕ) (p : ℕ) → judge_of d n x sub t s ≡ Ok (Put p) → Fits d p s (word_in t s)
judged_fits d n x sub t s p e =
    let j = judged_put d n x sub t s p e in
    let k = j.1.typed in
    record { taken = rw k (exact_facts t s j.0).taken; room = λ h. j.1.room (sym (ap is_text k) ∙ h) }

-- and its facts are those of an element
pub judged_facts : (d : Dict) → well_formed d ≡ true → (n x sub t : ℕ) (s : List ℕ) (p : ℕ) → judge_of d n x sub t s ≡ Ok (Put p) → ValueFacts d p
judged_facts d w n x sub t s p e = element_facts d w (element_of_lem d w x sub p (judged_put d n x sub t s p e).1.place)

-- ---- the theorem: whatever is written, and whatever is answered
pub write_keeps : (d : Dict) (store : List ℕ) (x sub t : ℕ) (s : List ℕ) → well_formed d ≡ true → Bytes s → well_formed (written_in d (write_of d store x sub t s)) ≡ true
unfolding write_of write_act_of
write_keeps d store x sub t s e b = rw e (go (judge_of d (length store) x sub t s) refl)
  where
    go : (j : Result Act WriteFault) → judge_of d (length store) x sub t s ≡ j → well_formed (written_in d (write_act_of d store sub s j)) ≡ true
    go (Ok (Put p)) q = put_element d s e (element_of_lem d e x sub p (judged_put d (length store) x sub t s p q).1.place) b (word_in t s) (judged_fits d (length store) x sub t s p q)
    go (Ok Accepted) q = e
    go (Ok (Keep i n)) q = let k = judged_keep d e (length store) x sub t s i n q in kept_well_formed d i n e k.below k.few
    go (Ok Save) q = e
    go (Ok Restore) q = e
    go (Err f) q = e
