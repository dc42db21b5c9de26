-- Each public call but a restore keeps every object's kind, element count, types and rooms. Assumes nothing.
use Rattle.std.specs.Prelude.{Option, Some, None, Result, Ok, Err}
use Rattle.answers.specs.declared.Refusal.{Refusal}
use mathlib.Core.Path.{◌≡◌, refl, sym, ap, ◌∙◌}
use mathlib.Core.Bool.{Bool, true, false, cond, ◌||◌}
use mathlib.Core.List.{List, [], ◌∷◌}
use Prim.Native.Nat.{ℕ, ◌+◌, ◌<◌}
use native.Mathlib.Omega.{arith}
use borrow.Author.Tests.{eqb-true, eqb-false}
use lib.Dec.{eqb}
use lib.ListN.{length, drop, length-drop}
use lib.Seq.{length-take-le}
use Rattle.entry.specs.Model.{Val, Obj}
use Rattle.entry.specs.Table.{Dict, dict, model_of, val_at, vals_from, obj_at, number_of, kind_at, count_at, first_at, default_at, type_at, start_at, room_at}
use Rattle.entry.specs.Find.{find_row, object_of, object_in, nth}
use Rattle.entry.specs.Judge.{well_formed}
use Rattle.entry.specs.Put.{Contents, contents, filled}
use Rattle.entry.proofs.FindLaws.{value_there}
use Rattle.entry.proofs.JudgeLaws.{length_vals}
use Rattle.entry.proofs.LookupLaws.{lookup_object}
use Rattle.entry.proofs.ValueLaws.{found_lies, value_facts}
use Rattle.given.specs.declared.Head.{Head}
use Rattle.given.specs.Given.{obj_in}
use Rattle.placing.specs.Place.{inserted}
use Rattle.insertion.specs.Insert.{below, taken, answer_of, memory_after, memory_of}
use Rattle.insertion.proofs.AnswerLaws.{done_by, stays, others_stay}
use Rattle.answers.specs.declared.Refusal.TheVariants.{Malformed}
use Rattle.rows.specs.Rows.{kept_in}
use Rattle.rows.proofs.KeptLaws.{kept_rows}
use Rattle.entry.proofs.SameLaws.{kind-same, count_same, first_same, row_same}
use Rattle.writing.specs.declared.Act.{Act}
use Rattle.writing.specs.declared.Act.TheVariants as act
use Rattle.writing.specs.declared.WriteFault.{WriteFault}
use Rattle.writing.specs.declared.WriteFault.TheVariants as write-fault
use Rattle.writing.specs.Judging.{judge_of}
use Rattle.writing.specs.Writing.{after_write, written_in, write_act_of, write_of}
use Rattle.demand.specs.Lasting.{SameRow, Shaped}

-- ---- the same rows and slots
pub filled_shaped : (d : Dict) (c : Contents) → Shaped d (filled d c)
filled_shaped d c x r f = record { row = r; found = f; kind = refl; count = refl; types = λ k h. refl; rooms = λ k h. refl }

-- another count kept in a row: the same rows are found, with the same elements
kept_shaped : (d : Dict) (i n : ℕ) → Shaped d (dict (kept_in i n d.objects) d.slots d.words d.bytes)
kept_shaped d i n x r f =
    let s = kept_rows i n d.objects in
    let p = first_same s r in
    record {
      row = r;
      found = row_same s x ∙ f;
      kind = kind-same s r;
      count = count_same s r;
      types = λ k h. ap (λ q. type_at d.slots (q + k)) p;
      rooms = λ k h. ap (λ q. room_at d.slots (q + k)) p;
    }

pub write_shaped : (d : Dict) (store : List ℕ) (x sub t : ℕ) (s : List ℕ) → Shaped d (written_in d (write_of d store x sub t s))
unfolding write_of write_act_of
write_shaped d store x sub t s = formed (well_formed d)
  where
    acted : (j : Result Act WriteFault) → Shaped d (written_in d (write_act_of d store sub s j))
    acted (Ok (act.Put p)) = filled_shaped d _
    acted (Ok act.Accepted) = filled_shaped d (contents d.words d.bytes)
    acted (Ok (act.Keep i n)) = kept_shaped d i n
    acted (Ok act.Save) = filled_shaped d (contents d.words d.bytes)
    acted (Ok act.Restore) = filled_shaped d (contents d.words d.bytes)
    acted (Err f) = filled_shaped d (contents d.words d.bytes)

    formed : (b : Bool) → Shaped d (written_in d (cond b (write_act_of d store sub s (judge_of d (length store) x sub t s)) (after_write (Err (write-fault.Refused Malformed)) d.objects d.words d.bytes store)))
    formed true = acted (judge_of d (length store) x sub t s)
    formed false = filled_shaped d (contents d.words d.bytes)

pub shaped_trans : (d d' d'' : Dict) → Shaped d d' → Shaped d' d'' → Shaped d d''
shaped_trans d d' d'' a b x r f =
    let s = a x r f in
    let t = b x s.row s.found in
    record {
      row = t.row;
      found = t.found;
      kind = t.kind ∙ s.kind;
      count = t.count ∙ s.count;
      types = λ k h. t.types k (omega (arith, s.count, h)) ∙ s.types k h;
      rooms = λ k h. t.rooms k (omega (arith, s.count, h)) ∙ s.rooms k h;
    }

-- ---- the same object, at another place
module _ (d d' : Dict) (w : well_formed d ≡ true) (w' : well_formed d' ≡ true) (x r r' : ℕ) (f : find_row d.objects x ≡ Some r) (f' : find_row d'.objects x ≡ Some r') (same : obj_at d' r' ≡ obj_at d r) where
  counted : count_at d'.objects r' ≡ count_at d.objects r
  counted =
      let v : vals_from d' (count_at d'.objects r' + default_at d'.objects r') (first_at d'.objects r') ≡ vals_from d (count_at d.objects r + default_at d.objects r) (first_at d.objects r) = ap (λ (o : Obj). o.values) same in
      let n = sym (length_vals d' (count_at d'.objects r' + default_at d'.objects r') (first_at d'.objects r')) ∙ ap length v ∙ length_vals d (count_at d.objects r + default_at d.objects r) (first_at d.objects r) in
      let e : default_at d'.objects r' ≡ default_at d.objects r = ap (λ (o : Obj). o.default) same in
      omega (arith, n, e)

  valued : (k : ℕ) → k < count_at d.objects r → val_at d' (first_at d'.objects r' + k) ≡ val_at d (first_at d.objects r + k)
  valued k h =
      let v : nth (obj_at d' r').values k ≡ nth (obj_at d r).values k = ap (λ (o : Obj). nth o.values k) same in
      let a = value_there d' (count_at d'.objects r' + default_at d'.objects r') (first_at d'.objects r') k (omega (arith, counted, h)) in
      let b = value_there d (count_at d.objects r + default_at d.objects r) (first_at d.objects r) k (omega (arith, h)) in
      let u : Some (val_at d' (first_at d'.objects r' + k)) ≡ Some (val_at d (first_at d.objects r + k)) = sym a ∙ v ∙ b in
      cc

  -- a room's bytes are as many as its slot says
  roomy : (d : Dict) → well_formed d ≡ true → (r : ℕ) → find_row d.objects x ≡ Some r → (k : ℕ) → k < count_at d.objects r → length (val_at d (first_at d.objects r + k)).room ≡ room_at d.slots (first_at d.objects r + k)
  roomy d w r f k h =
      let p = first_at d.objects r + k in
      let v = value_facts d w r k (found_lies d w x r f).below (omega (arith, h)) in
      length-take-le (room_at d.slots p) (drop (start_at d.slots p) d.bytes) (rw length-drop (omega (arith, v.within, v.bytes)))

  pub same_row : SameRow d d' x r
  same_row = record {
    row = r';
    found = f';
    kind = ap (λ (o : Obj). o.kind) same;
    count = counted;
    types = λ k h. ap (λ (v : Val). v.type) (valued k h);
    rooms = λ k h. sym (roomy d' w' r' f' k (omega (arith, counted, h))) ∙ ap (λ (v : Val). length v.room) (valued k h) ∙ roomy d w r f k h;
  }

-- ---- an insertion
taken_there : (x : ℕ) (os : List Obj) (o : Obj) → object_of x os ≡ Some o → taken x os ≡ true
unfolding object_of taken
taken_there x [] o e = let z : ◌≡◌ {A = ℕ} 0 1 = cc in absurd (omega arith)
taken_there x (p ∷ os) o e = go (eqb p.index x) (taken_there x os o) e
  where
    go : (b : Bool) → (object_of x os ≡ Some o → taken x os ≡ true) → cond b (Some p) (object_of x os) ≡ Some o → (b || taken x os) ≡ true
    go true rest q = refl
    go false rest q = rest q

module _ (h : Head) (name vals encodings : List ℕ) (d : Dict) where
  -- an object that was there is there
  object_stays : (x : ℕ) (o : Obj) → object_of x (model_of d) ≡ Some o → object_of x (model_of (memory_of h name vals encodings d)) ≡ Some o
  object_stays x o e = go (eqb h.index x) refl
    where
      again : h.index ≡ x → (a : Result (Unit {0}) Refusal) → answer_of h name vals encodings d ≡ a → object_of x (model_of (memory_after a (inserted (below h.index (model_of d)) (obj_in h name vals encodings) d) d)) ≡ Some o
      again q (Ok _) a =
          let free = (done_by h name vals encodings d a).free in
          let t : taken h.index (model_of d) ≡ true = rw q (taken_there x (model_of d) o e) in
          let z : ◌≡◌ {A = ℕ} 0 1 = cc in absurd (omega arith)
      again q (Err r) a = e

      go : (b : Bool) → eqb h.index x ≡ b → object_of x (model_of (memory_of h name vals encodings d)) ≡ Some o
      go true q = again (eqb-true h.index x q) (answer_of h name vals encodings d) refl
      go false q = others_stay h name vals encodings d x (eqb-false h.index x q) ∙ e

  -- and the same
  pub insert_same : (x r r' : ℕ) → find_row d.objects x ≡ Some r → find_row (memory_of h name vals encodings d).objects x ≡ Some r' → obj_at (memory_of h name vals encodings d) r' ≡ obj_at d r
  insert_same x r r' f q =
      let d' = memory_of h name vals encodings d in
      let there : object_in d (find_row d.objects x) ≡ Some (obj_at d r) = ap (object_in d) f in
      let e = lookup_object d' x ∙ object_stays x (obj_at d r) (sym (lookup_object d x) ∙ there) in
      let s : Some (obj_at d' r') ≡ Some (obj_at d r) = sym (ap (object_in d') q) ∙ e in
      cc

  pub insert_shaped : well_formed d ≡ true → Shaped d (memory_of h name vals encodings d)
  insert_shaped w x r f =
      let d' = memory_of h name vals encodings d in
      let there : object_in d (find_row d.objects x) ≡ Some (obj_at d r) = ap (object_in d) f in
      go (find_row d'.objects x) refl (lookup_object d' x ∙ object_stays x (obj_at d r) (sym (lookup_object d x) ∙ there))
    where
      go : (g : Option ℕ) → find_row (memory_of h name vals encodings d).objects x ≡ g → object_in (memory_of h name vals encodings d) (find_row (memory_of h name vals encodings d).objects x) ≡ Some (obj_at d r) → SameRow d (memory_of h name vals encodings d) x r
      go (Some r') q e = same_row d (memory_of h name vals encodings d) w (stays h name vals encodings d w) x r r' f q (insert_same x r r' f q)
      go None q e =
          let s : None ≡ Some (obj_at d r) = sym (ap (object_in (memory_of h name vals encodings d)) q) ∙ e in
          let z : ◌≡◌ {A = ℕ} 0 1 = cc in absurd (omega arith)
