-- Where what an answer of the check says (`Says`) is so, that is the answer. Of NoSender and NoList this is in NamedLaws.antt, of Pass in
-- ExactLaws.antt. Assumes nothing.
use Rattle.std.specs.Prelude.{Ok, Err}
use mathlib.Core.Path.{◌≡◌, refl, ap, sym, ◌∙◌}
use mathlib.Core.Bool.{Bool, true, false}
use mathlib.Core.List.{List, [], ◌∷◌}
use Prim.Native.Nat.{ℕ, zero, suc, ◌+◌, ◌<◌, ◌≤◌}
use native.Mathlib.Nat.{add-zero}
use native.Mathlib.Omega.{arith}
use borrow.Author.Tests.{ltb-false}
use lib.ListN.{length, get_or, replicate, length-replicate}
use Rattle.answers.specs.declared.Refusal.TheVariants.{Malformed}
use Rattle.entry.specs.Table.{Dict, list_count, type_at}
use Rattle.entry.specs.Judge.{well_formed}
use Rattle.pdo_validator.specs.Counting.{ends_from}
use Rattle.element.specs.declared.Fault.{Fault}
use Rattle.element.specs.Elements.{verdict_of}
use Rattle.channel.specs.declared.Checked.{Checked}
use Rattle.channel.specs.declared.Checked.TheVariants.{Element, TooFar, Refused}
use Rattle.channel.specs.Check.{fault_from, is_far, last_of, check_of}
use Rattle.demand.specs.Saying.{list_start, list_words, Listed, FirstFault, Reaches}
use Rattle.demand.proofs.ExistLaws.{long_of}
use Rattle.demand.proofs.ExactLaws.{clean_last, list_length, list_word, list_most}
use Rattle.demand.proofs.NamedLaws.{sender_there}

pub malformed_back : (d : Dict) (i : ℕ) → well_formed d ≡ false → check_of d i ≡ Refused Malformed
unfolding check_of
malformed_back d i e = simp e

-- ---- the first fault of some elements is the one named
fault_there : (objects slots : List ℕ) (p : ℕ) (ws : List ℕ) (j : ℕ) (last : Checked) (k : ℕ) (v : Fault) → k < length ws
    → ((m : ℕ) → m < k → verdict_of objects slots (type_at slots (p + (j + m))) (get_or ws m 0) ≡ (Ok tt)) → verdict_of objects slots (type_at slots (p + (j + k))) (get_or ws k 0) ≡ Err v
    → fault_from objects slots p ws j last ≡ Element (j + k + 1) v
unfolding fault_from
fault_there objects slots p [] j last k v h before q = absurd (omega (arith, h))
fault_there objects slots p (w ∷ ws) j last zero v h before q = let e : verdict_of objects slots (type_at slots (p + j)) w ≡ Err v = rw add-zero at q in rw (e, add-zero)
fault_there objects slots p (w ∷ ws) j last (suc k) v h before q =
    let c : verdict_of objects slots (type_at slots (p + j)) w ≡ (Ok tt) = rw add-zero at (before 0 (omega arith)) in
    let e : j + suc k ≡ j + 1 + k = omega arith in
    rw (c, e)
    (fault_there objects slots p ws (j + 1) last k v (omega (arith, h)) (λ m l. let z : j + suc m ≡ j + 1 + m = omega arith in rw z at (before (suc m) (omega (arith, l)))) (rw e at q))

pub named_back : (d : Dict) (i : ℕ) (l : Listed d i) (v : Fault) (f : FirstFault d l.row v) → check_of d i ≡ Element (f.place + 1) v
unfolding check_of
named_back d i l v f =
    let z : 0 + f.place ≡ f.place = omega arith in
    let q = fault_there d.objects d.slots (list_start d l.row) (list_words d l.row) 0 (last_of d l.row) f.place v f.below (λ m h. let y : 0 + m ≡ m = omega arith in rw y (f.before m h)) (rw z f.verdict) in
    simp (l.well, sender_there d i l.sent, l.found, l.list, l.some) (rw z at q)

-- ---- where no payload of 1,490 bytes reaches every end, the largest end passes them: else so many zeros would reach it
is_far_lem : (d : Dict) (i : ℕ) (r : Reaches d i) → is_far (ends_from d.slots d.words (list_count d.objects r.listed.row) (list_start d r.listed.row) 0) ≡ true
is_far_lem d i r = go (is_far (ends_from d.slots d.words (list_count d.objects r.listed.row) (list_start d r.listed.row) 0)) refl
  where
    go : (b : Bool) → is_far (ends_from d.slots d.words (list_count d.objects r.listed.row) (list_start d r.listed.row) 0) ≡ b → b ≡ true
    go true e = refl
    go false e =
        let l = r.listed in
        let x = 0x1600 + i in
        let m = list_most d l.well x l.row l.found r.clean in
        let n = list_length d l.well x l.row l.found in
        let size = length-replicate {A = ℕ} m.end 0 in
        let few : m.end ≤ 1490 = ltb-false 1490 m.end (sym (ap is_far m.is) ∙ e) in
        let long = long_of d.slots (replicate m.end 0) (list_start d l.row) (list_words d l.row) 0 (λ k h. rw (list_word d l.well x l.row l.found k (omega (arith, n, h))) (omega (arith, size, m.all k (omega (arith, n, h))))) in
        absurd (r.too_long (replicate m.end 0) long (omega (arith, size, few)))

pub far_back : (d : Dict) (i : ℕ) → Reaches d i → check_of d i ≡ TooFar
unfolding check_of
far_back d i r =
    let l = r.listed in
    simp (l.well, sender_there d i l.sent, l.found, l.list, l.some) (clean_last d.objects d.slots (list_start d l.row) (list_words d l.row) 0 (last_of d l.row) r.clean ∙ rw (is_far_lem d i r))
