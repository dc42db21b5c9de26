-- `new` makes a well-formed dictionary, whatever else is lent. Assumes nothing.
use Rattle.std.specs.Prelude.{Ok, Err}
use mathlib.Core.Path.{◌≡◌, refl, sym, ap, ◌∙◌}
use mathlib.Core.Bool.{Bool, true, false, cond}
use mathlib.Core.List.{List, []}
use Prim.Native.Nat.{ℕ, ◌+◌, ◌≤◌}
use native.Mathlib.Omega.{arith}
use borrow.Author.Tests.{ltb-false}
use lib.Dec.{ltb}
use lib.ListN.{length}
use Rattle.lists.specs.Lists.{over}
use Rattle.lists.proofs.ListLaws.{length_over, over_none, over_read, over-same}
use Rattle.answers.specs.declared.Refusal.TheVariants.{Malformed, Full}
use Rattle.entry.specs.Model.{header, rows_of, all_slots, all_words, all_bytes, rooms}
use Rattle.entry.specs.Table.{dict}
use Rattle.entry.specs.Rules.{objs_ok, is_edition}
use Rattle.entry.specs.Judge.{well_formed}
use Rattle.entry.proofs.BackLaws.{complete}
use Rattle.od.specs.New.{made, new_of}

-- laid twice is laid once
over_twice : (xs ys : List ℕ) → length ys ≤ length xs → over (over xs 0 ys) 0 ys ≡ over xs 0 ys
over_twice xs ys h =
    let n = length_over xs 0 ys (omega (arith, h)) in
    ap (over (over xs 0 ys) 0) (sym (over_read xs 0 ys (omega arith))) ∙ over-same (over xs 0 ys) 0 (length ys) (omega (arith, n, h))

pub new_well_formed : (edition : ℕ) (objects slots words bytes : List ℕ) → (new_of edition objects).answer ≡ (Ok tt) → well_formed (dict (new_of edition objects).objects slots words bytes) ≡ true
unfolding over all_slots all_words all_bytes rows_of objs_ok
new_well_formed edition objects slots words bytes e = go (is_edition edition) refl (ltb (length objects) 12) refl e
  where
    go : (a : Bool) → is_edition edition ≡ a → (b : Bool) → ltb (length objects) 12 ≡ b
        → (let m = cond a (cond b (made (Err Full) objects) (made (Ok tt) (over objects 0 (header edition [])))) (made (Err Malformed) objects) in m.answer ≡ (Ok tt) → well_formed (dict m.objects slots words bytes) ≡ true)
    go false k b h q = let z : ◌≡◌ {A = ℕ} 0 1 = cc in absurd (omega arith)
    go true k true h q = let z : ◌≡◌ {A = ℕ} 0 1 = cc in absurd (omega arith)
    go true k false h q =
        complete [] (dict (over objects 0 (header edition [])) slots words bytes)
        k
        (record { objects = over_twice objects (header edition []) (omega (arith, ltb-false (length objects) 12 h)); slots = over_none slots 0; words = over_none words 0; bytes = over_none bytes 0 })
        refl
        (record { objects = omega arith; values = omega arith; bytes = omega arith })
