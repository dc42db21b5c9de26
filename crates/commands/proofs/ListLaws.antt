-- What the lists offer of a well-formed dictionary: R10.1, "List 1 saves everything", "any other list nothing".
-- Assumes nothing.
use mathlib.Core.Path.{◌≡◌, refl, ◌∙◌}
use mathlib.Core.Bool.{true, false}
use mathlib.Core.List.{[]}
use mathlib.Core.Logic.{◌≢◌}
use Prim.Native.Nat.{ℕ, zero, suc, ◌<◌}
use native.Mathlib.Omega.{arith}
use native.Mathlib.Decide.{dec_lt}
use borrow.Author.Tests.{ne_eqb}
use Rattle.entry.specs.Table.{Dict, number_of, index_at}
use Rattle.entry.specs.Judge.{well_formed}
use Rattle.entry.proofs.JudgeLaws.{head_ok_lem}
use Rattle.entry.proofs.FactLaws.{row_facts}
use Rattle.image.specs.Image.{to_store, offers, offered_from, offered}
use Rattle.image.specs.Ranges.{range_of, covers}
use Rattle.image.proofs.RangeLaws.{covers_below, covers_above, covers-between}
use Rattle.commands.proofs.OfferLaws.{offered_skip}

-- list 1 offers of each row what is for the store
pub list_1 : (d : Dict) → well_formed d ≡ true → (i : ℕ) → i < number_of d.objects → offers d.objects (range_of 1).start (range_of 1).end i ≡ to_store d.objects i
unfolding offers range_of
list_1 d e i h =
    rw (covers-between 0 0xFFFF (index_at d.objects i) (omega arith) (omega (arith, (head_ok_lem _ _ _ _ _ _ (row_facts d e i h).head).index_small)))

none_covered : (x : ℕ) → covers 1 0 x ≡ false
none_covered x = go (dec_lt 0 x)
  where
    go : Dec (0 < x) → covers 1 0 x ≡ false
    go (yes h) = covers_above 1 0 x h
    go (no h) = covers_below 1 0 x (omega arith)

none_offered : (d : Dict) (n i : ℕ) → offered_from d 1 0 n i ≡ []
unfolding offered_from
none_offered d zero i = refl
none_offered d (suc n) i = offered_skip d 1 0 n i (none_covered (index_at d.objects i)) ∙ none_offered d n (suc i)

-- any list but 1, 2 and 3 offers nothing
pub no_list : (d : Dict) (l : ℕ) → l ≢ 1 → l ≢ 2 → l ≢ 3 → offered d l ≡ []
unfolding range_of
no_list d l a b c = rw (ne_eqb l 1 a, ne_eqb l 2 b, ne_eqb l 3 c) (none_offered d (number_of d.objects) 0)
