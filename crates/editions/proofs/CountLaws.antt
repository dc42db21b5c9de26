-- In edition 1 a list's count is its length and a write leaves the rows; in edition 2 a write changes at most one kept count.
-- Assumes nothing.
use Prim.Native.Nat.{ℕ}
use mathlib.Core.Path.{◌≡◌, refl, sym, ap, ◌∙◌}
use mathlib.Core.Bool.{Bool, true, false, cond}
use mathlib.Core.List.{List}
use mathlib.Core.Logic.{◌⊎◌, inl, inr}
use native.Mathlib.Omega.{arith}
use borrow.Author.Tests.{eqb-true, ne_eqb}
use lib.Dec.{eqb}
use lib.ListN.{length, get_or}
use Rattle.answers.specs.declared.Refusal.TheVariants.{Malformed}
use Rattle.entry.specs.Table.{Dict, edition_of, count_at, list_count}
use Rattle.entry.specs.Judge.{well_formed}
use Rattle.rows.specs.Rows.{kept_in}
use Rattle.std.specs.Prelude.{Result, Ok, Err}
use Rattle.writing.specs.declared.Act.{Act}
use Rattle.writing.specs.declared.Act.TheVariants.{Put, Accepted, Keep, Save, Restore}
use Rattle.writing.specs.declared.WriteFault.{WriteFault}
use Rattle.writing.specs.declared.WriteFault.TheVariants.{Refused}
use Rattle.writing.specs.Judging.{judge_of}
use Rattle.writing.specs.Writing.{after_write, write_act_of, write_of}
use Rattle.writing.proofs.CountLaws.{judged_keep}
use Rattle.editions.specs.Written.{KeptCount}

pub first_count : (objects : List ℕ) (i : ℕ) → edition_of objects ≡ 1 → list_count objects i ≡ count_at objects i
unfolding list_count
first_count objects i e = rw e

-- ---- the theorem: a write leaves the rows, or keeps one count
pub write_rows : (d : Dict) (store : List ℕ) (x sub t : ℕ) (s : List ℕ) → ((write_of d store x sub t s).objects ≡ d.objects) ⊎ KeptCount d x sub s (write_of d store x sub t s)
unfolding write_of write_act_of
write_rows d store x sub t s = formed (well_formed d) refl
  where
    acted : well_formed d ≡ true → (j : Result Act WriteFault) → judge_of d (length store) x sub t s ≡ j → ((write_act_of d store sub s j).objects ≡ d.objects) ⊎ KeptCount d x sub s (write_act_of d store sub s j)
    acted w (Ok (Put p)) q = inl refl
    acted w (Ok Accepted) q = inl refl
    acted w (Ok (Keep i n)) q =
        let k = judged_keep d w (length store) x sub t s i n q in
        let c = k.counted in
        inr
        (record {
          row = i;
          found = c.found;
          edition = eqb-true _ 2 c.edition;
          mapping = c.mapping;
          count = eqb-true sub 0 c.count;
          few = rw c.number at k.few;
          answer = refl;
          objects = ap (λ m. kept_in i m d.objects) c.number;
          words = refl;
          bytes = refl;
        })
    acted w (Ok Save) q = inl refl
    acted w (Ok Restore) q = inl refl
    acted w (Err f) q = inl refl

    formed : (b : Bool) → well_formed d ≡ b → let a = cond b (write_act_of d store sub s (judge_of d (length store) x sub t s)) (after_write (Err (Refused Malformed)) d.objects d.words d.bytes store) in (a.objects ≡ d.objects) ⊎ KeptCount d x sub s a
    formed true w = acted w (judge_of d (length store) x sub t s) refl
    formed false w = inl refl

pub first_write : (d : Dict) (store : List ℕ) (x sub t : ℕ) (s : List ℕ) → edition_of d.objects ≡ 1 → (write_of d store x sub t s).objects ≡ d.objects
first_write d store x sub t s e = go (write_rows d store x sub t s)
  where
    go : ((write_of d store x sub t s).objects ≡ d.objects) ⊎ KeptCount d x sub s (write_of d store x sub t s) → (write_of d store x sub t s).objects ≡ d.objects
    go (inl same) = same
    go (inr k) = absurd (omega (arith, k.edition, e))
