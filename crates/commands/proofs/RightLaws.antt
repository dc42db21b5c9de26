-- What a save offers of a well-formed dictionary is a right table: its records rise, and each body is a value of its type.
-- Assumes nothing.
use mathlib.Core.Path.{◌≡◌, refl, ap}
use mathlib.Core.Bool.{Bool, true, false, cond, ◌&&◌}
use mathlib.Core.List.{List, [], ◌∷◌, ◌++◌}
use Prim.Native.Nat.{ℕ, zero, suc, ◌+◌, ◌*◌, ◌≤◌, ◌<◌}
use native.Mathlib.Omega.{arith}
use borrow.Author.Tests.{eqb-true, eqb-false, eq-eqb, ne_eqb, le-leb, leb-true, lt-ltb}
use lib.Dec.{eqb, leb}
use lib.ListN.{length}
use Rattle.value.specs.Codec.{exact}
use Rattle.entry.specs.Table.{Dict, number_of, index_at, kind_at, first_at, type_at}
use Rattle.entry.specs.Judge.{well_formed}
use Rattle.entry.specs.Encode.{encoding_at}
use Rattle.entry.proofs.JudgeLaws.{and_true, head_ok_lem}
use Rattle.entry.proofs.FactLaws.{row_facts}
use Rattle.entry.proofs.ApartLaws.{rising}
use Rattle.entry.proofs.EncodeLaws.{exact-stored}
use Rattle.image.specs.Ranges.{range_of}
use Rattle.image.specs.Image.{Rec, image_of, sub_in, offers, rec_at, recs_in, offered_from, offered, bodies, new_table}
use Rattle.commands.specs.Save.{Row, fits}
use Rattle.image.specs.Readable.{key_of, rec_ok, recs_ok, Right}
use Rattle.commands.proofs.ImageLaws.{length-image}
use Rattle.entry.proofs.ValueLaws.{row_lies}
use Rattle.commands.proofs.OfferLaws.{facts, offers_few}

-- ---- records
pub record RecOk (r : Rec) : Type 0 where
  pub index : r.index < 65536
  pub sub : r.sub < 256
  pub value : exact r.type r.body ≡ true

rec_make : (r : Rec) → RecOk r → rec_ok r ≡ true
rec_make r o = rw (lt-ltb _ _ o.index, lt-ltb _ _ o.sub) o.value

-- a lower bound does too
recs_lower : (low low' : ℕ) (rs : List Rec) → low' ≤ low → recs_ok low rs ≡ true → recs_ok low' rs ≡ true
unfolding recs_ok
recs_lower low low' [] h e = refl
recs_lower low low' (r ∷ rs) h e =
    let a = and_true (leb low (key_of r.index r.sub)) (rec_ok r && recs_ok (key_of r.index r.sub + 1) rs) e in
    let l : low ≤ key_of r.index r.sub = leb-true low (key_of r.index r.sub) a.0 in
    rw (le-leb low' (key_of r.index r.sub) (omega arith)) a.1

pub recs_cons : (low : ℕ) (r : Rec) (rs : List Rec) → low ≤ key_of r.index r.sub → RecOk r → recs_ok (key_of r.index r.sub + 1) rs ≡ true → recs_ok low (r ∷ rs) ≡ true
unfolding recs_ok
recs_cons low r rs h o e = rw (le-leb low (key_of r.index r.sub) h, rec_make r o) e

-- ---- the values of a row
pub sub_few : (kind k : ℕ) → sub_in kind k ≤ k + 1
unfolding sub_in
sub_few kind k = go (eqb kind 0)
  where
    go : (b : Bool) → cond b 0 (k + 1) ≤ k + 1
    go true = omega arith
    go false = omega arith

module _ (d : Dict) (e : well_formed d ≡ true) (i n : ℕ) (r : Row d.objects i n) where
  abbrev x : ℕ
  x = index_at d.objects i

  abbrev kind : ℕ
  kind = kind_at d.objects i

  value_ok_lem : (k : ℕ) → k < n → exact (type_at d.slots (first_at d.objects i + k)) (encoding_at d (first_at d.objects i + k)) ≡ true
  value_ok_lem k h = exact-stored d e (first_at d.objects i + k) (facts d e i n r k h).below

  record_ok : (k : ℕ) → k < n → RecOk (rec_at d i k)
  record_ok k h =
      record {
        index = (head_ok_lem _ _ _ _ _ _ (row_facts d e i r.below).head).index_small;
        sub = omega (arith, sub_few kind k, (row_lies d e i r.below).few, r.within);
        value = value_ok_lem k h;
      }

  -- a list's elements, and what has a higher index behind them
  list_rises : (kind ≡ 0 → ⊥) → (rest : List Rec) → recs_ok (256 * x + 255) rest ≡ true → (m k low : ℕ) → k + m ≤ n → low ≤ 256 * x + (k + 1) → recs_ok low (recs_in d i m k ++ rest) ≡ true
  unfolding recs_in sub_in
  list_rises z rest q zero k low h l =
      recs_lower (256 * x + 255) low rest (omega (arith, (row_lies d e i r.below).few, r.within)) q
  list_rises z rest q (suc m) k low h l =
      let s : sub_in kind k ≡ k + 1 = ap (λ b. cond b 0 (k + 1)) (ne_eqb kind 0 z) in
      recs_cons low (rec_at d i k) (recs_in d i m (suc k) ++ rest) (omega arith) (record_ok k (omega arith))
      (list_rises z rest q m (suc k) (key_of x (sub_in kind k) + 1) (omega arith) (omega arith))

  -- a Variable's value
  variable_rises : kind ≡ 0 → (rest : List Rec) → recs_ok (256 * x + 255) rest ≡ true → (m low : ℕ) → m ≤ n → low ≤ 256 * x → recs_ok low (recs_in d i m 0 ++ rest) ≡ true
  unfolding recs_in sub_in
  variable_rises z rest q zero low h l = recs_lower (256 * x + 255) low rest (omega arith) q
  variable_rises z rest q (suc zero) low h l =
      let s : sub_in kind 0 ≡ 0 = ap (λ b. cond b 0 1) (eq-eqb kind 0 z) in
      recs_cons low (rec_at d i 0) rest (omega arith) (record_ok 0 (omega arith)) (recs_lower (256 * x + 255) (key_of x (sub_in kind 0) + 1) rest (omega arith) q)
  variable_rises z rest q (suc (suc m)) low h l =
      absurd (omega (arith, (head_ok_lem _ _ _ _ _ _ (row_facts d e i r.below).head).variable z, r.within))

  row_rises : (rest : List Rec) → recs_ok (256 * x + 255) rest ≡ true → (low : ℕ) → low ≤ 256 * x → recs_ok low (recs_in d i n 0 ++ rest) ≡ true
  row_rises rest q low l = go (eqb kind 0) refl
    where
      go : (b : Bool) → eqb kind 0 ≡ b → recs_ok low (recs_in d i n 0 ++ rest) ≡ true
      go true z = variable_rises (eqb-true kind 0 z) rest q n low (omega arith) l
      go false z = list_rises (eqb-false kind 0 z) rest q n 0 low (omega arith) (omega arith)

-- ---- all rows
rows_rise : (d : Dict) → well_formed d ≡ true → (first last n i low : ℕ) → i + n ≡ number_of d.objects → (i < number_of d.objects → low ≤ 256 * index_at d.objects i) → recs_ok low (offered_from d first last n i) ≡ true
unfolding offered_from recs_ok
rows_rise d e first last zero i low h b = refl
rows_rise d e first last (suc n) i low h b =
    row_rises d e i (offers d.objects first last i) (record { below = omega arith; within = offers_few d first last i }) (offered_from d first last n (suc i))
    (rows_rise d e first last n (suc i) (256 * index_at d.objects i + 255) (omega arith) (λ m. omega (arith, rising d e i (suc i) (omega arith) m)))
    low (b (omega arith))

-- R10.6, R10.7 of what is offered
pub offered_rises : (d : Dict) → well_formed d ≡ true → (l : ℕ) → recs_ok 0 (offered d l) ≡ true
offered_rises d e l = rows_rise d e (range_of l).start (range_of l).end (number_of d.objects) 0 0 (omega arith) (λ h. omega arith)

-- what a save lays is a right table
pub saved_right : (d : Dict) → well_formed d ≡ true → (l : ℕ) (store : List ℕ) → fits (new_table d l store) store ≡ true → Right (new_table d l store)
unfolding fits
saved_right d e l store f =
    let a = and_true (leb (length (offered d l)) 2048) _ f in
    let b = and_true (leb (length (bodies (offered d l))) 16384) _ a.1 in
    record { good = offered_rises d e l; few = leb-true _ _ a.0; small = leb-true _ _ b.0 }

-- R10.5: "the largest has 32,770 bytes"
pub image_small : (rs : List Rec) → Right rs → length (image_of rs) ≤ 32770
image_small rs r = omega (arith, length-image rs, r.few, r.small)
