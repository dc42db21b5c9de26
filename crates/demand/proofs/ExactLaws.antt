-- The check passes exactly where demand 3 holds. Assumes nothing.
use Rattle.std.specs.Prelude.{Option, Some, None}
use mathlib.Core.Path.{◌≡◌, refl, sym, ap, ◌∙◌}
use mathlib.Core.Bool.{Bool, true, false, cond, not, ◌&&◌, ◌||◌}
use mathlib.Core.List.{List, [], ◌∷◌}
use Prim.Native.Nat.{ℕ, zero, suc, ◌+◌, ◌<◌, ◌≤◌}
use native.Mathlib.Nat.{add-zero}
use native.Mathlib.Omega.{arith}
use borrow.Author.Tests.{eq-eqb, eqb-true, ltb-false, le-ltb}
use lib.Dec.{eqb}
use lib.ListN.{length, drop, get_or, replicate, length-replicate, length-drop}
use lib.Seq.{length-take-le, get_or-take, get_or-drop}
use Rattle.lists.specs.Numbers.{Bytes}
use Rattle.mapping.specs.Word.{entry_of, end_of}
use Rattle.entry.specs.Table.{Dict, list_count, first_at, type_at}
use Rattle.entry.specs.Find.{find_row}
use Rattle.entry.specs.Judge.{well_formed}
use Rattle.entry.specs.Put.{Contents, contents}
use Rattle.entry.proofs.ValueLaws.{list_count_le, found_lies, elements_lie}
use Rattle.pdo_validator.specs.Counting.{ends_from}
use Rattle.pdo_channel.specs.Channel.{u8_at, matches_in, comm_index, channel_from, first_match, or_zero, expected_of, sender_for}
use Rattle.pdo_run.specs.Run.{Frame, frame, list_in}
use Rattle.channel.specs.declared.Checked.{Checked}
use Rattle.channel.specs.declared.Checked.TheVariants.{Pass}
use Rattle.channel.specs.Check.{fault_from, is_far, last_of, check_of}
use Rattle.demand.specs.Demand.{Long, put_word, AllWhole, Admits, Demand}
use Rattle.demand.specs.Saying.{AllClean}
use Rattle.pdo_channel.proofs.ChannelLaws.{u8_small}
use Rattle.demand.proofs.PassLaws.{clean_element}
use Rattle.demand.proofs.WholeLaws.{whole_clean}
use Rattle.demand.proofs.DemandLaws.{passed, pass_writes}
use Rattle.demand.proofs.ExistLaws.{Most, ends-most, long_of, right_same, zero_texts}

-- ---- elements one by one
pub clean_type : (objects slots : List ℕ) (p : ℕ) (ws : List ℕ) (j : ℕ) → AllClean objects slots p ws j → (k : ℕ) → k < length ws → type_at slots (p + (j + k)) ≡ 8
clean_type objects slots p [] j c k h = absurd (omega (arith, h))
clean_type objects slots p (w ∷ ws) j c zero h = rw (add-zero j) (clean_element objects slots (type_at slots (p + j)) w c.0).0
clean_type objects slots p (w ∷ ws) j c (suc k) h = let e : j + suc k ≡ j + 1 + k = omega arith in rw e (clean_type objects slots p ws (j + 1) c.1 k (omega (arith, h)))

pub long_at : (objects slots payload : List ℕ) (p : ℕ) (ws : List ℕ) (j : ℕ) → AllClean objects slots p ws j → Long slots payload p ws j → (k : ℕ) → k < length ws → end_of (entry_of (get_or ws k 0)) ≤ length payload
long_at objects slots payload p [] j c l k h = absurd (omega (arith, h))
long_at objects slots payload p (w ∷ ws) j c l zero h = l.0 (clean_element objects slots (type_at slots (p + j)) w c.0).0
long_at objects slots payload p (w ∷ ws) j c l (suc k) h = long_at objects slots payload p ws (j + 1) c.1 l.1 k (omega (arith, h))

pub all_clean : (f : Frame) (p : ℕ) (ws : List ℕ) (j : ℕ) (c : Contents) → AllWhole f p ws j c → AllClean f.objects f.slots p ws j
all_clean f p [] j c h = tt
all_clean f p (w ∷ ws) j c h = (rw (eq-eqb _ 8 h.0) (whole_clean f c w h.1), all_clean f p ws (j + 1) (put_word f c w) h.2)

pub clean_last : (objects slots : List ℕ) (p : ℕ) (ws : List ℕ) (j : ℕ) (last : Checked) → AllClean objects slots p ws j → fault_from objects slots p ws j last ≡ last
unfolding fault_from
clean_last objects slots p [] j last c = refl
clean_last objects slots p (w ∷ ws) j last c = rw c.0 (clean_last objects slots p ws (j + 1) last c.1)

-- ---- the list in a row: as many words as elements are used, and where they lie
module _ (d : Dict) (e : well_formed d ≡ true) (x r : ℕ) (f : find_row d.objects x ≡ Some r) where
  abbrev n : ℕ
  n = list_count d.objects r

  abbrev p : ℕ
  p = first_at d.objects r

  inside : p + n ≤ length d.words
  inside = (elements_lie d e r n (found_lies d e x r f).below (list_count_le d e r (found_lies d e x r f).below)).worded

  pub list_length : length (list_in d.objects d.words r) ≡ n
  list_length = length-take-le n (drop p d.words) (rw length-drop (omega (arith, inside)))

  pub list_word : (k : ℕ) → k < n → get_or (list_in d.objects d.words r) k 0 ≡ get_or d.words (p + k) 0
  list_word k h = get_or-take n (drop p d.words) k 0 h ∙ get_or-drop p d.words k 0

  pub list_most : AllClean d.objects d.slots p (list_in d.objects d.words r) 0 → Most d.slots d.words n p 0
  list_most c = ends-most d.slots d.words n p 0 (λ k h. let z : 0 + k ≡ k = omega arith in rw z at (clean_type d.objects d.slots p (list_in d.objects d.words r) 0 c k (omega (arith, list_length, h))))

-- ---- a channel's sender
pub record SentBy (d : Dict) (i s : ℕ) : Type 0 where
  pub value : ℕ
  pub sender : u8_at d (comm_index i) 1 ≡ Some value
  pub same : sender_for value ≡ s

sent : (d : Dict) (i s : ℕ) → matches_in s (u8_at d (comm_index i) 1) ≡ true → SentBy d i s
sent d i s e = go (u8_at d (comm_index i) 1) refl e
  where
    by : (v : ℕ) → u8_at d (comm_index i) 1 ≡ Some v → (a b c t : Bool) → eqb v s ≡ a → eqb s 0 ≡ b → eqb v 0 ≡ c → eqb s 240 ≡ t → ((a && not b) || (c && t)) ≡ true → SentBy d i s
    by v q a b true true k l m o e = record { value = v; sender = q; same = rw m (sym (eqb-true s 240 o)) }
    by v q true false false t k l m o e = record { value = v; sender = q; same = rw m (eqb-true v s k) }
    by v q true false true false k l m o e =
        let x : v ≡ s = eqb-true v s k in
        let y : eqb v 0 ≡ false = ap (λ u. eqb u 0) x ∙ l in
        let z : ◌≡◌ {A = ℕ} 0 1 = cc in absurd (omega arith)
    by v q true true false t k l m o e = let z : ◌≡◌ {A = ℕ} 0 1 = cc in absurd (omega arith)
    by v q true true true false k l m o e = let z : ◌≡◌ {A = ℕ} 0 1 = cc in absurd (omega arith)
    by v q false b false t k l m o e = let z : ◌≡◌ {A = ℕ} 0 1 = cc in absurd (omega arith)
    by v q false b true false k l m o e = let z : ◌≡◌ {A = ℕ} 0 1 = cc in absurd (omega arith)

    go : (g : Option ℕ) → u8_at d (comm_index i) 1 ≡ g → matches_in s g ≡ true → SentBy d i s
    go None q e = let z : ◌≡◌ {A = ℕ} 0 1 = cc in absurd (omega arith)
    go (Some v) q e = by v q (eqb v s) (eqb s 0) (eqb v 0) (eqb s 240) refl refl refl refl e

channel_matches : (d : Dict) (s n k i : ℕ) → channel_from d s n k ≡ Some i → matches_in s (u8_at d (comm_index i) 1) ≡ true
unfolding channel_from
channel_matches d s zero k i e = let z : ◌≡◌ {A = ℕ} 0 1 = cc in absurd (omega arith)
channel_matches d s (suc n) k i e = go (matches_in s (u8_at d (comm_index k) 1)) refl e (channel_matches d s n (suc k) i)
  where
    go : (b : Bool) → matches_in s (u8_at d (comm_index k) 1) ≡ b → cond b (Some k) (channel_from d s n (suc k)) ≡ Some i → (channel_from d s n (suc k) ≡ Some i → matches_in s (u8_at d (comm_index i) 1) ≡ true) → matches_in s (u8_at d (comm_index i) 1) ≡ true
    go true q e ih = let u : k ≡ i = cc in rw (← u) q
    go false q e ih = ih e

pub sent_by : (d : Dict) (i s : ℕ) → first_match d s ≡ Some i → SentBy d i s
sent_by d i s e = sent d i s (channel_matches d s 256 0 i e)

-- ---- a pass admits a payload
zero_bytes : (m : ℕ) → Bytes (replicate m 0)
zero_bytes zero i = omega arith
zero_bytes (suc m) zero = omega arith
zero_bytes (suc m) (suc i) = zero_bytes m i

pub sender_small : (v : ℕ) → v < 256 → sender_for v < 256
sender_small v h = go (eqb v 0)
  where
    go : (b : Bool) → cond b 240 v < 256
    go true = omega arith
    go false = h

version_small : (d : Dict) → well_formed d ≡ true → (i : ℕ) → expected_of d i < 256
version_small d e i = go (u8_at d (comm_index i) 2) refl
  where
    go : (g : Option ℕ) → u8_at d (comm_index i) 2 ≡ g → or_zero g < 256
    go None q = omega arith
    go (Some v) q = u8_small d e (comm_index i) 2 v q

pub pass_admits : (d : Dict) (i : ℕ) (e : check_of d i ≡ Pass) → Admits d i (passed d i e).row
pass_admits d i e =
    let s = passed d i e in
    let m = list_most d s.well (0x1600 + i) s.row s.found s.clean in
    let long = list_length d s.well (0x1600 + i) s.row s.found in
    let few : m.end ≤ 1490 = ltb-false 1490 m.end (sym (ap is_far m.is) ∙ s.near) in
    let size = length-replicate {A = ℕ} m.end 0 in
    record {
      payload = replicate m.end 0;
      bytes = zero_bytes m.end;
      sender = sender_for s.value;
      a_sender = sender_small s.value (u8_small d s.well (comm_index i) 1 s.value s.sender);
      version = expected_of d i;
      a-version = version_small d s.well i;
      admitted = record {
        is-ready = refl;
        first = s.first;
        right = right_same (expected_of d i);
        long = long_of d.slots (replicate m.end 0) (first_at d.objects s.row) (list_in d.objects d.words s.row) 0 (λ k h. rw (list_word d s.well (0x1600 + i) s.row s.found k (omega (arith, long, h))) (omega (arith, size, m.all k (omega (arith, long, h)))));
        short = omega (arith, size, few);
        texts = zero_texts d.objects d.slots m.end (first_at d.objects s.row) (list_in d.objects d.words s.row) 0;
      };
    }

-- ---- demand 3, both ways
pub pass_demand : (d : Dict) (i : ℕ) → Bytes d.bytes → check_of d i ≡ Pass → Demand d i
pass_demand d i b e =
    let s = passed d i e in
    record { row = s.row; found = s.found; list = s.list; some = s.some; exists = pass_admits d i e; all = λ payload bp sender version ready k a. pass_writes d i e b payload bp sender version ready k a }

pub demand_pass : (d : Dict) (i : ℕ) → well_formed d ≡ true → Demand d i → check_of d i ≡ Pass
unfolding check_of
demand_pass d i e t =
    let x = t.exists in
    let a = x.admitted in
    let r = t.row in
    let p = first_at d.objects r in
    let ws = list_in d.objects d.words r in
    let w = t.all x.payload x.bytes x.sender x.version true 0 a in
    let c = all_clean (frame d.objects d.slots x.payload x.sender 0) p ws 0 (contents d.words d.bytes) w.whole in
    let s = sent_by d i x.sender a.first in
    let m = list_most d e (0x1600 + i) r t.found c in
    let long = list_length d e (0x1600 + i) r t.found in
    let few : m.end ≤ 1490 = m.least 1490 (omega arith) (λ k h. rw (sym (list_word d e (0x1600 + i) r t.found k h)) (omega (arith, a.short, long_at d.objects d.slots x.payload p ws 0 c a.long k (omega (arith, long, h))))) in
    let near : is_far (ends_from d.slots d.words (list_count d.objects r) p 0) ≡ false = ap is_far m.is ∙ le-ltb 1490 m.end few in
    let first : first_match d (sender_for s.value) ≡ Some i = ap (first_match d) s.same ∙ a.first in
    simp (e, s.sender, first, eq-eqb i i refl, t.found, t.list, t.some) (clean_last d.objects d.slots p ws 0 (last_of d r) c ∙ rw near)
