-- What each answer of the check says (`says`), and that NoSender and NoList are said exactly there. Assumes nothing.
use Rattle.std.specs.Prelude.{Option, Some, None, Result, Ok, Err}
use mathlib.Core.Path.{◌≡◌, refl, sym, ap, ◌∙◌}
use mathlib.Core.Bool.{Bool, true, false}
use mathlib.Core.List.{List, [], ◌∷◌}
use mathlib.Core.Logic.{◌⊎◌, inl, inr}
use Prim.Native.Nat.{ℕ, zero, suc, ◌+◌, ◌<◌, ◌≤◌}
use native.Mathlib.Nat.{add-zero}
use native.Mathlib.Omega.{arith}
use borrow.Author.Tests.{eq-eqb, eqb-true, ltb-true}
use lib.Dec.{eqb}
use lib.ListN.{length, get_or}
use Rattle.entry.specs.Table.{Dict, kind_at, list_count, first_at, type_at}
use Rattle.entry.specs.Find.{find_row}
use Rattle.entry.specs.Judge.{well_formed}
use Rattle.pdo_validator.specs.Counting.{ends_from}
use Rattle.pdo_channel.specs.Channel.{u8_at, comm_index, first_match, sender_for}
use Rattle.pdo_run.specs.Run.{frame}
use Rattle.element.specs.declared.Fault.{Fault}
use Rattle.channel.specs.declared.Checked.{Checked}
use Rattle.channel.specs.declared.Checked.TheVariants.{Pass, NoSender, NoList, Element, TooFar}
use Rattle.element.specs.Elements.{verdict_of}
use Rattle.channel.specs.Check.{fault_from, is_far, last_of, is_at, has_sender, check_of}
use Rattle.pdo_channel.proofs.ChannelLaws.{u8_small}
use Rattle.demand.specs.Saying.{list_start, list_words, verdict_at, AllClean, Unsent, Sender, Unlisted, Listed, Never, Reaches, Says, malformed, senderless, listless, named, far, passes}
use Rattle.demand.proofs.WholeLaws.{whole_clean}
use Rattle.demand.proofs.ExactLaws.{long_at, list_length, list_word, list_most, sent_by, sender_small, pass_demand}

-- ---- the first fault of some elements
record FaultAt (objects slots : List ℕ) (p : ℕ) (ws : List ℕ) (j : ℕ) (last : Checked) : Type 0 where
  place : ℕ
  below : place < length ws
  fault : Fault
  verdict : verdict_of objects slots (type_at slots (p + (j + place))) (get_or ws place 0) ≡ Err fault
  before : (m : ℕ) → m < place → verdict_of objects slots (type_at slots (p + (j + m))) (get_or ws m 0) ≡ Ok tt
  is : fault_from objects slots p ws j last ≡ Element (j + place + 1) fault

record Faultless (objects slots : List ℕ) (p : ℕ) (ws : List ℕ) (j : ℕ) (last : Checked) : Type 0 where
  clean : AllClean objects slots p ws j
  is : fault_from objects slots p ws j last ≡ last

fault_view : (objects slots : List ℕ) (p : ℕ) (ws : List ℕ) (j : ℕ) (last : Checked) → FaultAt objects slots p ws j last ⊎ Faultless objects slots p ws j last
unfolding fault_from
fault_view objects slots p [] j last = inr (record { clean = tt; is = refl })
fault_view objects slots p (w ∷ ws) j last = go (verdict_of objects slots (type_at slots (p + j)) w) refl (fault_view objects slots p ws (j + 1) last)
  where
    earlier : verdict_of objects slots (type_at slots (p + j)) w ≡ (Ok tt) → (r : FaultAt objects slots p ws (j + 1) last) (m : ℕ) → m < suc r.place → verdict_of objects slots (type_at slots (p + (j + m))) (get_or (w ∷ ws) m 0) ≡ Ok tt
    earlier q r zero h = rw add-zero q
    earlier q r (suc m) h = let e : j + 1 + m ≡ j + suc m = omega arith in rw (← e) (r.before m (omega (arith, h)))

    go : (v : Result (Unit {0}) Fault) → verdict_of objects slots (type_at slots (p + j)) w ≡ v → FaultAt objects slots p ws (j + 1) last ⊎ Faultless objects slots p ws (j + 1) last
        → FaultAt objects slots p (w ∷ ws) j last ⊎ Faultless objects slots p (w ∷ ws) j last
    go (Err f) q r = inl (record { place = 0; below = omega arith; fault = f; verdict = rw add-zero q; before = λ m h. absurd (omega (arith, h)); is = rw (q, add-zero) })
    go (Ok _) q (inl r) =
        let e : j + 1 + r.place ≡ j + suc r.place = omega arith in
        inl (record { place = suc r.place; below = omega (arith, r.below); fault = r.fault; verdict = rw (← e) r.verdict; before = earlier q r; is = rw (q, ← e) r.is })
    go (Ok _) q (inr r) = inr (record { clean = (q, r.clean); is = rw q r.is })

-- ---- a channel's sender
no_sender : (d : Dict) (i : ℕ) → has_sender d i (u8_at d (comm_index i) 1) ≡ false → (s : ℕ) → first_match d s ≡ Some i → ⊥
no_sender d i h s m =
    let b = sent_by d i s m in
    let first : first_match d (sender_for b.value) ≡ Some i = ap (first_match d) b.same ∙ m in
    let t : has_sender d i (u8_at d (comm_index i) 1) ≡ true = rw (b.sender, first) (eq-eqb i i refl) in
    let z : ◌≡◌ {A = ℕ} 0 1 = cc in absurd (omega arith)

a_sender : (d : Dict) (i : ℕ) → well_formed d ≡ true → has_sender d i (u8_at d (comm_index i) 1) ≡ true → Sender d i
a_sender d i w e = go (u8_at d (comm_index i) 1) refl e
  where
    same : (v : ℕ) → u8_at d (comm_index i) 1 ≡ Some v → (g : Option ℕ) → first_match d (sender_for v) ≡ g → is_at i g ≡ true → Sender d i
    same v s None m e = let z : ◌≡◌ {A = ℕ} 0 1 = cc in absurd (omega arith)
    same v s (Some j) m e = record { sender = sender_for v; a_sender = sender_small v (u8_small d w (comm_index i) 1 v s); first = m ∙ ap Some (eqb-true j i e) }

    go : (g : Option ℕ) → u8_at d (comm_index i) 1 ≡ g → has_sender d i g ≡ true → Sender d i
    go None s e = let z : ◌≡◌ {A = ℕ} 0 1 = cc in absurd (omega arith)
    go (Some v) s e = same v s (first_match d (sender_for v)) refl e

pub sender_there : (d : Dict) (i : ℕ) → Sender d i → has_sender d i (u8_at d (comm_index i) 1) ≡ true
sender_there d i s =
    let b = sent_by d i s.sender s.first in
    let first : first_match d (sender_for b.value) ≡ Some i = ap (first_match d) b.same ∙ s.first in
    rw (b.sender, first) (eq-eqb i i refl)

-- ---- the theorem
module _ (d : Dict) (i : ℕ) where
  abbrev FaultIn : Listed d i → Type 0
  FaultIn l = FaultAt d.objects d.slots (list_start d l.row) (list_words d l.row) 0 (last_of d l.row)

  abbrev FaultlessIn : Listed d i → Type 0
  FaultlessIn l = Faultless d.objects d.slots (list_start d l.row) (list_words d l.row) 0 (last_of d l.row)

  first_fault : (l : Listed d i) (f : FaultIn l) → Never d i (f.place + 1) f.fault
  first_fault l f =
      let n : 0 + f.place ≡ f.place = omega arith in
      let v : verdict_at d l.row f.place ≡ Err f.fault = rw n at f.verdict in
      record {
        listed = l;
        fault = record { place = f.place; below = f.below; verdict = v; before = λ m h. let z : 0 + m ≡ m = omega arith in rw z at (f.before m h) };
        element = refl;
        never = λ payload sender m c t h.
            let w : verdict_at d l.row f.place ≡ (Ok tt) = rw (eq-eqb _ 8 t) (whole_clean (frame d.objects d.slots payload sender m) c _ h) in
            let z : ◌≡◌ {A = ℕ} 0 1 = cc in absurd (omega arith);
      }

  reaches : (l : Listed d i) → AllClean d.objects d.slots (list_start d l.row) (list_words d l.row) 0 → is_far (ends_from d.slots d.words (list_count d.objects l.row) (list_start d l.row) 0) ≡ true → Reaches d i
  reaches l c h =
      record {
        listed = l;
        clean = c;
        too_long = λ payload long short.
            let m = list_most d l.well (0x1600 + i) l.row l.found c in
            let n = list_length d l.well (0x1600 + i) l.row l.found in
            let few : m.end ≤ 1490 = m.least 1490 (omega arith) (λ k u. rw (sym (list_word d l.well (0x1600 + i) l.row l.found k u)) (omega (arith, short, long_at d.objects d.slots payload (list_start d l.row) (list_words d l.row) 0 c long k (omega (arith, n, u))))) in
            omega (arith, few, ltb-true 1490 m.end (sym (ap is_far m.is) ∙ h));
      }

  pub says : Says d i
  unfolding check_of
  says = well (well_formed d) refl
    where
      x : ℕ
      x = 0x1600 + i

      s : Bool
      s = has_sender d i (u8_at d (comm_index i) 1)

      last : s ≡ true → (l : Listed d i) → FaultlessIn l → (b : Bool) → is_far (ends_from d.slots d.words (list_count d.objects l.row) (first_at d.objects l.row) 0) ≡ b → Says d i
      last h l f true q = far (reaches l f.clean q) (simp (l.well, h, l.found, l.list, l.some) (f.is ∙ rw q))
      last h l f false q = let e : check_of d i ≡ Pass = simp (l.well, h, l.found, l.list, l.some) (f.is ∙ rw q) in passes (λ b. pass_demand d i b e) e

      elements : s ≡ true → (l : Listed d i) → FaultIn l ⊎ FaultlessIn l → Says d i
      elements h l (inl f) = let n : 0 + f.place ≡ f.place = omega arith in named (f.place + 1) f.fault (first_fault l f) (simp (l.well, h, l.found, l.list, l.some) (rw n at f.is))
      elements h l (inr f) = last h l f (is_far (ends_from d.slots d.words (list_count d.objects l.row) (first_at d.objects l.row) 0)) refl

      some_of : well_formed d ≡ true → s ≡ true → (r : ℕ) → find_row d.objects x ≡ Some r → (a b : Bool) → eqb (kind_at d.objects r) 0 ≡ a → eqb (list_count d.objects r) 0 ≡ b → Says d i
      some_of w h r f true b k n = listless (record { well = w; sent = a_sender d i w h; none = λ q g. let u : r ≡ q = cc in rw (← u, k) }) (simp (w, h, f, k))
      some_of w h r f false true k n = listless (record { well = w; sent = a_sender d i w h; none = λ q g. let u : r ≡ q = cc in rw (← u, k, n) }) (simp (w, h, f, k, n))
      some_of w h r f false false k n =
          let l : Listed d i = record { well = w; sent = a_sender d i w h; row = r; found = f; list = k; some = n } in
          elements h l (fault_view d.objects d.slots (list_start d r) (list_words d r) 0 (last_of d r))

      list : well_formed d ≡ true → s ≡ true → (g : Option ℕ) → find_row d.objects x ≡ g → Says d i
      list w h None f = listless (record { well = w; sent = a_sender d i w h; none = λ r g. let z : ◌≡◌ {A = ℕ} 0 1 = cc in absurd (omega arith) }) (simp (w, h, f))
      list w h (Some r) f = some_of w h r f (eqb (kind_at d.objects r) 0) (eqb (list_count d.objects r) 0) refl refl

      sender : well_formed d ≡ true → (b : Bool) → s ≡ b → Says d i
      sender w true h = list w h (find_row d.objects x) refl
      sender w false h = senderless (record { well = w; none = no_sender d i h }) (simp (w, h))

      well : (b : Bool) → well_formed d ≡ b → Says d i
      well true w = sender w s refl
      well false w = malformed w (simp w)

  -- ---- of each answer by itself
  pub unsent : check_of d i ≡ NoSender → Unsent d i
  unsent e = go says
    where
      go : Says d i → Unsent d i
      go (malformed h q) = let z : ◌≡◌ {A = ℕ} 0 1 = cc in absurd (omega arith)
      go (senderless u q) = u
      go (listless u q) = let z : ◌≡◌ {A = ℕ} 0 1 = cc in absurd (omega arith)
      go (named k v n q) = let z : ◌≡◌ {A = ℕ} 0 1 = cc in absurd (omega arith)
      go (far r q) = let z : ◌≡◌ {A = ℕ} 0 1 = cc in absurd (omega arith)
      go (passes p q) = let z : ◌≡◌ {A = ℕ} 0 1 = cc in absurd (omega arith)

  pub unlisted : check_of d i ≡ NoList → Unlisted d i
  unlisted e = go says
    where
      go : Says d i → Unlisted d i
      go (malformed h q) = let z : ◌≡◌ {A = ℕ} 0 1 = cc in absurd (omega arith)
      go (senderless u q) = let z : ◌≡◌ {A = ℕ} 0 1 = cc in absurd (omega arith)
      go (listless u q) = u
      go (named k v n q) = let z : ◌≡◌ {A = ℕ} 0 1 = cc in absurd (omega arith)
      go (far r q) = let z : ◌≡◌ {A = ℕ} 0 1 = cc in absurd (omega arith)
      go (passes p q) = let z : ◌≡◌ {A = ℕ} 0 1 = cc in absurd (omega arith)

  pub named_never : (k : ℕ) (v : Fault) → check_of d i ≡ Element k v → Never d i k v
  named_never k v e = go says
    where
      go : Says d i → Never d i k v
      go (malformed h q) = let z : ◌≡◌ {A = ℕ} 0 1 = cc in absurd (omega arith)
      go (senderless u q) = let z : ◌≡◌ {A = ℕ} 0 1 = cc in absurd (omega arith)
      go (listless u q) = let z : ◌≡◌ {A = ℕ} 0 1 = cc in absurd (omega arith)
      go (named k' v' n q) =
          let a : k' ≡ k = cc in
          let b : v' ≡ v = cc in
          rw (a, b) at n
      go (far r q) = let z : ◌≡◌ {A = ℕ} 0 1 = cc in absurd (omega arith)
      go (passes p q) = let z : ◌≡◌ {A = ℕ} 0 1 = cc in absurd (omega arith)

  pub far_never : check_of d i ≡ TooFar → Reaches d i
  far_never e = go says
    where
      go : Says d i → Reaches d i
      go (malformed h q) = let z : ◌≡◌ {A = ℕ} 0 1 = cc in absurd (omega arith)
      go (senderless u q) = let z : ◌≡◌ {A = ℕ} 0 1 = cc in absurd (omega arith)
      go (listless u q) = let z : ◌≡◌ {A = ℕ} 0 1 = cc in absurd (omega arith)
      go (named k v n q) = let z : ◌≡◌ {A = ℕ} 0 1 = cc in absurd (omega arith)
      go (far r q) = r
      go (passes p q) = let z : ◌≡◌ {A = ℕ} 0 1 = cc in absurd (omega arith)

  -- ---- and where there is no sender, or no list, that is what is said
  pub unsent_back : Unsent d i → check_of d i ≡ NoSender
  unfolding check_of
  unsent_back u = go (has_sender d i (u8_at d (comm_index i) 1)) refl
    where
      go : (b : Bool) → has_sender d i (u8_at d (comm_index i) 1) ≡ b → check_of d i ≡ NoSender
      go true h = let t = a_sender d i u.well h in absurd (u.none t.sender t.first)
      go false h = simp (u.well, h)

  pub unlisted_back : Unlisted d i → check_of d i ≡ NoList
  unfolding check_of
  unlisted_back u = go (find_row d.objects (0x1600 + i)) refl
    where
      go : (g : Option ℕ) → find_row d.objects (0x1600 + i) ≡ g → check_of d i ≡ NoList
      go None f = simp (u.well, sender_there d i u.sent, f)
      go (Some r) f = simp (u.well, sender_there d i u.sent, f, u.none r f)
