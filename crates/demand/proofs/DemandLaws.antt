-- A channel that passes: every admitted payload is written whole. Assumes nothing.
use Rattle.std.specs.Prelude.{Option, Some, None, Result, Ok, Err}
use Rattle.element.specs.declared.Fault.{Fault}
use mathlib.Core.Path.{◌≡◌, refl, ap, ◌∙◌}
use mathlib.Core.Bool.{Bool, true, false, cond, ◌||◌}
use mathlib.Core.List.{List, [], ◌∷◌}
use Prim.Native.Nat.{ℕ, ◌+◌, ◌≤◌}
use native.Mathlib.Omega.{arith}
use borrow.Author.Tests.{eqb-true, le-ltb}
use lib.Dec.{eqb}
use lib.ListN.{length}
use Rattle.lists.specs.Numbers.{Bytes}
use Rattle.answers.specs.declared.Refusal.TheVariants.{Malformed}
use Rattle.entry.specs.Table.{Dict, kind_at, list_count, first_at, type_at}
use Rattle.entry.specs.Find.{find_row}
use Rattle.entry.specs.Judge.{well_formed}
use Rattle.entry.specs.Put.{contents}
use Rattle.pdo_validator.specs.Counting.{ends_from}
use Rattle.pdo_channel.specs.Channel.{u8_at, comm_index, first_match, sender_for}
use Rattle.pdo_run.specs.Run.{frame, list_in}
use Rattle.pdo_handler.specs.Consume.{consumed_by, after_consume, consume_done, consume_of}
use Rattle.pdo_run.proofs.RunLaws.{finished_none}
use Rattle.channel.specs.declared.Checked.{Checked}
use Rattle.channel.specs.declared.Checked.TheVariants.{Pass, NoSender, NoList, TooFar, Refused}
use Rattle.element.specs.Elements.{verdict_of}
use Rattle.channel.specs.Check.{on_verdict, fault_from, is_far, last_of, on_elements, on_list, is_at, has_sender, check_of}
use Rattle.demand.specs.Demand.{Admitted, Written, put_all}
use Rattle.demand.specs.Saying.{AllClean}
use Rattle.demand.proofs.PassLaws.{clean_run}

-- ---- what a pass says
pub record Passed (d : Dict) (i : ℕ) : Type 0 where
  pub well : well_formed d ≡ true
  pub value : ℕ
  pub sender : u8_at d (comm_index i) 1 ≡ Some value
  pub first : first_match d (sender_for value) ≡ Some i
  pub row : ℕ
  pub found : find_row d.objects (0x1600 + i) ≡ Some row
  pub list : eqb (kind_at d.objects row) 0 ≡ false
  pub some : eqb (list_count d.objects row) 0 ≡ false
  pub clean : AllClean d.objects d.slots (first_at d.objects row) (list_in d.objects d.words row) 0
  pub near : is_far (ends_from d.slots d.words (list_count d.objects row) (first_at d.objects row) 0) ≡ false

-- a list without a fault is clean, and what comes last is the answer
pub record NoFault (objects slots : List ℕ) (p : ℕ) (ws : List ℕ) (j : ℕ) (last : Checked) : Type 0 where
  pub clean : AllClean objects slots p ws j
  pub passes : last ≡ Pass

pub no_fault : (objects slots : List ℕ) (p : ℕ) (ws : List ℕ) (j : ℕ) (last : Checked) → fault_from objects slots p ws j last ≡ Pass → NoFault objects slots p ws j last
unfolding fault_from
no_fault objects slots p [] j last e = record { clean = tt; passes = e }
no_fault objects slots p (w ∷ ws) j last e = go (verdict_of objects slots (type_at slots (p + j)) w) refl e (no_fault objects slots p ws (j + 1) last)
  where
    go : (v : Result (Unit {0}) Fault) → verdict_of objects slots (type_at slots (p + j)) w ≡ v → on_verdict (j + 1) (fault_from objects slots p ws (j + 1) last) v ≡ Pass → (fault_from objects slots p ws (j + 1) last ≡ Pass → NoFault objects slots p ws (j + 1) last) → NoFault objects slots p (w ∷ ws) j last
    go (Ok _) q r ih = let n = ih r in record { clean = (q, n.clean); passes = n.passes }
    go (Err f) q r ih = let z : ◌≡◌ {A = ℕ} 0 1 = cc in absurd (omega arith)

pub passed : (d : Dict) (i : ℕ) → check_of d i ≡ Pass → Passed d i
unfolding check_of
passed d i e = well (well_formed d) refl e
  where
    x : ℕ
    x = 0x1600 + i

    ends : (w : well_formed d ≡ true) (v : ℕ) → u8_at d (comm_index i) 1 ≡ Some v → first_match d (sender_for v) ≡ Some i → (r : ℕ) → find_row d.objects x ≡ Some r → eqb (kind_at d.objects r) 0 ≡ false → eqb (list_count d.objects r) 0 ≡ false
        → AllClean d.objects d.slots (first_at d.objects r) (list_in d.objects d.words r) 0
        → (b : Bool) → is_far (ends_from d.slots d.words (list_count d.objects r) (first_at d.objects r) 0) ≡ b → cond b TooFar Pass ≡ Pass → Passed d i
    ends w v s m r f k n c true q e = let z : ◌≡◌ {A = ℕ} 0 1 = cc in absurd (omega arith)
    ends w v s m r f k n c false q e = record { well = w; value = v; sender = s; first = m; row = r; found = f; list = k; some = n; clean = c; near = q }

    some_of : (w : well_formed d ≡ true) (v : ℕ) → u8_at d (comm_index i) 1 ≡ Some v → first_match d (sender_for v) ≡ Some i → (r : ℕ) → find_row d.objects x ≡ Some r → (a b : Bool) → eqb (kind_at d.objects r) 0 ≡ a → eqb (list_count d.objects r) 0 ≡ b
        → cond (a || b) NoList (on_elements d r) ≡ Pass → Passed d i
    some_of w v s m r f true b k n e = let z : ◌≡◌ {A = ℕ} 0 1 = cc in absurd (omega arith)
    some_of w v s m r f false true k n e = let z : ◌≡◌ {A = ℕ} 0 1 = cc in absurd (omega arith)
    some_of w v s m r f false false k n e =
        let q = no_fault d.objects d.slots (first_at d.objects r) (list_in d.objects d.words r) 0 (last_of d r) e in
        ends w v s m r f k n q.clean (is_far (ends_from d.slots d.words (list_count d.objects r) (first_at d.objects r) 0)) refl q.passes

    list_of : (w : well_formed d ≡ true) (v : ℕ) → u8_at d (comm_index i) 1 ≡ Some v → first_match d (sender_for v) ≡ Some i → (g : Option ℕ) → find_row d.objects x ≡ g → on_list d g ≡ Pass → Passed d i
    list_of w v s m None f e = let z : ◌≡◌ {A = ℕ} 0 1 = cc in absurd (omega arith)
    list_of w v s m (Some r) f e = some_of w v s m r f (eqb (kind_at d.objects r) 0) (eqb (list_count d.objects r) 0) refl refl e

    same : (w : well_formed d ≡ true) (v : ℕ) → u8_at d (comm_index i) 1 ≡ Some v → (j : ℕ) → first_match d (sender_for v) ≡ Some j → (b : Bool) → eqb j i ≡ b → cond b (on_list d (find_row d.objects x)) NoSender ≡ Pass → Passed d i
    same w v s j m true q e = list_of w v s (m ∙ ap Some (eqb-true j i q)) (find_row d.objects x) refl e
    same w v s j m false q e = let z : ◌≡◌ {A = ℕ} 0 1 = cc in absurd (omega arith)

    match : (w : well_formed d ≡ true) (v : ℕ) → u8_at d (comm_index i) 1 ≡ Some v → (g : Option ℕ) → first_match d (sender_for v) ≡ g → cond (is_at i g) (on_list d (find_row d.objects x)) NoSender ≡ Pass → Passed d i
    match w v s None m e = let z : ◌≡◌ {A = ℕ} 0 1 = cc in absurd (omega arith)
    match w v s (Some j) m e = same w v s j m (eqb j i) refl e

    sender : (w : well_formed d ≡ true) (g : Option ℕ) → u8_at d (comm_index i) 1 ≡ g → cond (has_sender d i g) (on_list d (find_row d.objects x)) NoSender ≡ Pass → Passed d i
    sender w None s e = let z : ◌≡◌ {A = ℕ} 0 1 = cc in absurd (omega arith)
    sender w (Some v) s e = match w v s (first_match d (sender_for v)) refl e

    well : (b : Bool) → well_formed d ≡ b → cond b (cond (has_sender d i (u8_at d (comm_index i) 1)) (on_list d (find_row d.objects x)) NoSender) (Refused Malformed) ≡ Pass → Passed d i
    well true w e = sender w (u8_at d (comm_index i) 1) refl e
    well false w e = let z : ◌≡◌ {A = ℕ} 0 1 = cc in absurd (omega arith)

-- ---- demand 3, from the check to the payloads
pub pass_writes : (d : Dict) (i : ℕ) (e : check_of d i ≡ Pass) → Bytes d.bytes → (payload : List ℕ) → Bytes payload → (sender version : ℕ) (ready : Bool) (k : ℕ)
    → Admitted d i (passed d i e).row payload sender version ready
    → Written (frame d.objects d.slots payload sender k) (contents d.words d.bytes) version ready (first_at d.objects (passed d i e).row) (list_in d.objects d.words (passed d i e).row)
unfolding consumed_by
pass_writes d i e b payload bp sender version ready k a =
    let s = passed d i e in
    let f = frame d.objects d.slots payload sender k in
    let c = contents d.words d.bytes in
    let r = clean_run f bp (first_at d.objects s.row) (list_in d.objects d.words s.row) 0 c (record { well = s.well; bytes = b }) s.clean a.long a.texts in
    record { silent = rw (a.is-ready, a.first, a.right, s.found, s.list) r.ran; whole = r.whole }

-- the call itself: it tells that no event is there, and leaves the log
pub written_consumed : (d : Dict) (payload : List ℕ) (sender version : ℕ) (ready : Bool) (room : ℕ) (log : List ℕ) (p : ℕ) (ws : List ℕ)
    → well_formed d ≡ true → 254 ≤ room → length payload ≤ 1490
    → Written (frame d.objects d.slots payload sender 0) (contents d.words d.bytes) version ready p ws
    → consume_of d payload sender version ready room log ≡ after_consume (Ok 0) (put_all (frame d.objects d.slots payload sender 0) ws (contents d.words d.bytes)) log
unfolding consume_of
written_consumed d payload sender version ready room log p ws w r l o =
    rw (w, le-ltb room 254 r, le-ltb 1490 (length payload) l, o.silent) (ap consume_done (finished_none log 0 (put_all (frame d.objects d.slots payload sender 0) ws (contents d.words d.bytes))))
