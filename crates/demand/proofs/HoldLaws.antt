-- A pass holds until a restore, or until the channel's list changes: whatever other calls are made between. Assumes nothing.
use Rattle.std.specs.Prelude.{Some, Ok, Err}
use mathlib.Core.Path.{◌≡◌, refl, sym, subst}
use mathlib.Core.Bool.{Bool, true, false, cond}
use mathlib.Core.List.{List, [], ◌∷◌}
use Prim.Native.Nat.{ℕ, ◌+◌}
use Rattle.lists.specs.Numbers.{Bytes}
use Rattle.answers.specs.declared.Refusal.TheVariants.{Malformed, TooLong}
use Rattle.entry.specs.Table.{Dict, number_of, first_at}
use Rattle.entry.specs.Find.{find_row}
use Rattle.entry.specs.Judge.{well_formed}
use Rattle.entry.specs.Put.{contents}
use Rattle.insertion.proofs.AnswerLaws.{stays}
use Rattle.counter.specs.Counter.{counter_of}
use Rattle.counter.proofs.CounterLaws.{counter_keeps}
use Rattle.writing.proofs.PutLaws.{write_keeps}
use Rattle.fitting.specs.Fit.{rows_fit}
use Rattle.restoring.specs.Restore.{rows_restored, after_restore, restore_of}
use Rattle.restoring.proofs.RestoreLaws.{restore_keeps}
use Rattle.pdo_step.proofs.MarkLaws.{mark_keeps, mark_bytes}
use Rattle.pdo_run.specs.Run.{frame, list_in}
use Rattle.pdo_handler.specs.Errors.{update_of}
use Rattle.pdo_handler.proofs.ConsumeLaws.{consume_keeps}
use Rattle.pdo_cycle.proofs.KeepLaws.{cycle_keeps}
use Rattle.channel.specs.declared.Checked.TheVariants.{Pass}
use Rattle.channel.specs.Check.{check_of}
use Rattle.demand.specs.Demand.{Admitted, Written}
use Rattle.demand.specs.Lasting.{Shaped, SameWords, Keeps, Call, look, insert, write, increment-counter, update-pdo-error-object, consume-pdo-payload, consume-cycle, restore, left, left_by, Given, AllGiven, Kept, Shaping, AllShaping}
use Rattle.demand.proofs.DemandLaws.{passed}
use Rattle.demand.proofs.LastLaws.{pass_lasts, shaped_keeps}
use Rattle.demand.proofs.CallLaws.{filled_shaped, write_shaped, shaped_trans, insert_shaped}
use Rattle.demand.proofs.BytesLaws.{insert_bytes, write_bytes, consume_bytes, cycle_bytes}

-- ---- each call keeps the dictionary well-formed and of bytes, a restore too
pub call_keeps : (c : Call) (d : Dict) → Given c → Kept d → Kept (left c d)
unfolding update_of counter_of
call_keeps look d g k = k
call_keeps (insert h name vals encodings) d g k = record { well = stays h name vals encodings d k.well; bytes = insert_bytes h name vals encodings d g.0 g.1 k.bytes }
call_keeps (write store x sub t s) d g k = record { well = write_keeps d store x sub t s k.well g; bytes = write_bytes d store x sub t s k.well g k.bytes }
call_keeps (increment-counter x sub) d g k = record { well = counter_keeps d x sub k.well; bytes = k.bytes }
call_keeps (update-pdo-error-object x n) d g k = record { well = rw k.well (mark_keeps d k.well k.bytes x n); bytes = rw k.well (mark_bytes d k.well k.bytes x n) }
call_keeps (consume-pdo-payload payload sender version ready room log) d g k =
    record { well = consume_keeps d payload sender version ready room log k.well k.bytes g; bytes = consume_bytes d payload sender version ready room log k.well g k.bytes }
call_keeps (consume-cycle delivered ps log) d g k = record { well = cycle_keeps d delivered ps log k.well k.bytes g; bytes = cycle_bytes d delivered ps log k.well g k.bytes }
call_keeps (restore s first last) d g k = let r = restore_keeps d s first last k.well k.bytes g in record { well = r.well; bytes = r.bytes }

-- ---- and each but a restore that is Done its shape
-- R12.11: "a refused one ends none"
pub refused_stays : (d : Dict) (s : List ℕ) (first last : ℕ) → ((restore_of d s first last).answer ≡ (Ok tt) → ⊥) → (restore_of d s first last).memory ≡ d
unfolding restore_of
refused_stays d s first last n = go (well_formed d) (rows_fit d s first last (number_of d.objects) 0) n
  where
    e : Dict
    e = rows_restored d s first last (number_of d.objects) 0

    go : (x y : Bool) → ((cond x (cond y (after_restore (Ok tt) e) (after_restore (Err TooLong) d)) (after_restore (Err Malformed) d)).answer ≡ (Ok tt) → ⊥) → (cond x (cond y (after_restore (Ok tt) e) (after_restore (Err TooLong) d)) (after_restore (Err Malformed) d)).memory ≡ d
    go true true n = absurd (n refl)
    go true false n = refl
    go false y n = refl

pub call_shaped : (c : Call) (d : Dict) → Shaping c d → well_formed d ≡ true → Shaped d (left c d)
call_shaped look d s w = filled_shaped d (contents d.words d.bytes)
call_shaped (insert h name vals encodings) d s w = insert_shaped h name vals encodings d w
call_shaped (write store x sub t v) d s w = write_shaped d store x sub t v
call_shaped (increment-counter x sub) d s w = filled_shaped d _
call_shaped (update-pdo-error-object x n) d s w = filled_shaped d _
call_shaped (consume-pdo-payload payload sender version ready room log) d s w = filled_shaped d _
call_shaped (consume-cycle delivered ps log) d s w = filled_shaped d _
call_shaped (restore v first last) d s w = subst (Shaped d) (sym (refused_stays d v first last s)) (filled_shaped d (contents d.words d.bytes))

-- ---- and so do any calls, one after another
pub calls_keep : (cs : List Call) (d : Dict) → AllGiven cs → Kept d → Kept (left_by cs d)
unfolding left_by
calls_keep [] d g k = k
calls_keep (c ∷ cs) d g k = calls_keep cs (left c d) g.1 (call_keeps c d g.0 k)

pub calls_shaped : (cs : List Call) (d : Dict) → AllGiven cs → AllShaping cs d → Kept d → Shaped d (left_by cs d)
unfolding left_by
calls_shaped [] d g s k = filled_shaped d (contents d.words d.bytes)
calls_shaped (c ∷ cs) d g s k = shaped_trans d (left c d) (left_by cs (left c d)) (call_shaped c d s.0 k.well) (calls_shaped cs (left c d) g.1 s.1 (call_keeps c d g.0 k))

-- ---- the theorem: after a check that passed, and whatever was called then, a restore too, if the channel's list and what it maps were kept
module _ (d : Dict) (i : ℕ) (e : check_of d i ≡ Pass) (b : Bytes d.bytes) (cs : List Call) (g : AllGiven cs) where
  abbrev d' : Dict
  d' = left_by cs d

  pub pass_left : Kept d'
  pass_left = calls_keep cs d g (record { well = (passed d i e).well; bytes = b })

  pub pass_kept : Keeps d d' i → (payload : List ℕ) → Bytes payload → (sender version : ℕ) (ready : Bool) (m r : ℕ) → find_row d'.objects (0x1600 + i) ≡ Some r → Admitted d' i r payload sender version ready
      → Written (frame d'.objects d'.slots payload sender m) (contents d'.words d'.bytes) version ready (first_at d'.objects r) (list_in d'.objects d'.words r)
  pass_kept keeps payload bp sender version ready m r found a = pass_lasts d d' i e keeps pass_left.well pass_left.bytes payload bp sender version ready m r found a

  -- R12.9, with the calls of R12.11: the list's words alone have to be the same
  pub shape_held : AllShaping cs d → Shaped d d'
  shape_held s = calls_shaped cs d g s (record { well = (passed d i e).well; bytes = b })

  pub calls_hold : AllShaping cs d → SameWords d d' i → Keeps d d' i
  calls_hold s same = shaped_keeps d d' i (passed d i e).well (shape_held s) same

  pub pass_holds : AllShaping cs d → SameWords d d' i → (payload : List ℕ) → Bytes payload → (sender version : ℕ) (ready : Bool) (m r : ℕ) → find_row d'.objects (0x1600 + i) ≡ Some r → Admitted d' i r payload sender version ready
      → Written (frame d'.objects d'.slots payload sender m) (contents d'.words d'.bytes) version ready (first_at d'.objects r) (list_in d'.objects d'.words r)
  pass_holds s same = pass_kept (calls_hold s same)
