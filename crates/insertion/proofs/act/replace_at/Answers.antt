-- `insertion::act::replace_at` meets its contract. Assumes nothing.
use mathlib.Core.Path.{◌≡◌, sym, ap, ◌∙◌, subst}
use mathlib.Core.Bool.{cond}
use Prim.Native.Nat.{ℕ}
use native.Mathlib.Omega.{arith}
use Rattle.entry.specs.Table.{Dict, dict, model_of, Lies}
use Rattle.entry.proofs.JudgeLaws.{sound, headed}
use Rattle.given.specs.Given.{obj_in, count_in}
use Rattle.placing.specs.Place.{inserted}
use Rattle.placing.proofs.ActLaws.{dict_is}
use Rattle.insertion.specs.Replace.{without, RoomIn}
use Rattle.insertion.proofs.ReplaceLaws.{lies_without, replaced_is, without_none}
use Rattle.insertion.proofs.act.replace_at.Goals as goal
use Rattle.insertion.proofs.act.replace_at.Goals.{Joined-replaces, then-replaces, else-replaces}

abbrev D : Joined-replaces → Dict
D c = dict c.args.objects.now c.args.slots.now c.args.words.now c.args.bytes.now

-- what the way here left is the dictionary without the object that goes
left : (c : Joined-replaces) → dict c.if-replaces.objects c.if-replaces.slots c.if-replaces.words c.if-replaces.bytes ≡ without c.args.i (cond c.args.replaces 1 0) (D c)
left c =
    let i = c.args.i in
    elim c.if-replaces.branch [
      | then-replaces w ↦ dict_is w.objects-is w.slots-is w.words-is w.bytes-is ∙ w.remove_at.ensures ∙ ap (λ b. without i (cond b 1 0) (D c)) (sym w.if-replaces.true)
      | else-replaces w ↦ dict_is w.objects-is w.slots-is w.words-is w.bytes-is ∙ sym (without_none (D c) (sound (D c) c.requires.bytes_value).lies i) ∙ ap (λ b. without i (cond b 1 0) (D c)) (sym w.if-replaces.false)
    ]

pub remove_at-requires-clause-lies : goal.remove_at-requires-clause-lies
remove_at-requires-clause-lies c = (sound _ c.requires.bytes_value).lies

pub remove_at-requires-clause-long : goal.remove_at-requires-clause-long
remove_at-requires-clause-long c =
    let a = c.args in
    let h = headed (dict a.objects.now a.slots.now a.words.now a.bytes.now) c.requires.bytes_value in
    (record { few = h.few; rows = h.rows; values = h.values; slots = h.slots; words = h.words; total = h.total; bytes = h.bytes }, omega (arith, ap {B = ℕ} (λ b. cond b 1 0) c.if-replaces.true, c.requires.i_bound.0))

pub insert_at-requires-clause-lies : goal.insert_at-requires-clause-lies
insert_at-requires-clause-lies c =
    let p = (goal.at.insert_at-requires-clause-lies c).Joined-replaces in
    subst (λ m. Lies (model_of m) m) (sym (left p)) (lies_without (D p) (sound (D p) c.requires.bytes_value) c.args.i (cond c.args.replaces 1 0))

pub insert_at-requires-clause-room : goal.insert_at-requires-clause-room
insert_at-requires-clause-room c =
    let p = (goal.at.insert_at-requires-clause-room c).Joined-replaces in
    subst (λ m. RoomIn m c.args.i (count_in c.args.vals.now) c.args.g) (sym (left p)) c.requires.i_bound.1

pub returns : goal.returns
returns c =
    let p = (goal.at.returns c).Joined-replaces in
    let a = c.args in
    let o = obj_in a.head a.name.now a.vals.now a.encodings.now in
    c.insert_at.ensures ∙ ap (inserted a.i o) (left p) ∙ replaced_is (D p) (sound (D p) c.requires.bytes_value) a.i (cond a.replaces 1 0) c.requires.i_bound.0 o
