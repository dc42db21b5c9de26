-- `judge::walk_slots` meets its contract. Assumes nothing.
use Rattle.std.specs.Prelude.{Option, Some, None}
use native.Mathlib.Omega.{arith}
use mathlib.Core.Path.{◌≡◌, refl, sym, ◌∙◌}
use mathlib.Core.Bool.{Bool, true, false, cond}
use Prim.Native.Nat.{ℕ, ◌<◌, ◌≤◌, ◌-◌, ◌+◌}
use Rattle.entry.specs.Table.{Dict, dict}
use Rattle.entry.specs.Judge.{slots_from}
use Rattle.judge.proofs.SlotLaws.{plain_ok, tight_at, plain_from, plain_step, plain_end, plain_within, from_elements, from_default, from_bad}
use Rattle.judge.proofs.walk_slots.Goals as goal

-- what is answered behind the loop, where the last slot is a default's and where it is not
last : (d : Dict) (n k v b e : ℕ) (t : Bool) (s : Option ℕ) → n < k → k ≤ n + 1 → plain_from d k v b ≡ Some e → tight_at d (v + k - 1) ≡ t → cond t (Some e) None ≡ s → s ≡ slots_from d n k v b
last d n k v b e t s h l w q r = sym r ∙ sym (from_default d n k v b (v + k - 1) h l refl ∙ rw (q, w))

pub returns-then-not-slot_ok : goal.returns-then-not-slot_ok
returns-then-not-slot_ok c =
    let a = c.args in
    let l = c.loop-p in
    let d : Dict = dict a.objects.now a.slots.now a.words.now a.bytes.now in
    let told : c.slot_ok.result ≡ plain_ok d l.p l.b = rw c.used_of-used.ensures at c.slot_ok.ensures in
    sym (from_bad d a.elements a.k a.«from» a.start c.requires.k_bound_2
    (l.invariant.1 ∙ plain_step d (a.«from» + a.k) l.p l.b c.loop-p-test.true ∙ simp (sym told ∙ c.if-not-slot_ok.true)))

pub loop-p-preserved : goal.loop-p-preserved
loop-p-preserved c =
    let a = c.args in
    let l = c.loop-p in
    let d : Dict = dict a.objects.now a.slots.now a.words.now a.bytes.now in
    let told : c.slot_ok.result ≡ plain_ok d l.p l.b = rw c.used_of-used.ensures at c.slot_ok.ensures in
    let right = sym told ∙ c.if-not-slot_ok.false in
    let r = c.room.ensures in (
      omega (arith, r, plain_within d l.p l.b l.invariant.0 right),
      rw r (l.invariant.1 ∙ plain_step d (a.«from» + a.k) l.p l.b c.loop-p-test.true ∙ simp right),
    )

pub returns-then-not-tight : goal.returns-then-not-tight
returns-then-not-tight c =
    let a = c.args in
    let d : Dict = dict a.objects.now a.slots.now a.words.now a.bytes.now in
    let t = rw (c.value_type.ensures, c.room-then-elements-k.ensures) at c.tight.ensures in
    last d a.elements a.k a.«from» a.start c.loop-p.b false None c.if-elements-k.true c.requires.k_bound_2 (c.loop-p.invariant.1 ∙ plain_end _ _ _ _ (omega arith)) (sym t ∙ c.if-not-tight.true) refl

pub returns-else-not-tight : goal.returns-else-not-tight
returns-else-not-tight c =
    let a = c.args in
    let d : Dict = dict a.objects.now a.slots.now a.words.now a.bytes.now in
    let h = rw (c.value_type.ensures, c.room-then-elements-k.ensures) at c.tight.ensures in
    last d a.elements a.k a.«from» a.start c.loop-p.b true (Some c.loop-p.b) c.if-elements-k.true c.requires.k_bound_2 (c.loop-p.invariant.1 ∙ plain_end _ _ _ _ (omega arith)) (sym h ∙ c.if-not-tight.false) refl

pub returns-else-elements-k : goal.returns-else-elements-k
returns-else-elements-k c =
    let a = c.args in
    let d : Dict = dict a.objects.now a.slots.now a.words.now a.bytes.now in
    sym (from_elements d a.elements a.k a.«from» a.start c.if-elements-k.false ∙ (c.loop-p.invariant.1 ∙ plain_end _ _ _ _ (omega arith)))
