-- `pdo_step::bits::mark` meets its contract: the bit at its place. Assumes nothing.
use Rattle.std.specs.Prelude.{Option}
use mathlib.Core.Path.{◌≡◌, sym, ap, ◌∙◌}
use mathlib.Core.List.{List}
use Prim.Native.Nat.{ℕ}
use Rattle.entry.specs.Table.{Dict}
use Rattle.entry.specs.Put.{contents}
use Rattle.pdo_step.specs.Bits.{bit_at, marked_at, marked_in}
use Rattle.pdo_step.specs.Receiving.{dict_of}
use Rattle.pdo_step.proofs.BitLaws.{bit_lies}
use Rattle.pdo_step.proofs.MarkLaws.{mark_keeps, mark_bytes}
use Rattle.pdo_step.proofs.bits.mark.Goals as goal

placed : (shown d : Dict) (x n : ℕ) (b : Option ℕ) → shown ≡ d → b ≡ bit_at shown.objects shown.slots shown.words x n → b ≡ bit_at d.objects d.slots d.words x n
placed shown d x n b s h = h ∙ ap (λ (e : Dict). bit_at e.objects e.slots e.words x n) s

set : (shown d : Dict) (x n : ℕ) (b : Option ℕ) (new : List ℕ) → shown ≡ d → b ≡ bit_at shown.objects shown.slots shown.words x n → new ≡ marked_at d.bytes n b → new ≡ marked_in d.objects d.slots d.words d.bytes x n
unfolding marked_in
set shown d x n b new s h e = e ∙ ap (marked_at d.bytes n) (placed shown d x n b s h)

pub set_at-requires : goal.set_at-requires
set_at-requires c a e =
    let d = c.args.d.now in
    let l = bit_lies (dict_of d) d.judged c.args.index c.args.node a (sym (placed _ (dict_of d) _ _ _ c.shown.ensures c.bit_place-place.ensures) ∙ e) in
    (l.inside, l.node)

pub invariant_of-d : goal.invariant_of-d
invariant_of-d c =
    let d = c.args.d.now in
    let e = set _ (dict_of d) _ _ _ _ c.shown.ensures c.bit_place-place.ensures c.set_at.ensures in
    record {
      judged = rw e (mark_keeps (dict_of d) d.judged d.sane c.args.index c.args.node);
      sane = rw e (mark_bytes (dict_of d) d.judged d.sane c.args.index c.args.node);
    }

pub returns-clause-held : goal.returns-clause-held
returns-clause-held c = ap (contents c.args.d.now.words.now) (set _ (dict_of c.args.d.now) _ _ _ _ c.shown.ensures c.bit_place-place.ensures c.set_at.ensures)
