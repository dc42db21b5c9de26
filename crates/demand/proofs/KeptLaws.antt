-- Of an object that stays, the kept count changes by a write alone. Assumes nothing.
use Rattle.std.specs.Prelude.{Some}
use mathlib.Core.Path.{◌≡◌, refl, sym, ap, ◌∙◌}
use mathlib.Core.List.{List}
use Prim.Native.Nat.{ℕ}
use Rattle.entry.specs.Model.{Obj}
use Rattle.entry.specs.Table.{Dict, kept_at}
use Rattle.entry.specs.Find.{find_row}
use Rattle.restoring.proofs.RestoreLaws.{restore_keeps}
use Rattle.demand.specs.Lasting.{SameKept, Call, look, insert, write, increment-counter, update-pdo-error-object, consume-pdo-payload, consume-cycle, restore, left, Given, Kept, IsWrite}
use Rattle.demand.proofs.CallLaws.{insert_same}

-- the rows are as they were
rows_kept : (d d' : Dict) → d'.objects ≡ d.objects → SameKept d d'
rows_kept d d' e x r r' f f' =
    let g : find_row d.objects x ≡ Some r' = ap (λ o. find_row o x) (sym e) ∙ f' in
    let same : r' ≡ r = cc in
    ap (λ o. kept_at o r') e ∙ ap (kept_at d.objects) same

pub kept_alone : (c : Call) (d : Dict) → Given c → Kept d → (IsWrite c → ⊥) → SameKept d (left c d)
kept_alone look d g k n = rows_kept d d refl
kept_alone (insert h name vals encodings) d g k n = λ x r r' f f'. ap (λ (o : Obj). o.extra.kept) (insert_same h name vals encodings d x r r' f f')
kept_alone (write store x sub t s) d g k n = absurd (n tt)
kept_alone (increment-counter x sub) d g k n = rows_kept d (left (increment-counter x sub) d) refl
kept_alone (update-pdo-error-object x m) d g k n = rows_kept d (left (update-pdo-error-object x m) d) refl
kept_alone (consume-pdo-payload payload sender version ready room log) d g k n = rows_kept d (left (consume-pdo-payload payload sender version ready room log) d) refl
kept_alone (consume-cycle delivered ps log) d g k n = rows_kept d (left (consume-cycle delivered ps log) d) refl
kept_alone (restore s first last) d g k n = rows_kept d (left (restore s first last) d) (restore_keeps d s first last k.well k.bytes g).only.objects
