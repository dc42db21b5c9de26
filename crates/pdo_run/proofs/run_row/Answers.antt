-- `pdo_run::run_row` meets its contract: the gathered words are those of the list. Assumes nothing.
use mathlib.Core.Path.{◌≡◌, sym, ap, ap₂, ◌∙◌}
use mathlib.Core.Bool.{true}
use mathlib.Core.List.{List}
use Prim.Native.Nat.{ℕ, ◌+◌, ◌<◌, ◌≤◌}
use lib.ListN.{length, take, drop}
use lib.Seq.{length-take-le}
use Rattle.entry.specs.Table.{Dict, values_of, number_of, first_at, list_count}
use Rattle.entry.specs.Judge.{well_formed}
use Rattle.entry.specs.Put.{contents}
use Rattle.entry.proofs.JudgeLaws.{headed}
use Rattle.entry.proofs.FactLaws.{row_facts}
use Rattle.entry.proofs.ValueLaws.{list_count_le, row_lies}
use Rattle.pdo_step.specs.Receiving.{dict_of}
use Rattle.pdo_run.specs.Run.{Frame, framed, run_from, run_in, finished}
use native.Mathlib.Omega.{arith}
use Rattle.pdo_run.proofs.run_row.Goals as goal

-- where the list lies
record Lies (d : Dict) (first n : ℕ) : Type 0 where
  pub few : n ≤ 254
  pub inside : first + n ≤ values_of d.objects
  pub held : first + n ≤ length d.words

lies : (d : Dict) (r first n : ℕ) → well_formed d ≡ true → r < number_of d.objects → first ≡ first_at d.objects r → n ≡ list_count d.objects r → Lies d first n
lies d r first n e h f k =
    let inside : first + n ≤ values_of d.objects = omega (arith, f, k, list_count_le d e r h, (row_facts d e r h).values) in
    record {
      few = omega (arith, k, list_count_le d e r h, (row_lies d e r h).few);
      inside = inside;
      held = omega (arith, inside, (headed d e).words);
    }

as_long : (n : ℕ) (l : List ℕ) (m : ℕ) → length l ≡ m → n ≤ m → length (take n l) ≡ n
as_long n l m e h = length-take-le _ _ (omega (arith, e, h))

-- with the gathered words the run is that of the row
told : (f : Frame) (words bytes log : List ℕ) (r first n : ℕ) (l : List ℕ) → first ≡ first_at f.objects r → n ≡ list_count f.objects r → l ≡ take n (drop first words)
    → finished (run_from f first l 0 (contents words bytes)) log 0 ≡ finished (run_in f (contents words bytes) r) log 0
told f words bytes log r first n l h k e =
    ap (λ l. finished (run_from f first l 0 (contents words bytes)) log 0) e
    ∙ ap₂ (λ p m. finished (run_from f p (take m (drop p words)) 0 (contents words bytes)) log 0) h k

pub invariant_of-row : goal.invariant_of-row
invariant_of-row c =
    let a = c.args in
    let l = row_lies (dict_of a.d.now) a.d.now.judged a.r c.requires.0 in (l.small, l.inside)

pub gather-few-requires : goal.gather-few-requires
gather-few-requires c =
    let a = c.args in
    let l = lies (dict_of a.d.now) a.r _ _ a.d.now.judged c.requires.0 c.first-first.ensures c.list_count-n.ensures in
    (omega arith, (omega arith, l.held))

pub slice_bounds-few-end : goal.slice_bounds-few-end
slice_bounds-few-end c = omega (arith, c.gather-few.ensures.0)

pub run-requires : goal.run-requires
run-requires c =
    let a = c.args in
    let l = lies (dict_of a.d.now) a.r _ _ a.d.now.judged c.requires.0 c.first-first.ensures c.list_count-n.ensures in
    let n : length (take c.list_count-n.result c.gather-few.result) ≡ c.list_count-n.result = as_long _ _ _ c.gather-few.ensures.0 (omega (arith, l.few)) in
    (omega (arith, l.inside, n), omega (arith, l.few, n), omega (arith, l.few, n, c.requires.1))

pub returns-then-n-le16-clause-left : goal.returns-then-n-le16-clause-left
returns-then-n-le16-clause-left c =
    let a = c.args in
    let f = framed a.d.now a.payload.now in
    c.run.ensures.left ∙ told f _ _ _ _ _ _ _ c.first-first.ensures c.list_count-n.ensures c.gather-few.ensures.1

pub gather-list-requires : goal.gather-list-requires
gather-list-requires c =
    let a = c.args in
    let l = lies (dict_of a.d.now) a.r _ _ a.d.now.judged c.requires.0 c.first-first.ensures c.list_count-n.ensures in
    (omega arith, (l.few, l.held))

pub slice_bounds-list-end : goal.slice_bounds-list-end
slice_bounds-list-end c =
    let a = c.args in
    let l = lies (dict_of a.d.now) a.r _ _ a.d.now.judged c.requires.0 c.first-first.ensures c.list_count-n.ensures in
    omega (arith, l.few, c.gather-list.ensures.0)

pub slice_bounds-run-end-2 : goal.slice_bounds-run-end-2
slice_bounds-run-end-2 c =
    let a = c.args in
    let l = lies (dict_of a.d.now) a.r _ _ a.d.now.judged c.requires.0 c.first-first.ensures c.list_count-n.ensures in
    sym (as_long _ _ _ c.gather-list.ensures.0 l.few)

pub run-requires-2 : goal.run-requires-2
run-requires-2 c =
    let a = c.args in
    let l = lies (dict_of a.d.now) a.r _ _ a.d.now.judged c.requires.0 c.first-first.ensures c.list_count-n.ensures in
    let n : length (take c.list_count-n.result c.gather-list.result) ≡ c.list_count-n.result = as_long _ _ _ c.gather-list.ensures.0 (omega (arith, l.few)) in
    (omega (arith, l.inside, n), omega (arith, l.few, n), omega (arith, l.few, n, c.requires.1))

pub returns-clause-left : goal.returns-clause-left
returns-clause-left c =
    let a = c.args in
    let f = framed a.d.now a.payload.now in
    c.run-2.ensures.left ∙ told f _ _ _ _ _ _ _ c.first-first.ensures c.list_count-n.ensures c.gather-list.ensures.1
