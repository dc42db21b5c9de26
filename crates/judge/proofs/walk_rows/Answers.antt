-- `judge::walk_rows` meets its contract. Assumes nothing.
use Rattle.std.specs.Prelude.{None}
use mathlib.Core.Path.{◌≡◌, sym, ◌∙◌}
use mathlib.Core.Bool.{true, cond}
use Prim.Native.Nat.{◌-◌, ◌+◌}
use Rattle.entry.specs.Table.{Dict, dict, number_of, index_at, kind_at, count_at, default_at, name_len_at}
use Rattle.entry.specs.Judge.{row_ok, row_fits, used_at, and_then, rows_from, slots_from}
use Rattle.entry.proofs.JudgeLaws.{RowFits, HeadOk, row_ok_lem, row_fits_lem, head_ok_lem}
use Rattle.entry.proofs.WalkLaws.{rows_step, rows_end, slots_upto}
use native.Mathlib.Omega.{arith}
use Rattle.judge.proofs.walk_rows.Goals as goal
use Rattle.judge.proofs.walk_rows.Goals.{In-loop-i, Else-not-row_ok, Else-not-row_fits, After-index-index, After-walk_slots}

-- one turn
step : (c : In-loop-i) → let a = c.args in
    let d : Dict = dict a.objects.now a.slots.now a.words.now a.bytes.now in
    let s = a.objects.now in
    let l = c.loop-i in
    rows_from d (number_of s) 0 0 0 0 ≡ cond (row_ok s l.i l.v l.b l.low) (cond (row_fits s a.bytes.now l.i l.v l.b) (and_then (slots_from d (count_at s l.i) (used_at s l.i) l.v (l.b + name_len_at s l.i)) (λ e. rows_from d (number_of s - (l.i + 1)) (l.i + 1) (l.v + used_at s l.i) e (index_at s l.i + 1))) None) None
step c =
    let a = c.args in
    let l = c.loop-i in
    l.invariant.2 ∙ rows_step (dict a.objects.now a.slots.now a.words.now a.bytes.now) (number_of a.objects.now) l.i l.v l.b l.low (omega (arith, c.loop-i-test.true, c.number_of-n.ensures))

-- what its tests say
right : (c : Else-not-row_ok) → row_ok c.args.objects.now c.loop-i.i c.loop-i.v c.loop-i.b c.loop-i.low ≡ true
right c = sym c.row_ok.ensures ∙ c.if-not-row_ok.false

head : (c : Else-not-row_ok) → let s = c.args.objects.now in
    let i = c.loop-i.i in
    HeadOk (index_at s i) (kind_at s i) (count_at s i) (default_at s i) (name_len_at s i)
head c =
    let a = c.args in
    let d : Dict = dict a.objects.now a.slots.now a.words.now a.bytes.now in
    head_ok_lem _ _ _ _ _ _ (row_ok_lem d c.loop-i.i c.loop-i.v c.loop-i.b c.loop-i.low (right c)).head

fitting : (c : Else-not-row_fits) → row_fits c.args.objects.now c.args.bytes.now c.loop-i.i c.loop-i.v c.loop-i.b ≡ true
fitting c = sym c.row_fits.ensures ∙ c.if-not-row_fits.false

fits : (c : Else-not-row_fits) → let a = c.args in
    let l = c.loop-i in
    RowFits (dict a.objects.now a.slots.now a.words.now a.bytes.now) l.i l.v l.b
fits c =
    let a = c.args in
    let l = c.loop-i in
    row_fits_lem (dict a.objects.now a.slots.now a.words.now a.bytes.now) l.i l.v l.b l.invariant.0 l.invariant.1 (fitting c)

used-is : (c : After-index-index) → c.count-count.result + c.default.result ≡ used_at c.args.objects.now c.loop-i.i
used-is c = rw (c.count-count.ensures, c.default.ensures)

walked : (c : After-walk_slots) → let a = c.args in
    let l = c.loop-i in
    let s = a.objects.now in
    c.walk_slots.result ≡ slots_from (dict s a.slots.now a.words.now a.bytes.now) (count_at s l.i) (used_at s l.i) l.v (l.b + name_len_at s l.i)
walked c = rw (c.count-count.ensures, c.default.ensures, c.name_len-len.ensures) at c.walk_slots.ensures

pub returns-then-not-row_ok : goal.returns-then-not-row_ok
returns-then-not-row_ok c =
    sym (step (goal.at.returns-then-not-row_ok c).In-loop-i ∙ simp (sym c.row_ok.ensures ∙ c.if-not-row_ok.true))

pub row_fits-requires-clause-i_bound_2 : goal.row_fits-requires-clause-i_bound_2
row_fits-requires-clause-i_bound_2 c =
    let h = head (goal.at.row_fits-requires-clause-i_bound_2 c).Else-not-row_ok in
    (h.count_small, h.flag_small, h.len_small, c.requires.values, c.requires.total)

pub returns-then-not-row_fits : goal.returns-then-not-row_fits
returns-then-not-row_fits c =
    let p = goal.at.returns-then-not-row_fits c in
    sym (step p.In-loop-i ∙ simp (right p.Else-not-row_ok, sym c.row_fits.ensures ∙ c.if-not-row_fits.true))

pub overflow_add-used : goal.overflow_add-used
overflow_add-used c =
    let h = head (goal.at.overflow_add-used c).Else-not-row_ok in
    omega (arith, c.default.ensures, c.count-count.ensures, h.count_small, h.flag_small)

pub overflow_add-b : goal.overflow_add-b
overflow_add-b c = omega (arith, c.name_len-len.ensures, (fits (goal.at.overflow_add-b c).Else-not-row_fits).bytes, c.requires.total)

pub walk_slots-requires-clause-k_bound : goal.walk_slots-requires-clause-k_bound
walk_slots-requires-clause-k_bound c =
    let p = goal.at.walk_slots-requires-clause-k_bound c in
    let f = fits p.Else-not-row_fits in
    let r = c.requires in
    let u = used-is p.After-index-index in
    (omega (arith, u, f.values, r.values), omega (arith, u, f.values, r.slots), omega (arith, u, f.values, r.words), omega (arith, r.rows), omega (arith, c.name_len-len.ensures, f.bytes), r.bytes, r.total)

pub walk_slots-requires-clause-k_bound_2 : goal.walk_slots-requires-clause-k_bound_2
walk_slots-requires-clause-k_bound_2 c =
    omega (arith, c.default.ensures, (head (goal.at.walk_slots-requires-clause-k_bound_2 c).Else-not-row_ok).flag_small)

pub returns-in_default : goal.returns-in_default
returns-in_default c =
    let p = goal.at.returns-in_default c in
    sym (step p.In-loop-i ∙ simp (right p.Else-not-row_ok, fitting p.Else-not-row_fits, sym (walked p.After-walk_slots) ∙ c.in_default.is))

pub overflow_add-v : goal.overflow_add-v
overflow_add-v c =
    let p = goal.at.overflow_add-v c in
    omega (arith, used-is p.After-index-index, (fits p.Else-not-row_fits).values, c.requires.values)

pub overflow_add-low : goal.overflow_add-low
overflow_add-low c = omega (arith, c.index-index.ensures, (head (goal.at.overflow_add-low c).Else-not-row_ok).index_small)

pub loop-i-preserved : goal.loop-i-preserved
loop-i-preserved c =
    let p = goal.at.loop-i-preserved c in
    let f = fits p.Else-not-row_fits in
    let n = used-is p.After-index-index in
    let u = sym (walked p.After-walk_slots) ∙ c.in-Some.is in (
      omega (arith, n, f.values),
      slots_upto _ _ _ _ _ _ f.bytes u,
      rw (n, c.index-index.ensures) (step p.In-loop-i ∙ simp (right p.Else-not-row_ok, fitting p.Else-not-row_fits, u)),
    )

pub returns : goal.returns
returns c = sym (c.loop-i.invariant.2 ∙ rows_end _ _ _ _ _ _ (omega (arith, c.number_of-n.ensures)))
