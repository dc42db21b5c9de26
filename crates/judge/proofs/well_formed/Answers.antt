-- `judge::well_formed` meets its contract: the header, then the walk over the rows. Assumes nothing.
use Rattle.std.specs.Prelude.{◌≡◌, true, ◌&&◌, ℕ, eqb, Some}
use mathlib.Core.Path.{sym, ◌∙◌}
use Rattle.entry.specs.Table.{Dict, number_of, values_of, used_of, dict}
use Rattle.entry.specs.Judge.{header_ok, rows_from, well_formed}
use Rattle.entry.proofs.JudgeLaws.{header_ok_lem}
use native.Mathlib.Omega.{arith}
use Rattle.judge.proofs.well_formed.Goals as goal

whole_rows : (d : Dict) (v b : ℕ) → header_ok d ≡ true → rows_from d (number_of d.objects) 0 0 0 0 ≡ Some (v, b)
    → well_formed d ≡ (eqb v (values_of d.objects) && eqb b (used_of d.objects))
unfolding well_formed
whole_rows d v b h e = rw (h, e)

pub returns-then-not-header_ok : goal.returns-then-not-header_ok
unfolding well_formed
returns-then-not-header_ok c = simp (sym c.header_ok.ensures ∙ c.if-not-header_ok.true)

pub values_of-m-requires : goal.values_of-m-requires
values_of-m-requires c = omega (arith, (header_ok_lem (dict c.args.objects.now c.args.slots.now c.args.words.now c.args.bytes.now) (sym c.header_ok.ensures ∙ c.if-not-header_ok.false)).rows)

pub used_of-used-requires : goal.used_of-used-requires
used_of-used-requires c = omega (arith, (header_ok_lem (dict c.args.objects.now c.args.slots.now c.args.words.now c.args.bytes.now) (sym c.header_ok.ensures ∙ c.if-not-header_ok.false)).rows)

pub walk_rows-requires : goal.walk_rows-requires
walk_rows-requires c =
    let h = header_ok_lem (dict c.args.objects.now c.args.slots.now c.args.words.now c.args.bytes.now) (sym c.header_ok.ensures ∙ c.if-not-header_ok.false) in
    record { few = h.few; rows = h.rows; values = h.values; slots = h.slots; words = h.words; total = h.total; bytes = h.bytes }

pub returns-in_default : goal.returns-in_default
unfolding well_formed
returns-in_default c = simp (sym c.header_ok.ensures ∙ c.if-not-header_ok.false, sym c.walk_rows.ensures ∙ c.in_default.is)

pub returns : goal.returns
returns c =
    rw (c.values_of-m.ensures, c.used_of-used.ensures)
    (sym (whole_rows (dict c.args.objects.now c.args.slots.now c.args.words.now c.args.bytes.now) c.in-Some.v c.in-Some.b (sym c.header_ok.ensures ∙ c.if-not-header_ok.false) (sym c.walk_rows.ensures ∙ c.in-Some.is)))
