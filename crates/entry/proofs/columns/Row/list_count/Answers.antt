-- `entry::columns::Row::list_count` meets its contract. Assumes nothing.
use mathlib.Core.Path.{◌≡◌, sym, ap, ap₂, ◌∙◌}
use mathlib.Core.Bool.{cond, ◌&&◌}
use lib.Dec.{eqb}
use Rattle.entry.specs.Table.{RowAt, edition_of, is_mapping, index_at, kept_at, count_at, list_count}
use Rattle.entry.proofs.columns.Row.list_count.Goals as goal
use Rattle.entry.proofs.columns.Row.list_count.Goals.{After-is_mapping}

tested : (c : After-is_mapping) → let s = c.args.self.now in
    (eqb (edition_of s.objects) 2 && is_mapping (index_at s.objects s.i)) ≡ (eqb c.edition_of.result 2 && c.is_mapping.result)
tested c = sym (ap₂ (λ e b. eqb e 2 && b) (c.edition_of.ensures ∙ ap (λ (r : RowAt). edition_of r.objects) c.self.view_is) (c.is_mapping.ensures ∙ ap is_mapping c.index.ensures))

pub returns-then-edition_of-is_mapping : goal.returns-then-edition_of-is_mapping
unfolding list_count
returns-then-edition_of-is_mapping c =
    let s = c.args.self.now in
    ap (λ (r : RowAt). kept_at r.objects r.i) c.self.view_is ∙ sym (ap (λ b. cond b (kept_at s.objects s.i) (count_at s.objects s.i)) (tested (goal.at.returns-then-edition_of-is_mapping c).After-is_mapping ∙ c.if-edition_of-is_mapping.true))

pub returns : goal.returns
unfolding list_count
returns c =
    let s = c.args.self.now in
    c.count.ensures ∙ sym (ap (λ b. cond b (kept_at s.objects s.i) (count_at s.objects s.i)) (tested (goal.at.returns c).After-is_mapping ∙ c.if-edition_of-is_mapping.false))
