-- `restoring::restore::restore_judged` meets its contract: each way out is a case of the definition. Assumes nothing.
use Rattle.std.specs.Prelude.{Ok}
use mathlib.Core.Path.{◌≡◌, refl, sym, ap, ◌∙◌}
use mathlib.Core.Bool.{Bool}
use mathlib.Core.List.{List}
use Prim.Native.Nat.{ℕ}
use Rattle.entry.specs.Table.{Dict, number_of}
use Rattle.fitting.specs.Fit.{rows_fit}
use Rattle.restoring.specs.Restore.{after_restore, restore_of}
use Rattle.restoring.specs.Restoring.{dict_of}
use Rattle.restoring.proofs.restore.restore_judged.Goals as goal

-- whether all fits in what is shown is whether it fits in the dictionary
fit : (shown d : Dict) (s m : List ℕ) (first last : ℕ) (b : Bool) → shown ≡ d → m ≡ s → b ≡ rows_fit shown m first last (number_of shown.objects) 0 → rows_fit d s first last (number_of d.objects) 0 ≡ b
fit shown d s m first last b e h f = sym (rw (e, h) at f)

pub returns-then-not-rows_fit-clause-left : goal.returns-then-not-rows_fit-clause-left
unfolding restore_of
returns-then-not-rows_fit-clause-left c = simp (c.args.d.now.judged, fit _ (dict_of c.args.d.now) _ _ c.args.first c.args.last _ c.shown.ensures c.judged-stored.ensures c.rows_fit.ensures.fits ∙ c.if-not-rows_fit.true)

pub restore_rows-requires : goal.restore_rows-requires
restore_rows-requires c = rw c.rows_fit.ensures.image (fit _ (dict_of c.args.d.now) _ _ c.args.first c.args.last _ c.shown.ensures refl c.rows_fit.ensures.fits ∙ c.if-not-rows_fit.false)

pub returns-clause-left : goal.returns-clause-left
unfolding restore_of
returns-clause-left c =
    ap (after_restore (Ok tt)) (rw (c.rows_fit.ensures.image, c.judged-stored.ensures) at c.restore_rows.ensures.held)
    ∙ sym (simp (c.args.d.now.judged, fit _ (dict_of c.args.d.now) _ _ c.args.first c.args.last _ c.shown.ensures c.judged-stored.ensures c.rows_fit.ensures.fits ∙ c.if-not-rows_fit.false))
