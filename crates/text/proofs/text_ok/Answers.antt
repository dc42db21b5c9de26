-- `text::text_ok` meets its contract. Assumes nothing.
use native.Mathlib.Omega.{arith}
use mathlib.Core.Path.{refl, sym, ◌∙◌}
use Rattle.text.specs.Tables.{asks}
use Rattle.text.proofs.Laws.{whole}
use Rattle.text.proofs.text_ok.Goals as goal

pub returns : goal.returns
unfolding asks
returns c = sym (whole c.args.s.now c.loop-i.i 0 (omega arith) refl) ∙ c.loop-i.invariant.same
