-- `insertion::replacing::replace` meets its contract: what is not well-formed is refused, and the rest is the judged call's. Assumes nothing.
use mathlib.Core.Path.{sym, ◌∙◌}
use Rattle.insertion.proofs.ReplacingLaws.{malformed}
use Rattle.insertion.proofs.replacing.replace.Goals as goal

pub returns-then-not-well_formed : goal.returns-then-not-well_formed
returns-then-not-well_formed c =
    let a = c.args in
    let w = malformed a.head a.name.now a.vals.now a.encodings.now _ (sym c.well_formed-2.ensures ∙ c.if-not-well_formed.true) in
    record { answer = w.0; memory = w.1 }
