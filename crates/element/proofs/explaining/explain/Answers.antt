-- `element::explaining::explain` meets its contract: the dictionary is judged, then the element is explained. Assumes nothing.
use Rattle.std.proofs.lemmas.Result.{err_from_is_err_and}
use Rattle.element.specs.Explain.{explain_of}
use Rattle.element.proofs.explaining.explain.Goals as goal

pub returns-in_err-d : goal.returns-in_err-d
unfolding explain_of
returns-in_err-d c =
    let p = err_from_is_err_and c.from_residual.result c.from_residual.ensures.1 in
    rw (p.1, p.2) (simp (c.in_err-d.ensures.err.0, c.in_err-d.ensures.err.1))
