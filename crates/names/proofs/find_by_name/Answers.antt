-- `names::find_by_name` meets its contract: the dictionary is judged, then searched. Assumes nothing.
use Rattle.std.proofs.lemmas.Result.{err_from_is_err_and}
use Rattle.names.specs.Names.{by_name_of}
use Rattle.names.proofs.find_by_name.Goals as goal

pub returns-in_err-d : goal.returns-in_err-d
unfolding by_name_of
returns-in_err-d c =
    let p = err_from_is_err_and c.from_residual.result c.from_residual.ensures.1 in
    rw (p.1, p.2) (simp (c.in_err-d.ensures.err.0, c.in_err-d.ensures.err.1))
