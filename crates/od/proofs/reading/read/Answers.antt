-- `od::reading::read` meets its contract. Assumes nothing.
use Rattle.std.proofs.lemmas.Result.{err_from_is_err_and}
use Rattle.od.specs.Read.{read_of}
use Rattle.od.proofs.reading.read.Goals as goal

pub returns-in_err-d : goal.returns-in_err-d
unfolding read_of
returns-in_err-d c =
    let p = err_from_is_err_and c.from_residual.result c.from_residual.ensures.1 in
    rw (p.1, p.2) (simp (c.in_err-d.ensures.err.0, c.in_err-d.ensures.err.1))
