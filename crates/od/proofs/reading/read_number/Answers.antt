-- `od::reading::read_number` meets its contract. Assumes nothing.
use Rattle.std.proofs.lemmas.Result.{err_from_is_err_and}
use Rattle.od.specs.Read.{read_of}
use Rattle.od.proofs.reading.read_number.Goals as goal

pub returns-in_err-judged : goal.returns-in_err-judged
unfolding read_of
returns-in_err-judged c =
    let p = err_from_is_err_and c.from_residual.result c.from_residual.ensures.1 in
    rw (p.1, p.2) (simp (c.in_err-judged.ensures.err.0, c.in_err-judged.ensures.err.1))
