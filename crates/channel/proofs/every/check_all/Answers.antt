-- `channel::every::check_all` meets its contract: the dictionary is judged, then each channel is checked. Assumes nothing.
use Rattle.std.proofs.lemmas.Result.{err_from_is_err_and}
use Rattle.channel.specs.All.{check_all_of}
use Rattle.channel.proofs.every.check_all.Goals as goal

pub returns-in_err-d : goal.returns-in_err-d
unfolding check_all_of
returns-in_err-d c =
    let p = err_from_is_err_and c.from_residual.result c.from_residual.ensures.1 in
    rw (p.1, p.2) (simp (c.in_err-d.ensures.err.0, c.in_err-d.ensures.err.1))
