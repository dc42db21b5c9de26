-- `fitting::looking::Image::seek`: what is sought from here is what is sought on the whole. Assumes nothing.
use Rattle.std.proofs.Common.{◌≡◌, ◌-◌}
use Rattle.fitting.specs.Records.{seek_from}
use Rattle.fitting.proofs.looking.Image.seek.Given as goal

abbrev pub invariant-loop-j : goal.invariant-loop-j
invariant-loop-j l = seek_from l.self (l.n - l.j) l.j l.key ≡ seek_from l.self (l.n - l.k) l.k l.key
