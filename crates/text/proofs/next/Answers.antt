-- `rule` has what the two tables give for one byte in one state
use Rattle.std.proofs.Common.{◌∙◌, ap, arith}
use Rattle.std.specs.Option.{option_map}
use Rattle.text.specs.Tables.{asks}
use Rattle.text.proofs.Laws.{class_lt, rule, reached}
use Rattle.text.proofs.next.Goals as goal

pub bounds-after-c : goal.bounds-after-c
bounds-after-c c =
    let a = c.args in
    omega (arith, class_lt a.class.now a.after.now c.requires.t a.b c.ranges.b.fits, c.requires.q_bound)

pub returns-clause-state : goal.returns-clause-state
returns-clause-state c =
    let a = c.args in
    ap (option_map asks) c.then_some.ensures ∙ reached _ ∙ rule a.class.now a.after.now c.requires.t a.b c.ranges.b.fits a.q c.requires.q_bound
