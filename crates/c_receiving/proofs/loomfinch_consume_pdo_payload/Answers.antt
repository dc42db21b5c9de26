-- `c_receiving::loomfinch_consume_pdo_payload` meets its contract: the answer as its number, and what the call leaves. Assumes nothing.
use mathlib.Core.Path.{ap, ◌∙◌}
use Rattle.entry.specs.Put.{contents}
use Rattle.pdo_handler.specs.Consume.{AfterConsume}
use Rattle.c_answers.specs.Answers.{Told}
use Rattle.c_receiving.specs.Receiving.{heard, consume_numbers}
use Rattle.c_receiving.proofs.loomfinch_consume_pdo_payload.Goals as goal

pub returns : goal.returns
unfolding consume_numbers
returns c =
    let l = c.consume_logged-a.new in
    ap (λ (t : Told). heard t.answer (contents l.words l.bytes) l.log 0 t.number) c.tell_number.ensures
    ∙ ap (λ (a : AfterConsume). consume_numbers a c.args.count.now) c.consume_logged-a.ensures
