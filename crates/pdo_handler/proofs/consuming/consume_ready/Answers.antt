-- `pdo_handler::consuming::consume_ready` meets its contract: the channel is the sender's first match. Assumes nothing.
use Rattle.std.specs.Prelude.{ℕ, Option}
use mathlib.Core.Path.{◌≡◌, sym, ap, ◌∙◌}
use Rattle.entry.specs.Table.{Dict}
use Rattle.pdo_step.specs.Receiving.{dict_of, held_in}
use Rattle.pdo_run.specs.Run.{framed, finished}
use Rattle.pdo_handler.specs.Consume.{on_channel, consumed_by}
use Rattle.pdo_channel.specs.Channel.{first_match}
use Rattle.pdo_handler.proofs.consuming.consume_ready.Goals as goal

-- the match in what is shown is that in the dictionary
matched : (shown d : Dict) (sender : ℕ) (m : Option ℕ) → m ≡ first_match shown sender → shown ≡ d → m ≡ first_match d sender
matched shown d sender m h e = h ∙ ap (λ x. first_match x sender) e

pub returns-clause-left : goal.returns-clause-left
unfolding consumed_by
returns-clause-left c =
    let a = c.args in
    c.consume_on_channel.ensures.left
    ∙ ap (λ x. finished (on_channel (framed a.d.now a.payload.now) (held_in a.d.now) a.payload.now.version x) a.log.now 0) (matched _ (dict_of a.d.now) _ _ c.first_match-channel.ensures c.shown.ensures)
