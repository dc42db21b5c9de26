-- `writing::writing::write_judged` meets its contract: what was judged may be put, and kept. Assumes nothing.
use Rattle.std.specs.Prelude.{Ok}
use mathlib.Core.Path.{sym, ap, ◌∙◌}
use Rattle.entry.specs.Table.{dict}
use Rattle.entry.proofs.ValueLaws.{row_lies}
use Rattle.entry.proofs.KeepLaws.{puts_of}
use Rattle.writing.proofs.CountLaws.{judged_keep}
use Rattle.writing.proofs.PutLaws.{judged_fits, judged_facts}
use Rattle.writing.proofs.writing.write_judged.Goals as goal

pub put_value-requires : goal.put_value-requires
put_value-requires c =
    let d = dict c.args.objects.now c.args.slots.now c.args.words.now c.args.bytes.now in
    let e = sym c.judge_write.ensures ∙ c.in_ok-p.was ∙ ap Ok c.in-Put.is in
    puts_of d _ _ _ (judged_facts d c.requires _ _ _ _ _ _ e) (judged_fits d _ _ _ _ _ _ e)

pub set_kept-requires : goal.set_kept-requires
set_kept-requires c =
    let d = dict c.args.objects.now c.args.slots.now c.args.words.now c.args.bytes.now in
    let k = judged_keep d c.requires _ _ _ _ _ _ _ (sym c.judge_write.ensures ∙ c.in_ok-p.was ∙ ap Ok c.in-Keep.is) in
    let l = row_lies d c.requires _ k.below in
    (l.small, l.inside)
