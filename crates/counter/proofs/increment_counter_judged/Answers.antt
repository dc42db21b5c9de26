-- `counter::increment_counter_judged` meets its contract: the wrapping add on the counter's 32 bits. Assumes nothing.
use Rattle.std.proofs.Common.{sym, ◌∙◌, arith}
use Rattle.entry.specs.Table.{dict}
use Rattle.counter.specs.Counter.{counter_of}
use Rattle.counter.proofs.CounterLaws.{counter_lies}
use Rattle.counter.proofs.increment_counter_judged.Goals as goal

pub invariant_of-d : goal.invariant_of-d
invariant_of-d c = c.requires

pub returns-in_default : goal.returns-in_default
unfolding counter_of
returns-in_default c = simp (c.requires, sym c.counter_at.ensures ∙ c.in_default.is)

pub overflow_cast-value : goal.overflow_cast-value
overflow_cast-value c = record { fits = (counter_lies (dict c.args.objects.now c.args.slots.now c.args.words.now c.args.bytes.now) c.requires c.args.index c.args.sub c.in-Some.p (sym c.counter_at.ensures ∙ c.in-Some.is)).bits }

pub offset_bounds-words-p : goal.offset_bounds-words-p
offset_bounds-words-p c = omega (arith, (counter_lies (dict c.args.objects.now c.args.slots.now c.args.words.now c.args.bytes.now) c.requires c.args.index c.args.sub c.in-Some.p (sym c.counter_at.ensures ∙ c.in-Some.is)).low)

pub bounds-words-p : goal.bounds-words-p
bounds-words-p c = omega (arith, (counter_lies (dict c.args.objects.now c.args.slots.now c.args.words.now c.args.bytes.now) c.requires c.args.index c.args.sub c.in-Some.p (sym c.counter_at.ensures ∙ c.in-Some.is)).word)

pub offset_bounds-words-p-2 : goal.offset_bounds-words-p-2
offset_bounds-words-p-2 c = omega (arith, (counter_lies (dict c.args.objects.now c.args.slots.now c.args.words.now c.args.bytes.now) c.requires c.args.index c.args.sub c.in-Some.p (sym c.counter_at.ensures ∙ c.in-Some.is)).low)

pub bounds-words-p-2 : goal.bounds-words-p-2
bounds-words-p-2 c = omega (arith, (counter_lies (dict c.args.objects.now c.args.slots.now c.args.words.now c.args.bytes.now) c.requires c.args.index c.args.sub c.in-Some.p (sym c.counter_at.ensures ∙ c.in-Some.is)).word)

pub returns : goal.returns
unfolding counter_of
returns c = simp (c.requires, sym c.counter_at.ensures ∙ c.in-Some.is)
