-- `object_value::encode` meets its contract: the value is its type's number and its word. Assumes nothing.
use mathlib.Core.Path.{ap₂, ◌∙◌}
use Rattle.value.specs.Codec.{encode_of}
use Rattle.object_value.proofs.encode.Goals as goal

pub returns : goal.returns
returns c = c.encode_word.ensures ∙ ap₂ (λ t x. encode_of t x c.args.part.now c.args.out.now) c.type_number-t.ensures c.to_word-x.ensures
