-- What a mapping word does to the contents: RULES.md 11. Assumes nothing.
use Rattle.std.specs.Prelude.{ℕ, List, Option, Some, None}
use Rattle.entry.specs.Put.{Contents, put_in}
use Rattle.pdo_step.specs.declared.Outcome.{Outcome}
use Rattle.pdo_step.specs.Outcomes.{part}
use Rattle.pdo_step.specs.Effects.{Putting, effect_of}

-- R11.5, step 8: "otherwise the value is put"
abbrev pub put_of : List ℕ → List ℕ → Contents → Option Putting → Contents
put_of slots payload c None = c
put_of slots payload c (Some q) = put_in slots c q.place (part payload q.start q.len)

unfoldable pub applied : List ℕ → List ℕ → Contents → Outcome → Contents
applied slots payload c o = put_of slots payload c (effect_of o).put
