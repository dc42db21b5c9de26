-- What holds the same slices, holds them after another change. Assumes nothing.
use mathlib.Core.Path.{◌∙◌}
use Rattle.pdo_step.specs.declared.receiving.Receiving.{Receiving}
use Rattle.pdo_step.specs.Receiving.{Same}

pub same_on : {a b c : Receiving} → Same a b → Same b c → Same a c
same_on s t = record { objects = t.objects ∙ s.objects; slots = t.slots ∙ s.slots; words = t.words ∙ s.words; bytes = t.bytes ∙ s.bytes }
