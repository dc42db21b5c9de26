-- What holds the same slices, holds them after another change. Assumes nothing.
use mathlib.Core.Path.{refl, ◌∙◌}
use Rattle.restoring.specs.declared.restoring.Restoring.{Restoring}
use Rattle.restoring.specs.Restoring.{Same}

pub same_self : {a : Restoring} → Same a a
same_self = record { objects = refl; slots = refl; words = refl; bytes = refl }

pub same_on : {a b c : Restoring} → Same a b → Same b c → Same a c
same_on s t = record { objects = t.objects ∙ s.objects; slots = t.slots ∙ s.slots; words = t.words ∙ s.words; bytes = t.bytes ∙ s.bytes }
