-- What is restored. Assumes nothing.
use Rattle.std.specs.Prelude.{◌≡◌}
use Rattle.entry.specs.Table.{Dict, dict}
use Rattle.restoring.specs.declared.restoring.Restoring.{Restoring}

abbrev pub dict_of : Restoring → Dict
dict_of d = dict d.objects.now d.slots.now d.words.now d.bytes.now

-- the same rows, and the same slices lent, whatever stands in them
pub record Same (old new : Restoring) : Type 0 where
  pub objects : new.objects.now ≡ old.objects.now
  pub slots : new.slots.ghost_name ≡ old.slots.ghost_name
  pub words : new.words.ghost_name ≡ old.words.ghost_name
  pub bytes : new.bytes.ghost_name ≡ old.bytes.ghost_name
