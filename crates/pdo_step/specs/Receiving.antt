-- What a payload is put into. Assumes nothing.
use Rattle.std.specs.Prelude.{◌≡◌}
use Rattle.entry.specs.Table.{Dict, dict}
use Rattle.entry.specs.Put.{Contents, contents}
use Rattle.pdo_step.specs.declared.receiving.Receiving.{Receiving}

abbrev pub dict_of : Receiving → Dict
dict_of d = dict d.objects.now d.slots.now d.words.now d.bytes.now

abbrev pub held_in : Receiving → Contents
held_in d = contents d.words.now d.bytes.now

-- the same rows and slots, and the same slices lent, whatever stands in them
pub record Same (old new : Receiving) : Type 0 where
  pub objects : new.objects.now ≡ old.objects.now
  pub slots : new.slots.now ≡ old.slots.now
  pub words : new.words.ghost_name ≡ old.words.ghost_name
  pub bytes : new.bytes.ghost_name ≡ old.bytes.ghost_name
