-- An insertion that is given no range. Assumes nothing.
use Rattle.given.specs.declared.Head.{Head}

abbrev pub unranged : Head → Head
unranged h =
    record { index = h.index; kind = h.kind; access = h.access; default = h.default; low_type = 0; low = 0; high_type = 0; high = 0 }
