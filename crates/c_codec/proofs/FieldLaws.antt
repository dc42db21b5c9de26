-- How many parts a value has. Assumes nothing.
use mathlib.Core.Path.{◌≡◌}
use mathlib.Core.List.{◌++◌}
use Prim.Native.Nat.{ℕ}
use native.Mathlib.Omega.{arith}
use lib.ListN.{length, replicate, length-append, length-replicate}
use lib.Seq.{length-take-le}
use Rattle.value.specs.declared.ObjectValue.{ObjectValue}
use Rattle.value.specs.Meaning.{parts_of, fields_of}

pub length_fields : (v : ObjectValue) → length (fields_of v) ≡ 6
unfolding fields_of
length_fields v =
    let z : length (replicate {A = ℕ} 6 0) ≡ 6 = length-replicate {A = ℕ} 6 0 in
    length-take-le 6 (parts_of v ++ replicate 6 0) (rw length-append (omega arith))
