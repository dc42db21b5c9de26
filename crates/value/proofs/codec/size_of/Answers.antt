-- `value::codec::size_of` meets its contract: each arm's keys have its size, and what no arm has is no type. Assumes nothing.
use mathlib.Core.Path.{sym}
use mathlib.Core.List.{[], ◌∷◌}
use Rattle.value.specs.Codec.{size_of}
use Rattle.value.proofs.CodecLaws.{all, keyed, size-rest}
use Rattle.value.proofs.codec.size_of.Goals as goal

pub returns-in-0 : goal.returns-in-0
unfolding size_of all
returns-in-0 c = sym (keyed size_of 1 0 (5 ∷ []) c.args.t tt c.in-0.is)

pub returns-in-1 : goal.returns-in-1
unfolding size_of all
returns-in-1 c = sym (keyed size_of 1 1 [] c.args.t tt c.in-1.is)

pub returns-in-2 : goal.returns-in-2
unfolding size_of all
returns-in-2 c = sym (keyed size_of 2 2 (6 ∷ []) c.args.t tt c.in-2.is)

pub returns-in-3 : goal.returns-in-3
unfolding size_of all
returns-in-3 c = sym (keyed size_of 4 3 (7 ∷ 9 ∷ 20 ∷ []) c.args.t tt c.in-3.is)

pub returns-in-4 : goal.returns-in-4
unfolding size_of all
returns-in-4 c = sym (keyed size_of 8 4 (8 ∷ 10 ∷ 17 ∷ []) c.args.t tt c.in-4.is)

pub returns-in-11 : goal.returns-in-11
unfolding size_of all
returns-in-11 c = sym (keyed size_of 0 11 (13 ∷ []) c.args.t tt c.in-11.is)

pub returns-in-12 : goal.returns-in-12
unfolding size_of all
returns-in-12 c = sym (keyed size_of 0 12 (14 ∷ []) c.args.t tt c.in-12.is)

pub returns-in-15 : goal.returns-in-15
unfolding size_of all
returns-in-15 c = sym (keyed size_of 6 15 (19 ∷ []) c.args.t tt c.in-15.is)

pub returns-in-16 : goal.returns-in-16
unfolding size_of all
returns-in-16 c = sym (keyed size_of 6 16 [] c.args.t tt c.in-16.is)

pub returns-in-18 : goal.returns-in-18
unfolding size_of all
returns-in-18 c = sym (keyed size_of 8 18 [] c.args.t tt c.in-18.is)

pub returns-in_default : goal.returns-in_default
returns-in_default c = sym (size-rest c.args.t c.in_default.in_default-own.rest)
