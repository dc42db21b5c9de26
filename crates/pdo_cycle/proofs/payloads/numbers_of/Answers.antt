-- `pdo_cycle::payloads::numbers_of` meets its contract. Assumes nothing.
use mathlib.Core.Path.{ap, ◌∙◌}
use mathlib.Core.List.{[]}
use Prim.Native.Nat.{◌/◌}
use native.Mathlib.Omega.{arith}
use lib.ListN.{length, get_or}
use Rattle.pdo_cycle.proofs.PayloadLaws.{chunk_at}
use Rattle.pdo_cycle.proofs.payloads.numbers_of.Goals as goal

pub returns : goal.returns
returns c =
    let a = c.args in
    ap (λ each. get_or each a.i []) c.as_chunks.ensures.front ∙ chunk_at (length a.payloads.now / 5) a.i a.payloads.now (omega (arith, c.requires))
