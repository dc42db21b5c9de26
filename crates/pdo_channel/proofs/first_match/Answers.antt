-- `pdo_channel::first_match` meets its contract: a channel is the first that matches, or the scan goes on. Assumes nothing.
use mathlib.Core.Path.{◌≡◌, sym, ap, ◌∙◌}
use mathlib.Core.Bool.{Bool}
use Prim.Native.Nat.{ℕ, ◌+◌}
use native.Mathlib.Omega.{arith}
use Rattle.entry.specs.Table.{Dict, number_of}
use Rattle.entry.proofs.ValueLaws.{rows_of}
use Rattle.pdo_channel.specs.Channel.{u8_at, matches_in, comm_index}
use Rattle.pdo_channel.proofs.ChannelLaws.{channel_here, channel_next, channel_end}
use Rattle.pdo_channel.proofs.first_match.Goals as goal

matched : (d : Dict) (sender i x : ℕ) (r b : Bool) → x ≡ comm_index i → r ≡ matches_in sender (u8_at d x 1) → r ≡ b → matches_in sender (u8_at d (comm_index i) 1) ≡ b
matched d sender i x r b e m q = ap (λ x. matches_in sender (u8_at d x 1)) (sym e) ∙ sym m ∙ q

pub lower-r-requires : goal.lower-r-requires
lower-r-requires c = rows_of _ c.d.invariant

pub row_near-row-requires : goal.row_near-row-requires
row_near-row-requires c = (rows_of _ c.d.invariant, omega (arith, c.loop-i.invariant.row_in_range, ap (λ (d : Dict). number_of d.objects) c.d.view_is))

pub behind-r-requires : goal.behind-r-requires
behind-r-requires c = (rows_of _ c.d.invariant, omega (arith, c.loop-i.invariant.row_in_range, ap (λ (d : Dict). number_of d.objects) c.d.view_is), c.row_near-row.ensures)

pub loop-i-preserved : goal.loop-i-preserved
loop-i-preserved c = record {
  row_in_range = omega (arith, c.behind-r.ensures, ap (λ (d : Dict). number_of d.objects) c.d.view_is);
  rest_is =
      sym (channel_next c.args.d.now c.args.sender 256 c.loop-i.i (omega (arith, c.loop-i-test.true)) (matched c.args.d.now c.args.sender c.loop-i.i _ _ _ c.comm_index-index.ensures c.matches_at.ensures c.if-matches_at.false))
      ∙ c.loop-i.invariant.rest_is;
}

pub returns : goal.returns
returns c = sym (channel_end c.args.d.now c.args.sender 256 c.loop-i.i c.loop-i-test.false) ∙ c.loop-i.invariant.rest_is

pub returns-then-matches_at : goal.returns-then-matches_at
returns-then-matches_at c =
    sym (channel_here c.args.d.now c.args.sender 256 c.loop-i.i (omega (arith, c.loop-i-test.true)) (matched c.args.d.now c.args.sender c.loop-i.i _ _ _ c.comm_index-index.ensures c.matches_at.ensures c.if-matches_at.true))
    ∙ c.loop-i.invariant.rest_is

pub returns-else-matches_at : goal.returns-else-matches_at
returns-else-matches_at c =
    sym (channel_end c.args.d.now c.args.sender 256 (c.loop-i.i + 1) (omega arith))
    ∙ sym (channel_next c.args.d.now c.args.sender 256 c.loop-i.i (omega (arith, c.loop-i-test.true)) (matched c.args.d.now c.args.sender c.loop-i.i _ _ _ c.comm_index-index.ensures c.matches_at.ensures c.if-matches_at.false))
    ∙ c.loop-i.invariant.rest_is
