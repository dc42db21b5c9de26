-- blocks of eight that are ASCII may be skipped
use Rattle.std.proofs.Common.{◌≡◌, ◌+◌, ◌-◌, ◌*◌, ◌/◌, sym, ap, ◌∙◌, arith, rules, length, take, drop, length-drop}
use lib.Seq.{take-length}
use Rattle.std.specs.Simd.{first_chunks}
use Rattle.std.specs.List.{prefix_len}
use Rattle.text.specs.Machine.{Skipped}
use Rattle.text.proofs.AsciiLaws.{low_block, blocks_pass}
use Rattle.text.proofs.blocks.Goals as goal
use Rattle.text.proofs.blocks.Goals.{After-ascii_blocks}

passed : (c : After-ascii_blocks) → Skipped c.args.s.now c.args.from (c.args.from + 8 * c.ascii_blocks.result)
passed c =
    let a = c.args in
    let rest : take (length a.s.now - a.from) (drop a.from a.s.now) ≡ drop a.from a.s.now = ap (λ n. take n (drop a.from a.s.now)) (sym (length-drop a.from a.s.now)) ∙ take-length (drop a.from a.s.now) in
    let front : c.ascii_blocks.result ≡ prefix_len low_block (first_chunks 8 (length (take (length a.s.now - a.from) (drop a.from a.s.now)) / 8) (take (length a.s.now - a.from) (drop a.from a.s.now))) = search rules in
    blocks_pass a.s.now a.from _ (λ j. (c.type_inv.s j).fits) c.requires (rw rest at front)

pub overflow_mul-result : goal.overflow_mul-result
overflow_mul-result c = omega (arith, (passed c).inside)

pub overflow_add-result : goal.overflow_add-result
overflow_add-result c = omega (arith, (passed c).inside)

pub returns : goal.returns
returns c = passed c
