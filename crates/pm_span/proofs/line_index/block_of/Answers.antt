use Rattle.std.proofs.Common.{◌*◌, ◌/◌, arith, ap}
use Rattle.std.proofs.Math.Nat.{div-mul-le_self}
use Rattle.pm_span.proofs.line_index.block_of.Goals as goal

pub returns-then-block-eq-BLOCK : goal.returns-then-block-eq-BLOCK
returns-then-block-eq-BLOCK c =
    omega (arith, div-mul-le_self c.args.char_offset 32, ap (λ n. c.args.char_offset / 32 * n) c.if-block-eq-BLOCK.true)

pub returns-else-block-eq-BLOCK : goal.returns-else-block-eq-BLOCK
returns-else-block-eq-BLOCK c = div-mul-le_self c.args.char_offset c.args.block
