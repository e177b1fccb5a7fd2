-- The values that were copied stand at the front.
use Rattle.std.proofs.Common.{arith}
use Rattle.tile_kernel.proofs.Places.{copied_all}
use Rattle.tile_kernel.proofs.column.copy_heads.Goals as goal

pub returns : goal.returns
returns c = copied_all c.args.values.now c.loop-k.heads (omega arith) (λ k lt. c.loop-k.invariant k (omega arith))
