-- So few runs take few bytes.
use Rattle.std.proofs.Common.{◌+◌, ◌*◌, ◌≤◌, arith, mul-le-mul_right}
use Rattle.run_tile.proofs.RawTiles.{most-width}
use Rattle.run_tile.proofs.encoding.seems_noisy.Goals as goal

pub overflow_mul-result-2 : goal.overflow_mul-result-2
overflow_mul-result-2 c =
    let size = 2 + c.width-2.result in
    let few : c.loop-place.runs * size ≤ 64 * size = mul-le-mul_right size c.loop-place.invariant.within in
    omega (arith, few, c.width-2.ensures, most-width c.args.kind)
