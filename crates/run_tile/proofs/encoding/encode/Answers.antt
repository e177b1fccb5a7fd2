-- Cells are written in the form that takes fewer bytes.
use Rattle.std.proofs.Common.{arith}
use Rattle.run_tile.specs.Raw.{AreShortRuns}
use Rattle.run_tile.proofs.RawTiles.{tile-bounds}
use Rattle.run_tile.proofs.encoding.encode.Goals as goal

pub returns-clause-some : goal.returns-clause-some
returns-clause-some c =
    let short : AreShortRuns c.args.kind c.args.cells.now _ c.in-Some.bytes.items = rw c.in-Some.is at c.in_ok-bytes-2.ensures.runs in
    let bounds = (tile-bounds c.args.kind c.args.cells.now c.requires.some c.requires.few).0 in
    omega (arith, short.size, bounds)
