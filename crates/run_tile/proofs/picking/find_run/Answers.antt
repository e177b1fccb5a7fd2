-- The run that was passed has its cells before the rank.
use Rattle.std.proofs.Common.{◌+◌, ap, arith, refl}
use Rattle.run_tile.specs.declared.run.Run.{Run}
use Rattle.run_tile.specs.declared.picking.Start.{Start}
use Rattle.run_tile.proofs.Picks.{start-more}
use Rattle.run_tile.proofs.picking.find_run.Goals as goal

pub runs-preserved : goal.runs-preserved
runs-preserved c =
    let next : Start = record { runs = c.runs.at.runs + 1; cells = c.runs.at.cells + c.read_at-run.result.count } in
    let read = ap (λ (r : Run). c.runs.at.cells + r.count) c.read_at-run.ensures in
    record {
      start = start-more c.args.kind c.args.bytes.now c.runs.at next c.runs.invariant.start (rw c.width.ensures at c.runs-test.true) refl read;
      before = omega arith;
    }
