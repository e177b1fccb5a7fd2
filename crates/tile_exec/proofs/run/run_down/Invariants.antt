use Rattle.std.proofs.Common.{◌≡◌, ◌≤◌, min}
use Rattle.tile_columns.specs.Sources.{OnlyReads}
use Rattle.tile_exec.specs.Standing.{left_of}
use Rattle.tile_exec.specs.Running.{HasRun, FetchesWithin}
use Rattle.tile_exec.proofs.run.run_down.Given as goal

abbrev pub invariant-loop-exec : goal.invariant-loop-exec
invariant-loop-exec g l = record {
  run : HasRun (g.S.Tiles.state l.fn.source) l.fn.exec l.exec;
  asked : min (left_of l.fn.exec) l.left ≤ left_of l.exec;
  rest : left_of l.fn.exec ≤ l.left → l.exec ≡ l.fn.exec;
  fetched : FetchesWithin l.fn.exec l.exec (g.S.Tiles.state l.fn.source) (g.S.Tiles.state l.source);
  reads : OnlyReads (g.S.Tiles.state l.fn.source) (g.S.Tiles.state l.source);
  failures : (g.S.Tiles.state l.source).failures ≡ (g.S.Tiles.state l.fn.source).failures;
}

abbrev pub decreases-loop-exec : goal.decreases-loop-exec
decreases-loop-exec g l = left_of l.exec
