use Rattle.std.proofs.Common.{◌≡◌, ◌≤◌, ◌+◌, length}
use Rattle.std.specs.List.{All}
use Rattle.plan_ir.specs.Bodies.{body_view}
use Rattle.plan_ir.specs.Units.{bound_times}
use Rattle.tile_columns.specs.Sources.{OnlyReads}
use Rattle.tile_columns.specs.TileOrder.{points_to}
use Rattle.tile_exec.specs.Known.{IsSampleOf}
use Rattle.tile_exec.proofs.samples.samples_of.Given as goal

abbrev pub invariant-loop-tile : goal.invariant-loop-tile
invariant-loop-tile g l = record {
  value : All (IsSampleOf (g.S.Tiles.state l.fn.source) l.ground l.area (body_view l.key)) l.samples.items;
  few : length l.samples.items ≤ 4096;
  fetched : (g.S.Tiles.state l.source).fetched ≤ (g.S.Tiles.state l.fn.source).fetched + bound_times (length (points_to l.area l.tile)) (body_view l.key);
  reads : OnlyReads (g.S.Tiles.state l.fn.source) (g.S.Tiles.state l.source);
  failures : (g.S.Tiles.state l.source).failures ≡ (g.S.Tiles.state l.fn.source).failures;
}
