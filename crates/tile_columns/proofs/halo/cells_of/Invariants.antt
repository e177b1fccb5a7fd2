use Rattle.std.proofs.Common.{◌≡◌, ◌+◌, ◌-◌, ◌*◌, ◌≤◌, length, map}
use Rattle.tile_columns.specs.Sources.{OnlyReads}
use Rattle.tile_columns.specs.Reaching.{between, cross, extent}
use Rattle.tile_columns.specs.Windows.{field_cells}
use Rattle.tile_columns.proofs.Lying.{run_from}
use Rattle.tile_columns.proofs.halo.cells_of.Given as goal

abbrev pub invariant-loop-done : goal.invariant-loop-done
invariant-loop-done g l = record {
  value : (g.S.Tiles.state l.fn.source).intact → l.cells.items ≡ map (field_cells (g.S.Tiles.state l.fn.source) l.window) (cross (run_from l.window.rows.halo.lo l.done) (between l.window.columns.halo.lo l.window.columns.halo.hi));
  many : length l.cells.items ≡ l.done * extent l.window.columns.halo;
  inside : l.done ≤ l.height;
  fetched : (g.S.Tiles.state l.source).fetched ≤ (g.S.Tiles.state l.fn.source).fetched + l.done * extent l.window.columns.halo;
  reads : OnlyReads (g.S.Tiles.state l.fn.source) (g.S.Tiles.state l.source);
  failures : (g.S.Tiles.state l.source).failures ≡ (g.S.Tiles.state l.fn.source).failures;
}

abbrev pub decreases-loop-done : goal.decreases-loop-done
decreases-loop-done g l = l.height - l.done
