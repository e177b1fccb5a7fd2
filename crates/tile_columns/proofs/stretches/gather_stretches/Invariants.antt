use Rattle.std.proofs.Common.{◌≡◌, ◌+◌, ◌-◌, ◌≤◌, length, take}
use Rattle.plan_ir.specs.Units.{distinct}
use Rattle.tile_columns.specs.Sources.{OnlyReads}
use Rattle.tile_columns.specs.Spots.{tiles_in}
use Rattle.tile_columns.specs.Stretches.{IsOrdered, HasRead}
use Rattle.tile_columns.proofs.InOrder.{BeginsAt}
use Rattle.tile_columns.proofs.stretches.gather_stretches.Given as goal

abbrev pub invariant-loop-from : goal.invariant-loop-from
invariant-loop-from g l = record {
  ordered : IsOrdered l.reading l.frame l.scratch;
  within : l.from ≤ length l.scratch.spots.items;
  begins : BeginsAt l.scratch.spots.items l.from;
  value : (g.S.Tiles.state l.fn.source).intact → HasRead (g.S.Tiles.state l.fn.source) l.reading l.frame l.scratch l.from;
  fetched : (g.S.Tiles.state l.source).fetched ≤ (g.S.Tiles.state l.fn.source).fetched + length (distinct (take l.from (tiles_in l.scratch.spots.items)));
  reads : OnlyReads (g.S.Tiles.state l.fn.source) (g.S.Tiles.state l.source);
  failures : (g.S.Tiles.state l.source).failures ≡ (g.S.Tiles.state l.fn.source).failures;
}

abbrev pub decreases-loop-from : goal.decreases-loop-from
decreases-loop-from g l = length l.scratch.spots.items - l.from
