use Rattle.std.proofs.Common.{◌≡◌, ◌+◌, ◌≤◌}
use Rattle.tile_columns.specs.Sources.{OnlyReads}
use Rattle.tile_columns.specs.Gathering.{IsLocated, AreListed, HasGathered}
use Rattle.tile_columns.proofs.gather.gather_listed.Given as goal

abbrev pub invariant-loop-k : goal.invariant-loop-k
invariant-loop-k g l = record {
  located : IsLocated l.reading l.frame l.scratch;
  listed : AreListed l.reading l.frame l.scratch;
  value : (g.S.Tiles.state l.fn.source).intact → HasGathered (g.S.Tiles.state l.fn.source) l.reading l.frame l.k l.scratch;
  fetched : (g.S.Tiles.state l.source).fetched ≤ (g.S.Tiles.state l.fn.source).fetched + l.k;
  reads : OnlyReads (g.S.Tiles.state l.fn.source) (g.S.Tiles.state l.source);
  failures : (g.S.Tiles.state l.source).failures ≡ (g.S.Tiles.state l.fn.source).failures;
}
