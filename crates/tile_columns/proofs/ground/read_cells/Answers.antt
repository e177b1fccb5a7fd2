-- The coverage has a cell at each point of the indexes.
use Rattle.std.proofs.Common.{◌+◌, ◌≤◌, map, length, subst}
use Rattle.std.specs.Prelude.{OnOk}
use Rattle.plan_ir.specs.Run.{numbers_at}
use Rattle.arr_core.specs.Meeting.{tile_number}
use Rattle.plan_ir.specs.Units.{distinct}
use Rattle.tile_columns.proofs.Placing.{points_there, domain_there}
use Rattle.tile_columns.proofs.ground.read_cells.Goals as goal

pub read-requires-clause-inside : goal.read-requires-clause-inside
read-requires-clause-inside g c =
    points_there (g.S.Tiles.state c.args.source.now).coverages c.args.ground.now.signatures.now c.args.ground.now.coverages.now c.args.what.now.coverage c.args.what.now.field c.place_at-place.result c.args.what.now.indexes.now c.args.frame.now c.index-ground-place.result
    c.requires.place c.requires.signatures c.place_at-place.ensures

pub returns-clause-fetched : goal.returns-clause-fetched
returns-clause-fetched g c =
    subst (λ box. OnOk c.read.result ((g.S.Tiles.state c.read.new.source).fetched ≤ (g.S.Tiles.state c.args.source.now).fetched + length (distinct (map (λ e. tile_number box (numbers_at e c.args.what.now.indexes.now)) c.args.frame.now))))
    (domain_there (g.S.Tiles.state c.args.source.now).coverages c.args.ground.now.signatures.now c.args.ground.now.coverages.now c.args.what.now.coverage c.args.what.now.field c.place_at-place.result c.args.what.now.indexes.now c.args.frame.now c.index-ground-place.result
    c.requires.place c.requires.signatures c.place_at-place.ensures)
    c.read.ensures.fetched
