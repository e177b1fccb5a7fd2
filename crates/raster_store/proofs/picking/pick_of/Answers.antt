-- A tile that is marked of the coverage's version is spelled, and so is one that was read whole, which is marked.
use Rattle.std.proofs.Common.{rules, None}
use Rattle.raster_store.proofs.Versions.{adds_then}
use Rattle.raster_store.proofs.picking.pick_of.Goals as goal

pub pick_tested-requires-clause-tested : goal.pick_tested-requires-clause-tested
pick_tested-requires-clause-tested g c = c.requires.kept _ None (c.is_tested.ensures (search rules)) (search rules)

pub returns-clause-kept : goal.returns-clause-kept
returns-clause-kept g c =
    adds_then _ c.args.of.tile.coverage.now _ None _ _ _ c.in_ok-pick_whole.ensures.kept c.mark.ensures (search rules) c.in_ok-pick_whole.ensures.read.spelled
