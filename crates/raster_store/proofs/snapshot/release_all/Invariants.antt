use Rattle.std.proofs.Common.{take}
use Rattle.block_file.specs.State.{none}
use Rattle.block_file.specs.Words.{Recounts}
use Rattle.raster_store.specs.Views.{listed_all}
use Rattle.raster_store.specs.Holding.{indexes_of}
use Rattle.raster_store.proofs.snapshot.release_all.Given as goal

abbrev pub invariant-loop-coverage : goal.invariant-loop-coverage
invariant-loop-coverage g l = Recounts (listed_all (indexes_of (take l.coverage-index l.held))) none (g.B.Blocks.state l.fn.blocks) (g.B.Blocks.state l.blocks)
