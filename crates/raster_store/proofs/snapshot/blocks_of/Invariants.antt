use Rattle.std.proofs.Common.{◌≡◌, ℕ, take}
use Rattle.block_file.specs.State.{times}
use Rattle.raster_store.specs.Views.{listed_all}
use Rattle.raster_store.specs.Holding.{indexes_of}
use Rattle.raster_store.proofs.snapshot.blocks_of.Given as goal

abbrev pub invariant-loop-coverage : goal.invariant-loop-coverage
invariant-loop-coverage l = (k : ℕ) → times l.blocks.items k ≡ listed_all (indexes_of (take l.coverage-index l.held)) k
