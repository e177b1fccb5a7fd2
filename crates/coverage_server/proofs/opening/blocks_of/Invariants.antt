use Rattle.std.proofs.Common.{◌≡◌, ℕ, take}
use Rattle.block_file.specs.State.{times}
use Rattle.raster_store.specs.Views.{listed_all}
use Rattle.metadata.specs.Metadata.{indexes_of}
use Rattle.coverage_server.proofs.opening.blocks_of.Given as goal

abbrev pub invariant-loop-fields : goal.invariant-loop-fields
invariant-loop-fields l = (k : ℕ) → times l.blocks.items k ≡ listed_all (indexes_of (take l.fields-index l.indexes)) k
