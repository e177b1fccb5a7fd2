use Rattle.std.proofs.Common.{◌≡◌, ℕ, ◌+◌, take}
use Rattle.block_file.specs.State.{times}
use Rattle.raster_store.specs.Views.{listed_fields}
use Rattle.coverage_server.proofs.opening.push_blocks.Given as goal

abbrev pub invariant-loop-index : goal.invariant-loop-index
invariant-loop-index l = (k : ℕ) → times l.blocks.items k ≡ times l.fn.blocks.items k + listed_fields (take l.index-index l.fields) k
