use Rattle.std.proofs.Common.{◌≡◌, ℕ, ◌+◌, take}
use Rattle.block_file.specs.State.{times}
use Rattle.raster_store.specs.Views.{listed_fields}
use Rattle.raster_store.proofs.snapshot.push_blocks.Given as goal

abbrev pub invariant-loop-field : goal.invariant-loop-field
invariant-loop-field l = (k : ℕ) → times l.blocks.items k ≡ times l.fn.blocks.items k + listed_fields (take l.field-index l.fields) k
