use Rattle.std.proofs.Common.{◌≡◌, ◌-◌, ◌^◌, min, take, sum_by}
use Rattle.raster_store.specs.Views.{fields_size}
use Rattle.raster_store.specs.Holding.{indexes_of}
use Rattle.raster_store.proofs.sizes.held_size.Given as goal

abbrev pub invariant-loop-coverage : goal.invariant-loop-coverage
invariant-loop-coverage l = l.size ≡ min (2 ^ 64 - 1) (sum_by fields_size (indexes_of (take l.coverage-index l.held)))
