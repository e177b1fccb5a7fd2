use Rattle.std.proofs.Common.{◌≡◌, ◌-◌, ◌^◌, min, take}
use Rattle.raster_store.specs.Views.{fields_size}
use Rattle.raster_store.proofs.sizes.fields_size.Given as goal

abbrev pub invariant-loop-field : goal.invariant-loop-field
invariant-loop-field l = l.size ≡ min (2 ^ 64 - 1) (fields_size (take l.field-index l.fields))
