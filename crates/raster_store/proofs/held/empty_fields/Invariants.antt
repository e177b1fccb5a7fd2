use Rattle.std.proofs.Common.{◌≡◌, [], replicate}
use Rattle.raster_store.proofs.held.empty_fields.Given as goal

abbrev pub invariant-loop : goal.invariant-loop
invariant-loop l = l.fields.items ≡ replicate l.counter []
