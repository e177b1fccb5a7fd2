use Rattle.std.proofs.Common.{◌≡◌, take}
use Rattle.wcps_types.specs.Sharing.{coverages_in}
use Rattle.wcps_types.proofs.sharing.places_of.Given as goal

abbrev pub invariant-loop-b : goal.invariant-loop-b
invariant-loop-b l = l.places.items ≡ coverages_in (take l.b-index l.bound)
