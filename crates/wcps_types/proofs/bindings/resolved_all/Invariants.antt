use Rattle.std.proofs.Common.{◌≡◌, [], drop}
use Rattle.wcps_types.specs.Bindings.{resolved_all}
use Rattle.wcps_types.proofs.bindings.resolved_all.Given as goal

abbrev pub invariant-loop-name : goal.invariant-loop-name
invariant-loop-name l =
    resolved_all l.signatures l.coverages.items l.places.items (drop l.name-index l.names) ≡ resolved_all l.signatures l.fn.coverages.items [] l.names
