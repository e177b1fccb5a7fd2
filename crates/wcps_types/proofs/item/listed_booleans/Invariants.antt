use Rattle.std.proofs.Common.{◌≡◌, map, take}
use Rattle.wcps_types.specs.Queries.{label_boolean}
use Rattle.wcps_types.proofs.item.listed_booleans.Given as goal

abbrev pub invariant-loop-label : goal.invariant-loop-label
invariant-loop-label l = l.booleans.items ≡ map label_boolean (take l.label-index l.labels)
