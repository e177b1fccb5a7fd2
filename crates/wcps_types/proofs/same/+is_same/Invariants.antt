use Rattle.std.proofs.Common.{◌≡◌, map, take}
use Rattle.wcps_types.specs.Typed.{only_tree}
use Rattle.wcps_types.proofs.same.+is_same.Given as goal

abbrev pub invariant-are_same-loop-k : goal.invariant-are_same-loop-k
invariant-are_same-loop-k l = map only_tree (take l.k l.parts) ≡ map only_tree (take l.k l.others)
