use Rattle.std.proofs.Common.{◌≡◌, ◌≤◌, ◌+◌, ◌*◌, min, map, drop}
use Rattle.wcps_types.specs.Bindings.{combination_count, max_combinations, choice_view}
use Rattle.wcps_types.proofs.bindings.combination_count.Given as goal

abbrev pub invariant-loop-choice : goal.invariant-loop-choice
invariant-loop-choice l = record {
  few : l.count ≤ max_combinations + 1;
  counted : min (l.count * combination_count (map choice_view (drop l.choice-index l.choices))) (max_combinations + 1) ≡ min (combination_count (map choice_view l.choices)) (max_combinations + 1);
}
