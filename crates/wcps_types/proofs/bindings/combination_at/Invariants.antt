use Rattle.std.proofs.Common.{◌≡◌, ◌<◌, ◌++◌, map, drop}
use Rattle.wcps_types.specs.Bindings.{combination_count, combination_at, choice_view}
use Rattle.wcps_types.proofs.bindings.combination_at.Given as goal

abbrev pub invariant-loop-choice : goal.invariant-loop-choice
invariant-loop-choice l = record {
  counted : l.rest ≡ combination_count (map choice_view (drop l.choice-index l.choices));
  inside : l.number < l.rest;
  chosen : l.bound.items ++ combination_at (map choice_view (drop l.choice-index l.choices)) l.number ≡ combination_at (map choice_view l.choices) l.fn.number;
}
