use Rattle.std.proofs.Common.{◌≡◌, ◌++◌, drop, length, map}
use Rattle.wcps_types.specs.Bindings.{choice_view}
use Rattle.wcps_types.specs.Sharing.{own_choices}
use Rattle.wcps_types.proofs.sharing.own_variables.Given as goal

abbrev pub invariant-loop-choice : goal.invariant-loop-choice
invariant-loop-choice l = record {
  placed : length l.variables.list.items ≡ l.choice-index;
  made : l.variables.list.items ++ own_choices l.choice-index (map choice_view (drop l.choice-index l.choices)) ≡ own_choices 0 (map choice_view l.choices);
}
