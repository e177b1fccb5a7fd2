-- A name is bound just where it is the variable of a choice.
use Rattle.std.proofs.Common.{◌∙◌, sym}
use Rattle.std.specs.Str.{bytes_eq}
use Rattle.wcps_types.specs.Bindings.{ChoiceTree, choice_view}
use Rattle.wcps_types.proofs.Parts.{list_any_map}
use Rattle.wcps_types.proofs.bindings.is_bound.Goals as goal

pub returns : goal.returns
returns c = c.is_choice.ensures ∙ sym (list_any_map (λ (p : ChoiceTree). bytes_eq p.variable c.args.name.now) choice_view c.args.choices.now)
