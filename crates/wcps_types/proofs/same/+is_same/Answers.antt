-- Records of the same parts give the same fields.
use Rattle.std.proofs.Common.{ap, sym, map, ◌∙◌, arith}
use Rattle.std.proofs.lemmas.Grind.{common_steps}
use Rattle.wcps_types.specs.declared.typed.Node.{Node}
use Rattle.wcps_types.specs.Typed.{field_tree, only_tree}
use Rattle.wcps_types.proofs.SameTrees.{same_parts}
use Rattle.wcps_types.proofs.same.+is_same.Goals as goal

pub is_same-returns-in-Record-b : goal.is_same-returns-in-Record-b
is_same-returns-in-Record-b t c same f =
    let parts = ap (map only_tree) (sym c.deref-in-Record-b.ensures.value) ∙ c.are_same.ensures same ∙ ap (map only_tree) c.deref-in-Record-b-2.ensures.value in
    ap (λ (n : Node). field_tree n f) c.in-Record.is ∙ same_parts c.in-Record.parts c.in-Record-b.others f parts ∙ sym (ap (λ (n : Node). field_tree n f) c.in-Record-b.is)

pub are_same-loop-k-preserved : goal.are_same-loop-k-preserved
are_same-loop-k-preserved t c = grind (arith, common_steps)

pub are_same-returns : goal.are_same-returns
are_same-returns t c = grind (arith, common_steps)
