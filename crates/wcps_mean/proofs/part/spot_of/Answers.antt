-- The tree of a field is read off the node.
use Rattle.std.proofs.Common.{rules, ◌≡◌, ◌<◌, ◌≤◌, ◌∙◌, None, ap, sym, arith, length}
use Rattle.std.specs.Prelude.{Some, option_map, option_and_then}
use Rattle.wcps_types.specs.Typed.{field_tree, tree_view}
use Rattle.wcps_mean.specs.declared.part.Part.{Part}
use Rattle.wcps_mean.specs.Parts.{at_point, part_of, condition_part, body_part}
use Rattle.wcps_mean.proofs.ItemFields.{item_field, no_item_field}
use Rattle.wcps_mean.proofs.part.spot_of.Goals as goal

pub returns-then-field-fields : goal.returns-then-field-fields
returns-then-field-fields c =
    let i = c.args.tree.now.item in
    let f = c.in-Field.field in
    let le : length i.booleans.items ≤ f = omega (arith, c.len-fields.ensures, i.booleans.ok) in
    let shown : part_of c.args.part (tree_view c.args.tree.now) ≡ None =
    ap (λ (q : Part). part_of q (tree_view c.args.tree.now)) c.in-Field.is ∙ ap (option_map at_point) (no_item_field i.node.value i.booleans.items f le) in
    sym shown

pub returns-else-field-fields : goal.returns-else-field-fields
returns-else-field-fields c =
    let i = c.args.tree.now.item in
    let f = c.in-Field.field in
    let lt : f < length i.booleans.items = omega (arith, c.len-fields.ensures, i.booleans.ok) in
    let shown : part_of c.args.part (tree_view c.args.tree.now) ≡ Some (at_point (field_tree i.node.value f)) =
    ap (λ (q : Part). part_of q (tree_view c.args.tree.now)) c.in-Field.is ∙ ap (option_map at_point) (item_field i.node.value i.booleans.items f lt) in
    rw shown (search rules)

pub returns-then-field-fields-2 : goal.returns-then-field-fields-2
returns-then-field-fields-2 c =
    let i = c.args.tree.now.item in
    let f = c.in-CondenserCondition.field in
    let le : length i.booleans.items ≤ f = omega (arith, c.len-fields.ensures, i.booleans.ok) in
    let shown : part_of c.args.part (tree_view c.args.tree.now) ≡ None =
    ap (λ (q : Part). part_of q (tree_view c.args.tree.now)) c.in-CondenserCondition.is ∙ ap (option_and_then condition_part) (no_item_field i.node.value i.booleans.items f le) in
    sym shown

pub returns-else-field-fields-2 : goal.returns-else-field-fields-2
returns-else-field-fields-2 c =
    let i = c.args.tree.now.item in
    let f = c.in-CondenserCondition.field in
    let lt : f < length i.booleans.items = omega (arith, c.len-fields.ensures, i.booleans.ok) in
    let shown : part_of c.args.part (tree_view c.args.tree.now) ≡ condition_part (field_tree i.node.value f) =
    ap (λ (q : Part). part_of q (tree_view c.args.tree.now)) c.in-CondenserCondition.is ∙ ap (option_and_then condition_part) (item_field i.node.value i.booleans.items f lt) in
    rw shown (search rules)

pub returns-then-field-fields-3 : goal.returns-then-field-fields-3
returns-then-field-fields-3 c =
    let i = c.args.tree.now.item in
    let f = c.in-CondenserValue.field in
    let le : length i.booleans.items ≤ f = omega (arith, c.len-fields.ensures, i.booleans.ok) in
    let shown : part_of c.args.part (tree_view c.args.tree.now) ≡ None =
    ap (λ (q : Part). part_of q (tree_view c.args.tree.now)) c.in-CondenserValue.is ∙ ap (option_and_then body_part) (no_item_field i.node.value i.booleans.items f le) in
    sym shown

pub returns-else-field-fields-3 : goal.returns-else-field-fields-3
returns-else-field-fields-3 c =
    let i = c.args.tree.now.item in
    let f = c.in-CondenserValue.field in
    let lt : f < length i.booleans.items = omega (arith, c.len-fields.ensures, i.booleans.ok) in
    let shown : part_of c.args.part (tree_view c.args.tree.now) ≡ body_part (field_tree i.node.value f) =
    ap (λ (q : Part). part_of q (tree_view c.args.tree.now)) c.in-CondenserValue.is ∙ ap (option_and_then body_part) (item_field i.node.value i.booleans.items f lt) in
    rw shown (search rules)
