-- The shape has one axis fewer, and each of its fields is sliced at the position.
use Rattle.std.proofs.Common.{◌≡◌, ◌∙◌, ap, sym, map, List, rules, arith}
use Rattle.std.specs.Prelude.{Some, slice_get, remove, option_map}
use Rattle.std.proofs.lemmas.Grind.{common_steps}
use Rattle.arr_core.specs.declared.domain.Axis.{Axis}
use Rattle.arr_core.specs.Domains.{axis_place}
use Rattle.wcps_types.specs.declared.typed.Node.{Node}
use Rattle.wcps_types.specs.declared.typed.Node.TheVariants as nodes
use Rattle.wcps_types.specs.Typed.{boxed_tree}
use Rattle.wcps_types.specs.Labels.{labels_in}
use Rattle.wcps_types.specs.Shapes.{labels_view, shape_view}
use Rattle.wcps_types.specs.Brackets.{bounds_of, bounds_view, cut_view, sliced_slot}
use Rattle.wcps_types.proofs.Applied.{sliced_shape}
use Rattle.wcps_types.proofs.Fields.{slice_fields}
use Rattle.wcps_types.proofs.brackets.cut_out.Goals as goal

pub returns : goal.returns
returns c =
    let shape = c.args.shape in
    let place = c.in-Some.place in
    let bounds = c.in-Some-bounds_at.bounds in
    let position = c.args.cut.position in
    let labels = labels_in shape.labels in
    let at : axis_place c.args.cut.axis shape.domain ≡ Some place =
    ap (axis_place c.args.cut.axis) (sym c.axes.ensures.value) ∙ sym c.axis_place.ensures ∙ c.in-Some.is in
    let found : option_map bounds_of (slice_get shape.domain place) ≡ Some (bounds_view bounds) =
    ap (λ (axes : List Axis). option_map bounds_of (slice_get axes place)) (sym c.axes-2.ensures.value) ∙ sym c.bounds_at.ensures ∙ ap (option_map bounds_view) c.in-Some-bounds_at.is in
    let fewer : c.own.result ≡ remove shape.domain place = search rules in
    let node : c.in_ok-boxed.field-0.value ≡ nodes.Slice shape.node place bounds.lo bounds.hi position = search rules in
    let fields : labels_view c.in_ok-boxed.field-0.value 0 labels ≡ map (sliced_slot place bounds.lo bounds.hi (boxed_tree position)) (labels_view shape.node.value 0 labels) =
    ap (λ (n : Node). labels_view n 0 labels) node ∙ slice_fields shape.node place bounds.lo bounds.hi position 0 labels in
    sliced_shape (cut_view c.args.cut) (shape_view shape) place (bounds_view bounds) c.own.result (labels_view c.in_ok-boxed.field-0.value 0 labels) at found fewer fields

pub returns-in_default : goal.returns-in_default
returns-in_default c = grind (arith, common_steps)

pub returns-in_default-bounds_at : goal.returns-in_default-bounds_at
returns-in_default-bounds_at c = grind (arith, common_steps)

pub returns-in_err-fewer : goal.returns-in_err-fewer
returns-in_err-fewer c = grind (arith, common_steps)

pub returns-in_err-boxed : goal.returns-in_err-boxed
returns-in_err-boxed c = grind (arith, common_steps)
