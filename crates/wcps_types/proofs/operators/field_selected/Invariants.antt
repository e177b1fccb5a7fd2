use Rattle.std.proofs.Common.{◌≡◌, map, drop}
use Rattle.wcps_types.specs.Labels.{label_of}
use Rattle.wcps_types.specs.Shapes.{labels_view}
use Rattle.wcps_types.specs.Operators.{selected}
use Rattle.wcps_types.proofs.operators.field_selected.Given as goal

abbrev pub invariant-loop-field : goal.invariant-loop-field
invariant-loop-field l = record {
  found : selected l.name l.domain (labels_view l.node.value 0 (map label_of l.fields)) ≡ selected l.name l.domain (labels_view l.node.value l.place (map label_of (drop l.field-index l.fields)));
  counted : l.place ≡ l.field-index;
}
