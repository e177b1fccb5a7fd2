use Rattle.std.proofs.Common.{◌≡◌, ◌+◌, length}
use Rattle.std.specs.Vec.Iter.{into_iter_items}
use Rattle.wcps_types.specs.Shapes.{labels_view}
use Rattle.wcps_types.specs.Operators.{selected}
use Rattle.wcps_types.proofs.operators.label_selected.Given as goal

abbrev pub invariant-loop-label : goal.invariant-loop-label
invariant-loop-label l = record {
  found : selected l.name l.domain (labels_view l.node.value 0 l.fn.labels.items) ≡ selected l.name l.domain (labels_view l.node.value l.place (into_iter_items l.label-iterator));
  counted : l.place + length (into_iter_items l.label-iterator) ≡ length l.fn.labels.items;
}
