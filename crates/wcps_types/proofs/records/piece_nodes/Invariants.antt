use Rattle.std.proofs.Common.{◌≡◌, ◌++◌, map}
use Rattle.std.specs.Vec.Iter.{into_iter_items}
use Rattle.wcps_types.specs.Typed.{only_tree}
use Rattle.wcps_types.specs.Parts.{tree_in}
use Rattle.wcps_types.proofs.records.piece_nodes.Given as goal

abbrev pub invariant-loop-piece : goal.invariant-loop-piece
invariant-loop-piece l = map only_tree l.nodes.items ++ map (tree_in l.on_axes) (into_iter_items l.piece-iterator) ≡ map (tree_in l.on_axes) l.fn.list.items
