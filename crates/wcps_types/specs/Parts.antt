-- Labels and trees of the parts of a record.
use Rattle.std.specs.Prelude.{ℕ, suc, pos, List, [], ◌∷◌, Bool, cond, ◌&&◌, Some, get_or}
use Rattle.wcps_types.specs.declared.labels.Label.{Label}
use Rattle.wcps_types.specs.declared.records.Piece.{Piece}
use Rattle.wcps_types.specs.Typed.{Typed, number, scalar, only_tree}
use Rattle.wcps_types.specs.Shapes.{SlotTree}

-- the name and the kind of a part
abbrev pub piece_label : Piece → Label
piece_label p = record { name = Some p.name; boolean = p.boolean }

-- the tree of a part, where some part has axes or none has
abbrev pub tree_in : Bool → Piece → Typed
tree_in on_axes p = cond (p.scalar && on_axes) (scalar (only_tree p.node)) (only_tree p.node)

-- labels, each beside the tree at its place, from place k on
abbrev pub with_trees : List Typed → ℕ → List Label → List SlotTree
with_trees trees k [] = []
with_trees trees k (l ∷ labels) =
    record { name = l.name; boolean = l.boolean; tree = get_or trees k (number (pos 0)) } ∷ with_trees trees (suc k)
    labels
