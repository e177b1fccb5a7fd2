-- What a node does to each of its fields.
use Rattle.std.proofs.Common.{◌≡◌, ℕ, zero, suc, ◌+◌, ◌<◌, ◌≤◌, Bool, List, [], ◌∷◌, map, refl, ap, sym, ◌∙◌, get_or, Vec, length, arith}
use Rattle.std.specs.Prelude.{Box, ℤ, pos}
use Rattle.std.specs.Global.{Global}
use mathlib.Core.Former.{Count}
use Rattle.arr_core.specs.declared.domain.Axis.{Axis}
use Rattle.arr_core.specs.declared.field.Field.{Field}
use Rattle.wcps_types.specs.declared.labels.Label.{Label}
use Rattle.wcps_types.specs.declared.records.Piece.{Piece}
use Rattle.wcps_types.specs.declared.typed.Node.{Node, Row_of-Node, end_of-Node, more_of-Node, items-the_row-Node, items_hidden-the_row-Node-0}
use Rattle.wcps_types.specs.declared.typed.Node.TheVariants as nodes
use Rattle.wcps_types.specs.Typed.{Typed, number, field_tree, part_tree, only_tree, fields_view}
use Rattle.wcps_types.specs.Shapes.{slot_of, labels_view, the_boolean, labelled, only_field}
use Rattle.wcps_types.specs.Labels.{label_of}
use Rattle.wcps_types.specs.Variables.{cells_from}
use Rattle.wcps_types.specs.Brackets.{sliced_slot, bracketed_slot}
use Rattle.wcps_types.specs.Records.{piece_view, finished_part}
use Rattle.wcps_types.specs.Parts.{piece_label, tree_in, with_trees}
use Rattle.wcps_types.specs.Queries.{label_boolean, field_of_slot}

-- a bracket stands over each field
pub bracket_fields : (b : Box Node Global) (k : ℕ) (labels : List Label) → labels_view (nodes.Bracket b) k labels ≡ map bracketed_slot (labels_view b.value k labels)
bracket_fields b k [] = refl
bracket_fields b k (l ∷ labels) = ap (λ more. bracketed_slot (slot_of b.value k l) ∷ more) (bracket_fields b (suc k) labels)

-- each field is sliced at the one position
pub slice_fields : (b : Box Node Global) (axis : ℕ) (lo hi : ℤ) (q : Box Node Global) (k : ℕ) (labels : List Label)
    → labels_view (nodes.Slice b axis lo hi q) k labels ≡ map (sliced_slot axis lo hi (only_tree q.value)) (labels_view b.value k labels)
slice_fields b axis lo hi q k [] = refl
slice_fields b axis lo hi q k (l ∷ labels) = ap (λ more. sliced_slot axis lo hi (only_tree q.value) (slot_of b.value k l) ∷ more) (slice_fields b axis lo hi q (suc k) labels)

-- the cells of each field of a coverage
pub cell_fields : (c k : ℕ) (fields : List Field) → labels_view (nodes.Coverage c) k (map label_of fields) ≡ cells_from c k fields
cell_fields c k [] = refl
cell_fields c k (f ∷ fields) =
    let next : suc k ≡ k + 1 = omega arith in
    ap (λ more. slot_of (nodes.Coverage c) k (label_of f) ∷ more) (cell_fields c (suc k) fields ∙ ap (λ n. cells_from c n fields) next)

parts_are : (n : Count) (row : Row_of-Node n) (f : ℕ) → part_tree row f ≡ get_or (map only_tree (items-the_row-Node n row)) f (number (pos 0))
parts_are n end_of-Node f = refl
parts_are n (more_of-Node e rest) zero = refl
parts_are n (more_of-Node e rest) (suc f) = parts_are _ rest f

abbrev row_of : Node → (n : Count) × Row_of-Node n
row_of (nodes.Record' shape row) = (_, row)
row_of _ = (_, end_of-Node)

-- the field at a place of a record is the only one of the part at that place
pub record_field : (v : Vec Node Global) (f : ℕ) → field_tree (nodes.Record v) f ≡ get_or (map only_tree v.items) f (number (pos 0))
record_field v f =
    let row = row_of (nodes.Record v) in
    parts_are row.0 row.1 f ∙ ap (λ ns. get_or (map only_tree ns) f (number (pos 0))) (items_hidden-the_row-Node-0 v)

pub record_fields : (v : Vec Node Global) (k : ℕ) (labels : List Label) → labels_view (nodes.Record v) k labels ≡ with_trees (map only_tree v.items) k labels
record_fields v k [] = refl
record_fields v k (l ∷ labels) = rw (record_field v k, record_fields v (suc k) labels) refl

later_trees : (t : Typed) (trees : List Typed) (k : ℕ) (labels : List Label) → with_trees (t ∷ trees) (suc k) labels ≡ with_trees trees k labels
later_trees t trees k [] = refl
later_trees t trees k (l ∷ labels) = rw (later_trees t trees (suc k) labels) refl

-- the parts of a record, each with its label
pub finished_fields : (on_axes : Bool) (ps : List Piece) → with_trees (map (tree_in on_axes) ps) 0 (map piece_label ps) ≡ map (finished_part on_axes) (map piece_view ps)
finished_fields on_axes [] = refl
finished_fields on_axes (p ∷ ps) = rw (later_trees (tree_in on_axes p) (map (tree_in on_axes) ps) 0 (map piece_label ps), finished_fields on_axes ps) refl

-- a node with one field
pub one_field : (axes : List Axis) (e : Node) (labels : List Label) → only_field axes (labels_view e 0 labels) ≡ labelled axes e (the_boolean labels)
one_field axes e [] = refl
one_field axes e (l ∷ []) = refl
one_field axes e (l ∷ m ∷ more) = refl

-- the fields of an item
pub item_fields : (e : Node) (k : ℕ) (labels : List Label) → fields_view e k (map label_boolean labels) ≡ map field_of_slot (labels_view e k labels)
item_fields e k [] = refl
item_fields e k (l ∷ labels) = ap (λ more. field_of_slot (slot_of e k l) ∷ more) (item_fields e (suc k) labels)

part_of : (ns : List Node) (f : ℕ) (d : Node) → f < length ns → get_or (map only_tree ns) f (number (pos 0)) ≡ only_tree (get_or ns f d)
part_of [] f d h = absurd (omega arith)
part_of (n ∷ ns) zero d h = refl
part_of (n ∷ ns) (suc f) d h = part_of ns f d (omega arith)

no_part_of : (ns : List Node) (f : ℕ) → length ns ≤ f → get_or (map only_tree ns) f (number (pos 0)) ≡ number (pos 0)
no_part_of [] f h = refl
no_part_of (n ∷ ns) zero h = absurd (omega arith)
no_part_of (n ∷ ns) (suc f) h = no_part_of ns f (omega arith)

-- a field of a record that has a part at that place
pub record_part : (v : Vec Node Global) (f : ℕ) (e d : Node) → f < length v.items → e ≡ get_or v.items f d → field_tree (nodes.Record v) f ≡ only_tree e
record_part v f e d h is = record_field v f ∙ part_of v.items f d h ∙ ap only_tree (sym is)

-- or has none
pub record_none : (v : Vec Node Global) (f : ℕ) → length v.items ≤ f → field_tree (nodes.Record v) f ≡ number (pos 0)
record_none v f h = record_field v f ∙ no_part_of v.items f h
