-- Several fields in braces.
use Rattle.std.specs.Prelude.{ℕ, List, [], ◌∷◌, ◌++◌, map, Bool, cond, not, ◌&&◌, Some, Ok, Err}
use Rattle.std.specs.List.{list_any}
use Rattle.std.specs.Str.{bytes_eq}
use Rattle.arr_core.specs.declared.domain.Axis.{Axis}
use Rattle.wcps_types.specs.declared.refusal.TypeRefusal.TheVariants.{DomainMismatch}
use Rattle.wcps_types.specs.declared.records.Piece.{Piece}
use Rattle.wcps_types.specs.declared.pieces.Pieces.{Pieces}
use Rattle.wcps_types.specs.declared.pieces.NextPiece.{NextPiece}
use Rattle.wcps_types.specs.Typed.{Typed, scalar, only_tree}
use Rattle.wcps_types.specs.Shapes.{SlotTree, ShapeTree, FieldOf, Answer, is_scalar}
use Rattle.wcps_types.specs.Operators.{are_same}

-- a part: its name, whether it is a scalar, whether it is Boolean, and its tree
pub record PieceTree : Type 0 where
  pub name : List ℕ
  pub on_no_axes : Bool
  pub boolean : Bool
  pub tree : Typed

-- the parts so far, and the domain of those that have axes
pub record PieceTrees : Type 0 where
  pub domain : List Axis
  pub pieces : List PieceTree

abbrev pub piece_view : Piece → PieceTree
piece_view p = record { name = p.name; on_no_axes = p.scalar; boolean = p.boolean; tree = only_tree p.node }

abbrev pub pieces_view : Pieces → PieceTrees
pieces_view p = record { domain = p.domain; pieces = map piece_view p.list.items }

-- the parts before the next one
abbrev pub before_next : NextPiece → PieceTrees
before_next n = record { domain = n.domain; pieces = map piece_view n.list.items }

-- no part yet
abbrev pub no_pieces : PieceTrees
no_pieces = record { domain = []; pieces = [] }

-- a part has that name
abbrev pub is_part : List ℕ → List PieceTree → Bool
is_part name pieces = list_any (λ (p : PieceTree). bytes_eq p.name name) pieces

-- one part more: where it has axes and an earlier one has too, they are the same
abbrev pub with_part : List ℕ → FieldOf → PieceTrees → Answer PieceTrees
with_part name f p =
    cond (not (is_scalar f.domain) && (not (is_scalar p.domain) && not (are_same p.domain f.domain)))
    (Err DomainMismatch)
    (Ok (record {
      domain = cond (is_scalar f.domain) p.domain f.domain;
      pieces = p.pieces ++ record { name = name; on_no_axes = is_scalar f.domain; boolean = f.boolean; tree = f.tree } ∷
          [];
    }))

-- a scalar part beside one with axes is taken at every point
abbrev pub finished_part : Bool → PieceTree → SlotTree
finished_part on_axes p = record
    { name = Some p.name; boolean = p.boolean; tree = cond (p.on_no_axes && on_axes) (scalar p.tree) p.tree }

-- all parts
abbrev pub finished : PieceTrees → ShapeTree
finished p = record { domain = p.domain; fields = map (finished_part (not (is_scalar p.domain))) p.pieces }
