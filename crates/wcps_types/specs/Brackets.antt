-- Brackets: narrowing axes, and taking axes out at positions.
use Rattle.std.specs.Prelude.{ℕ, ℤ, pos, negsuc, List, [], ◌∷◌, ◌++◌, map, Bool, cond, ◌&&◌, ◌||◌, int_le, int_lt, Option, Some, None, is_some, slice_get, remove, option_map, Ok, Err}
use Rattle.arr_core.specs.declared.domain.Axis.{Axis}
use Rattle.arr_core.specs.Domains.{narrowed, axis_place}
use Rattle.arr_core.specs.Limits.{max_bound}
use Rattle.wcps_types.specs.declared.refusal.TypeRefusal.TheVariants.{NoSuchAxis, AxisTwice, TrimOutside, NeedsInteger, BadInterval}
use Rattle.wcps_types.specs.declared.bounds.Bounds.{Bounds}
use Rattle.wcps_types.specs.declared.brackets.Cut.{Cut}
use Rattle.wcps_types.specs.declared.brackets.Bracket.{Bracket}
use Rattle.wcps_types.specs.Typed.{Typed, slice, bracket, boxed_tree}
use Rattle.wcps_types.specs.Names.{name_place}
use Rattle.wcps_types.specs.Shapes.{SlotTree, ShapeTree, ScalarOf, Answer, then_of, only_scalar}

-- the integers from lo to hi
pub record BoundsOf : Type 0 where
  pub lo : ℤ
  pub hi : ℤ

-- an axis that is taken out, and the tree of the position
pub record CutTree : Type 0 where
  pub axis : List ℕ
  pub position : Typed

-- a bracket so far: the domain with the trimmed axes narrowed, the axes that are named, and what is taken out
pub record BracketTree : Type 0 where
  pub domain : List Axis
  pub named : List (List ℕ)
  pub cuts : List CutTree

abbrev pub bounds_view : Bounds → BoundsOf
bounds_view b = record { lo = b.lo; hi = b.hi }

abbrev pub cut_view : Cut → CutTree
cut_view c = record { axis = c.axis; position = boxed_tree c.position }

abbrev pub bracket_view : Bracket → BracketTree
bracket_view b = record { domain = b.domain; named = b.named.items; cuts = map cut_view b.cuts.items }

-- bounds as they are written: not the lower one above the upper one, and both of 32 bits
abbrev pub written_bounds : ℤ → ℤ → Answer BoundsOf
written_bounds lo hi = cond (int_le lo hi && (int_le (negsuc max_bound) lo && int_le hi (pos max_bound)))
    (Ok (record { lo = lo; hi = hi })) (Err BadInterval)

abbrev pub bounds_of : Axis → BoundsOf
bounds_of a = record { lo = a.lo; hi = a.hi }

abbrev pub bounds_or : Option BoundsOf → Answer BoundsOf
bounds_or None = Err NoSuchAxis
bounds_or (Some i) = Ok i

abbrev pub bounds_at : Option ℕ → List Axis → Option BoundsOf
bounds_at None axes = None
bounds_at (Some k) axes = option_map bounds_of (slice_get axes k)

-- the bounds of the axis of that name
abbrev pub bounds_of_axis : List ℕ → List Axis → Answer BoundsOf
bounds_of_axis name axes = bounds_or (bounds_at (axis_place name axes) axes)

-- nothing yet
abbrev pub opened : List Axis → BracketTree
opened axes = record { domain = axes; named = []; cuts = [] }

abbrev pub unless_named : Bool → Option ℕ → Answer ℕ
unless_named named None = Err NoSuchAxis
unless_named named (Some k) = cond named (Err AxisTwice) (Ok k)

-- the place of the next axis that a bracket names
abbrev pub place_to_cut : List ℕ → BracketTree → Answer ℕ
place_to_cut name b = unless_named (is_some (name_place name b.named)) (axis_place name b.domain)

abbrev pub trimmed_at : Option BoundsOf → ℕ → List ℕ → BoundsOf → BracketTree → Answer BracketTree
trimmed_at None k name i b = Err TrimOutside
trimmed_at (Some a) k name i b =
    cond (int_lt i.lo a.lo || int_lt a.hi i.hi) (Err TrimOutside)
    (Ok (record { domain = narrowed b.domain k i.lo i.hi; named = b.named ++ name ∷ []; cuts = b.cuts }))

-- the axis at a place narrowed to bounds that are inside it
abbrev pub with_trim : ℕ → List ℕ → BoundsOf → BracketTree → Answer BracketTree
with_trim k name i b = trimmed_at (option_map bounds_of (slice_get b.domain k)) k name i b

abbrev pub integer_tree : ScalarOf → Answer Typed
integer_tree s = cond s.boolean (Err NeedsInteger) (Ok s.tree)

-- a position: a scalar with one field, an integer
abbrev pub position_of : ShapeTree → Answer Typed
position_of s = then_of (only_scalar s) integer_tree

-- the axis taken out at a position
abbrev pub with_position : List ℕ → Typed → BracketTree → BracketTree
with_position name position b =
    record {
      domain = b.domain;
      named = b.named ++ name ∷ [];
      cuts =
          b.cuts ++ record { axis = name; position = position } ∷ [];
    }

abbrev pub sliced_slot : ℕ → ℤ → ℤ → Typed → SlotTree → SlotTree
sliced_slot k lo hi position s = record { name = s.name; boolean = s.boolean; tree = slice s.tree k lo hi position }

abbrev pub cut_between : Option BoundsOf → ℕ → Typed → ShapeTree → ShapeTree
cut_between None k position s = s
cut_between (Some i) k position s =
    record { domain = remove s.domain k; fields = map (sliced_slot k i.lo i.hi position) s.fields }

abbrev pub cut_at : Option ℕ → Typed → ShapeTree → ShapeTree
cut_at None position s = s
cut_at (Some k) position s = cut_between (option_map bounds_of (slice_get s.domain k)) k position s

-- one axis taken out: each field is sliced at the position
abbrev pub cut_out : CutTree → ShapeTree → ShapeTree
cut_out c s = cut_at (axis_place c.axis s.domain) c.position s

-- all of them, the last one first, so that the slice of the first one stands outermost
abbrev pub all_cut_out : List CutTree → ShapeTree → ShapeTree
all_cut_out [] s = s
all_cut_out (c ∷ cuts) s = cut_out c (all_cut_out cuts s)

abbrev pub bracketed_slot : SlotTree → SlotTree
bracketed_slot s = record { name = s.name; boolean = s.boolean; tree = bracket s.tree }

abbrev pub bracketed : ShapeTree → ShapeTree
bracketed s = record { domain = s.domain; fields = map bracketed_slot s.fields }

-- the shape of a whole bracket on those fields
abbrev pub closed : BracketTree → List SlotTree → ShapeTree
closed b fields = bracketed (all_cut_out b.cuts (record { domain = b.domain; fields = fields }))
