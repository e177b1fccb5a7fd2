-- The parts of a combination and their outcomes.
use Rattle.std.specs.Prelude.{ℕ, ℤ, List, [], Bool, true, false, cond, slice_get, Option, Some, None, option_map, option_and_then}
use Rattle.wcps_types.specs.Typed.{Typed, condense, condense_where, reduce, FieldTree, CombinationTree, TypedTree}
use Rattle.wcps_types.specs.Renamed.{renamed}
use Rattle.wcps_mean.specs.declared.part.Part.{Part}
use Rattle.wcps_mean.specs.declared.part.Part.TheVariants.{Condition, Field, CondenserCondition, CondenserValue}
use Rattle.wcps_mean.specs.declared.cell.Outcome.{Outcome}
use Rattle.wcps_mean.specs.Meaning.{val}
use Rattle.wcps_mean.specs.Reading.{CellsOf}

-- the tree of a part, and whether the coordinates of its point are the numbers of its iterators
pub record PartTree : Type 0 where
  pub tree : Typed
  pub iterates : Bool

-- what is taken at its point
abbrev pub at_point : Typed → PartTree
at_point t = record { tree = t; iterates = false }

-- what is taken at the empty point, its iterators bound to the coordinates
abbrev pub at_iterators : Typed → PartTree
at_iterators t = record { tree = t; iterates = true }

-- the condition of a condenser that has one
abbrev pub condition_part : Typed → Option PartTree
condition_part (condense_where op box c e) = Some (at_iterators c)
condition_part _ = None

-- what a condenser or a reduction goes over
abbrev pub body_part : Typed → Option PartTree
body_part (condense op box e) = Some (at_iterators e)
body_part (condense_where op box c e) = Some (at_iterators e)
body_part (reduce op box e) = Some (at_point e)
body_part _ = None

-- the tree of a field
abbrev pub tree_of_field : CombinationTree → ℕ → Option Typed
tree_of_field c f = option_map (λ (t : FieldTree). t.tree) (slice_get c.item.fields f)

-- a part of a combination, where there is such a part
abbrev pub part_of : Part → CombinationTree → Option PartTree
part_of Condition c = option_map at_point c.condition
part_of (Field f) c = option_map at_point (tree_of_field c f)
part_of (CondenserCondition f) c = option_and_then condition_part (tree_of_field c f)
part_of (CondenserValue f) c = option_and_then body_part (tree_of_field c f)

-- the same of the combination at a place of a query
abbrev pub part_in : TypedTree → ℕ → Part → Option PartTree
part_in q k part = option_and_then (part_of part) (slice_get q.combinations k)

-- a part over coverages
abbrev pub part_over : List ℕ → PartTree → PartTree
part_over cs t = record { tree = renamed cs t.tree; iterates = t.iterates }

-- the outcome of a part at a point, for cells
abbrev pub part_outcome : List ℤ → PartTree → CellsOf → Outcome
part_outcome p t s = val s t.tree (cond t.iterates p []) (cond t.iterates [] p)
