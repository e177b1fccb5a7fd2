-- Variables that turn over the box of a tile.
use Rattle.std.specs.Prelude.{◌≡◌, ℕ, ◌/◌, ◌%◌, List, [], ◌∷◌, ◌++◌}
use Rattle.arr_core.specs.declared.domain.Axis.{Axis}
use Rattle.arr_core.specs.Domains.{count}
use Rattle.arr_core.specs.Tiles.{grid}
use Rattle.tile_columns.specs.declared.frame.Variable.{Variable}
use Rattle.tile_columns.specs.declared.frame.Variable.TheVariants as variable
use Rattle.tile_columns.specs.declared.tiling.Behind.{Behind}
use Rattle.tile_columns.specs.Covering.{box_of_tile}

-- the variables that turn over the points of a box, the last axis fastest
abbrev pub variables_of : List Axis → List Variable
variables_of [] = []
variables_of (a ∷ axes) = variable.Axis a.lo a.hi (count axes) ∷ variables_of axes

-- what a tile's box has of the last axes, by its number among the tiles of these and of axes in front of them
abbrev pub last_box : ℕ → List Axis → ℕ → List Axis
last_box edge axes number = box_of_tile edge axes (number % count (grid edge axes))

-- variables are added that turn over what a tile's box has of the last axes
pub record AddsTile (edge : ℕ) (axes : List Axis) (number : ℕ) (old new : List Variable) (b : Behind) : Type 0 where
  pub items : new ≡ old ++ variables_of (last_box edge axes number)
  pub ahead : b.ahead ≡ number / count (grid edge axes)
  pub points : b.points ≡ count (last_box edge axes number)
