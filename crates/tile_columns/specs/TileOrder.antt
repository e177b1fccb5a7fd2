-- The points of a box tile by tile.
use Rattle.std.specs.Prelude.{◌≡◌, ℕ, ◌≤◌, ℤ, List, map, take}
use Rattle.std.specs.List.{flat_map}
use Rattle.arr_core.specs.Limits.{max_tile}
use Rattle.arr_core.specs.declared.domain.Axis.{Axis}
use Rattle.arr_core.specs.Domains.{points, count, rank_of, AreOrdered, IsBoxOf}
use Rattle.arr_core.specs.Tiles.{tile_boxes}
use Rattle.tile_columns.specs.declared.part.Part.{Part}

-- the points of the first t tiles, tile by tile
abbrev pub points_to : List Axis → ℕ → List (List ℤ)
points_to area t = flat_map points (take t (tile_boxes area))

-- a part of a box, with the places that its points have in the row-major list of the box's points
pub record IsPart (box : List Axis) (p : Part) : Type 0 where
  pub inside : IsBoxOf box p.area
  pub ordered : AreOrdered p.area
  pub few : count p.area ≤ max_tile
  pub ranks : p.ranks.items ≡ map (rank_of box) (points p.area)
