-- Tiles over whose boxes indexes go.
use Rattle.std.specs.Prelude.{◌≡◌, ℕ, ◌<◌, ◌≤◌, ◌/◌, ℤ, pos, List, length, map}
use Rattle.arr_core.specs.declared.domain.Axis.{Axis}
use Rattle.arr_core.specs.Domains.{gap, size_of, points, count, point_at}
use Rattle.arr_core.specs.Tiles.{grid, part_of, box_at, tile_boxes, tile_box}
use Rattle.plan_ir.specs.declared.body.Index.{Index}
use Rattle.plan_ir.specs.Run.{number_at, numbers_at}
use Rattle.tile_columns.specs.declared.frame.Variable.{Variable}
use Rattle.tile_columns.specs.declared.covering.AxisPart.{AxisPart}
use Rattle.tile_columns.specs.declared.covering.Covered.{Covered}
use Rattle.tile_columns.specs.Frames.{environment, turn, turns}

-- an index turns over what tiles have of an axis at a place, each coordinate so many times
pub record TurnsAlong (edge : ℕ) (a : Axis) (variables : List Variable) (i : Index) (every : ℕ) (s : AxisPart) : Type 0
  where
    pub within : s.place ≤ gap a.lo a.hi / edge
    pub size : s.size ≡ size_of (part_of edge a (pos s.place))
    pub turns : (k : ℕ) → number_at (environment variables k) i ≡ turn (part_of edge a (pos s.place)).lo
        (part_of edge a (pos s.place)).hi every k

-- the box of the tile with a number among those of some axes
abbrev pub box_of_tile : ℕ → List Axis → ℕ → List Axis
box_of_tile edge axes n = box_at edge axes (point_at (grid edge axes) n)

-- indexes turn over the box of a tile of some axes
pub record TurnsOver (edge : ℕ) (variables : List Variable) (is : List Index) (axes : List Axis) (t : Covered) : Type 0
  where
    pub tiles : t.tiles ≡ count (grid edge axes)
    pub number : t.number < t.tiles
    pub points : t.points ≡ count (box_of_tile edge axes t.number)
    pub turns : (k : ℕ) → numbers_at (environment variables k) is ≡ turns (box_of_tile edge axes t.number) k

-- indexes go over the box of the tile with a number, point for point
abbrev pub GoesOver : List Axis → List Index → List (List ℤ) → ℕ → Type 0
GoesOver axes is envs n = (n < length (tile_boxes axes)) × (map (λ e. numbers_at e is) envs ≡ points (tile_box axes n))
