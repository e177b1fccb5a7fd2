-- Binds at the places of a frame, over a source of tiles.
use Rattle.std.specs.Prelude.{◌≡◌, ℤ, List, [], ◌∷◌, map, length, Result}
use Rattle.wcps_mean.specs.declared.cell.Outcome.{Outcome}
use Rattle.plan_ir.specs.declared.body.Body.{Body}
use Rattle.plan_ir.specs.Bodies.{body_view}
use Rattle.tile_columns.specs.declared.bodies.Bound.{Bound}
use Rattle.tile_columns.specs.Frames.{extended}
use Rattle.tile_columns.specs.Binding.{coordinate_or_lo, at_positions, with_coordinate}
use Rattle.tile_columns.specs.Evaluating.{HasPlaceUnder}
use Rattle.tile_columns.specs.declared.source.Tiles.{Ghosts}
use Rattle.tile_columns.specs.Sources.{SourceState}
use Rattle.tile_columns.specs.Meaning.{chosen, meaning, IsColumnOf, Fetches}

-- the body of a bind has its place under one more variable than those of a frame
abbrev pub HasPlaceBehind : {K : Type 0} → SourceState K → Bound → Body → List (List ℤ) → Type 0
HasPlaceBehind s b e envs =
    HasPlaceUnder (chosen s b.ground.now) (length b.ground.now.registers.now) (b.interval ∷ []) (body_view e) envs

-- a column has what a bind gives: its body where the position lies in the interval, else the fault
abbrev pub IsColumnBehind : {K : Type 0} → SourceState K → Bound → Body → List (List ℤ) → List Outcome → Type 0
IsColumnBehind s b e envs column =
    s.intact → column ≡ at_positions b.positions.now b.interval.lo b.interval.hi
    (with_coordinate (meaning s b.ground.now (body_view e)) envs)

-- a column has what its body gives under the coordinates of the positions, or the lower bound where there is none
abbrev pub IsColumnUnder : {K : Type 0} → SourceState K → Bound → Body → List (List ℤ) → List Outcome → Type 0
IsColumnUnder s b e envs column =
    IsColumnOf s b.ground.now (body_view e)
    (extended envs (map (coordinate_or_lo b.interval.lo b.interval.hi) b.positions.now)) column

-- no more tiles are fetched than the body asks for
abbrev pub FetchesBehind : {S A E : Type 0} → Result A E → Bound → Body → List (List ℤ) → Ghosts S → S → S → Type 0
FetchesBehind result b e envs t old new = Fetches result b.ground.now (body_view e) envs t old new
