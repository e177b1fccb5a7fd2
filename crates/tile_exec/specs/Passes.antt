-- What the points of a pass's box tell it.
use Rattle.std.specs.Prelude.{ℕ, ℤ, List, map}
use Rattle.std.specs.List.{flat_map}
use Rattle.arr_core.specs.Domains.{points, rank_of}
use Rattle.arr_core.specs.Tiles.{tile_box}
use Rattle.wcps_mean.specs.declared.cell.Outcome.{Outcome}
use Rattle.plan_ir.specs.Plans.{PassTree}
use Rattle.plan_ir.specs.Run.{run}
use Rattle.tile_kernel.specs.Told.{Told, demanded_of}
use Rattle.tile_exec.specs.declared.pass.TileOf.{TileOf}
use Rattle.wcps_mean.specs.Reading.{CellsOf}

-- what a point tells a pass: the condition's fault, or nothing, or the body's outcome, at the point's place in the box
abbrev pub told_to_pass : CellsOf → List Outcome → PassTree → List ℤ → List Told
told_to_pass s regs p q = demanded_of (rank_of p.domain q) (run s regs p.condition q) (run s regs p.body q)

-- what a tile of its box tells a pass
abbrev pub told_by_tile : CellsOf → List Outcome → PassTree → ℕ → List Told
told_by_tile s regs p tile = flat_map (told_to_pass s regs p) (points (tile_box p.domain tile))

-- the places of a tile's points in the row-major list of the points of its box
abbrev pub ranks_of : TileOf → List ℕ
ranks_of of = map (rank_of of.area.now) (points (tile_box of.area.now of.tile))
