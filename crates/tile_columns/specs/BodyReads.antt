-- Reads of bodies, whose coverages are those that a combination chooses.
use Rattle.std.specs.Prelude.{ℤ, List, map}
use Rattle.plan_ir.specs.Bodies.{Tree, read}
use Rattle.plan_ir.specs.Run.{numbers_at}
use Rattle.arr_core.specs.Meeting.{tile_number}
use Rattle.plan_ir.specs.Units.{domain_of}
use Rattle.tile_columns.specs.declared.ground.Ground.{Ground}
use Rattle.tile_columns.specs.declared.ground.BodyRead.{BodyRead}
use Rattle.tile_columns.specs.declared.source.Tiles.{Ghosts}
use Rattle.tile_columns.specs.Calling.{FetchesOnce}
use Rattle.tile_columns.specs.Meaning.{chosen}

-- a read as a tree
abbrev pub read_view : BodyRead → Tree
read_view r = read r.coverage r.field r.indexes.now

-- each tile that a read needs at the places of a frame is fetched once at most
abbrev pub FetchesTilesOf : {S : Type 0} → Ground → BodyRead → List (List ℤ) → Ghosts S → S → S → Type 0
FetchesTilesOf g r envs t old new =
    FetchesOnce (map (λ e. tile_number (domain_of (chosen (t.state old) g r.coverage)) (numbers_at e r.indexes.now))
    envs) t old new
