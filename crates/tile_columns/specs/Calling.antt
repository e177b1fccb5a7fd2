-- What a call over a source of tiles does.
use Rattle.std.specs.Prelude.{ℕ, List, length, Result}
use Rattle.wcps_mean.specs.declared.cells.CellError.{CellError}
use Rattle.plan_ir.specs.Units.{distinct}
use Rattle.tile_columns.specs.declared.source.Tiles.{Ghosts}
use Rattle.tile_columns.specs.Sources.{OnlyReads, Tells, FetchesAtMost}

-- it only reads, and tells what it met
pub record Reads {S A : Type 0} (t : Ghosts S) (result : Result A CellError) (old new : S) : Type 0 where
  pub only : OnlyReads (t.state old) (t.state new)
  pub tells : Tells t.spelled result (t.state old) (t.state new)

-- tiles with these numbers were fetched, each once at most
abbrev pub FetchesOnce : {S : Type 0} → List ℕ → Ghosts S → S → S → Type 0
FetchesOnce numbers t old new = FetchesAtMost (length (distinct numbers)) (t.state old) (t.state new)
