-- What units of an executor make of it together.
use Rattle.std.specs.Prelude.{◌≡◌, ◌-◌, ◌≤◌, drop}
use Rattle.tile_columns.specs.Sources.{SourceState, FetchesAtMost}
use Rattle.tile_exec.specs.declared.state.State.{State}
use Rattle.tile_exec.specs.Standing.{StandsOn, plan_of, left_of, boxes_left, most_fetched}

-- Units of an executor were done, or none: it has the same plan and no more units left, each unit was on the next box,
-- and over the source it stands for what it stood for.
pub record HasRun {K : Type 0} (source : SourceState K) (was is : State) : Type 0 where
  pub plan : plan_of is ≡ plan_of was
  pub fewer : left_of is ≤ left_of was
  pub boxes : boxes_left is ≡ drop (left_of was - left_of is) (boxes_left was)
  pub stands : StandsOn source was is

-- the units that an executor has done between two states fetched no more tiles than the bounds of their boxes together
abbrev pub FetchesWithin : {K : Type 0} → State → State → SourceState K → SourceState K → Type 0
FetchesWithin was is old new = FetchesAtMost (most_fetched was is) old new
