-- What an executor stands for.
use Rattle.std.specs.Prelude.{◌≡◌, ℕ, ◌+◌, ◌-◌, ◌^◌, ◌<◌, ◌≤◌, min, max, vec_capacity, ◌⊎◌, List, [], ◌∷◌, length, take, drop, sum_by, slice_get, IsSomeAnd, Result}
use Rattle.std.specs.List.{flat_map}
use Rattle.arr_core.specs.Tiles.{tile_boxes}
use Rattle.wcps_mean.specs.declared.cell.PointFault.{PointFault}
use Rattle.wcps_mean.specs.declared.cell.Outcome.{Outcome}
use Rattle.wcps_mean.specs.declared.item.Item.{Item}
use Rattle.plan_ir.specs.declared.plan.Plan.{Plan}
use Rattle.plan_ir.specs.declared.plan.Steps.{Steps}
use Rattle.plan_ir.specs.declared.plan.Combination.{Combination}
use Rattle.plan_ir.specs.Bodies.{body_view}
use Rattle.plan_ir.specs.Plans.{ItemTree, PlanTree, plan_view, pass_view, item_view}
use Rattle.plan_ir.specs.Planned.{planned, cells_of}
use Rattle.plan_ir.specs.Units.{Stage, units, boxes, bound}
use Rattle.tile_kernel.specs.Standing.{Stands}
use Rattle.tile_exec.specs.declared.task.Status.{Status}
use Rattle.tile_exec.specs.declared.task.Status.TheVariants.{Giving, Skipping, Failed}
use Rattle.tile_exec.specs.declared.task.Task.{Task}
use Rattle.tile_exec.specs.declared.task.Part.{Part}
use Rattle.tile_exec.specs.declared.task.Part.TheVariants as part
use Rattle.tile_exec.specs.declared.state.State.{State}
use Rattle.wcps_mean.specs.Reading.{CellsOf}
use Rattle.tile_exec.specs.Tasks.{PartTree, TaskTree, pass, condition, item, fieldless, area_of, stages_of, tasks_of, AreReady}
use Rattle.tile_exec.specs.Progress.{Progress, start, read_by, after_all}
use Rattle.tile_columns.specs.Sources.{SourceState}
use Rattle.tile_columns.specs.TileOrder.{points_to}
use Rattle.tile_exec.specs.Passes.{told_to_pass}
use Rattle.tile_exec.specs.Items.{cell_count, Fills}
use Rattle.tile_exec.specs.Known.{IsKnown}

-- the plan that is done
abbrev pub plan_of : State → PlanTree
plan_of e = plan_view e.plan

-- how many units are left
abbrev pub left_of : State → ℕ
left_of e = e.left

-- the tasks that are done
abbrev pub tasks_done : State → List TaskTree
tasks_done e = take e.at (tasks_of (plan_of e))

-- the tasks that are not done, that at hand first
abbrev pub tasks_left : State → List TaskTree
tasks_left e = drop e.at (tasks_of (plan_of e))

abbrev pub progress_of : State → Progress
progress_of e = record { registers = e.registers.items; items = e.items.items; status = e.status }

-- the boxes that are not done, that of the next unit first
abbrev pub boxes_left : State → List Stage
boxes_left e = drop e.tile (flat_map stages_of (tasks_left e))

-- the tiles of an item that are done, and what is known of it: nothing is kept of one that is not given
abbrev pub AtItem : CellsOf → List Outcome → ItemTree → State → Status → Type 0
AtItem s regs i e Giving = 0 < e.tile → Fills s regs i e.tile e.cells.items e.first × IsKnown s regs i e.known
AtItem s regs i e Skipping = Unit {0}
AtItem s regs i e (Failed f) = Unit {0}

-- what is kept of the task at hand, once a tile of it is done
abbrev pub AtPart : CellsOf → List Outcome → State → PartTree → Type 0
AtPart s regs e (pass p) = 0 < e.tile
    → Stands e.accumulator (flat_map (told_to_pass s regs p) (points_to p.domain e.tile))
AtPart s regs e (condition c) = Unit {0}
AtPart s regs e (item i) = AtItem s regs i e e.status
AtPart s regs e (fieldless i) = Unit {0}

abbrev pub AtTask : CellsOf → State → List TaskTree → Type 0
AtTask s e [] = Unit {0}
AtTask s e (t ∷ tasks) = AtPart (cells_of s t.coverages) (read_by t e.registers.items) e t.part

-- It stands for a store, where s gives the cells of the plan's coverages: its progress is that of the tasks that are
-- done, and what it keeps of the task at hand is that of the tiles that are done.
pub record StandsFor (s : CellsOf) (e : State) : Type 0 where
  pub progress : progress_of e ≡ after_all s start (tasks_done e)
  pub at_hand : AtTask s e (tasks_left e)

-- over a source, what it stands for it stands for afterwards
abbrev pub StandsOn : {K : Type 0} → SourceState K → State → State → Type 0
StandsOn source was is = source.intact → StandsFor source.cells was → StandsFor source.cells is

-- what its plan gives over each store that it stands for
abbrev pub Answers : State → Result (List Item) PointFault → Type 0
Answers e r = (s : CellsOf) → StandsFor s e → planned s (plan_of e) ≡ r

-- of an item: there is a cell for each point and field
abbrev pub HasCells : ItemTree → State → Status → Type 0
HasCells i e Giving = 0 < e.tile → length e.cells.items ≡ cell_count i
HasCells i e Skipping = Unit {0}
HasCells i e (Failed f) = Unit {0}

abbrev pub IsUnder : PartTree → State → Type 0
IsUnder (pass p) e = 0 < e.tile → (e.accumulator.running.op ≡ p.op)
    × (e.accumulator.running.count ≤ length (points_to p.domain e.tile))
IsUnder (condition c) e = Unit {0}
IsUnder (item i) e = HasCells i e e.status
IsUnder (fieldless i) e = Unit {0}

-- not all tiles of the task at hand are done
abbrev pub IsAt : List TaskTree → State → Type 0
IsAt [] e = e.tile ≡ 0
IsAt (t ∷ tasks) e = (e.tile < length (tile_boxes (area_of t.part))) × IsUnder t.part e

-- the steps have that pass, condition or item
abbrev pub IsPartOf : Steps → ℕ → Part → PartTree → Type 0
IsPartOf s n part.Pass (pass p) = IsSomeAnd (slice_get s.passes.items n) (λ q. pass_view q ≡ p)
IsPartOf s n part.Condition (condition c) = IsSomeAnd s.condition (λ b. body_view b ≡ c)
IsPartOf s n part.Item (item i) = item_view s.item ≡ i
IsPartOf s n part.Fieldless (fieldless i) = item_view s.item ≡ i
IsPartOf s n _ _ = ⊥

abbrev pub IsStepsOf : Plan → Task → TaskTree → Combination → Type 0
IsStepsOf plan t tree c = (c.coverages.items ≡ tree.coverages)
    × IsSomeAnd (slice_get plan.steps.items c.steps) (λ s. IsPartOf s t.count t.part tree.part)

-- a task by places in the plan
pub record IsTask (plan : Plan) (t : Task) (tree : TaskTree) : Type 0 where
  pub first : t.first ≡ tree.first
  pub count : t.count ≡ tree.count
  pub steps : IsSomeAnd (slice_get plan.combinations.items t.combination) (IsStepsOf plan t tree)

abbrev pub AreTasks : Plan → List Task → List TaskTree → Type 0
AreTasks plan [] [] = Unit {0}
AreTasks plan (t ∷ tasks) (tree ∷ trees) = IsTask plan t tree × AreTasks plan tasks trees
AreTasks plan [] (tree ∷ trees) = ⊥
AreTasks plan (t ∷ tasks) [] = ⊥

-- one unit for each box; of a plan without a box there is one, which does nothing
abbrev pub IsLeft : ℕ → ℕ → ℕ → Type 0
IsLeft left tile n = (left + tile ≡ n) ⊎ ((n ≡ 0) × (tile ≡ 0))

-- room for what further tasks give
pub record HasRoom (e : State) (n : ℕ) : Type 0 where
  pub registers : length e.registers.items + n ≤ vec_capacity e.registers
  pub items : length e.items.items + n ≤ vec_capacity e.items

-- an executor of a well-formed plan
pub record IsSound (e : State) : Type 0 where
  pub tasks : AreTasks e.plan (drop e.at e.tasks.items) (tasks_left e)
  pub ready : AreReady (plan_of e).coverages (length e.registers.items) (tasks_left e)
  pub at_hand : IsAt (tasks_left e) e
  pub room : HasRoom e (length (tasks_left e))
  pub left : IsLeft e.left e.tile (length (flat_map stages_of (tasks_left e)))

-- A unit goes on to the next box, and fetches no more tiles than that before it bounds; at the end it stays and fetches
-- none.
abbrev pub MovesOver : PlanTree → List Stage → List Stage → ℕ → Type 0
MovesOver plan [] after fetched = (after ≡ []) × (fetched ≡ 0)
MovesOver plan (b ∷ before) after fetched = (after ≡ before) × (fetched ≤ bound plan b)

abbrev pub MovesOn : State → State → ℕ → Type 0
MovesOn old new fetched = MovesOver (plan_of old) (boxes_left old) (boxes_left new) fetched

-- The units between two states, each on a box of its own: the first of the boxes that were left, as many as there are
-- units fewer. A unit for which there is no box does nothing.
abbrev pub boxes_done : State → State → List Stage
boxes_done was is = take (left_of was - left_of is) (boxes_left was)

-- at most so many tiles these units fetch together
abbrev pub most_fetched : State → State → ℕ
most_fetched was is = sum_by (bound (plan_of was)) (boxes_done was is)

-- so many tiles were fetched, in a count that stays at its last value
abbrev pub HasFetched : {K : Type 0} → ℕ → SourceState K → SourceState K → Type 0
HasFetched n old new = new.fetched ≡ min (2 ^ 64 - 1) (old.fetched + n)

-- an executor before its first unit
pub record IsBegun (tree : PlanTree) (e : State) : Type 0 where
  pub sound : IsSound e
  pub plan : plan_of e ≡ tree
  pub stands : (s : CellsOf) → StandsFor s e
  pub boxes : boxes_left e ≡ boxes (plan_of e)
  pub some : 1 ≤ left_of e
  pub few : left_of e ≤ max 1 (units (plan_of e))
