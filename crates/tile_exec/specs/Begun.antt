-- The list of a plan's tasks while it is made.
use Rattle.std.specs.Prelude.{◌≡◌, ℕ, ◌-◌, ◌^◌, min, List, [], ◌∷◌, ◌++◌, length, slice_get, Option, Some}
use Rattle.std.specs.List.{flat_map}
use Rattle.arr_core.specs.Domains.{IsDomain}
use Rattle.arr_core.specs.Tiles.{tile_boxes}
use Rattle.plan_ir.specs.declared.plan.Plan.{Plan}
use Rattle.plan_ir.specs.declared.plan.Steps.{Steps}
use Rattle.plan_ir.specs.declared.plan.Combination.{Combination}
use Rattle.plan_ir.specs.Plans.{StepsTree, Choice, choice_view, steps_view}
use Rattle.tile_exec.specs.declared.begin.Listing.{Listing}
use Rattle.tile_exec.specs.declared.task.Task.{Task}
use Rattle.tile_exec.specs.Tasks.{PartTree, TaskTree, pass, condition, item, fieldless, area_of, stages_of}
use Rattle.tile_exec.specs.Standing.{IsTask, AreTasks}

-- its box is a domain
abbrev pub IsFit : PartTree → Type 0
IsFit (pass p) = IsDomain p.domain
IsFit (condition c) = Unit {0}
IsFit (item i) = IsDomain i.domain
IsFit (fieldless i) = Unit {0}

abbrev pub AreFit : List TaskTree → Type 0
AreFit [] = Unit {0}
AreFit (t ∷ trees) = IsFit t.part × AreFit trees

-- the tasks by their places in the plan, and how many boxes they have, in a count that stays at its last value
pub record Lists (plan : Plan) (l : Listing) (trees : List TaskTree) : Type 0 where
  pub tasks : AreTasks plan l.tasks.items trees
  pub fit : AreFit trees
  pub boxes : l.boxes ≡ min (2 ^ 64 - 1) (length (flat_map stages_of trees))

-- further tasks come behind those that are listed
abbrev pub Adds : Plan → Listing → Listing → List TaskTree → Type 0
Adds plan old new more = (trees : List TaskTree) → Lists plan old trees → Lists plan new (trees ++ more)

-- a task of whatever plan comes behind those that are listed, with so many boxes
abbrev pub AddsTask : Task → ℕ → Listing → Listing → Type 0
AddsTask t boxes old new =
    (plan : Plan) (tree : TaskTree) → IsTask plan t tree → IsFit tree.part
    → boxes ≡ length (tile_boxes (area_of tree.part)) → Adds plan old new (tree ∷ [])

-- the combination at a place, and its steps
pub record IsChosen (plan : Plan) (n : ℕ) (s : Steps) (c : Choice) : Type 0 where
  pub combination : Combination
  pub there : slice_get plan.combinations.items n ≡ Some combination
  pub view : choice_view combination ≡ c
  pub steps : slice_get plan.steps.items combination.steps ≡ Some s

-- tasks of the combination at a place come behind those that are listed, whatever plan has it; its registers are from
-- `first` on
abbrev pub AddsOf : (List ℕ → ℕ → Option StepsTree → List TaskTree) → ℕ → ℕ → Steps → Listing → Listing → Type 0
AddsOf tasks n first s old new =
    (plan : Plan) (c : Choice) → IsChosen plan n s c → Adds plan old new (tasks c.coverages first (Some (steps_view s)))
