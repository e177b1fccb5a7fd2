-- The tasks of a plan: its passes, conditions and items in the order in which they are done, each a tile at a time.
use Rattle.std.specs.Prelude.{◌≡◌, ℕ, ◌+◌, ◌<◌, ◌≤◌, List, [], ◌∷◌, ◌++◌, map, length, Option, Some, None, slice_get}
use Rattle.arr_core.specs.declared.domain.Axis.{Axis}
use Rattle.arr_core.specs.declared.signature.Signature.{Signature}
use Rattle.arr_core.specs.Domains.{IsDomain}
use Rattle.plan_ir.specs.Bodies.{Tree}
use Rattle.plan_ir.specs.Plans.{PassTree, BindTree, FieldBody, ItemTree, StepsTree, Choice, PlanTree, signature_of}
use Rattle.plan_ir.specs.Placed.{IsPlaced, ItemIsPlaced, spans}
use Rattle.plan_ir.specs.Units.{Stage, tile_stages}

-- what a task does
pub data PartTree : Type 0 where
  pass : PassTree → PartTree
  condition : Tree → PartTree
  item : ItemTree → PartTree
  -- an item without fields
  fieldless : ItemTree → PartTree

-- A task of a combination: its coverages, and which registers it may read: so many, from the first one of the
-- combination on.
pub record TaskTree : Type 0 where
  pub coverages : List ℕ
  pub first : ℕ
  pub count : ℕ
  pub part : PartTree

-- the box that is done tile by tile; a condition and an item without fields have the box without axes
abbrev pub area_of : PartTree → List Axis
area_of (pass p) = p.domain
area_of (condition c) = []
area_of (item i) = i.domain
area_of (fieldless i) = []

-- the bodies that are evaluated at each point
abbrev pub bodies_of : PartTree → List Tree
bodies_of (pass p) = p.condition ∷ p.body ∷ []
bodies_of (condition c) = c ∷ []
bodies_of (item i) = map (λ (b : BindTree). b.position) i.binds ++ map (λ (f : FieldBody). f.body) i.fields
bodies_of (fieldless i) = []

-- the stages of a task: one for each tile
abbrev pub stages_of : TaskTree → List Stage
stages_of t = tile_stages t.coverages (bodies_of t.part) (area_of t.part)

-- the passes of a combination from the n-th one on
abbrev pub pass_tasks : List ℕ → ℕ → ℕ → List PassTree → List TaskTree
pass_tasks coverages first n [] = []
pass_tasks coverages first n (p ∷ passes) =
    record { coverages = coverages; first = first; count = n; part = pass p } ∷ pass_tasks coverages first (n + 1)
    passes

abbrev pub choice_passes : List ℕ → ℕ → Option StepsTree → List TaskTree
choice_passes coverages first None = []
choice_passes coverages first (Some s) = pass_tasks coverages first 0 s.passes

-- how many registers a combination has
abbrev pub register_count : Option StepsTree → ℕ
register_count None = 0
register_count (Some s) = length s.passes

-- the passes of all combinations, whose registers come one after the other
abbrev pub all_passes : List StepsTree → ℕ → List Choice → List TaskTree
all_passes steps first [] = []
all_passes steps first (c ∷ choices) =
    choice_passes c.coverages first (slice_get steps c.steps) ++ all_passes steps
    (first + register_count (slice_get steps c.steps)) choices

abbrev pub condition_tasks : List ℕ → ℕ → ℕ → Option Tree → List TaskTree
condition_tasks coverages first n None = []
condition_tasks coverages first n (Some c) =
    record { coverages = coverages; first = first; count = n; part = condition c } ∷ []

abbrev pub choice_condition : List ℕ → ℕ → Option StepsTree → List TaskTree
choice_condition coverages first None = []
choice_condition coverages first (Some s) = condition_tasks coverages first (length s.passes) s.condition

-- an item by its fields
abbrev pub item_part : ItemTree → List FieldBody → PartTree
item_part i [] = fieldless i
item_part i (f ∷ fields) = item i

abbrev pub choice_item : List ℕ → ℕ → Option StepsTree → List TaskTree
choice_item coverages first None = []
choice_item coverages first (Some s) =
    record { coverages = coverages; first = first; count = length s.passes; part = item_part s.item s.item.fields } ∷ []

-- the condition, if there is one, and then the item
abbrev pub choice_outs : List ℕ → ℕ → Option StepsTree → List TaskTree
choice_outs coverages first o = choice_condition coverages first o ++ choice_item coverages first o

abbrev pub all_outs : List StepsTree → ℕ → List Choice → List TaskTree
all_outs steps first [] = []
all_outs steps first (c ∷ choices) =
    choice_outs c.coverages first (slice_get steps c.steps) ++ all_outs steps
    (first + register_count (slice_get steps c.steps)) choices

abbrev pub passes_of : PlanTree → List TaskTree
passes_of plan = all_passes plan.steps 0 plan.combinations

abbrev pub outs_of : PlanTree → List TaskTree
outs_of plan = all_outs plan.steps 0 plan.combinations

-- all tasks in their order: first the passes of all combinations
abbrev pub tasks_of : PlanTree → List TaskTree
tasks_of plan = passes_of plan ++ outs_of plan

-- the bodies of a task have their place, with the registers that it may read
abbrev pub IsPartPlaced : (ℕ → Option Signature) → ℕ → PartTree → Type 0
IsPartPlaced cs regs (pass p) =
    IsDomain p.domain × IsPlaced cs regs (spans p.domain) p.condition × IsPlaced cs regs (spans p.domain) p.body
IsPartPlaced cs regs (condition c) = IsPlaced cs regs [] c
IsPartPlaced cs regs (item i) =
    IsDomain i.domain × ItemIsPlaced cs regs (spans i.domain) i.binds i.fields × (0 < length i.fields)
IsPartPlaced cs regs (fieldless i) = (i.binds ≡ []) × (i.fields ≡ [])

-- how many registers a task adds
abbrev pub registers_made : PartTree → ℕ
registers_made (pass p) = 1
registers_made (condition c) = 0
registers_made (item i) = 0
registers_made (fieldless i) = 0

-- tasks that can be done where so many registers are there
abbrev pub AreReady : List Signature → ℕ → List TaskTree → Type 0
AreReady all n [] = Unit {0}
AreReady all n (t ∷ tasks) =
    (t.first + t.count ≤ n) × IsPartPlaced (signature_of all t.coverages) t.count t.part
    × AreReady all (n + registers_made t.part) tasks
