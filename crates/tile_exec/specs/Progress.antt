-- What the tasks that are done have given, and what all of them give.
use Rattle.std.specs.Prelude.{cond, List, [], ◌∷◌, ◌++◌, take, drop, Result, Ok, Err}
use Rattle.wcps_mean.specs.declared.cell.PointFault.{PointFault}
use Rattle.wcps_mean.specs.declared.cell.Outcome.{Outcome}
use Rattle.wcps_mean.specs.declared.cell.Outcome.TheVariants.{Value, Fault}
use Rattle.wcps_mean.specs.declared.item.Item.{Item}
use Rattle.arr_core.specs.Cells.{truth_of}
use Rattle.plan_ir.specs.Run.{run}
use Rattle.plan_ir.specs.Planned.{pass_outcome, item_planned, cells_of}
use Rattle.tile_exec.specs.declared.task.Status.{Status}
use Rattle.tile_exec.specs.declared.task.Status.TheVariants.{Giving, Skipping, Failed}
use Rattle.wcps_mean.specs.Reading.{CellsOf}
use Rattle.tile_exec.specs.Tasks.{TaskTree, PartTree, pass, condition, item, fieldless}

-- the registers of the passes that are done, the items, and how it stands with the combination at hand
pub record Progress : Type 0 where
  pub registers : List Outcome
  pub items : List Item
  pub status : Status

abbrev pub start : Progress
start = record { registers = []; items = []; status = Giving }

-- what a condition says
abbrev pub tested : Outcome → Status
tested (Fault f) = Failed f
tested (Value z) = cond (truth_of z) Giving Skipping

-- after a condition; an earlier fault stands
abbrev pub after_condition : Status → Outcome → Status
after_condition (Failed f) o = Failed f
after_condition Giving o = tested o
after_condition Skipping o = tested o

abbrev pub with_item : Progress → Result Item PointFault → Progress
with_item g (Ok i) = record g { items = g.items ++ i ∷ [] }
with_item g (Err f) = record g { status = Failed f }

-- after an item: nothing comes of it where its condition was false, or after a fault
abbrev pub after_item : Progress → Status → Result Item PointFault → Progress
after_item g Giving r = with_item g r
after_item g Skipping r = record g { status = Giving }
after_item g (Failed f) r = g

abbrev pub after_part : CellsOf → List Outcome → Progress → PartTree → Progress
after_part s regs g (pass p) = record g { registers = g.registers ++ pass_outcome s regs p ∷ [] }
after_part s regs g (condition c) = record g { status = after_condition g.status (run s regs c []) }
after_part s regs g (item i) = after_item g g.status (item_planned s regs i)
after_part s regs g (fieldless i) = after_item g g.status (item_planned s regs i)

-- the registers that a task may read
abbrev pub read_by : TaskTree → List Outcome → List Outcome
read_by t registers = take t.count (drop t.first registers)

-- after one more task; s gives the cells of the plan's coverages
abbrev pub after : CellsOf → Progress → TaskTree → Progress
after s g t = after_part (cells_of s t.coverages) (read_by t g.registers) g t.part

-- after further tasks
abbrev pub after_all : CellsOf → Progress → List TaskTree → Progress
after_all s g [] = g
after_all s g (t ∷ tasks) = after_all s (after s g t) tasks

abbrev pub unless_failed : {A : Type 0} → Status → A → Result A PointFault
unless_failed (Failed f) x = Err f
unless_failed Giving x = Ok x
unless_failed Skipping x = Ok x

-- the items, or the first fault
abbrev pub answer_of : Progress → Result (List Item) PointFault
answer_of g = unless_failed g.status g.items
