-- What bodies, items and steps give in a frame, over its coverages and with its registers. The cells come last.
use Rattle.std.specs.Prelude.{◌≡◌, ℤ, ℕ, Bool, List, map, Option, option_map, slice_get, Result, Ok, Err, OnOk}
use Rattle.arr_core.specs.declared.cell.Cell.{Cell}
use Rattle.wcps_mean.specs.declared.cells.Cells.{Ghosts}
use Rattle.wcps_mean.specs.declared.cell.PointFault.{PointFault}
use Rattle.wcps_mean.specs.declared.cell.Outcome.{Outcome}
use Rattle.wcps_mean.specs.declared.answer.EvalError.{EvalError}
use Rattle.wcps_mean.specs.declared.item.Item.{Item}
use Rattle.wcps_mean.specs.declared.running.Running.{Running}
use Rattle.wcps_mean.specs.Answer.{joined}
use Rattle.wcps_mean.specs.Condensers.{demanded}
use Rattle.wcps_mean.specs.Errors.{TellsFault}
use Rattle.wcps_mean.specs.Feeding.{Feeds}
use Rattle.wcps_mean.specs.Reading.{CellsOf}
use Rattle.plan_ir.specs.declared.body.Body.{Body}
use Rattle.plan_ir.specs.declared.body.Fold.{Fold}
use Rattle.plan_ir.specs.declared.eval.Frame.{Frame}
use Rattle.plan_ir.specs.declared.plan.Bind.{Bind}
use Rattle.plan_ir.specs.declared.plan.Field.{Field}
use Rattle.plan_ir.specs.declared.plan.Item as planned
use Rattle.plan_ir.specs.declared.plan.Steps.{Steps}
use Rattle.plan_ir.specs.declared.plan.Combination.{Combination}
use Rattle.plan_ir.specs.Bodies.{Tree, body_view, condition_view}
use Rattle.plan_ir.specs.Run.{run}
use Rattle.plan_ir.specs.Plans.{pass_view, bind_view, field_view, item_view, steps_view}
use Rattle.plan_ir.specs.Planned.{registers, bound, field_cell, cells_at, item_planned, chosen, steps_planned, cells_of, choice_planned}

-- the outcome of a body under variables with these numbers
abbrev pub run_in : Frame → Tree → List ℤ → CellsOf → Outcome
run_in frame e vars s = run (cells_of s frame.coverages.items) frame.registers.items e vars

-- what a point of a fold demands
abbrev pub demanded_in : Frame → Fold → List ℤ → CellsOf → List Outcome
demanded_in frame f vars s = demanded (run_in frame (condition_view f.condition) vars s)
    (run_in frame (body_view f.body) vars s)

-- where what is kept is intact, a condenser was fed the outcomes that the cells give
abbrev pub TakesIn : {S A E : Type 0} → Ghosts S → S → Result A E → (CellsOf → List Outcome) → Running → Running
    → Type 0
TakesIn g store r f old new = OnOk r (g.intact store → Feeds old new (f (g.cells store)))

-- the registers have the outcomes of passes over these cells
abbrev pub HasRun : CellsOf → List Fold → Frame → Type 0
HasRun s passes frame = frame.registers.items ≡ registers (cells_of s frame.coverages.items) (map pass_view passes)

-- whether there is an item, or the first fault
abbrev pub chosen_in : Frame → Option Body → CellsOf → Result Bool PointFault
chosen_in frame condition s = chosen (cells_of s frame.coverages.items) frame.registers.items
    (option_map body_view condition)

-- the variables after binds, or the first fault
abbrev pub bound_in : Frame → List Bind → List ℤ → CellsOf → Result (List ℤ) PointFault
bound_in frame binds vars s = bound (cells_of s frame.coverages.items) frame.registers.items (map bind_view binds) vars

-- where what is kept is intact, these are the variables after binds, and a fault that is told is theirs
abbrev pub Binds : {S A : Type 0} → Ghosts S → S → Result A EvalError → (CellsOf → Result (List ℤ) PointFault) → List ℤ
    → Type 0
Binds g store (Ok x) f vars = g.intact store → f (g.cells store) ≡ Ok vars
Binds g store (Err e) f vars = g.intact store → TellsFault e (f (g.cells store))

-- the cells of fields, or the first fault
abbrev pub fields_in : Frame → List Field → List ℤ → CellsOf → Result (List Cell) PointFault
fields_in frame fields vars s =
    joined (map (field_cell (cells_of s frame.coverages.items) frame.registers.items vars) (map field_view fields))

-- the cells of an item at a point, or the first fault
abbrev pub cells_in : Frame → planned.Item → List ℤ → CellsOf → Result (List Cell) PointFault
cells_in frame item p s = cells_at (cells_of s frame.coverages.items) frame.registers.items (item_view item) p

-- an item, or the first fault
abbrev pub item_in : Frame → planned.Item → CellsOf → Result Item PointFault
item_in frame item s = item_planned (cells_of s frame.coverages.items) frame.registers.items (item_view item)

-- the item of steps over coverages, nothing where their condition is false, or the first fault
abbrev pub items_over : List ℕ → Steps → CellsOf → Result (List Item) PointFault
items_over places steps s = steps_planned (cells_of s places) (steps_view steps)

-- the same of a combination; one without steps gives nothing
abbrev pub items_of : List Steps → Combination → CellsOf → Result (List Item) PointFault
items_of steps c s = choice_planned s c.coverages.items (option_map steps_view (slice_get steps c.steps))
