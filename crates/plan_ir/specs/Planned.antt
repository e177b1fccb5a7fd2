-- What a plan gives: its items, or the first fault.
use Rattle.std.specs.Prelude.{ℕ, ℤ, cond, Bool, true, List, [], ◌∷◌, ◌++◌, map, length, slice_get, slice_index_or, Option, Some, None, Result, Ok}
use Rattle.arr_core.specs.declared.cell.Cell.{Cell}
use Rattle.arr_core.specs.Domains.{points}
use Rattle.wcps_mean.specs.declared.cell.PointFault.{PointFault}
use Rattle.wcps_mean.specs.declared.cell.Outcome.{Outcome}
use Rattle.wcps_mean.specs.declared.item.Item.{Item}
use Rattle.wcps_mean.specs.Cells.{coordinate_in}
use Rattle.arr_core.specs.Cells.{truth_of}
use Rattle.wcps_mean.specs.Answer.{then_of, given, joined, cell_of, line_of, field_count}
use Rattle.plan_ir.specs.Bodies.{Tree, fold}
use Rattle.plan_ir.specs.Run.{run}
use Rattle.plan_ir.specs.Plans.{PassTree, BindTree, FieldBody, ItemTree, StepsTree, Choice, PlanTree}

-- the outcome of a pass, a fault included
abbrev pub pass_outcome : (ℕ → ℕ → List ℤ → ℤ) → List Outcome → PassTree → Outcome
pass_outcome s regs p = run s regs (fold p.op p.domain p.condition p.body) []

-- the registers after further passes
abbrev pub registers_after : (ℕ → ℕ → List ℤ → ℤ) → List Outcome → List PassTree → List Outcome
registers_after s regs [] = regs
registers_after s regs (p ∷ passes) = registers_after s (regs ++ pass_outcome s regs p ∷ []) passes

-- the outcomes of all passes; a fault counts only where its register is demanded
abbrev pub registers : (ℕ → ℕ → List ℤ → ℤ) → List PassTree → List Outcome
registers s passes = registers_after s [] passes

-- the variables after the binds, or the first fault
abbrev pub bound : (ℕ → ℕ → List ℤ → ℤ) → List Outcome → List BindTree → List ℤ → Result (List ℤ) PointFault
bound s regs [] vars = Ok vars
bound s regs (b ∷ binds) vars =
    then_of (coordinate_in (run s regs b.position vars) b.lo b.hi) (λ z. bound s regs binds (vars ++ z ∷ []))

-- the cell of a field
abbrev pub field_cell : (ℕ → ℕ → List ℤ → ℤ) → List Outcome → List ℤ → FieldBody → Result (List Cell) PointFault
field_cell s regs vars f = given (λ z. cell_of f.boolean z ∷ []) (run s regs f.body vars)

-- the cells of all fields at a point, in order, or the first fault
abbrev pub cells_at : (ℕ → ℕ → List ℤ → ℤ) → List Outcome → ItemTree → List ℤ → Result (List Cell) PointFault
cells_at s regs i p = then_of (bound s regs i.binds p) (λ vars. joined (map (field_cell s regs vars) i.fields))

-- the cells of an item: points in row-major order, the fields of a point in order; or the first fault
abbrev pub item_cells : (ℕ → ℕ → List ℤ → ℤ) → List Outcome → ItemTree → Result (List Cell) PointFault
item_cells s regs i = joined (map (cells_at s regs i) (points i.domain))

-- an item, or the first fault
abbrev pub item_planned : (ℕ → ℕ → List ℤ → ℤ) → List Outcome → ItemTree → Result Item PointFault
item_planned s regs i = then_of (item_cells s regs i)
    (λ cells. Ok (record { line = line_of i.domain; fields = field_count (length i.fields); cells = cells }))

-- whether there is an item: there is no condition, or it is true
abbrev pub chosen : (ℕ → ℕ → List ℤ → ℤ) → List Outcome → Option Tree → Result Bool PointFault
chosen s regs None = Ok true
chosen s regs (Some c) = given truth_of (run s regs c [])

-- the item of steps, nothing where their condition is false, or the first fault
abbrev pub given_out : (ℕ → ℕ → List ℤ → ℤ) → List Outcome → StepsTree → Result (List Item) PointFault
given_out s regs steps = then_of (chosen s regs steps.condition)
    (λ b. cond b (then_of (item_planned s regs steps.item) (λ i. Ok (i ∷ []))) (Ok []))

abbrev pub steps_planned : (ℕ → ℕ → List ℤ → ℤ) → StepsTree → Result (List Item) PointFault
steps_planned s steps = given_out s (registers s steps.passes) steps

-- the cells of the coverages that a combination chooses
abbrev pub cells_of : (ℕ → ℕ → List ℤ → ℤ) → List ℕ → ℕ → ℕ → List ℤ → ℤ
cells_of s coverages c = s (slice_index_or coverages c 0)

-- of a combination; one without steps gives nothing
abbrev pub choice_planned : (ℕ → ℕ → List ℤ → ℤ) → List ℕ → Option StepsTree → Result (List Item) PointFault
choice_planned s coverages None = Ok []
choice_planned s coverages (Some steps) = steps_planned (cells_of s coverages) steps

-- the items of all combinations in order, or the first fault; s gives the cells of the plan's coverages
abbrev pub planned : (ℕ → ℕ → List ℤ → ℤ) → PlanTree → Result (List Item) PointFault
planned s plan = joined (map (λ (c : Choice). choice_planned s c.coverages (slice_get plan.steps c.steps))
    plan.combinations)
