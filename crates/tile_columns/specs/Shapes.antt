-- Bodies that are made of an equation.
use Rattle.std.specs.Prelude.{◌≡◌, pos, List, Bool, true, false}
use Rattle.wcps_mean.specs.declared.cell.Outcome.{Outcome}
use Rattle.wcps_mean.specs.declared.cell.Outcome.TheVariants.{Value}
use Rattle.wcps_mean.specs.Cells.{operate2}
use Rattle.plan_ir.specs.Bodies.{Tree, always, lit, var, reg, op1, op2, read, table, bind, fold}
use Rattle.tile_kernel.specs.Columns.{operate_all}
use Rattle.tile_columns.specs.declared.shapes.Shape.{Shape}
use Rattle.tile_columns.specs.declared.shapes.Shape.TheVariants.{Alone, First, Second}

-- the left or the right operand of a body that has two, else the body itself
abbrev pub operand : Bool → Tree → Tree
operand left (lit z) = lit z
operand left (var k) = var k
operand left (reg k) = reg k
operand left (op1 op e) = op1 op e
operand true (op2 op l r) = l
operand false (op2 op l r) = r
operand left (read c f is) = read c f is
operand left (table box items is) = table box items is
operand left (bind i lo hi e) = bind i lo hi e
operand left (fold op box c e) = fold op box c e

-- a body has two operands
abbrev pub HasOperands : Tree → Type 0
HasOperands (lit z) = ⊥
HasOperands (var k) = ⊥
HasOperands (reg k) = ⊥
HasOperands (op1 op e) = ⊥
HasOperands (op2 op l r) = Unit {0}
HasOperands (read c f is) = ⊥
HasOperands (table box items is) = ⊥
HasOperands (bind i lo hi e) = ⊥
HasOperands (fold op box c e) = ⊥

-- a body of a shape, by its equation and its other operand
abbrev pub shaped : Shape → Tree → Tree → Tree
shaped Alone equation other = equation
shaped (First op) equation other = op2 op equation other
shaped (Second op) equation other = op2 op other equation

-- a body can be of a shape: it has two operands, where the equation is one of them
abbrev pub IsOfShape : Shape → Tree → Type 0
IsOfShape Alone body = Unit {0}
IsOfShape (First op) body = HasOperands body
IsOfShape (Second op) body = HasOperands body

-- the equation of a body of a shape
abbrev pub equation_by : Shape → Tree → Tree
equation_by Alone body = body
equation_by (First op) body = operand true body
equation_by (Second op) body = operand false body

-- its other operand; where it has none, what is true at each point stands for it
abbrev pub other_by : Shape → Tree → Tree
other_by Alone body = always
other_by (First op) body = operand false body
other_by (Second op) body = operand true body

-- the outcome of such a body, by those of its equation and of its other operand
abbrev pub joined : Shape → Outcome → Outcome → Outcome
joined Alone q e = q
joined (First op) q e = operate2 op q e
joined (Second op) q e = operate2 op e q

-- the outcomes at all places of a column
abbrev pub joined_all : Shape → List Outcome → List Outcome → List Outcome
joined_all Alone qs es = qs
joined_all (First op) qs es = operate_all op qs es
joined_all (Second op) qs es = operate_all op es qs

-- an outcome is the value 0
abbrev pub IsZero : Outcome → Type 0
IsZero o = o ≡ Value (pos 0)
