-- Bodies, folds and lists of them as the code hands them on, as values alone.
use Rattle.std.specs.Prelude.{◌≡◌, List, ◌++◌, map, Option, option_map, Vec, Box}
use Rattle.std.specs.Global.{Global}
use Rattle.arr_core.specs.declared.domain.Axis.{Axis}
use Rattle.wcps_text.specs.declared.operator.Aggregate.{Aggregate}
use Rattle.plan_ir.specs.declared.body.Body.{Body}
use Rattle.plan_ir.specs.declared.body.Fold.{Fold}
use Rattle.plan_ir.specs.declared.body.Interval.{Interval}
use Rattle.plan_ir.specs.declared.plan.Bind.{Bind}
use Rattle.plan_ir.specs.declared.plan.Field.{Field}
use Rattle.plan_ir.specs.Bodies.{Tree, bind, body_view}
use Rattle.plan_ir.specs.Plans.{PassTree, BindTree, FieldBody, pass_view, bind_view, field_view}

abbrev pub tree_in : Box Body Global → Tree
tree_in b = body_view b.value

abbrev pub pass_in : Box Fold Global → PassTree
pass_in f = pass_view f.value

abbrev pub passes_in : Vec Fold Global → List PassTree
passes_in v = map pass_view v.items

abbrev pub fields_in : Vec Field Global → List FieldBody
fields_in v = map field_view v.items

abbrev pub pass_of : Aggregate → List Axis → Tree → Tree → PassTree
pass_of op domain c e = record { op = op; domain = domain; condition = c; body = e }

abbrev pub bind_of : Tree → Interval → BindTree
bind_of p i = record { position = p; lo = i.lo; hi = i.hi }

abbrev pub condition_in : Option Body → Option Tree
condition_in = option_map body_view

-- a body under a variable that has the position's value in the interval
abbrev pub bind_over : Tree → Interval → Tree → Tree
bind_over p i e = bind p i.lo i.hi e

-- the new list has these, as values alone, behind what the old one had
abbrev pub Gains : {A B : Type 0} → (A → B) → Vec A Global → Vec A Global → List B → Type 0
Gains view old new xs = map view new.items ≡ map view old.items ++ xs

abbrev pub GainsBinds : Vec Bind Global → Vec Bind Global → List BindTree → Type 0
GainsBinds = Gains bind_view

abbrev pub GainsFields : Vec Field Global → Vec Field Global → List FieldBody → Type 0
GainsFields = Gains field_view
