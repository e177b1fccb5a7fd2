-- A walk over all bodies of a plan, which meets each bind and each fold with the intervals of the variables around it.
use Rattle.std.specs.Prelude.{List, [], ◌∷◌, ◌++◌, Option, Some, None}
use Rattle.plan_ir.specs.declared.body.Interval.{Interval}
use Rattle.plan_ir.specs.Bodies.{Tree, lit, var, reg, op1, op2, read, table, bind, fold}
use Rattle.plan_ir.specs.Placed.{spans}
use Rattle.plan_ir.specs.Plans.{PassTree, BindTree, FieldBody, StepsTree, PlanTree}
use Rattle.plan_rewrite.specs.Views.{pass_of}

-- what is asked of each bind and of each fold
pub record Rule : Type 1 where
  pub binds : List Interval → BindTree → Type 0
  pub folds : List Interval → PassTree → Type 0

abbrev pub InBody : Rule → List Interval → Tree → Type 0
InBody r scope (lit z) = Unit {0}
InBody r scope (var k) = Unit {0}
InBody r scope (reg k) = Unit {0}
InBody r scope (op1 op e) = InBody r scope e
InBody r scope (op2 op a b) = InBody r scope a × InBody r scope b
InBody r scope (read c f is) = Unit {0}
InBody r scope (table box items is) = Unit {0}
InBody r scope (bind p lo hi e) =
    r.binds scope (record { position = p; lo = lo; hi = hi }) × InBody r scope p
    × InBody r (scope ++ record { lo = lo; hi = hi } ∷ []) e
InBody r scope (fold op box c e) =
    r.folds scope (pass_of op box c e) × InBody r (scope ++ spans box) c × InBody r (scope ++ spans box) e

abbrev pub InPasses : Rule → List PassTree → Type 0
InPasses r [] = Unit {0}
InPasses r (p ∷ passes) = InBody r (spans p.domain) p.condition × InBody r (spans p.domain) p.body × InPasses r passes

abbrev pub InCondition : Rule → Option Tree → Type 0
InCondition r None = Unit {0}
InCondition r (Some c) = InBody r [] c

abbrev pub InFields : Rule → List Interval → List FieldBody → Type 0
InFields r scope [] = Unit {0}
InFields r scope (f ∷ fields) = InBody r scope f.body × InFields r scope fields

-- the binds of an item too
abbrev pub InItem : Rule → List Interval → List BindTree → List FieldBody → Type 0
InItem r scope [] fields = InFields r scope fields
InItem r scope (b ∷ binds) fields =
    r.binds scope b × InBody r scope b.position × InItem r (scope ++ record { lo = b.lo; hi = b.hi } ∷ []) binds fields

abbrev pub InSteps : Rule → List StepsTree → Type 0
InSteps r [] = Unit {0}
InSteps r (s ∷ more) = InPasses r s.passes × InCondition r s.condition
    × InItem r (spans s.item.domain) s.item.binds s.item.fields × InSteps r more

-- the rule holds of each bind and each fold of the plan
abbrev pub Everywhere : Rule → PlanTree → Type 0
Everywhere r plan = InSteps r plan.steps
