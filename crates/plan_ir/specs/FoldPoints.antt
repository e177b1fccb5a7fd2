-- How many points the boxes of the folds in bodies have: at most so many units more a plan has once folds are passes.
use Rattle.std.specs.Prelude.{ℕ, ◌+◌, List, [], ◌∷◌, Option, Some, None, slice_get, sum_by}
use Rattle.arr_core.specs.Domains.{count}
use Rattle.plan_ir.specs.Bodies.{Tree, lit, var, reg, op1, op2, read, table, bind, fold}
use Rattle.plan_ir.specs.Plans.{PassTree, BindTree, FieldBody, StepsTree, Choice, PlanTree}
use Rattle.plan_ir.specs.Units.{units}

-- of a body, each fold once
abbrev pub body_folds : Tree → ℕ
body_folds (lit z) = 0
body_folds (var k) = 0
body_folds (reg k) = 0
body_folds (op1 op e) = body_folds e
body_folds (op2 op l r) = body_folds l + body_folds r
body_folds (read c f is) = 0
body_folds (table box items is) = 0
body_folds (bind i lo hi e) = body_folds i + body_folds e
body_folds (fold op box c e) = count box + (body_folds c + body_folds e)

-- of the conditions and the bodies of passes, without their own boxes
abbrev pub passes_folds : List PassTree → ℕ
passes_folds [] = 0
passes_folds (p ∷ passes) = (body_folds p.condition + body_folds p.body) + passes_folds passes

abbrev pub condition_folds : Option Tree → ℕ
condition_folds None = 0
condition_folds (Some c) = body_folds c

abbrev pub binds_folds : List BindTree → ℕ
binds_folds [] = 0
binds_folds (b ∷ binds) = body_folds b.position + binds_folds binds

abbrev pub fields_folds : List FieldBody → ℕ
fields_folds [] = 0
fields_folds (f ∷ fields) = body_folds f.body + fields_folds fields

-- of steps, each body once
abbrev pub steps_folds : Option StepsTree → ℕ
steps_folds None = 0
steps_folds (Some s) = passes_folds
    s.passes + (condition_folds s.condition + (binds_folds s.item.binds + fields_folds s.item.fields))

-- of a plan, the steps of each combination
abbrev pub fold_points : PlanTree → ℕ
fold_points plan = sum_by (λ (c : Choice). steps_folds (slice_get plan.steps c.steps)) plan.combinations

-- the units that a plan has at most once all its folds are passes
abbrev pub unit_bound : PlanTree → ℕ
unit_bound plan = units plan + fold_points plan
