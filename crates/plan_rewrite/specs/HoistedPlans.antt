-- Hoisted plans: the passes of steps, each behind those that its own closed folds have become, then the condition, the
-- binds and the fields.
use Rattle.std.specs.Prelude.{ℕ, ◌+◌, List, [], ◌∷◌, ◌++◌, map, length, Option, Some, None}
use Rattle.arr_core.specs.declared.domain.Axis.{Axis}
use Rattle.plan_ir.specs.Bodies.{Tree}
use Rattle.plan_ir.specs.Plans.{PassTree, BindTree, FieldBody, ItemTree, StepsTree, PlanTree}
use Rattle.plan_rewrite.specs.Views.{pass_of}
use Rattle.plan_rewrite.specs.Hoisting.{Hoist, hoisting}

-- the place of each old pass among all passes so far
pub record Places : Type 0 where
  pub regs : List ℕ
  pub passes : List PassTree

-- a pass whose body has been hoisted goes to the end
abbrev pub with_body : List ℕ → PassTree → Tree → Hoist → Places
with_body regs p c h = record {
  regs = regs ++ length h.passes ∷ [];
  passes =
      h.passes ++ pass_of p.op p.domain c h.body ∷ [];
}

abbrev pub with_condition : List ℕ → PassTree → Hoist → Places
with_condition regs p h = with_body regs p h.body (hoisting regs (length p.domain) h.passes p.body)

abbrev pub with_pass : Places → PassTree → Places
with_pass w p = with_condition w.regs p (hoisting w.regs (length p.domain) w.passes p.condition)

abbrev pub with_passes : Places → List PassTree → Places
with_passes w [] = w
with_passes w (p ∷ ps) = with_passes (with_pass w p) ps

-- all passes so far, and the condition, if there is one
pub record HoistedCondition : Type 0 where
  pub passes : List PassTree
  pub condition : Option Tree

abbrev pub some_condition : Hoist → HoistedCondition
some_condition h = record { passes = h.passes; condition = Some h.body }

abbrev pub hoisted_condition : Places → Option Tree → HoistedCondition
hoisted_condition w None = record { passes = w.passes; condition = None }
hoisted_condition w (Some c) = some_condition (hoisting w.regs 0 w.passes c)

-- all passes so far, and fields
pub record HoistedFields : Type 0 where
  pub passes : List PassTree
  pub fields : List FieldBody

abbrev pub before_fields : FieldBody → Hoist → HoistedFields → HoistedFields
before_fields f h more = record
    { passes = more.passes; fields = record { boolean = f.boolean; body = h.body } ∷ more.fields }

abbrev pub hoisted_fields : List ℕ → ℕ → List PassTree → List FieldBody → HoistedFields
hoisted_fields regs n passes [] = record { passes = passes; fields = [] }
hoisted_fields regs n passes (f ∷ fields) =
    before_fields f (hoisting regs n passes f.body)
    (hoisted_fields regs n (hoisting regs n passes f.body).passes fields)

-- all passes so far, binds and fields
pub record HoistedItem : Type 0 where
  pub passes : List PassTree
  pub binds : List BindTree
  pub fields : List FieldBody

abbrev pub without_binds : HoistedFields → HoistedItem
without_binds h = record { passes = h.passes; binds = []; fields = h.fields }

abbrev pub before_item : BindTree → Hoist → HoistedItem → HoistedItem
before_item b h more = record {
  passes = more.passes;
  binds =
      record { position = h.body; lo = b.lo; hi = b.hi } ∷ more.binds;
  fields = more.fields;
}

abbrev pub hoisted_item : List ℕ → ℕ → List PassTree → List BindTree → List FieldBody → HoistedItem
hoisted_item regs n passes [] fields = without_binds (hoisted_fields regs n passes fields)
hoisted_item regs n passes (b ∷ binds) fields =
    before_item b (hoisting regs n passes b.position)
    (hoisted_item regs (n + 1) (hoisting regs n passes b.position).passes binds fields)

-- an item on that domain
abbrev pub item_on : List Axis → HoistedItem → ItemTree
item_on domain h = record { domain = domain; binds = h.binds; fields = h.fields }

abbrev pub with_item : ItemTree → HoistedCondition → HoistedItem → StepsTree
with_item i c h = record { passes = h.passes; condition = c.condition; item = item_on i.domain h }

abbrev pub behind_condition : List ℕ → ItemTree → HoistedCondition → StepsTree
behind_condition regs i c = with_item i c (hoisted_item regs (length i.domain) c.passes i.binds i.fields)

abbrev pub behind_passes : StepsTree → Places → StepsTree
behind_passes t w = behind_condition w.regs t.item (hoisted_condition w t.condition)

abbrev pub hoisted_steps : StepsTree → StepsTree
hoisted_steps t = behind_passes t (with_passes (record { regs = []; passes = [] }) t.passes)

abbrev pub hoisted_plan : PlanTree → PlanTree
hoisted_plan p = record { coverages = p.coverages; steps = map hoisted_steps p.steps; combinations = p.combinations }
