-- Plans as values alone.
use Rattle.std.specs.Prelude.{ℕ, ℤ, List, map, Bool, Option, option_map, slice_get, slice_index_or}
use Rattle.arr_core.specs.declared.domain.Axis.{Axis}
use Rattle.arr_core.specs.declared.signature.Signature.{Signature}
use Rattle.wcps_text.specs.declared.operator.Aggregate.{Aggregate}
use Rattle.plan_ir.specs.declared.body.Fold.{Fold}
use Rattle.plan_ir.specs.declared.plan.Bind.{Bind}
use Rattle.plan_ir.specs.declared.plan.Field.{Field}
use Rattle.plan_ir.specs.declared.plan.Item.{Item}
use Rattle.plan_ir.specs.declared.plan.Steps.{Steps}
use Rattle.plan_ir.specs.declared.plan.Combination.{Combination}
use Rattle.plan_ir.specs.declared.plan.Plan.{Plan}
use Rattle.plan_ir.specs.Bodies.{Tree, body_view, condition_view}

-- a fold whose outcome goes to a register
pub record PassTree : Type 0 where
  pub op : Aggregate
  pub domain : List Axis
  pub condition : Tree
  pub body : Tree

-- one more variable for all that follows: a position and its bounds
pub record BindTree : Type 0 where
  pub position : Tree
  pub lo : ℤ
  pub hi : ℤ

-- a field of an item: whether it is Boolean, and its body
pub record FieldBody : Type 0 where
  pub boolean : Bool
  pub body : Tree

-- the fields at each point of a domain, after the binds
pub record ItemTree : Type 0 where
  pub domain : List Axis
  pub binds : List BindTree
  pub fields : List FieldBody

-- the passes, the condition under which there is an item, and the item
pub record StepsTree : Type 0 where
  pub passes : List PassTree
  pub condition : Option Tree
  pub item : ItemTree

-- steps by their place, and the coverages that their reads name
pub record Choice : Type 0 where
  pub steps : ℕ
  pub coverages : List ℕ

-- the coverages, the steps, and the combinations in order
pub record PlanTree : Type 0 where
  pub coverages : List Signature
  pub steps : List StepsTree
  pub combinations : List Choice

-- the coverage that a combination chooses for a place
abbrev pub signature_of : List Signature → List ℕ → ℕ → Option Signature
signature_of all coverages c = slice_get all (slice_index_or coverages c 0)

abbrev pub pass_view : Fold → PassTree
pass_view p = record { op = p.op; domain = p.domain; condition = condition_view p.condition; body = body_view p.body }

abbrev pub bind_view : Bind → BindTree
bind_view b = record { position = body_view b.position; lo = b.interval.lo; hi = b.interval.hi }

abbrev pub field_view : Field → FieldBody
field_view f = record { boolean = f.boolean; body = body_view f.body }

abbrev pub item_view : Item → ItemTree
item_view i = record { domain = i.domain; binds = map bind_view i.binds.items; fields = map field_view i.fields.items }

abbrev pub steps_view : Steps → StepsTree
steps_view s = record {
  passes = map pass_view s.passes.items;
  condition = option_map body_view s.condition;
  item =
      item_view s.item;
}

abbrev pub choice_view : Combination → Choice
choice_view c = record { steps = c.steps; coverages = c.coverages.items }

abbrev pub plan_view : Plan → PlanTree
plan_view p = record {
  coverages = p.coverages.items;
  steps = map steps_view p.steps.items;
  combinations =
      map choice_view p.combinations.items;
}
