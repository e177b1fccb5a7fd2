-- Inlined plans: each body of a plan without the binds that are inlined.
use Rattle.std.specs.Prelude.{List, [], ◌∷◌, ◌++◌, map, length, Option, Some, None, option_map, Vec}
use Rattle.std.specs.Global.{Global}
use Rattle.std.specs.Vec.Iter.{into_iter_items}
use Rattle.std.specs.declared.vec.IntoIter.{IntoIter}
use Rattle.plan_ir.specs.declared.body.Index.{Index}
use Rattle.plan_ir.specs.declared.body.Index.TheVariants.{Var}
use Rattle.plan_ir.specs.declared.body.Interval.{Interval}
use Rattle.plan_ir.specs.declared.plan.Bind.{Bind}
use Rattle.plan_ir.specs.Bodies.{Tree}
use Rattle.plan_ir.specs.Placed.{spans}
use Rattle.plan_ir.specs.Plans.{PassTree, BindTree, FieldBody, ItemTree, StepsTree, PlanTree, bind_view}
use Rattle.plan_rewrite.specs.Inlining.{levels, stand_in, inlining, inlined_fold}

-- the variables after some binds: the index of each old one, and the interval of each new one
pub record Variables : Type 0 where
  pub env : List Index
  pub scope : List Interval

-- what a bind is inlined as
abbrev pub stand_in_for : List Index → List Interval → BindTree → Option Index
stand_in_for env scope b = stand_in scope b.lo b.hi (inlining env scope b.position)

-- goes on with the variables after a bind
abbrev pub after_bind : {A : Type 0} → List Index → List Interval → BindTree → Option Index
    → (List Index → List Interval → A) → A
after_bind env scope b (Some i) go = go (env ++ i ∷ []) scope
after_bind env scope b None go = go (env ++ Var (length scope) ∷ []) (scope ++ record { lo = b.lo; hi = b.hi } ∷ [])

abbrev pub variables_after : List Index → List Interval → List BindTree → Variables
variables_after env scope [] = record { env = env; scope = scope }
variables_after env scope (b ∷ binds) =
    after_bind env scope b (stand_in_for env scope b) (λ env' scope'. variables_after env' scope' binds)

-- a bind that is inlined is left out
abbrev pub unless_inlined : Option Index → Tree → BindTree → List BindTree → List BindTree
unless_inlined (Some i) p b rest = rest
unless_inlined None p b rest = record { position = p; lo = b.lo; hi = b.hi } ∷ rest

abbrev pub kept_binds : List Index → List Interval → List BindTree → List BindTree
kept_binds env scope [] = []
kept_binds env scope (b ∷ binds) =
    unless_inlined (stand_in_for env scope b) (inlining env scope b.position) b
    (after_bind env scope b (stand_in_for env scope b) (λ env' scope'. kept_binds env' scope' binds))

-- the binds that are left, as the code has them
abbrev pub binds_kept : Vec Index Global → Vec Interval Global → IntoIter Bind Global → List BindTree
binds_kept env scope binds = kept_binds env.items scope.items (map bind_view (into_iter_items binds))

-- the variables after them
abbrev pub variables_behind : Vec Index Global → Vec Interval Global → IntoIter Bind Global → Variables
variables_behind env scope binds = variables_after env.items scope.items (map bind_view (into_iter_items binds))

abbrev pub inlined_pass : PassTree → PassTree
inlined_pass p = inlined_fold [] [] p

abbrev pub inlined_field : Variables → FieldBody → FieldBody
inlined_field g f = record { boolean = f.boolean; body = inlining g.env g.scope f.body }

abbrev pub inlined_fields : List Index → List Interval → List FieldBody → List FieldBody
inlined_fields env scope fields = map (inlined_field (record { env = env; scope = scope })) fields

abbrev pub inlined_item : ItemTree → ItemTree
inlined_item i = record {
  domain = i.domain;
  binds = kept_binds (levels 0 (spans i.domain)) (spans i.domain) i.binds;
  fields = map (inlined_field (variables_after (levels 0 (spans i.domain)) (spans i.domain) i.binds)) i.fields;
}

abbrev pub inlined_steps : StepsTree → StepsTree
inlined_steps s = record {
  passes = map inlined_pass s.passes;
  condition =
      option_map (inlining [] []) s.condition;
  item = inlined_item s.item;
}

abbrev pub inlined_plan : PlanTree → PlanTree
inlined_plan p = record { coverages = p.coverages; steps = map inlined_steps p.steps; combinations = p.combinations }
