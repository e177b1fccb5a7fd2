-- An inlined plan is well-formed, and has no bind left that could be inlined.
use Rattle.std.proofs.Common.{◌≡◌, ℕ, ◌+◌, List, [], ◌∷◌, ◌++◌, length, map, get_or, refl, sym, ap, subst, arith}
use Rattle.std.specs.Prelude.{Option, Some, None, slice_get, option_map, IsSomeAnd}
use Rattle.std.proofs.lemmas.List.{length-map}
use Rattle.arr_core.specs.declared.signature.Signature.{Signature}
use Rattle.plan_ir.specs.declared.body.Index.{Index}
use Rattle.plan_ir.specs.declared.body.Index.TheVariants.{Var}
use Rattle.plan_ir.specs.declared.body.Interval.{Interval}
use Rattle.plan_ir.specs.Bodies.{Tree}
use Rattle.plan_ir.specs.Plans.{PassTree, BindTree, FieldBody, StepsTree, Choice, PlanTree, signature_of}
use Rattle.plan_ir.specs.Placed.{spans, Indexes, IsPlaced, ConditionIsPlaced, PassesArePlaced, FieldsArePlaced, ItemIsPlaced, AreDemanded, AreSteps, IsChoice, IsPlan}
use Rattle.plan_ir.proofs.Parts.{slice_get-map}
use Rattle.plan_rewrite.specs.Inlining.{levels, inlining}
use Rattle.plan_rewrite.specs.InlinedPlans.{Variables, stand_in_for, after_bind, variables_after, unless_inlined, kept_binds, inlined_pass, inlined_field, inlined_item, inlined_steps, inlined_plan}
use Rattle.plan_rewrite.specs.Everywhere.{InPasses, InCondition, InFields, InItem, InSteps}
use Rattle.plan_rewrite.specs.Rewritten.{NoInlinableBind}
use Rattle.plan_rewrite.proofs.Scopes.{indexes-append, levels-lie, indexes-under}
use Rattle.plan_rewrite.proofs.Inlines.{is-inlined, inlined-placed, inlined-reduced}
use Rattle.plan_rewrite.proofs.FoldPoints.{inlined-plan-few}

passes-placed : (ps : List PassTree) (cs : ℕ → Option Signature) (regs : ℕ) → PassesArePlaced cs regs ps → PassesArePlaced cs regs (map inlined_pass ps)
passes-placed [] cs regs h = tt
passes-placed (p ∷ ps) cs regs h =
    let box = spans p.domain in
    let all = levels-lie [] box 0 refl in
    (inlined-placed p.condition cs regs box box (levels 0 box) h.0 all, inlined-placed p.body cs regs box box (levels 0 box) h.1 all, passes-placed ps cs (regs + 1) h.2)

condition-placed : (c : Option Tree) (cs : ℕ → Option Signature) (regs : ℕ) → ConditionIsPlaced cs regs [] c → ConditionIsPlaced cs regs [] (option_map (inlining [] []) c)
condition-placed None cs regs h = tt
condition-placed (Some c) cs regs h = inlined-placed c cs regs [] [] [] h tt

fields-placed : (fields : List FieldBody) (cs : ℕ → Option Signature) (regs : ℕ) (old : List Interval) (g : Variables) → FieldsArePlaced cs regs old fields → Indexes old g.scope g.env → FieldsArePlaced cs regs g.scope (map (inlined_field g) fields)
fields-placed [] cs regs old g h i = tt
fields-placed (f ∷ fields) cs regs old g h i = (inlined-placed f.body cs regs old g.scope g.env h.0 i, fields-placed fields cs regs old g h.1 i)

bind-item : (b : BindTree) (binds : List BindTree) (fields : List FieldBody) (cs : ℕ → Option Signature) (regs : ℕ) (old scope : List Interval) (env : List Index) (o : Option Index) → stand_in_for env scope b ≡ o → IsPlaced cs regs scope (inlining env scope b.position) → Indexes old scope env → ((scope' : List Interval) (env' : List Index) → Indexes (old ++ record { lo = b.lo; hi = b.hi } ∷ []) scope' env' → ItemIsPlaced cs regs scope' (kept_binds env' scope' binds) (map (inlined_field (variables_after env' scope' binds)) fields)) → ItemIsPlaced cs regs scope (unless_inlined o (inlining env scope b.position) b (after_bind env scope b o (λ env' scope'. kept_binds env' scope' binds))) (map (inlined_field (after_bind env scope b o (λ env' scope'. variables_after env' scope' binds))) fields)
bind-item b binds fields cs regs old scope env (Some i) is p h go =
    let w = is-inlined scope b.lo b.hi (inlining env scope b.position) i is in
    go scope (env ++ i ∷ []) (indexes-append old (record { lo = b.lo; hi = b.hi } ∷ []) scope env (i ∷ []) h (w.stands.lies, tt))
bind-item b binds fields cs regs old scope env None is p h go =
    (p, go (scope ++ record { lo = b.lo; hi = b.hi } ∷ []) (env ++ Var (length scope) ∷ []) (indexes-under old scope (record { lo = b.lo; hi = b.hi } ∷ []) env h))

item-placed : (binds : List BindTree) (fields : List FieldBody) (cs : ℕ → Option Signature) (regs : ℕ) (old scope : List Interval) (env : List Index) → ItemIsPlaced cs regs old binds fields → Indexes old scope env → ItemIsPlaced cs regs scope (kept_binds env scope binds) (map (inlined_field (variables_after env scope binds)) fields)
item-placed [] fields cs regs old scope env h i = fields-placed fields cs regs old (record { env = env; scope = scope }) h i
item-placed (b ∷ binds) fields cs regs old scope env h i =
    bind-item b binds fields cs regs old scope env (stand_in_for env scope b) refl (inlined-placed b.position cs regs old scope env h.0 i) i
    (λ scope' env' i'. item-placed binds fields cs regs (old ++ record { lo = b.lo; hi = b.hi } ∷ []) scope' env' h.1 i')

-- an item without fields has no binds to keep
item-demanded : (binds : List BindTree) (fields : List FieldBody) (env : List Index) (scope : List Interval) (g : Variables) → AreDemanded binds fields → AreDemanded (kept_binds env scope binds) (map (inlined_field g) fields)
item-demanded binds [] env scope g h = ap (kept_binds env scope) h
item-demanded binds (f ∷ fields) env scope g h = tt

steps-placed : (t : StepsTree) (cs : ℕ → Option Signature) → AreSteps cs t → AreSteps cs (inlined_steps t)
steps-placed t cs h =
    let box = spans t.item.domain in
    let same = sym (length-map t.passes inlined_pass) in
    record {
      passes = passes-placed t.passes cs 0 h.passes;
      condition = subst (λ n. ConditionIsPlaced cs n [] (option_map (inlining [] []) t.condition)) same (condition-placed t.condition cs (length t.passes) h.condition);
      item = subst (λ n. ItemIsPlaced cs n box (inlined_item t.item).binds (inlined_item t.item).fields) same (item-placed t.item.binds t.item.fields cs (length t.passes) box box (levels 0 box) h.item (levels-lie [] box 0 refl));
      demanded = item-demanded t.item.binds t.item.fields (levels 0 box) box (variables_after (levels 0 box) box t.item.binds) h.demanded;
    }

option-placed : (o : Option StepsTree) (cs : ℕ → Option Signature) → IsSomeAnd o (AreSteps cs) → IsSomeAnd (option_map inlined_steps o) (AreSteps cs)
option-placed None cs h = absurd h
option-placed (Some t) cs h = steps-placed t cs h

choice-placed : (p : PlanTree) (c : Choice) → IsChoice p c → IsChoice (inlined_plan p) c
choice-placed p c h =
    let cs = signature_of p.coverages c.coverages in
    subst (λ o. IsSomeAnd o (AreSteps cs)) (sym (slice_get-map inlined_steps p.steps c.steps)) (option-placed (slice_get p.steps c.steps) cs h)

-- an inlined plan is well-formed
pub plan-placed : (p : PlanTree) → IsPlan p → IsPlan (inlined_plan p)
plan-placed p h = record {
  choices = λ k d lt. choice-placed p (get_or p.combinations k d) (h.choices k d lt);
  few = let a = inlined-plan-few p in let b = h.few in omega (arith, a, b);
}

passes-reduced : (ps : List PassTree) → InPasses NoInlinableBind (map inlined_pass ps)
passes-reduced [] = tt
passes-reduced (p ∷ ps) = (inlined-reduced p.condition (spans p.domain) (levels 0 (spans p.domain)), inlined-reduced p.body (spans p.domain) (levels 0 (spans p.domain)), passes-reduced ps)

condition-reduced : (c : Option Tree) → InCondition NoInlinableBind (option_map (inlining [] []) c)
condition-reduced None = tt
condition-reduced (Some c) = inlined-reduced c [] []

fields-reduced : (fields : List FieldBody) (g : Variables) → InFields NoInlinableBind g.scope (map (inlined_field g) fields)
fields-reduced [] g = tt
fields-reduced (f ∷ fields) g = (inlined-reduced f.body g.scope g.env, fields-reduced fields g)

bind-left : (b : BindTree) (binds : List BindTree) (fields : List FieldBody) (scope : List Interval) (env : List Index) (o : Option Index) → stand_in_for env scope b ≡ o → ((scope' : List Interval) (env' : List Index) → InItem NoInlinableBind scope' (kept_binds env' scope' binds) (map (inlined_field (variables_after env' scope' binds)) fields)) → InItem NoInlinableBind scope (unless_inlined o (inlining env scope b.position) b (after_bind env scope b o (λ env' scope'. kept_binds env' scope' binds))) (map (inlined_field (after_bind env scope b o (λ env' scope'. variables_after env' scope' binds))) fields)
bind-left b binds fields scope env (Some i) is go = go scope (env ++ i ∷ [])
bind-left b binds fields scope env None is go = (is, inlined-reduced b.position scope env, go (scope ++ record { lo = b.lo; hi = b.hi } ∷ []) (env ++ Var (length scope) ∷ []))

item-reduced : (binds : List BindTree) (fields : List FieldBody) (scope : List Interval) (env : List Index) → InItem NoInlinableBind scope (kept_binds env scope binds) (map (inlined_field (variables_after env scope binds)) fields)
item-reduced [] fields scope env = fields-reduced fields (record { env = env; scope = scope })
item-reduced (b ∷ binds) fields scope env = bind-left b binds fields scope env (stand_in_for env scope b) refl (λ scope' env'. item-reduced binds fields scope' env')

-- no bind of an inlined plan could be inlined
pub steps-reduced : (all : List StepsTree) → InSteps NoInlinableBind (map inlined_steps all)
steps-reduced [] = tt
steps-reduced (t ∷ all) =
    (passes-reduced t.passes, condition-reduced t.condition, item-reduced t.item.binds t.item.fields (spans t.item.domain) (levels 0 (spans t.item.domain)), steps-reduced all)
