-- Rewriting makes no more units than the folds in bodies have points: a fold that becomes a pass takes its points
-- along.
use Rattle.std.proofs.Common.{◌≡◌, ℕ, ◌+◌, ◌≤◌, List, [], ◌∷◌, ◌++◌, length, map, get_or, refl, sym, ap, ◌∙◌, subst, arith, ℤ, pos, Bool, true, false}
use Rattle.std.specs.Prelude.{Option, Some, None, slice_get, option_map, sum_by, ◌&&◌}
use Rattle.std.proofs.lemmas.List.Sums.{sum_by-cons}
use Rattle.arr_core.specs.declared.domain.Axis.{Axis}
use Rattle.arr_core.specs.Domains.{count}
use Rattle.plan_ir.specs.declared.body.Index.{Index}
use Rattle.plan_ir.specs.declared.body.Index.TheVariants.{Const, Var}
use Rattle.plan_ir.specs.declared.body.Interval.{Interval}
use Rattle.plan_ir.specs.Bodies.{Tree, lit, var, reg, op1, op2, read, table, bind, fold}
use Rattle.plan_ir.specs.Placed.{spans}
use Rattle.plan_ir.specs.Plans.{PassTree, BindTree, FieldBody, StepsTree, Choice, PlanTree}
use Rattle.plan_ir.specs.Units.{condition_units, item_units, steps_units}
use Rattle.plan_ir.proofs.Parts.{slice_get-map}
use Rattle.plan_rewrite.specs.Inlining.{variable, levels, stand_in, bind_or_go, inlining}
use Rattle.plan_rewrite.specs.InlinedPlans.{Variables, stand_in_for, after_bind, variables_after, unless_inlined, kept_binds, inlined_pass, inlined_field, inlined_steps, inlined_plan}
use Rattle.plan_ir.specs.Variables.{is_from, without}
use Rattle.plan_rewrite.specs.Hoisting.{hoisting, pass_without}
use Rattle.plan_rewrite.specs.HoistedPlans.{Places, with_pass, with_passes, hoisted_condition, hoisted_fields, hoisted_item, hoisted_steps, hoisted_plan}
use Rattle.plan_rewrite.proofs.HoistedReduced.{fold_or_register}
use Rattle.plan_ir.specs.FoldPoints.{body_folds, passes_folds, condition_folds, binds_folds, fields_folds, steps_folds, unit_bound}

pub variable-folds : (i : Index) → body_folds (variable i) ≡ 0
variable-folds (Const z) = refl
variable-folds (Var k) = refl

go-folds : (o : Option Index) (env : List Index) (scope : List Interval) (lo hi : ℤ) (p : Tree) (go : List Index → List Interval → Tree) (n m : ℕ) → body_folds p ≤ n → ((env' : List Index) (scope' : List Interval) → body_folds (go env' scope') ≤ m)
    → body_folds (bind_or_go env scope lo hi p o go) ≤ n + m
go-folds (Some i) env scope lo hi p go n m h k = let a = k (env ++ i ∷ []) scope in omega (arith, a)
go-folds None env scope lo hi p go n m h k = let a = k (env ++ Var (length scope) ∷ []) (scope ++ record { lo = lo; hi = hi } ∷ []) in omega (arith, h, a)

-- a bind that is inlined takes no fold along
inlined-folds : (t : Tree) (env : List Index) (scope : List Interval) → body_folds (inlining env scope t) ≤ body_folds t
inlined-folds (lit z) env scope = omega arith
inlined-folds (var k) env scope = let a = variable-folds (get_or env k (Const (pos 0))) in omega (arith, a)
inlined-folds (reg k) env scope = omega arith
inlined-folds (op1 op e) env scope = inlined-folds e env scope
inlined-folds (op2 op l r) env scope =
    let a = inlined-folds l env scope in
    let b = inlined-folds r env scope in
    omega (arith, a, b)
inlined-folds (read c f is) env scope = omega arith
inlined-folds (table box items is) env scope = omega arith
inlined-folds (bind i lo hi e) env scope =
    go-folds (stand_in scope lo hi (inlining env scope i)) env scope lo hi (inlining env scope i) (λ env' scope'. inlining env' scope' e) (body_folds i) (body_folds e) (inlined-folds i env scope) (λ env' scope'. inlined-folds e env' scope')
inlined-folds (fold op box c e) env scope =
    let env' = env ++ levels (length scope) (spans box) in
    let scope' = scope ++ spans box in
    let a = inlined-folds c env' scope' in
    let b = inlined-folds e env' scope' in
    omega (arith, a, b)

inlined-passes : (ps : List PassTree) → passes_folds (map inlined_pass ps) ≤ passes_folds ps
inlined-passes [] = omega arith
inlined-passes (p ∷ ps) =
    let a = inlined-folds p.condition (levels 0 (spans p.domain)) (spans p.domain) in
    let b = inlined-folds p.body (levels 0 (spans p.domain)) (spans p.domain) in
    let c = inlined-passes ps in
    omega (arith, a, b, c)

inlined-condition : (o : Option Tree) → condition_folds (option_map (inlining [] []) o) ≤ condition_folds o
inlined-condition None = omega arith
inlined-condition (Some c) = inlined-folds c [] []

inlined-fields : (fields : List FieldBody) (g : Variables) → fields_folds (map (inlined_field g) fields) ≤ fields_folds fields
inlined-fields [] g = omega arith
inlined-fields (f ∷ fields) g =
    let a = inlined-folds f.body g.env g.scope in
    let b = inlined-fields fields g in
    omega (arith, a, b)

kept-folds : (o : Option Index) (b : BindTree) (env : List Index) (scope : List Interval) (p : Tree) (go : List Index → List Interval → List BindTree) (n m : ℕ) → body_folds p ≤ n → ((env' : List Index) (scope' : List Interval) → binds_folds (go env' scope') ≤ m)
    → binds_folds (unless_inlined o p b (after_bind env scope b o go)) ≤ n + m
kept-folds (Some i) b env scope p go n m h k = let a = k (env ++ i ∷ []) scope in omega (arith, a)
kept-folds None b env scope p go n m h k = let a = k (env ++ Var (length scope) ∷ []) (scope ++ record { lo = b.lo; hi = b.hi } ∷ []) in omega (arith, h, a)

inlined-binds : (binds : List BindTree) (env : List Index) (scope : List Interval) → binds_folds (kept_binds env scope binds) ≤ binds_folds binds
inlined-binds [] env scope = omega arith
inlined-binds (b ∷ binds) env scope =
    kept-folds (stand_in_for env scope b) b env scope (inlining env scope b.position) (λ env' scope'. kept_binds env' scope' binds) (body_folds b.position) (binds_folds binds) (inlined-folds b.position env scope) (λ env' scope'. inlined-binds binds env' scope')

abbrev pass_count : PassTree → ℕ
pass_count p = count p.domain

inlined-counts : (ps : List PassTree) → sum_by pass_count (map inlined_pass ps) ≡ sum_by pass_count ps
inlined-counts [] = refl
inlined-counts (p ∷ ps) = sum_by-cons pass_count (inlined_pass p) (map inlined_pass ps) ∙ ap (λ n. count p.domain + n) (inlined-counts ps) ∙ sym (sum_by-cons pass_count p ps)

condition-units : (f : Tree → Tree) (o : Option Tree) → condition_units (option_map f o) ≡ condition_units o
condition-units f None = refl
condition-units f (Some c) = refl

inlined-item-units : (box : List Axis) (g : Variables) (fields : List FieldBody) → item_units box (map (inlined_field g) fields) ≡ item_units box fields
inlined-item-units box g [] = refl
inlined-item-units box g (f ∷ fields) = refl

-- units, and the points of folds
abbrev pub both_of : Option StepsTree → ℕ
both_of o = steps_units o + steps_folds o

inlined-few : (t : StepsTree) → both_of (Some (inlined_steps t)) ≤ both_of (Some t)
inlined-few t =
    let box = spans t.item.domain in
    let g = variables_after (levels 0 box) box t.item.binds in
    let a = inlined-passes t.passes in
    let b = inlined-condition t.condition in
    let c = inlined-binds t.item.binds (levels 0 box) box in
    let d = inlined-fields t.item.fields g in
    let e = inlined-counts t.passes in
    let f = inlined-item-units t.item.domain g t.item.fields in
    let h = condition-units (inlining [] []) t.condition in
    omega (arith, a, b, c, d, e, f, h)

without-folds : (t : Tree) (n : ℕ) → body_folds (without n t) ≡ body_folds t
without-folds (lit z) n = refl
without-folds (var k) n = refl
without-folds (reg k) n = refl
without-folds (op1 op e) n = without-folds e n
without-folds (op2 op l r) n = let a = without-folds l n in let b = without-folds r n in omega (arith, a, b)
without-folds (read c f is) n = refl
without-folds (table box items is) n = refl
without-folds (bind i lo hi e) n = let a = without-folds i n in let b = without-folds e n in omega (arith, a, b)
without-folds (fold op box c e) n = let a = without-folds c n in let b = without-folds e n in omega (arith, a, b)

-- the points of passes, and of the folds in them
abbrev whole : List PassTree → ℕ
whole [] = 0
whole (p ∷ ps) = (count p.domain + (body_folds p.condition + body_folds p.body)) + whole ps

whole-is : (ps : List PassTree) → whole ps ≡ sum_by pass_count ps + passes_folds ps
whole-is [] = refl
whole-is (p ∷ ps) = let a = whole-is ps in let b = sum_by-cons pass_count p ps in omega (arith, a, b)

whole-last : (ps : List PassTree) (p : PassTree) → whole (ps ++ p ∷ []) ≡ whole ps + (count p.domain + (body_folds p.condition + body_folds p.body))
whole-last [] p = omega arith
whole-last (q ∷ ps) p = let a = whole-last ps p in omega (arith, a)

pass-whole : (b : Bool) (n : ℕ) (passes : List PassTree) (f : PassTree)
    → whole (fold_or_register b n passes f).passes + body_folds (fold_or_register b n passes f).body ≡ whole passes + (count f.domain + (body_folds f.condition + body_folds f.body))
pass-whole false n passes f = refl
pass-whole true n passes f =
    let a = whole-last passes (pass_without n f) in
    let c = without-folds f.condition n in
    let e = without-folds f.body n in
    omega (arith, a, c, e)

-- a fold takes its points along
hoisted-whole : (t : Tree) (regs : List ℕ) (n : ℕ) (passes : List PassTree) → whole (hoisting regs n passes t).passes + body_folds (hoisting regs n passes t).body ≡ whole passes + body_folds t
hoisted-whole (lit z) regs n passes = refl
hoisted-whole (var k) regs n passes = refl
hoisted-whole (reg k) regs n passes = refl
hoisted-whole (op1 op e) regs n passes = hoisted-whole e regs n passes
hoisted-whole (op2 op l r) regs n passes =
    let a = hoisted-whole l regs n passes in
    let b = hoisted-whole r regs n (hoisting regs n passes l).passes in
    omega (arith, a, b)
hoisted-whole (read c f is) regs n passes = refl
hoisted-whole (table box items is) regs n passes = refl
hoisted-whole (bind i lo hi e) regs n passes =
    let a = hoisted-whole i regs n passes in
    let b = hoisted-whole e regs (n + 1) (hoisting regs n passes i).passes in
    omega (arith, a, b)
hoisted-whole (fold op box c e) regs n passes =
    let m = n + length box in
    let hc = hoisting regs m passes c in
    let he = hoisting regs m hc.passes e in
    let a = hoisted-whole c regs m passes in
    let b = hoisted-whole e regs m hc.passes in
    let d = pass-whole (is_from n hc.body && is_from n he.body) n he.passes (record { op = op; domain = box; condition = hc.body; body = he.body }) in
    d ∙ omega (arith, a, b)

hoisted-passes : (ps : List PassTree) (w : Places) → whole (with_passes w ps).passes ≡ whole w.passes + whole ps
hoisted-passes [] w = omega arith
hoisted-passes (p ∷ ps) w =
    let n = length p.domain in
    let hc = hoisting w.regs n w.passes p.condition in
    let he = hoisting w.regs n hc.passes p.body in
    let a = hoisted-whole p.condition w.regs n w.passes in
    let b = hoisted-whole p.body w.regs n hc.passes in
    let c = whole-last he.passes (record { op = p.op; domain = p.domain; condition = hc.body; body = he.body }) in
    let d = hoisted-passes ps (with_pass w p) in
    d ∙ omega (arith, a, b, c)

hoisted-fields : (fields : List FieldBody) (regs : List ℕ) (n : ℕ) (passes : List PassTree) → whole (hoisted_fields regs n passes fields).passes + fields_folds (hoisted_fields regs n passes fields).fields ≡ whole passes + fields_folds fields
hoisted-fields [] regs n passes = refl
hoisted-fields (f ∷ fields) regs n passes =
    let a = hoisted-whole f.body regs n passes in
    let b = hoisted-fields fields regs n (hoisting regs n passes f.body).passes in
    omega (arith, a, b)

hoisted-items : (binds : List BindTree) (fields : List FieldBody) (regs : List ℕ) (n : ℕ) (passes : List PassTree)
    → whole (hoisted_item regs n passes binds fields).passes + (binds_folds (hoisted_item regs n passes binds fields).binds + fields_folds (hoisted_item regs n passes binds fields).fields) ≡ whole passes + (binds_folds binds + fields_folds fields)
hoisted-items [] fields regs n passes = let a = hoisted-fields fields regs n passes in omega (arith, a)
hoisted-items (b ∷ binds) fields regs n passes =
    let a = hoisted-whole b.position regs n passes in
    let c = hoisted-items binds fields regs (n + 1) (hoisting regs n passes b.position).passes in
    omega (arith, a, c)

hoisted-conditions : (o : Option Tree) (w : Places) → whole (hoisted_condition w o).passes + condition_folds (hoisted_condition w o).condition ≡ whole w.passes + condition_folds o
hoisted-conditions None w = refl
hoisted-conditions (Some c) w = hoisted-whole c w.regs 0 w.passes

hoisted-condition-units : (o : Option Tree) (w : Places) → condition_units (hoisted_condition w o).condition ≡ condition_units o
hoisted-condition-units None w = refl
hoisted-condition-units (Some c) w = refl

fields-item-units : (fields : List FieldBody) (box : List Axis) (regs : List ℕ) (n : ℕ) (passes : List PassTree) → item_units box (hoisted_fields regs n passes fields).fields ≡ item_units box fields
fields-item-units [] box regs n passes = refl
fields-item-units (f ∷ fields) box regs n passes = refl

hoisted-item-units : (binds : List BindTree) (fields : List FieldBody) (box : List Axis) (regs : List ℕ) (n : ℕ) (passes : List PassTree) → item_units box (hoisted_item regs n passes binds fields).fields ≡ item_units box fields
hoisted-item-units [] fields box regs n passes = fields-item-units fields box regs n passes
hoisted-item-units (b ∷ binds) fields box regs n passes = hoisted-item-units binds fields box regs (n + 1) (hoisting regs n passes b.position).passes

hoisted-few : (t : StepsTree) → both_of (Some (hoisted_steps t)) ≤ both_of (Some t)
hoisted-few t =
    let w = with_passes (record { regs = []; passes = [] }) t.passes in
    let hc = hoisted_condition w t.condition in
    let n = length t.item.domain in
    let hi = hoisted_item w.regs n hc.passes t.item.binds t.item.fields in
    let a = hoisted-passes t.passes (record { regs = []; passes = [] }) in
    let b = hoisted-conditions t.condition w in
    let c = hoisted-items t.item.binds t.item.fields w.regs n hc.passes in
    let d = hoisted-item-units t.item.binds t.item.fields t.item.domain w.regs n hc.passes in
    let e = whole-is t.passes in
    let f = whole-is hi.passes in
    let g = hoisted-condition-units t.condition w in
    omega (arith, a, b, c, d, e, f, g)

some-few : (f : StepsTree → StepsTree) → ((t : StepsTree) → both_of (Some (f t)) ≤ both_of (Some t)) → (o : Option StepsTree) → both_of (option_map f o) ≤ both_of o
some-few f h None = omega arith
some-few f h (Some t) = h t

abbrev units_at : List StepsTree → Choice → ℕ
units_at steps c = steps_units (slice_get steps c.steps)

abbrev folds_at : List StepsTree → Choice → ℕ
folds_at steps c = steps_folds (slice_get steps c.steps)

choices-few : (f : StepsTree → StepsTree) → ((t : StepsTree) → both_of (Some (f t)) ≤ both_of (Some t)) → (steps : List StepsTree) (all : List Choice)
    → sum_by (units_at (map f steps)) all + sum_by (folds_at (map f steps)) all ≤ sum_by (units_at steps) all + sum_by (folds_at steps) all
choices-few f h steps [] = omega arith
choices-few f h steps (c ∷ all) =
    let a = subst (λ o. both_of o ≤ both_of (slice_get steps c.steps)) (sym (slice_get-map f steps c.steps)) (some-few f h (slice_get steps c.steps)) in
    let b = choices-few f h steps all in
    let u = sum_by-cons (units_at steps) c all in
    let v = sum_by-cons (folds_at steps) c all in
    let w = sum_by-cons (units_at (map f steps)) c all in
    let x = sum_by-cons (folds_at (map f steps)) c all in
    omega (arith, a, b, u, v, w, x)

-- units and the points of folds together do not grow
pub inlined-plan-few : (p : PlanTree) → unit_bound (inlined_plan p) ≤ unit_bound p
inlined-plan-few p = choices-few inlined_steps inlined-few p.steps p.combinations

pub hoisted-plan-few : (p : PlanTree) → unit_bound (hoisted_plan p) ≤ unit_bound p
hoisted-plan-few p = choices-few hoisted_steps hoisted-few p.steps p.combinations

pub rewritten-few : (p : PlanTree) → unit_bound (hoisted_plan (inlined_plan p)) ≤ unit_bound p
rewritten-few p =
    let a = inlined-plan-few p in
    let b = hoisted-plan-few (inlined_plan p) in
    omega (arith, a, b)
