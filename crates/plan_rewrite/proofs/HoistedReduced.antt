-- Hoisting leaves no bind that could be inlined where there was none.
use Rattle.std.proofs.Common.{◌≡◌, ℕ, zero, suc, ◌+◌, ◌-◌, List, [], ◌∷◌, ◌++◌, length, map, refl, sym, ap, ◌∙◌, subst, arith, ℤ, append_assoc, length-append, T, Bool, true, false, cond}
use Rattle.std.specs.Prelude.{Option, Some, None, slice_get, option_and_then, int_le, ◌&&◌}
use Rattle.std.proofs.lemmas.List.{length-map}
use Rattle.wcps_mean.specs.Cells.{exact1}
use Rattle.plan_ir.specs.declared.body.Index.TheVariants.{Var}
use Rattle.plan_ir.specs.declared.body.Interval.{Interval}
use Rattle.plan_ir.specs.Bodies.{Tree, lit, var, reg, op1, op2, read, table, bind, fold}
use Rattle.plan_ir.specs.Placed.{span, spans}
use Rattle.plan_ir.specs.Plans.{PassTree, BindTree, FieldBody, StepsTree}
use Rattle.plan_rewrite.specs.Inlining.{value_of, literal, constant_in, variable_in, stand_in}
use Rattle.plan_rewrite.specs.Everywhere.{InBody, InPasses, InCondition, InFields, InItem, InSteps}
use Rattle.plan_rewrite.specs.Rewritten.{NoInlinableBind}
use Rattle.plan_ir.specs.Variables.{is_from, without}
use Rattle.plan_rewrite.specs.Hoisting.{Hoist, hoisting, pass_without}
use Rattle.plan_rewrite.specs.HoistedPlans.{Places, with_pass, with_passes, hoisted_condition, hoisted_fields, hoisted_item, hoisted_steps}
use Rattle.plan_ir.proofs.FirstVariables.{both-true, behind-first}

-- a fold or its register
abbrev pub fold_or_register : Bool → ℕ → List PassTree → PassTree → Hoist
fold_or_register b n passes f =
    cond b (record { passes = passes ++ pass_without n f ∷ []; body = reg (length passes) }) (record { passes = passes; body = fold f.op f.domain f.condition f.body })

literal-passed : (b : Bool) (n : ℕ) (passes : List PassTree) (f : PassTree) → literal (fold_or_register b n passes f).body ≡ None
literal-passed true n passes f = refl
literal-passed false n passes f = refl

literal-hoisted : (t : Tree) (regs : List ℕ) (n : ℕ) (passes : List PassTree) → literal (hoisting regs n passes t).body ≡ literal t
literal-hoisted (lit z) regs n passes = refl
literal-hoisted (var k) regs n passes = refl
literal-hoisted (reg k) regs n passes = refl
literal-hoisted (op1 op e) regs n passes = ap (λ o. option_and_then (λ z. value_of (exact1 op z)) o) (literal-hoisted e regs n passes)
literal-hoisted (op2 op l r) regs n passes = refl
literal-hoisted (read c f is) regs n passes = refl
literal-hoisted (table box items is) regs n passes = refl
literal-hoisted (bind i lo hi e) regs n passes = refl
literal-hoisted (fold op box c e) regs n passes =
    let m = n + length box in
    let hc = hoisting regs m passes c in
    let he = hoisting regs m hc.passes e in
    literal-passed (is_from n hc.body && is_from n he.body) n he.passes (record { op = op; domain = box; condition = hc.body; body = he.body })

stand-passed : (b : Bool) (n : ℕ) (passes : List PassTree) (f : PassTree) (scope : List Interval) (lo hi : ℤ) → stand_in scope lo hi (fold_or_register b n passes f).body ≡ None
stand-passed true n passes f scope lo hi = refl
stand-passed false n passes f scope lo hi = refl

-- what a position is inlined as
stand-hoisted : (t : Tree) (regs : List ℕ) (n : ℕ) (passes : List PassTree) (scope : List Interval) (lo hi : ℤ) → stand_in scope lo hi (hoisting regs n passes t).body ≡ stand_in scope lo hi t
stand-hoisted (lit z) regs n passes scope lo hi = refl
stand-hoisted (var k) regs n passes scope lo hi = refl
stand-hoisted (reg k) regs n passes scope lo hi = refl
stand-hoisted (op1 op e) regs n passes scope lo hi = ap (constant_in lo hi) (literal-hoisted (op1 op e) regs n passes)
stand-hoisted (op2 op l r) regs n passes scope lo hi = refl
stand-hoisted (read c f is) regs n passes scope lo hi = refl
stand-hoisted (table box items is) regs n passes scope lo hi = refl
stand-hoisted (bind i l h e) regs n passes scope lo hi = refl
stand-hoisted (fold op box c e) regs n passes scope lo hi =
    let m = n + length box in
    let hc = hoisting regs m passes c in
    let he = hoisting regs m hc.passes e in
    stand-passed (is_from n hc.body && is_from n he.body) n he.passes (record { op = op; domain = box; condition = hc.body; body = he.body }) scope lo hi

literal-without : (t : Tree) (n : ℕ) → literal (without n t) ≡ literal t
literal-without (lit z) n = refl
literal-without (var k) n = refl
literal-without (reg k) n = refl
literal-without (op1 op e) n = ap (λ o. option_and_then (λ z. value_of (exact1 op z)) o) (literal-without e n)
literal-without (op2 op l r) n = refl
literal-without (read c f is) n = refl
literal-without (table box items is) n = refl
literal-without (bind i lo hi e) n = refl
literal-without (fold op box c e) n = refl

interval-behind : (outer scope : List Interval) (j k : ℕ) → k ≡ length outer + j → slice_get scope j ≡ slice_get (outer ++ scope) k
interval-behind [] scope j k e = let f : j ≡ k = omega (arith, e) in ap (slice_get scope) f
interval-behind (i ∷ outer) scope j zero e = absurd (omega (arith, e))
interval-behind (i ∷ outer) scope j (suc k) e = interval-behind outer scope j k (omega (arith, e))

tests-none : (a b : Bool) (j k : ℕ) → cond a (cond b (Some (Var k)) None) None ≡ None → cond a (cond b (Some (Var j)) None) None ≡ None
tests-none false b j k h = refl
tests-none true false j k h = refl
tests-none true true j k h = absurd (cc)

variable-none : (o : Option Interval) (lo hi : ℤ) (j k : ℕ) → variable_in lo hi k o ≡ None → variable_in lo hi j o ≡ None
variable-none None lo hi j k h = refl
variable-none (Some i) lo hi j k h = tests-none (int_le i.lo i.hi) (int_le lo i.lo && int_le i.hi hi) j k h

stand-without : (t : Tree) (outer scope : List Interval) (lo hi : ℤ) → T (is_from (length outer) t) → stand_in (outer ++ scope) lo hi t ≡ None → stand_in scope lo hi (without (length outer) t) ≡ None
stand-without (lit z) outer scope lo hi f h = h
stand-without (var k) outer scope lo hi f h =
    let j = k - length outer in
    ap (variable_in lo hi j) (interval-behind outer scope j k (behind-first (length outer) k f)) ∙ variable-none (slice_get (outer ++ scope) k) lo hi j k h
stand-without (reg k) outer scope lo hi f h = refl
stand-without (op1 op e) outer scope lo hi f h = ap (constant_in lo hi) (literal-without (op1 op e) (length outer)) ∙ h
stand-without (op2 op l r) outer scope lo hi f h = refl
stand-without (read c f is) outer scope lo hi g h = refl
stand-without (table box items is) outer scope lo hi f h = refl
stand-without (bind i l u e) outer scope lo hi f h = refl
stand-without (fold op box c e) outer scope lo hi f h = refl

reduced-without : (t : Tree) (outer scope : List Interval) → T (is_from (length outer) t) → InBody NoInlinableBind (outer ++ scope) t → InBody NoInlinableBind scope (without (length outer) t)
reduced-without (lit z) outer scope f h = tt
reduced-without (var k) outer scope f h = tt
reduced-without (reg k) outer scope f h = tt
reduced-without (op1 op e) outer scope f h = reduced-without e outer scope f h
reduced-without (op2 op l r) outer scope f h =
    let w = both-true (is_from (length outer) l) (is_from (length outer) r) f in
    (reduced-without l outer scope w.0 h.0, reduced-without r outer scope w.1 h.1)
reduced-without (read c f is) outer scope g h = tt
reduced-without (table box items is) outer scope f h = tt
reduced-without (bind i lo hi e) outer scope f h =
    let w = both-true (is_from (length outer) i) (is_from (length outer) e) f in
    let one : List Interval = record { lo = lo; hi = hi } ∷ [] in (
      stand-without i outer scope lo hi w.0 h.0,
      reduced-without i outer scope w.0 h.1,
      reduced-without e outer (scope ++ one) w.1 (subst (λ l. InBody NoInlinableBind l e) (append_assoc outer scope one) h.2),
    )
reduced-without (fold op box c e) outer scope f h =
    let w = both-true (is_from (length outer) c) (is_from (length outer) e) f in (
      tt,
      reduced-without c outer (scope ++ spans box) w.0 (subst (λ l. InBody NoInlinableBind l c) (append_assoc outer scope (spans box)) h.1),
      reduced-without e outer (scope ++ spans box) w.1 (subst (λ l. InBody NoInlinableBind l e) (append_assoc outer scope (spans box)) h.2),
    )

passes-last : (ps : List PassTree) (p : PassTree) → InPasses NoInlinableBind ps → InBody NoInlinableBind (spans p.domain) p.condition → InBody NoInlinableBind (spans p.domain) p.body → InPasses NoInlinableBind (ps ++ p ∷ [])
passes-last [] p h c b = (c, b, tt)
passes-last (q ∷ ps) p h c b = (h.0, h.1, passes-last ps p h.2 c b)

-- the same with n for the number of outer variables
lifted : (t : Tree) (n : ℕ) (outer scope : List Interval) → n ≡ length outer → T (is_from n t) → InBody NoInlinableBind (outer ++ scope) t → InBody NoInlinableBind scope (without n t)
lifted t n outer scope e f h =
    subst (λ m. InBody NoInlinableBind scope (without m t)) (sym e) (reduced-without t outer scope (subst (λ m. T (is_from m t)) e f) h)

abbrev Reduced : List Interval → Hoist → Type 0
Reduced scope h = InPasses NoInlinableBind h.passes × InBody NoInlinableBind scope h.body

pass-reduced : (b : Bool) (n : ℕ) (scope : List Interval) (passes : List PassTree) (f : PassTree) → n ≡ length scope → (is_from n f.condition && is_from n f.body) ≡ b → InPasses NoInlinableBind passes
    → InBody NoInlinableBind (scope ++ spans f.domain) f.condition → InBody NoInlinableBind (scope ++ spans f.domain) f.body → Reduced scope (fold_or_register b n passes f)
pass-reduced false n scope passes f e is h c b = (h, (tt, c, b))
pass-reduced true n scope passes f e is h c b =
    let w = both-true (is_from n f.condition) (is_from n f.body) (subst T (sym is) tt) in
    (passes-last passes (pass_without n f) h (lifted f.condition n scope (spans f.domain) e w.0 c) (lifted f.body n scope (spans f.domain) e w.1 b), tt)

hoisted-reduced : (t : Tree) (regs : List ℕ) (n : ℕ) (passes : List PassTree) (scope : List Interval) → n ≡ length scope → InPasses NoInlinableBind passes → InBody NoInlinableBind scope t → Reduced scope (hoisting regs n passes t)
hoisted-reduced (lit z) regs n passes scope e p h = (p, tt)
hoisted-reduced (var k) regs n passes scope e p h = (p, tt)
hoisted-reduced (reg k) regs n passes scope e p h = (p, tt)
hoisted-reduced (op1 op b) regs n passes scope e p h = hoisted-reduced b regs n passes scope e p h
hoisted-reduced (op2 op l r) regs n passes scope e p h =
    let a = hoisted-reduced l regs n passes scope e p h.0 in
    let b = hoisted-reduced r regs n (hoisting regs n passes l).passes scope e a.0 h.1 in
    (b.0, (a.1, b.1))
hoisted-reduced (read c f is) regs n passes scope e p h = (p, tt)
hoisted-reduced (table box items is) regs n passes scope e p h = (p, tt)
hoisted-reduced (bind i lo hi t) regs n passes scope e p h =
    let one : List Interval = record { lo = lo; hi = hi } ∷ [] in
    let long : n + 1 ≡ length (scope ++ one) = omega (arith, e, length-append scope one) in
    let a = hoisted-reduced i regs n passes scope e p h.1 in
    let b = hoisted-reduced t regs (n + 1) (hoisting regs n passes i).passes (scope ++ one) long a.0 h.2 in
    (b.0, (stand-hoisted i regs n passes scope lo hi ∙ h.0, a.1, b.1))
hoisted-reduced (fold op box c t) regs n passes scope e p h =
    let m = n + length box in
    let hc = hoisting regs m passes c in
    let he = hoisting regs m hc.passes t in
    let long : m ≡ length (scope ++ spans box) = omega (arith, e, length-append scope (spans box), length-map box span) in
    let a = hoisted-reduced c regs m passes (scope ++ spans box) long p h.1 in
    let b = hoisted-reduced t regs m hc.passes (scope ++ spans box) long a.0 h.2 in
    pass-reduced (is_from n hc.body && is_from n he.body) n scope he.passes (record { op = op; domain = box; condition = hc.body; body = he.body }) e refl b.0 a.1 b.1

passes-reduced : (ps : List PassTree) (w : Places) → InPasses NoInlinableBind w.passes → InPasses NoInlinableBind ps → InPasses NoInlinableBind (with_passes w ps).passes
passes-reduced [] w h r = h
passes-reduced (p ∷ ps) w h r =
    let n = length p.domain in
    let long = sym (length-map p.domain span) in
    let a = hoisted-reduced p.condition w.regs n w.passes (spans p.domain) long h r.0 in
    let b = hoisted-reduced p.body w.regs n (hoisting w.regs n w.passes p.condition).passes (spans p.domain) long a.0 r.1 in
    passes-reduced ps (with_pass w p) (passes-last _ _ b.0 a.1 b.1) r.2

fields-reduced : (fields : List FieldBody) (regs : List ℕ) (n : ℕ) (passes : List PassTree) (scope : List Interval) → n ≡ length scope → InPasses NoInlinableBind passes → InFields NoInlinableBind scope fields
    → InPasses NoInlinableBind (hoisted_fields regs n passes fields).passes × InFields NoInlinableBind scope (hoisted_fields regs n passes fields).fields
fields-reduced [] regs n passes scope e p h = (p, tt)
fields-reduced (f ∷ fields) regs n passes scope e p h =
    let a = hoisted-reduced f.body regs n passes scope e p h.0 in
    let b = fields-reduced fields regs n (hoisting regs n passes f.body).passes scope e a.0 h.1 in
    (b.0, (a.1, b.1))

item-reduced : (binds : List BindTree) (fields : List FieldBody) (regs : List ℕ) (n : ℕ) (passes : List PassTree) (scope : List Interval) → n ≡ length scope → InPasses NoInlinableBind passes → InItem NoInlinableBind scope binds fields
    → InPasses NoInlinableBind (hoisted_item regs n passes binds fields).passes × InItem NoInlinableBind scope (hoisted_item regs n passes binds fields).binds (hoisted_item regs n passes binds fields).fields
item-reduced [] fields regs n passes scope e p h = fields-reduced fields regs n passes scope e p h
item-reduced (b ∷ binds) fields regs n passes scope e p h =
    let one : List Interval = record { lo = b.lo; hi = b.hi } ∷ [] in
    let long : n + 1 ≡ length (scope ++ one) = omega (arith, e, length-append scope one) in
    let a = hoisted-reduced b.position regs n passes scope e p h.1 in
    let r = item-reduced binds fields regs (n + 1) (hoisting regs n passes b.position).passes (scope ++ one) long a.0 h.2 in
    (r.0, (stand-hoisted b.position regs n passes scope b.lo b.hi ∙ h.0, a.1, r.1))

condition-reduced : (c : Option Tree) (w : Places) → InPasses NoInlinableBind w.passes → InCondition NoInlinableBind c → InPasses NoInlinableBind (hoisted_condition w c).passes × InCondition NoInlinableBind (hoisted_condition w c).condition
condition-reduced None w p h = (p, tt)
condition-reduced (Some c) w p h = hoisted-reduced c w.regs 0 w.passes [] refl p h

pub steps-stay-reduced : (all : List StepsTree) → InSteps NoInlinableBind all → InSteps NoInlinableBind (map hoisted_steps all)
steps-stay-reduced [] h = tt
steps-stay-reduced (t ∷ all) h =
    let w = with_passes (record { regs = []; passes = [] }) t.passes in
    let p = passes-reduced t.passes (record { regs = []; passes = [] }) tt h.0 in
    let c = condition-reduced t.condition w p h.1 in
    let i = item-reduced t.item.binds t.item.fields w.regs (length t.item.domain) (hoisted_condition w t.condition).passes (spans t.item.domain) (sym (length-map t.item.domain span)) c.0 h.2 in
    (i.0, c.1, i.1, steps-stay-reduced all h.3)
