-- Folds that use a variable from outside them, by how many variables there are.
use Rattle.std.proofs.Common.{◌≡◌, ℕ, ◌+◌, false, List, [], ◌∷◌, ◌++◌, length, length-append, refl, sym, subst, arith}
use Rattle.std.specs.Prelude.{◌&&◌, Option, Some, None}
use Rattle.std.proofs.lemmas.List.{length-map}
use Rattle.plan_ir.specs.declared.body.Interval.{Interval}
use Rattle.plan_ir.specs.Bodies.{Tree, lit, var, reg, op1, op2, read, table, bind, fold}
use Rattle.plan_ir.specs.Placed.{span, spans}
use Rattle.plan_ir.specs.Plans.{PassTree, BindTree, FieldBody, StepsTree}
use Rattle.plan_ir.specs.Variables.{is_from}
use Rattle.plan_rewrite.specs.Everywhere.{InBody, InPasses, InCondition, InFields, InItem, InSteps}
use Rattle.plan_rewrite.specs.Rewritten.{NoFoldIsClosed}

-- no fold under n variables but uses one of them
abbrev pub HasOpenFolds : ℕ → Tree → Type 0
HasOpenFolds n (lit z) = Unit {0}
HasOpenFolds n (var k) = Unit {0}
HasOpenFolds n (reg k) = Unit {0}
HasOpenFolds n (op1 op e) = HasOpenFolds n e
HasOpenFolds n (op2 op l r) = HasOpenFolds n l × HasOpenFolds n r
HasOpenFolds n (read c f is) = Unit {0}
HasOpenFolds n (table box items is) = Unit {0}
HasOpenFolds n (bind i lo hi e) = HasOpenFolds n i × HasOpenFolds (n + 1) e
HasOpenFolds n (fold op box c e) = ((is_from n c && is_from n e) ≡ false) × HasOpenFolds (n + length box) c × HasOpenFolds (n + length box) e

abbrev pub PassesAreOpen : List PassTree → Type 0
PassesAreOpen [] = Unit {0}
PassesAreOpen (p ∷ passes) = HasOpenFolds (length p.domain) p.condition × HasOpenFolds (length p.domain) p.body × PassesAreOpen passes

abbrev pub ConditionIsOpen : Option Tree → Type 0
ConditionIsOpen None = Unit {0}
ConditionIsOpen (Some c) = HasOpenFolds 0 c

abbrev pub FieldsAreOpen : ℕ → List FieldBody → Type 0
FieldsAreOpen n [] = Unit {0}
FieldsAreOpen n (f ∷ fields) = HasOpenFolds n f.body × FieldsAreOpen n fields

abbrev pub ItemIsOpen : ℕ → List BindTree → List FieldBody → Type 0
ItemIsOpen n [] fields = FieldsAreOpen n fields
ItemIsOpen n (b ∷ binds) fields = HasOpenFolds n b.position × ItemIsOpen (n + 1) binds fields

-- each fold in a body uses a variable from outside it
abbrev pub StepsAreOpen : List StepsTree → Type 0
StepsAreOpen [] = Unit {0}
StepsAreOpen (s ∷ more) = PassesAreOpen s.passes × ConditionIsOpen s.condition × ItemIsOpen (length s.item.domain) s.item.binds s.item.fields × StepsAreOpen more

body-open : (t : Tree) (n : ℕ) (scope : List Interval) → n ≡ length scope → HasOpenFolds n t → InBody NoFoldIsClosed scope t
body-open (lit z) n scope e h = tt
body-open (var k) n scope e h = tt
body-open (reg k) n scope e h = tt
body-open (op1 op t) n scope e h = body-open t n scope e h
body-open (op2 op l r) n scope e h = (body-open l n scope e h.0, body-open r n scope e h.1)
body-open (read c f is) n scope e h = tt
body-open (table box items is) n scope e h = tt
body-open (bind i lo hi t) n scope e h =
    let one : List Interval = record { lo = lo; hi = hi } ∷ [] in
    let long : n + 1 ≡ length (scope ++ one) = omega (arith, e, length-append scope one) in
    (tt, body-open i n scope e h.0, body-open t (n + 1) (scope ++ one) long h.1)
body-open (fold op box c t) n scope e h =
    let long : n + length box ≡ length (scope ++ spans box) = omega (arith, e, length-append scope (spans box), length-map box span) in
    (subst (λ m. (is_from m c && is_from m t) ≡ false) e h.0, body-open c (n + length box) (scope ++ spans box) long h.1, body-open t (n + length box) (scope ++ spans box) long h.2)

passes-open : (ps : List PassTree) → PassesAreOpen ps → InPasses NoFoldIsClosed ps
passes-open [] h = tt
passes-open (p ∷ ps) h =
    let long = sym (length-map p.domain span) in
    (body-open p.condition (length p.domain) (spans p.domain) long h.0, body-open p.body (length p.domain) (spans p.domain) long h.1, passes-open ps h.2)

condition-open : (c : Option Tree) → ConditionIsOpen c → InCondition NoFoldIsClosed c
condition-open None h = tt
condition-open (Some c) h = body-open c 0 [] refl h

fields-open : (fields : List FieldBody) (n : ℕ) (scope : List Interval) → n ≡ length scope → FieldsAreOpen n fields → InFields NoFoldIsClosed scope fields
fields-open [] n scope e h = tt
fields-open (f ∷ fields) n scope e h = (body-open f.body n scope e h.0, fields-open fields n scope e h.1)

item-open : (binds : List BindTree) (fields : List FieldBody) (n : ℕ) (scope : List Interval) → n ≡ length scope → ItemIsOpen n binds fields → InItem NoFoldIsClosed scope binds fields
item-open [] fields n scope e h = fields-open fields n scope e h
item-open (b ∷ binds) fields n scope e h =
    let one : List Interval = record { lo = b.lo; hi = b.hi } ∷ [] in
    let long : n + 1 ≡ length (scope ++ one) = omega (arith, e, length-append scope one) in
    (tt, body-open b.position n scope e h.0, item-open binds fields (n + 1) (scope ++ one) long h.1)

pub open-everywhere : (all : List StepsTree) → StepsAreOpen all → InSteps NoFoldIsClosed all
open-everywhere [] h = tt
open-everywhere (s ∷ all) h = (
  passes-open s.passes h.0,
  condition-open s.condition h.1,
  item-open s.item.binds s.item.fields (length s.item.domain) (spans s.item.domain) (sym (length-map s.item.domain span)) h.2,
  open-everywhere all h.3,
)
