-- A hoisted plan gives what the plan gives, is well-formed, and has no closed fold in a body.
use Rattle.std.proofs.Common.{◌≡◌, ℕ, suc, ◌+◌, ◌-◌, ◌<◌, List, [], ◌∷◌, ◌++◌, length, map, get_or, refl, sym, ap, ◌∙◌, subst, arith, ℤ, pos, T, Bool, true, false, cond}
use Rattle.std.specs.Prelude.{Option, Some, None, slice_get, option_map, IsSomeAnd, nat_le, ◌&&◌}
use Rattle.std.specs.List.{list_all}
use Rattle.std.proofs.Math.Facts.{leb_yes}
use Rattle.std.proofs.lemmas.Bool.Decides.{leb_tells}
use Rattle.arr_core.specs.declared.signature.Signature.{Signature}
use Rattle.wcps_mean.specs.Answer.{joined}
use Rattle.plan_ir.specs.declared.body.Index.{Index}
use Rattle.plan_ir.specs.declared.body.Index.TheVariants.{Const, Var}
use Rattle.plan_ir.specs.Bodies.{Tree, lit, var, reg, op1, op2, read, table, bind, fold}
use Rattle.plan_ir.specs.Plans.{PassTree, BindTree, FieldBody, StepsTree, Choice, PlanTree, signature_of}
use Rattle.plan_ir.specs.Planned.{cells_of, choice_planned, planned}
use Rattle.plan_ir.specs.Placed.{AreSteps, IsChoice, IsPlan}
use Rattle.plan_ir.proofs.Parts.{slice_get-map}
use Rattle.plan_ir.specs.Variables.{index_from, is_from, index_without, without}
use Rattle.plan_rewrite.specs.Hoisting.{Hoist, hoisting}
use Rattle.plan_rewrite.specs.HoistedPlans.{Places, with_pass, with_passes, hoisted_condition, hoisted_fields, hoisted_item, hoisted_steps, hoisted_plan}
use Rattle.plan_ir.proofs.FirstVariables.{both-true}
use Rattle.plan_rewrite.proofs.FoldPoints.{hoisted-plan-few}
use Rattle.plan_rewrite.proofs.HoistedSteps.{steps-hoist}
use Rattle.plan_rewrite.proofs.OpenFolds.{HasOpenFolds, PassesAreOpen, ConditionIsOpen, FieldsAreOpen, ItemIsOpen, StepsAreOpen}

choice-same : (s : ℕ → ℕ → List ℤ → ℤ) (ks : List ℕ) (o : Option StepsTree) (cs : ℕ → Option Signature) → IsSomeAnd o (AreSteps cs) → choice_planned s ks (option_map hoisted_steps o) ≡ choice_planned s ks o
choice-same s ks None cs h = refl
choice-same s ks (Some t) cs h = (steps-hoist t (cells_of s ks) cs h).means

choices-same : (s : ℕ → ℕ → List ℤ → ℤ) (p : PlanTree) (all : List Choice) → ((k : ℕ) (d : Choice) → k < length all → IsChoice p (get_or all k d))
    → map (λ (c : Choice). choice_planned s c.coverages (slice_get (map hoisted_steps p.steps) c.steps)) all ≡ map (λ (c : Choice). choice_planned s c.coverages (slice_get p.steps c.steps)) all
choices-same s p [] h = refl
choices-same s p (c ∷ all) h =
    ap (λ o. o ∷ map (λ (c : Choice). choice_planned s c.coverages (slice_get (map hoisted_steps p.steps) c.steps)) all)
    (ap (choice_planned s c.coverages) (slice_get-map hoisted_steps p.steps c.steps) ∙ choice-same s c.coverages (slice_get p.steps c.steps) (signature_of p.coverages c.coverages) (h 0 c (omega arith)))
    ∙ ap (λ l. choice_planned s c.coverages (slice_get p.steps c.steps) ∷ l) (choices-same s p all (λ k d lt. h (suc k) d (omega (arith, lt))))

pub hoisted-planned : (p : PlanTree) (s : ℕ → ℕ → List ℤ → ℤ) → IsPlan p → planned s (hoisted_plan p) ≡ planned s p
hoisted-planned p s h = ap joined (choices-same s p p.combinations h.choices)

option-placed : (o : Option StepsTree) (cs : ℕ → Option Signature) → IsSomeAnd o (AreSteps cs) → IsSomeAnd (option_map hoisted_steps o) (AreSteps cs)
option-placed None cs h = absurd h
option-placed (Some t) cs h = (steps-hoist t (λ c f p. pos 0) cs h).placed

choice-placed : (p : PlanTree) (c : Choice) → IsChoice p c → IsChoice (hoisted_plan p) c
choice-placed p c h =
    let cs = signature_of p.coverages c.coverages in
    subst (λ o. IsSomeAnd o (AreSteps cs)) (sym (slice_get-map hoisted_steps p.steps c.steps)) (option-placed (slice_get p.steps c.steps) cs h)

pub hoisted-placed : (p : PlanTree) → IsPlan p → IsPlan (hoisted_plan p)
hoisted-placed p h = record {
  choices = λ k d lt. choice-placed p (get_or p.combinations k d) (h.choices k d lt);
  few = let a = hoisted-plan-few p in let b = h.few in omega (arith, a, b);
}

-- variables behind the first n
le-shift : (n m k : ℕ) → T (nat_le n k) → nat_le (n + m) k ≡ nat_le m (k - n)
le-shift n m k h = let l = leb_yes {a = n} {b = k} h in grind (arith, leb_tells, l)

indexes-shift : (n m : ℕ) (is : List Index) → T (list_all (index_from n) is) → list_all (index_from (n + m)) is ≡ list_all (index_from m) (map (index_without n) is)
indexes-shift n m [] h = refl
indexes-shift n m (Const z ∷ is) h = indexes-shift n m is h
indexes-shift n m (Var k ∷ is) h =
    let w = both-true (nat_le n k) (list_all (index_from n) is) h in
    ap (λ b. b && list_all (index_from (n + m)) is) (le-shift n m k w.0) ∙ ap (λ b. nat_le m (k - n) && b) (indexes-shift n m is w.1)

from-shift : (t : Tree) (n m : ℕ) → T (is_from n t) → is_from (n + m) t ≡ is_from m (without n t)
from-shift (lit z) n m h = refl
from-shift (var k) n m h = le-shift n m k h
from-shift (reg k) n m h = refl
from-shift (op1 op e) n m h = from-shift e n m h
from-shift (op2 op l r) n m h =
    let w = both-true (is_from n l) (is_from n r) h in
    ap (λ b. b && is_from (n + m) r) (from-shift l n m w.0) ∙ ap (λ b. is_from m (without n l) && b) (from-shift r n m w.1)
from-shift (read c f is) n m h = indexes-shift n m is h
from-shift (table box items is) n m h = indexes-shift n m is h
from-shift (bind i lo hi e) n m h =
    let w = both-true (is_from n i) (is_from n e) h in
    ap (λ b. b && is_from (n + m) e) (from-shift i n m w.0) ∙ ap (λ b. is_from m (without n i) && b) (from-shift e n m w.1)
from-shift (fold op box c e) n m h =
    let w = both-true (is_from n c) (is_from n e) h in
    ap (λ b. b && is_from (n + m) e) (from-shift c n m w.0) ∙ ap (λ b. is_from m (without n c) && b) (from-shift e n m w.1)

more-open : (t : Tree) (a b : ℕ) → a ≡ b → HasOpenFolds a t → HasOpenFolds b t
more-open t a b e h = subst (λ n. HasOpenFolds n t) e h

open-without : (t : Tree) (n m : ℕ) → T (is_from n t) → HasOpenFolds (n + m) t → HasOpenFolds m (without n t)
open-without (lit z) n m h o = tt
open-without (var k) n m h o = tt
open-without (reg k) n m h o = tt
open-without (op1 op e) n m h o = open-without e n m h o
open-without (op2 op l r) n m h o =
    let w = both-true (is_from n l) (is_from n r) h in
    (open-without l n m w.0 o.0, open-without r n m w.1 o.1)
open-without (read c f is) n m h o = tt
open-without (table box items is) n m h o = tt
open-without (bind i lo hi e) n m h o =
    let w = both-true (is_from n i) (is_from n e) h in
    (open-without i n m w.0 o.0, open-without e n (m + 1) w.1 (more-open e ((n + m) + 1) (n + (m + 1)) (omega arith) o.1))
open-without (fold op box c e) n m h o =
    let w = both-true (is_from n c) (is_from n e) h in
    let d = length box in (
      sym (from-shift (fold op box c e) n m h) ∙ o.0,
      open-without c n (m + d) w.0 (more-open c ((n + m) + d) (n + (m + d)) (omega arith) o.1),
      open-without e n (m + d) w.1 (more-open e ((n + m) + d) (n + (m + d)) (omega arith) o.2),
    )

passes-last : (ps : List PassTree) (p : PassTree) → PassesAreOpen ps → HasOpenFolds (length p.domain) p.condition → HasOpenFolds (length p.domain) p.body → PassesAreOpen (ps ++ p ∷ [])
passes-last [] p h c b = (c, b, tt)
passes-last (q ∷ ps) p h c b = (h.0, h.1, passes-last ps p h.2 c b)

abbrev Open : ℕ → Hoist → Type 0
Open n h = PassesAreOpen h.passes × HasOpenFolds n h.body

pass-open : (b : Bool) (n : ℕ) (passes : List PassTree) (f : PassTree) → (is_from n f.condition && is_from n f.body) ≡ b → PassesAreOpen passes → HasOpenFolds (n + length f.domain) f.condition → HasOpenFolds (n + length f.domain) f.body
    → Open n (cond b
    (record {
      passes = passes ++ record { op = f.op; domain = f.domain; condition = without n f.condition; body = without n f.body } ∷ [];
      body = reg (length passes);
    })
    (record { passes = passes; body = fold f.op f.domain f.condition f.body }))
pass-open false n passes f is h c b = (h, (is, c, b))
pass-open true n passes f is h c b =
    let w = both-true (is_from n f.condition) (is_from n f.body) (subst T (sym is) tt) in (
      passes-last passes (record { op = f.op; domain = f.domain; condition = without n f.condition; body = without n f.body }) h
          (open-without f.condition n (length f.domain) w.0 c) (open-without f.body n (length f.domain) w.1 b),
      tt,
    )

hoisted-open : (t : Tree) (regs : List ℕ) (n : ℕ) (passes : List PassTree) → PassesAreOpen passes → Open n (hoisting regs n passes t)
hoisted-open (lit z) regs n passes h = (h, tt)
hoisted-open (var k) regs n passes h = (h, tt)
hoisted-open (reg k) regs n passes h = (h, tt)
hoisted-open (op1 op e) regs n passes h = hoisted-open e regs n passes h
hoisted-open (op2 op l r) regs n passes h =
    let a = hoisted-open l regs n passes h in
    let b = hoisted-open r regs n (hoisting regs n passes l).passes a.0 in
    (b.0, (a.1, b.1))
hoisted-open (read c f is) regs n passes h = (h, tt)
hoisted-open (table box items is) regs n passes h = (h, tt)
hoisted-open (bind i lo hi e) regs n passes h =
    let a = hoisted-open i regs n passes h in
    let b = hoisted-open e regs (n + 1) (hoisting regs n passes i).passes a.0 in
    (b.0, (a.1, b.1))
hoisted-open (fold op box c e) regs n passes h =
    let m = n + length box in
    let hc = hoisting regs m passes c in
    let he = hoisting regs m hc.passes e in
    let a = hoisted-open c regs m passes h in
    let b = hoisted-open e regs m hc.passes a.0 in
    pass-open (is_from n hc.body && is_from n he.body) n he.passes (record { op = op; domain = box; condition = hc.body; body = he.body }) refl b.0 a.1 b.1

passes-open : (ps : List PassTree) (w : Places) → PassesAreOpen w.passes → PassesAreOpen (with_passes w ps).passes
passes-open [] w h = h
passes-open (p ∷ ps) w h =
    let n = length p.domain in
    let a = hoisted-open p.condition w.regs n w.passes h in
    let b = hoisted-open p.body w.regs n (hoisting w.regs n w.passes p.condition).passes a.0 in
    passes-open ps (with_pass w p) (passes-last _ _ b.0 a.1 b.1)

fields-open : (fields : List FieldBody) (regs : List ℕ) (n : ℕ) (passes : List PassTree) → PassesAreOpen passes → PassesAreOpen (hoisted_fields regs n passes fields).passes × FieldsAreOpen n (hoisted_fields regs n passes fields).fields
fields-open [] regs n passes h = (h, tt)
fields-open (f ∷ fields) regs n passes h =
    let a = hoisted-open f.body regs n passes h in
    let b = fields-open fields regs n (hoisting regs n passes f.body).passes a.0 in
    (b.0, (a.1, b.1))

item-open : (binds : List BindTree) (fields : List FieldBody) (regs : List ℕ) (n : ℕ) (passes : List PassTree) → PassesAreOpen passes
    → PassesAreOpen (hoisted_item regs n passes binds fields).passes × ItemIsOpen n (hoisted_item regs n passes binds fields).binds (hoisted_item regs n passes binds fields).fields
item-open [] fields regs n passes h = fields-open fields regs n passes h
item-open (b ∷ binds) fields regs n passes h =
    let a = hoisted-open b.position regs n passes h in
    let r = item-open binds fields regs (n + 1) (hoisting regs n passes b.position).passes a.0 in
    (r.0, (a.1, r.1))

condition-open : (c : Option Tree) (w : Places) → PassesAreOpen w.passes → PassesAreOpen (hoisted_condition w c).passes × ConditionIsOpen (hoisted_condition w c).condition
condition-open None w h = (h, tt)
condition-open (Some c) w h = hoisted-open c w.regs 0 w.passes h

pub steps-open : (all : List StepsTree) → StepsAreOpen (map hoisted_steps all)
steps-open [] = tt
steps-open (t ∷ all) =
    let w = with_passes (record { regs = []; passes = [] }) t.passes in
    let p = passes-open t.passes (record { regs = []; passes = [] }) tt in
    let c = condition-open t.condition w p in
    let i = item-open t.item.binds t.item.fields w.regs (length t.item.domain) (hoisted_condition w t.condition).passes c.0 in
    (i.0, c.1, i.1, steps-open all)
