-- Hoisted steps give what the steps give, and are well-formed.
use Rattle.std.proofs.Common.{◌≡◌, ℕ, zero, suc, ◌+◌, ◌<◌, List, [], ◌∷◌, ◌++◌, length, map, get_or, refl, sym, ap, ◌∙◌, subst, arith, ℤ, pos, append_assoc, append-nil, length-append, Bool, cond, Result, Ok, Err}
use Rattle.std.specs.Prelude.{Option, Some, None}
use Rattle.std.proofs.lemmas.List.{length-map}
use Rattle.arr_core.specs.declared.cell.Cell.{Cell}
use Rattle.arr_core.specs.declared.signature.Signature.{Signature}
use Rattle.arr_core.specs.Domains.{points}
use Rattle.wcps_mean.specs.declared.cell.PointFault.{PointFault}
use Rattle.wcps_mean.specs.declared.cell.Outcome.{Outcome}
use Rattle.wcps_mean.specs.declared.cell.Outcome.TheVariants.{Value}
use Rattle.wcps_mean.specs.declared.item.Item.{Item}
use Rattle.arr_core.specs.Cells.{truth_of}
use Rattle.wcps_mean.specs.Condensers.{condensed, demanded}
use Rattle.wcps_mean.specs.Answer.{then_of, given, joined, cell_of, line_of, field_count}
use Rattle.plan_ir.specs.declared.body.Interval.{Interval}
use Rattle.plan_ir.specs.Bodies.{Tree}
use Rattle.plan_ir.specs.Run.{run}
use Rattle.plan_ir.specs.Plans.{PassTree, BindTree, FieldBody, StepsTree}
use Rattle.wcps_mean.specs.Cells.{coordinate_in}
use Rattle.plan_ir.specs.Planned.{pass_outcome, registers_after, registers, bound, field_cell, cells_at, item_cells, item_planned, chosen, steps_planned}
use Rattle.plan_ir.specs.Placed.{span, spans, IsPlaced, PassesArePlaced, ConditionIsPlaced, FieldsArePlaced, ItemIsPlaced, AreDemanded, AreSteps}
use Rattle.plan_rewrite.specs.Hoisting.{hoisting}
use Rattle.plan_rewrite.specs.HoistedPlans.{Places, with_pass, with_passes, HoistedCondition, hoisted_condition, HoistedFields, hoisted_fields, HoistedItem, hoisted_item, hoisted_steps}
use Rattle.plan_ir.proofs.Parts.{some-demanded}
use Rattle.plan_rewrite.proofs.Scopes.{Lie, lie-length, points-lie, flat-same}
use Rattle.plan_rewrite.proofs.InlinedPlans.{map-same}
use Rattle.plan_rewrite.proofs.Hoists.{Kept, kept-more, later, last-register, registers-count, passes-last, run-later, placed-later, Hoists, hoists, two}

-- the fields behind all passes
pub record FieldsHoist (s : ℕ → ℕ → List ℤ → ℤ) (cs : ℕ → Option Signature) (old : List Outcome) (passes : List PassTree) (scope : List Interval) (fields : List FieldBody) (h : HoistedFields) : Type 0 where
  pub more : List PassTree
  pub extends : h.passes ≡ passes ++ more
  pub passes_placed : PassesArePlaced cs 0 h.passes
  pub placed : FieldsArePlaced cs (length h.passes) scope h.fields
  pub means : (vars : List ℤ) → length vars ≡ length scope → map (field_cell s (registers s h.passes) vars) h.fields ≡ map (field_cell s old vars) fields

pub fields-hoist : (fields : List FieldBody) (s : ℕ → ℕ → List ℤ → ℤ) (cs : ℕ → Option Signature) (regs : List ℕ) (old : List Outcome) (passes : List PassTree) (scope : List Interval) → Kept s regs old passes → PassesArePlaced cs 0 passes → FieldsArePlaced cs (length old) scope fields → FieldsHoist s cs old passes scope fields (hoisted_fields regs (length scope) passes fields)
fields-hoist [] s cs regs old passes scope k h p = record { more = []; extends = sym (append-nil passes); passes_placed = h; placed = tt; means = λ vars e. refl }
fields-hoist (f ∷ fields) s cs regs old passes scope k h p =
    let hf = hoisting regs (length scope) passes f.body in
    let a = hoists f.body s cs regs old passes scope k h p.0 in
    let kf = subst (Kept s regs old) (sym a.extends) (kept-more s regs old passes a.more k) in
    let b = fields-hoist fields s cs regs old hf.passes scope kf a.passes_placed p.1 in
    let rest = hoisted_fields regs (length scope) hf.passes fields in
    record {
      more = a.more ++ b.more;
      extends = b.extends ∙ ap (λ q. q ++ b.more) a.extends ∙ append_assoc passes a.more b.more;
      passes_placed = b.passes_placed;
      placed = (subst (λ q. IsPlaced cs (length q) scope hf.body) (sym b.extends) (placed-later cs hf.passes b.more scope hf.body a.placed), b.placed);
      means = λ vars e.
          ap (λ o. given (λ z. cell_of f.boolean z ∷ []) o ∷ map (field_cell s (registers s rest.passes) vars) rest.fields)
          (ap (λ q. run s (registers s q) hf.body vars) b.extends ∙ run-later s cs hf.passes b.more scope hf.body vars a.placed ∙ a.means vars e)
          ∙ ap (λ l. field_cell s old vars f ∷ l) (b.means vars e);
    }

-- the cells at a point behind its binds
abbrev bound_cells : (ℕ → ℕ → List ℤ → ℤ) → List Outcome → List BindTree → List FieldBody → List ℤ → Result (List Cell) PointFault
bound_cells s regs binds fields vars = then_of (bound s regs binds vars) (λ v. joined (map (field_cell s regs v) fields))

pub record ItemHoists (s : ℕ → ℕ → List ℤ → ℤ) (cs : ℕ → Option Signature) (old : List Outcome) (passes : List PassTree) (scope : List Interval) (binds : List BindTree) (fields : List FieldBody) (h : HoistedItem) : Type 0 where
  pub more : List PassTree
  pub extends : h.passes ≡ passes ++ more
  pub passes_placed : PassesArePlaced cs 0 h.passes
  pub placed : ItemIsPlaced cs (length h.passes) scope h.binds h.fields
  pub means : (vars : List ℤ) → length vars ≡ length scope → bound_cells s (registers s h.passes) h.binds h.fields vars ≡ bound_cells s old binds fields vars

-- the same after a coordinate
then-same : {A B : Type 0} (r q : Result ℤ PointFault) (f g : ℤ → Result A PointFault) (k l : A → Result B PointFault) → r ≡ q → ((z : ℤ) → then_of (f z) k ≡ then_of (g z) l) → then_of (then_of r f) k ≡ then_of (then_of q g) l
then-same r (Err e) f g k l is h = ap (λ x. then_of (then_of x f) k) is
then-same r (Ok z) f g k l is h = ap (λ x. then_of (then_of x f) k) is ∙ h z

pub item-hoists : (binds : List BindTree) (fields : List FieldBody) (s : ℕ → ℕ → List ℤ → ℤ) (cs : ℕ → Option Signature) (regs : List ℕ) (old : List Outcome) (passes : List PassTree) (scope : List Interval) → Kept s regs old passes → PassesArePlaced cs 0 passes → ItemIsPlaced cs (length old) scope binds fields → ItemHoists s cs old passes scope binds fields (hoisted_item regs (length scope) passes binds fields)
item-hoists [] fields s cs regs old passes scope k h p =
    let a = fields-hoist fields s cs regs old passes scope k h p in
    record { more = a.more; extends = a.extends; passes_placed = a.passes_placed; placed = a.placed; means = λ vars e. ap joined (a.means vars e) }
item-hoists (b ∷ binds) fields s cs regs old passes scope k h p =
    let one : List Interval = record { lo = b.lo; hi = b.hi } ∷ [] in
    let hb = hoisting regs (length scope) passes b.position in
    let a = hoists b.position s cs regs old passes scope k h p.0 in
    let kb = subst (Kept s regs old) (sym a.extends) (kept-more s regs old passes a.more k) in
    let long : length (scope ++ one) ≡ length scope + 1 = length-append scope one in
    let rest = hoisted_item regs (length scope + 1) hb.passes binds fields in
    let c = subst (λ n. ItemHoists s cs old hb.passes (scope ++ one) binds fields (hoisted_item regs n hb.passes binds fields)) long (item-hoists binds fields s cs regs old hb.passes (scope ++ one) kb a.passes_placed p.1) in
    record {
      more = a.more ++ c.more;
      extends = c.extends ∙ ap (λ q. q ++ c.more) a.extends ∙ append_assoc passes a.more c.more;
      passes_placed = c.passes_placed;
      placed = (subst (λ q. IsPlaced cs (length q) scope hb.body) (sym c.extends) (placed-later cs hb.passes c.more scope hb.body a.placed), c.placed);
      means = λ vars e.
          then-same (coordinate_in (run s (registers s rest.passes) hb.body vars) b.lo b.hi) (coordinate_in (run s old b.position vars) b.lo b.hi) _ _ _ _
          (ap (λ o. coordinate_in o b.lo b.hi) (ap (λ q. run s (registers s q) hb.body vars) c.extends ∙ run-later s cs hb.passes c.more scope hb.body vars a.placed ∙ a.means vars e))
          (λ z. c.means (vars ++ z ∷ []) (omega (arith, e, length-append vars (z ∷ []), length-append scope one)));
    }

-- each register stands among those of the passes at its place
abbrev Holds : (ℕ → ℕ → List ℤ → ℤ) → List PassTree → List ℕ → List Outcome → Type 0
Holds s passes [] [] = Unit {0}
Holds s passes (k ∷ regs) (o ∷ old) = (k < length passes) × (get_or (registers s passes) k (Value (pos 0)) ≡ o) × Holds s passes regs old
Holds s passes [] (o ∷ old) = ⊥
Holds s passes (k ∷ regs) [] = ⊥

holds-below : (s : ℕ → ℕ → List ℤ → ℤ) (passes : List PassTree) (regs : List ℕ) (old : List Outcome) (k : ℕ) → Holds s passes regs old → k < length old → get_or regs k 0 < length passes
holds-below s passes [] [] k h lt = absurd (omega arith)
holds-below s passes [] (o ∷ old) k h lt = absurd h
holds-below s passes (j ∷ regs) [] k h lt = absurd h
holds-below s passes (j ∷ regs) (o ∷ old) zero h lt = h.0
holds-below s passes (j ∷ regs) (o ∷ old) (suc k) h lt = holds-below s passes regs old k h.2 (omega (arith, lt))

holds-same : (s : ℕ → ℕ → List ℤ → ℤ) (passes : List PassTree) (regs : List ℕ) (old : List Outcome) (k : ℕ) → Holds s passes regs old → k < length old → get_or (registers s passes) (get_or regs k 0) (Value (pos 0)) ≡ get_or old k (Value (pos 0))
holds-same s passes [] [] k h lt = absurd (omega arith)
holds-same s passes [] (o ∷ old) k h lt = absurd h
holds-same s passes (j ∷ regs) [] k h lt = absurd h
holds-same s passes (j ∷ regs) (o ∷ old) zero h lt = h.1
holds-same s passes (j ∷ regs) (o ∷ old) (suc k) h lt = holds-same s passes regs old k h.2 (omega (arith, lt))

kept-of : (s : ℕ → ℕ → List ℤ → ℤ) (passes : List PassTree) (regs : List ℕ) (old : List Outcome) → Holds s passes regs old → Kept s regs old passes
kept-of s passes regs old h = record { below = λ k lt. holds-below s passes regs old k h lt; same = λ k lt. holds-same s passes regs old k h lt }

holds-more : (s : ℕ → ℕ → List ℤ → ℤ) (passes more : List PassTree) (regs : List ℕ) (old : List Outcome) → Holds s passes regs old → Holds s (passes ++ more) regs old
holds-more s passes more [] [] h = tt
holds-more s passes more [] (o ∷ old) h = absurd h
holds-more s passes more (k ∷ regs) [] h = absurd h
holds-more s passes more (k ∷ regs) (o ∷ old) h =
    let lt : k < length passes = h.0 in
    (omega (arith, lt, length-append passes more), later s passes more k lt ∙ h.1, holds-more s passes more regs old h.2)

holds-last : (s : ℕ → ℕ → List ℤ → ℤ) (passes : List PassTree) (regs : List ℕ) (old : List Outcome) (k : ℕ) (o : Outcome) → Holds s passes regs old → k < length passes → get_or (registers s passes) k (Value (pos 0)) ≡ o → Holds s passes (regs ++ k ∷ []) (old ++ o ∷ [])
holds-last s passes [] [] k o h lt e = (lt, e, tt)
holds-last s passes [] (p ∷ old) k o h lt e = absurd h
holds-last s passes (j ∷ regs) [] k o h lt e = absurd h
holds-last s passes (j ∷ regs) (p ∷ old) k o h lt e = (h.0, h.1, holds-last s passes regs old k o h.2 lt e)

-- what the passes so far are
record Hung (s : ℕ → ℕ → List ℤ → ℤ) (cs : ℕ → Option Signature) (w : Places) (old : List Outcome) : Type 0 where
  holds : Holds s w.passes w.regs old
  placed : PassesArePlaced cs 0 w.passes

pass-hoists : (p : PassTree) (s : ℕ → ℕ → List ℤ → ℤ) (cs : ℕ → Option Signature) (w : Places) (old : List Outcome) → Hung s cs w old → IsPlaced cs (length old) (spans p.domain) p.condition → IsPlaced cs (length old) (spans p.domain) p.body → Hung s cs (with_pass w p) (old ++ pass_outcome s old p ∷ [])
pass-hoists p s cs w old u c b =
    let box = p.domain in
    let n = length box in
    let long = length-map box span in
    let hc = hoisting w.regs n w.passes p.condition in
    let he = hoisting w.regs n hc.passes p.body in
    let k = kept-of s w.passes w.regs old u.holds in
    let x = subst (λ m. Hoists s cs old w.passes (spans box) p.condition (hoisting w.regs m w.passes p.condition)) long (hoists p.condition s cs w.regs old w.passes (spans box) k u.placed c) in
    let kc = subst (Kept s w.regs old) (sym x.extends) (kept-more s w.regs old w.passes x.more k) in
    let y = subst (λ m. Hoists s cs old hc.passes (spans box) p.body (hoisting w.regs m hc.passes p.body)) long (hoists p.body s cs w.regs old hc.passes (spans box) kc x.passes_placed b) in
    let z = two s cs old w.passes (spans box) (spans box) p.condition p.body hc he x y in
    let q : PassTree = record { op = p.op; domain = box; condition = hc.body; body = he.body } in
    let same : pass_outcome s (registers s he.passes) q ≡ pass_outcome s old p = ap (condensed p.op) (flat-same (Lie (spans box)) _ _ (points box) (λ v lv.
    let lies = lie-length (spans box) v lv in
    ap (λ o. demanded o (run s (registers s he.passes) he.body v)) (z.left_means v lies) ∙ ap (demanded (run s old p.condition v)) (z.right_means v lies)) (points-lie box)) in
    let held = subst (λ l. Holds s l w.regs old) (sym z.extends) (holds-more s w.passes z.more w.regs old u.holds) in
    record {
      holds = holds-last s (he.passes ++ q ∷ []) w.regs old (length he.passes) (pass_outcome s old p) (holds-more s he.passes (q ∷ []) w.regs old held)
          (omega (arith, length-append he.passes (q ∷ []))) (last-register s he.passes q ∙ same);
      placed = passes-last he.passes cs 0 (length he.passes) q (omega arith) z.passes_placed z.left_placed z.right_placed;
    }

passes-hoist : (ps : List PassTree) (s : ℕ → ℕ → List ℤ → ℤ) (cs : ℕ → Option Signature) (w : Places) (old : List Outcome) → Hung s cs w old → PassesArePlaced cs (length old) ps → Hung s cs (with_passes w ps) (registers_after s old ps)
passes-hoist [] s cs w old u h = u
passes-hoist (p ∷ ps) s cs w old u h =
    passes-hoist ps s cs (with_pass w p) (old ++ pass_outcome s old p ∷ []) (pass-hoists p s cs w old u h.0 h.1)
    (subst (λ n. PassesArePlaced cs n ps) (sym (length-append old (pass_outcome s old p ∷ []))) h.2)

-- a condition behind the passes, and what comes after it
record ConditionHoists (s : ℕ → ℕ → List ℤ → ℤ) (cs : ℕ → Option Signature) (old : List Outcome) (passes : List PassTree) (c : Option Tree) (h : HoistedCondition) : Type 0 where
  more : List PassTree
  extends : h.passes ≡ passes ++ more
  passes_placed : PassesArePlaced cs 0 h.passes
  placed : (rest : List PassTree) → ConditionIsPlaced cs (length (h.passes ++ rest)) [] h.condition
  means : (rest : List PassTree) → chosen s (registers s (h.passes ++ rest)) h.condition ≡ chosen s old c

condition-hoists : (c : Option Tree) (s : ℕ → ℕ → List ℤ → ℤ) (cs : ℕ → Option Signature) (w : Places) (old : List Outcome) → Hung s cs w old → ConditionIsPlaced cs (length old) [] c → ConditionHoists s cs old w.passes c (hoisted_condition w c)
condition-hoists None s cs w old u p = record { more = []; extends = sym (append-nil w.passes); passes_placed = u.placed; placed = λ rest. tt; means = λ rest. refl }
condition-hoists (Some c) s cs w old u p =
    let h = hoisting w.regs 0 w.passes c in
    let a = hoists c s cs w.regs old w.passes [] (kept-of s w.passes w.regs old u.holds) u.placed p in
    record {
      more = a.more;
      extends = a.extends;
      passes_placed = a.passes_placed;
      placed = λ rest. placed-later cs h.passes rest [] h.body a.placed;
      means = λ rest. ap (given truth_of) (run-later s cs h.passes rest [] h.body [] a.placed ∙ a.means [] refl);
    }

fields-count : (fields : List FieldBody) (regs : List ℕ) (n : ℕ) (passes : List PassTree) → length (hoisted_fields regs n passes fields).fields ≡ length fields
fields-count [] regs n passes = refl
fields-count (f ∷ fields) regs n passes = ap suc (fields-count fields regs n (hoisting regs n passes f.body).passes)

item-count : (binds : List BindTree) (fields : List FieldBody) (regs : List ℕ) (n : ℕ) (passes : List PassTree) → length (hoisted_item regs n passes binds fields).fields ≡ length fields
item-count [] fields regs n passes = fields-count fields regs n passes
item-count (b ∷ binds) fields regs n passes = item-count binds fields regs (n + 1) (hoisting regs n passes b.position).passes

-- an item without fields stays without binds
item-demanded : (binds : List BindTree) (fields : List FieldBody) (regs : List ℕ) (n : ℕ) (passes : List PassTree) → AreDemanded binds fields
    → AreDemanded (hoisted_item regs n passes binds fields).binds (hoisted_item regs n passes binds fields).fields
item-demanded binds [] regs n passes h = subst (λ l. AreDemanded (hoisted_item regs n passes l []).binds (hoisted_item regs n passes l []).fields) (sym h) refl
item-demanded binds (f ∷ fields) regs n passes h =
    let k = item-count binds (f ∷ fields) regs n passes in
    some-demanded (hoisted_item regs n passes binds (f ∷ fields)).binds (hoisted_item regs n passes binds (f ∷ fields)).fields (omega (arith, k))

abbrev out_of : Result Bool PointFault → Result Item PointFault → Result (List Item) PointFault
out_of c i = then_of c (λ b. cond b (then_of i (λ x. Ok (x ∷ []))) (Ok []))

pub record StepsHoist (s : ℕ → ℕ → List ℤ → ℤ) (cs : ℕ → Option Signature) (t : StepsTree) : Type 0 where
  pub means : steps_planned s (hoisted_steps t) ≡ steps_planned s t
  pub placed : AreSteps cs (hoisted_steps t)

pub steps-hoist : (t : StepsTree) (s : ℕ → ℕ → List ℤ → ℤ) (cs : ℕ → Option Signature) → AreSteps cs t → StepsHoist s cs t
steps-hoist t s cs h =
    let i = t.item in
    let box = i.domain in
    let w = with_passes (record { regs = []; passes = [] }) t.passes in
    let old = registers s t.passes in
    let n = registers-count s t.passes in
    let u = passes-hoist t.passes s cs (record { regs = []; passes = [] }) [] (record { holds = tt; placed = tt }) h.passes in
    let c = hoisted_condition w t.condition in
    let a = condition-hoists t.condition s cs w old u (subst (λ m. ConditionIsPlaced cs m [] t.condition) (sym n) h.condition) in
    let held = kept-more s w.regs old w.passes a.more (kept-of s w.passes w.regs old u.holds) in
    let k = subst (Kept s w.regs old) (sym a.extends) held in
    let r = hoisted_item w.regs (length box) c.passes i.binds i.fields in
    let b = subst (λ m. ItemHoists s cs old c.passes (spans box) i.binds i.fields (hoisted_item w.regs m c.passes i.binds i.fields)) (length-map box span)
    (item-hoists i.binds i.fields s cs w.regs old c.passes (spans box) k a.passes_placed (subst (λ m. ItemIsPlaced cs m (spans box) i.binds i.fields) (sym n) h.item)) in
    let regs = registers s r.passes in
    let condition : chosen s regs c.condition ≡ chosen s old t.condition = ap (λ q. chosen s (registers s q) c.condition) b.extends ∙ a.means b.more in
    let item : item_planned s regs (hoisted_steps t).item ≡ item_planned s old i =
    ap (λ (x : Result (List Cell) PointFault). then_of x (λ cells. Ok (record { line = line_of box; fields = field_count (length r.fields); cells = cells })))
    (ap joined (map-same (Lie (spans box)) (cells_at s regs (hoisted_steps t).item) (cells_at s old i) (points box) (λ p l. b.means p (lie-length (spans box) p l)) (points-lie box)))
    ∙ ap (λ m. then_of (item_cells s old i) (λ cells. Ok (record { line = line_of box; fields = field_count m; cells = cells }))) (item-count i.binds i.fields w.regs (length box) c.passes) in
    record {
      means = ap (λ x. out_of x (item_planned s regs (hoisted_steps t).item)) condition ∙ ap (out_of (chosen s old t.condition)) item;
      placed = record {
        passes = b.passes_placed;
        condition = subst (λ q. ConditionIsPlaced cs (length q) [] c.condition) (sym b.extends) (a.placed b.more);
        item = b.placed;
        demanded = item-demanded i.binds i.fields w.regs (length box) c.passes h.demanded;
      };
    }
