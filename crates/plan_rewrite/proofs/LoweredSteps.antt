-- Lowered steps give what the condition and the item give, are well-formed, and have no more units than their work and
-- one.
use Rattle.std.proofs.Common.{◌≡◌, ℕ, zero, suc, ◌+◌, ◌*◌, ◌≤◌, List, [], ◌∷◌, length, map, refl, sym, ap, ◌∙◌, subst, arith, ℤ, Bool, cond, Result, Ok}
use Rattle.std.specs.Prelude.{Option, Some, None, slice_get, option_map, Box}
use Rattle.std.specs.Global.{Global}
use Rattle.arr_core.specs.declared.domain.Axis.{Axis}
use Rattle.arr_core.specs.declared.signature.Signature.{Signature}
use Rattle.arr_core.specs.Domains.{count}
use Rattle.wcps_types.specs.declared.typed.Node.{Node}
use Rattle.wcps_types.specs.declared.typed.TypedItem.{TypedItem}
use Rattle.wcps_types.specs.Typed.{Typed, number, iterator, cell, unary, binary, scalar, select, bracket, slice, array, listed, condense, condense_where, reduce, FieldTree, field_tree, boxed_tree, fields_view, item_view}
use Rattle.wcps_types.specs.WellTyped.{FieldsAreTyped, ConditionIsTyped, CombinationIsTyped}
use Rattle.wcps_types.specs.Work.{work_of, fields_work, item_work, condition_work}
use Rattle.wcps_mean.specs.declared.cell.PointFault.{PointFault}
use Rattle.wcps_mean.specs.declared.item.Item.{Item}
use Rattle.arr_core.specs.Cells.{truth_of}
use Rattle.wcps_mean.specs.Answer.{then_of, given, chosen as answer_chosen, combination_answer}
use Rattle.plan_ir.specs.Plans.{BindTree, FieldBody}
use Rattle.plan_ir.specs.Planned.{chosen, item_planned, steps_planned}
use Rattle.plan_ir.specs.Placed.{spans, ConditionIsPlaced, FieldsArePlaced, ItemIsPlaced, AreDemanded, AreSteps}
use Rattle.plan_ir.specs.Units.{condition_units, item_units, steps_units}
use Rattle.plan_ir.proofs.Parts.{some-demanded}
use Rattle.plan_rewrite.specs.Lowering.{Setting, outermost, at_slice}
use Rattle.plan_rewrite.specs.LoweredItems.{Chain, end, bracketed, sliced, chain_of, chain_binds, chain_fields, lowered_field, item_binds, lowered_item, returned, boxed_scalar, lowered_steps}
use Rattle.plan_rewrite.proofs.Lowers.{outer-means, outer-placed}
use Rattle.plan_rewrite.proofs.LoweredItems.{chain_views, chain-views, end-views, bracket-fields, no-fields, fields-length, item-lowered}

condition-lowered : (s : ℕ → ℕ → List ℤ → ℤ) (o : Option (Box Node Global)) → chosen s [] (option_map boxed_scalar o) ≡ answer_chosen s (option_map boxed_tree o)
condition-lowered s None = refl
condition-lowered s (Some e) = ap (given truth_of) (outer-means (boxed_tree e) [] [] s [] [] [] refl refl)

abbrev out_of : Result Bool PointFault → Result Item PointFault → Result (List Item) PointFault
out_of c i = then_of c (λ b. cond b (then_of i (λ x. Ok (x ∷ []))) (Ok []))

pub steps-mean : (condition : Option (Box Node Global)) (i : TypedItem) (s : ℕ → ℕ → List ℤ → ℤ) → steps_planned s (lowered_steps condition i) ≡ combination_answer s (returned condition i)
steps-mean condition i s =
    ap (λ c. out_of c (item_planned s [] (lowered_item i))) (condition-lowered s condition)
    ∙ ap (out_of (answer_chosen s (option_map boxed_tree condition))) (item-lowered i s [])

-- the fields below a slice
slice-placed : (cs : ℕ → Option Signature) (regs : ℕ) (c : Setting) (axis : ℕ) (lo hi : ℤ) (i : Typed) (h : Chain) (k : ℕ) (bs : List Bool)
    → FieldsArePlaced cs regs c.scope (map (lowered_field c) (chain_views (sliced axis lo hi i h) k bs))
    → FieldsArePlaced cs regs (at_slice c axis lo hi).scope (map (lowered_field (at_slice c axis lo hi)) (chain_views h k bs))
slice-placed cs regs c axis lo hi i h k [] p = tt
slice-placed cs regs c axis lo hi i h k (b ∷ bs) p = (p.0.1, slice-placed cs regs c axis lo hi i h (suc k) bs p.1)

chain-placed : (h : Chain) (cs : ℕ → Option Signature) (regs : ℕ) (c : Setting) (b : Bool) (bs : List Bool)
    → FieldsArePlaced cs regs c.scope (map (lowered_field c) (chain_views h 0 (b ∷ bs)))
    → ItemIsPlaced cs regs c.scope (chain_binds c h) (chain_fields c h (b ∷ bs))
chain-placed (end e) cs regs c b bs p = subst (λ l. FieldsArePlaced cs regs c.scope (map (lowered_field c) l)) (sym (end-views e 0 (b ∷ bs))) p
chain-placed (bracketed h) cs regs c b bs p = chain-placed h cs regs c b bs (subst (FieldsArePlaced cs regs c.scope) (sym (bracket-fields c h 0 (b ∷ bs))) p)
chain-placed (sliced axis lo hi i h) cs regs c b bs p =
    (p.0.0, chain-placed h cs regs (at_slice c axis lo hi) b bs (slice-placed cs regs c axis lo hi i h 0 (b ∷ bs) p))

binds-placed : (h : Chain) (cs : ℕ → Option Signature) (c : Setting) (bs : List Bool)
    → FieldsArePlaced cs 0 c.scope (map (lowered_field c) (chain_views h 0 bs)) → ItemIsPlaced cs 0 c.scope (item_binds bs (chain_binds c h)) (chain_fields c h bs)
binds-placed h cs c [] p = subst (FieldsArePlaced cs 0 c.scope) (sym (no-fields h c)) tt
binds-placed h cs c (b ∷ bs) p = chain-placed h cs 0 c b bs p

-- an item each of whose fields is well-formed on its own
pub item-placed : (i : TypedItem) (cs : ℕ → Option Signature) → FieldsArePlaced cs 0 (spans i.domain) (map (lowered_field (outermost [] i.domain)) (item_view i).fields)
    → ItemIsPlaced cs 0 (spans i.domain) (lowered_item i).binds (lowered_item i).fields
item-placed i cs p =
    let c = outermost [] i.domain in
    binds-placed (chain_of i.node.value) cs c i.booleans.items
    (subst (λ l. FieldsArePlaced cs 0 (spans i.domain) (map (lowered_field c) l)) (sym (chain-views i.node.value 0 i.booleans.items)) p)

binds-demanded : (h : Chain) (c : Setting) (bs : List Bool) (binds : List BindTree) → AreDemanded (item_binds bs binds) (chain_fields c h bs)
binds-demanded h c [] binds = subst (AreDemanded []) (sym (no-fields h c)) refl
binds-demanded h c (b ∷ bs) binds = let n = fields-length h c (b ∷ bs) in some-demanded binds (chain_fields c h (b ∷ bs)) (omega (arith, n))

-- an item without fields has no binds
pub item-demanded : (i : TypedItem) → AreDemanded (lowered_item i).binds (lowered_item i).fields
item-demanded i =
    let c = outermost [] i.domain in
    let h = chain_of i.node.value in
    binds-demanded h c i.booleans.items (chain_binds c h)

fields-placed : (cs : List Signature) (dom : List Axis) (fs : List FieldTree) → FieldsAreTyped cs dom fs → FieldsArePlaced (slice_get cs) 0 (spans dom) (map (lowered_field (outermost [] dom)) fs)
fields-placed cs dom [] t = tt
fields-placed cs dom (f ∷ fs) t = (outer-placed f.tree [] dom cs 0 t.0, fields-placed cs dom fs t.1)

condition-placed : (cs : List Signature) (o : Option (Box Node Global)) → ConditionIsTyped cs [] (option_map boxed_tree o) → ConditionIsPlaced (slice_get cs) 0 [] (option_map boxed_scalar o)
condition-placed cs None t = tt
condition-placed cs (Some e) t = outer-placed (boxed_tree e) [] [] cs 0 t

pub steps-placed : (condition : Option (Box Node Global)) (i : TypedItem) (cs : List Signature) → CombinationIsTyped cs (returned condition i) → AreSteps (slice_get cs) (lowered_steps condition i)
steps-placed condition i cs t = record {
  passes = tt;
  condition = condition-placed cs condition t.0;
  item = item-placed i (slice_get cs) (fields-placed cs i.domain (item_view i).fields t.1);
  demanded = item-demanded i;
}

-- each tree takes work
pub work-some : (t : Typed) → 1 ≤ work_of t
work-some (number z) = omega arith
work-some (iterator k) = omega arith
work-some (cell c f) = omega arith
work-some (unary op e) = omega arith
work-some (binary op l r) = omega arith
work-some (scalar e) = work-some e
work-some (select e) = omega arith
work-some (bracket e) = omega arith
work-some (slice e axis lo hi i) = omega (arith, work-some e)
work-some (array e) = omega arith
work-some (listed box items) = omega arith
work-some (condense op box e) = omega arith
work-some (condense_where op box c e) = omega arith
work-some (reduce op box e) = omega arith

times-some : (n w : ℕ) → 1 ≤ w → n ≤ n * w
times-some n zero h = absurd (omega (arith, h))
times-some n (suc w) h = let e : n * suc w ≡ n + n * w = grind arith in omega (arith, e)

units-of : (box : List Axis) (fs : List FieldBody) (e : Node) (k : ℕ) (bs : List Bool) → length fs ≡ length bs → item_units box fs ≤ 1 + count box * fields_work (fields_view e k bs)
units-of box [] e k bs h = omega arith
units-of box (f ∷ fs) e k [] h = absurd (omega (arith, h))
units-of box (f ∷ fs) e k (b ∷ bs) h =
    let some = work-some (field_tree e k) in
    let few = times-some (count box) (work_of (field_tree e k) + fields_work (fields_view e (suc k) bs)) (omega (arith, some)) in
    omega (arith, few)

condition-few : (o : Option (Box Node Global)) → condition_units (option_map boxed_scalar o) ≤ condition_work (option_map boxed_tree o)
condition-few None = omega arith
condition-few (Some e) = work-some (boxed_tree e)

pub steps-few : (condition : Option (Box Node Global)) (i : TypedItem) → steps_units (Some (lowered_steps condition i)) ≤ 1 + (condition_work (returned condition i).condition + item_work (returned condition i).item)
steps-few condition i =
    let few = units-of i.domain (lowered_item i).fields i.node.value 0 i.booleans.items (fields-length (chain_of i.node.value) (outermost [] i.domain) i.booleans.items) in
    let one = condition-few condition in
    omega (arith, few, one)
