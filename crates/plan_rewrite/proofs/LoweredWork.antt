-- The units of the steps of a tree and the points of their folds are within its work.
use Rattle.std.proofs.Common.{◌≡◌, ℕ, zero, suc, ◌+◌, ◌*◌, ◌<◌, ◌≤◌, List, [], ◌∷◌, map, sym, ap, subst, arith, ℤ, pos, get_or, Bool}
use Rattle.std.specs.Prelude.{Option, Some, None, option_map, Box}
use Rattle.std.specs.Global.{Global}
use Rattle.arr_core.specs.declared.domain.Axis.{Axis}
use Rattle.arr_core.specs.Domains.{gap, count}
use Rattle.wcps_types.specs.declared.typed.Node.{Node}
use Rattle.wcps_types.specs.declared.typed.Tree.{Tree}
use Rattle.wcps_types.specs.Typed.{Typed, number, iterator, cell, unary, binary, scalar, select, bracket, slice, array, listed, condense, condense_where, reduce, FieldTree, boxed_tree, fields_view, item_view, tree_view}
use Rattle.wcps_types.specs.Work.{work_of, fields_work, condition_work, query_work}
use Rattle.plan_ir.specs.declared.body.Index.TheVariants.{Const}
use Rattle.plan_ir.specs.Plans.{FieldBody}
use Rattle.plan_ir.specs.Units.{condition_units, item_units}
use Rattle.plan_rewrite.specs.Lowering.{Setting, outermost, at_scalar, at_iterators, at_slice, at_box, at_points, lowered}
use Rattle.plan_rewrite.specs.LoweredItems.{Chain, end, bracketed, sliced, chain_of, chain_tree, chain_binds, chain_fields, lowered_field, item_binds, boxed_scalar}
use Rattle.plan_rewrite.specs.LoweredPlans.{lowered_tree}
use Rattle.plan_ir.specs.FoldPoints.{body_folds, condition_folds, binds_folds, fields_folds}
use Rattle.plan_rewrite.proofs.FoldPoints.{variable-folds, both_of}
use Rattle.plan_rewrite.proofs.LoweredItems.{chain_views, chain-views, end-views, no-fields}
use Rattle.plan_rewrite.proofs.LoweredSteps.{work-some}

times-one : (n m : ℕ) → 1 ≤ m → 1 ≤ (n + 1) * m
times-one n m h = let e : (n + 1) * m ≡ m + n * m = grind arith in omega (arith, h, e)

-- a box has a point
count-some : (axes : List Axis) → 1 ≤ count axes
count-some [] = omega arith
count-some (a ∷ axes) = times-one (gap a.lo a.hi) (count axes) (count-some axes)

-- a sum is at most one more than the product
sum-product : (n m : ℕ) → 1 ≤ n → 1 ≤ m → n + m ≤ 1 + n * m
sum-product zero m h k = absurd (omega (arith, h))
sum-product (suc n) zero h k = absurd (omega (arith, k))
sum-product (suc n) (suc m) h k = let e : suc n * suc m ≡ 1 + (n + (m + n * m)) = grind arith in omega (arith, e)

-- the folds of a body have fewer points than its tree takes work
lowered-folds : (t : Typed) (c : Setting) → body_folds (lowered c t) < work_of t
lowered-folds (number z) c = omega arith
lowered-folds (iterator k) c = let a = variable-folds (get_or c.iterators k (Const (pos 0))) in omega (arith, a)
lowered-folds (cell v f) c = omega arith
lowered-folds (unary op e) c = let a = lowered-folds e c in omega (arith, a)
lowered-folds (binary op l r) c = let a = lowered-folds l c in let b = lowered-folds r c in omega (arith, a, b)
lowered-folds (scalar e) c = lowered-folds e (at_scalar c)
lowered-folds (select e) c = let a = lowered-folds e c in omega (arith, a)
lowered-folds (bracket e) c = let a = lowered-folds e c in omega (arith, a)
lowered-folds (slice e axis lo hi i) c =
    let a = lowered-folds i (at_scalar c) in
    let b = lowered-folds e (at_slice c axis lo hi) in
    omega (arith, a, b)
lowered-folds (array e) c = let a = lowered-folds e (at_iterators c) in omega (arith, a)
lowered-folds (listed box items) c = omega arith
lowered-folds (condense op box e) c =
    let a = lowered-folds e (at_box c box) in
    let b = sum-product (count box) (work_of e) (count-some box) (work-some e) in
    omega (arith, a, b)
lowered-folds (condense_where op box w e) c =
    let a = lowered-folds w (at_box c box) in
    let b = lowered-folds e (at_box c box) in
    let some = work-some e in
    let d = sum-product (count box) (work_of w + work_of e) (count-some box) (omega (arith, some)) in
    omega (arith, a, b, d)
lowered-folds (reduce op box e) c =
    let a = lowered-folds e (at_points c box) in
    let b = sum-product (count box) (work_of e) (count-some box) (work-some e) in
    omega (arith, a, b)

fields-within : (fs : List FieldTree) (c : Setting) → fields_folds (map (lowered_field c) fs) ≤ fields_work fs
fields-within [] c = omega arith
fields-within (f ∷ fs) c = let a = lowered-folds f.tree c in let b = fields-within fs c in omega (arith, a, b)

bracket-work : (h : Chain) (k : ℕ) (bs : List Bool) → fields_work (chain_views h k bs) ≤ fields_work (chain_views (bracketed h) k bs)
bracket-work h k [] = omega arith
bracket-work h k (b ∷ bs) = let a = bracket-work h (suc k) bs in omega (arith, a)

slice-work : (h : Chain) (axis : ℕ) (lo hi : ℤ) (i : Typed) (k : ℕ) (bs : List Bool) → fields_work (chain_views h k bs) ≤ fields_work (chain_views (sliced axis lo hi i h) k bs)
slice-work h axis lo hi i k [] = omega arith
slice-work h axis lo hi i k (b ∷ bs) = let a = slice-work h axis lo hi i (suc k) bs in omega (arith, a)

chain-within : (h : Chain) (c : Setting) (b : Bool) (bs : List Bool) → binds_folds (chain_binds c h) + fields_folds (chain_fields c h (b ∷ bs)) ≤ fields_work (chain_views h 0 (b ∷ bs))
chain-within (end e) c b bs =
    let a = subst (λ l. fields_folds (chain_fields c (end e) (b ∷ bs)) ≤ fields_work l) (end-views e 0 (b ∷ bs)) (fields-within (fields_view e 0 (b ∷ bs)) c) in
    omega (arith, a)
chain-within (bracketed h) c b bs = let a = chain-within h c b bs in let d = bracket-work h 0 (b ∷ bs) in omega (arith, a, d)
chain-within (sliced axis lo hi i h) c b bs =
    let a = lowered-folds i (at_scalar c) in
    let d = chain-within h (at_slice c axis lo hi) b bs in
    let e = slice-work h axis lo hi i 1 bs in
    omega (arith, a, d, e)

units-few : (box : List Axis) (fs : List FieldBody) → item_units box fs ≤ count box
units-few box [] = count-some box
units-few box (f ∷ fs) = omega arith

first-work : (h : Chain) (b : Bool) (bs : List Bool) → 1 ≤ fields_work (chain_views h 0 (b ∷ bs))
first-work h b bs = let a = work-some (chain_tree h 0) in omega (arith, a)

condition-within : (o : Option (Box Node Global)) → condition_units (option_map boxed_scalar o) + condition_folds (option_map boxed_scalar o) ≤ condition_work (option_map boxed_tree o)
condition-within None = omega arith
condition-within (Some e) = let a = lowered-folds (boxed_tree e) (outermost [] []) in omega (arith, a)

-- the units of an item and the points of its folds
item-within : (h : Chain) (c : Setting) (box : List Axis) (bs : List Bool) (w : ℕ) → fields_work (chain_views h 0 bs) ≡ w
    → item_units box (chain_fields c h bs) + (binds_folds (item_binds bs (chain_binds c h)) + fields_folds (chain_fields c h bs)) ≤ 1 + count box * w
item-within h c box [] w e = subst (λ l. item_units box l + (0 + fields_folds l) ≤ 1 + count box * w) (sym (no-fields h c)) (omega arith)
item-within h c box (b ∷ bs) w e =
    let a = chain-within h c b bs in
    let u = units-few box (chain_fields c h (b ∷ bs)) in
    let some = first-work h b bs in
    let d = sum-product (count box) w (count-some box) (omega (arith, some, e)) in
    omega (arith, a, u, d, e)

pub tree-within : (t : Tree) → both_of (Some (lowered_tree t)) ≤ 1 + query_work (tree_view t ∷ [])
tree-within t =
    let c = outermost [] t.item.domain in
    let a = condition-within t.condition in
    let w = fields_work (item_view t.item).fields in
    let b = item-within (chain_of t.item.node.value) c t.item.domain t.item.booleans.items w (ap fields_work (chain-views t.item.node.value 0 t.item.booleans.items)) in
    omega (arith, a, b)
