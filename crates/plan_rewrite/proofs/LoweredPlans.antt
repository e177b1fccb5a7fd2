-- A tree over the coverages that a combination has means what the tree over variables means with the cells of these
-- coverages, and so do the steps of the tree, which are well-formed.
use Rattle.std.proofs.Common.{◌≡◌, ℕ, List, [], ◌∷◌, ◌++◌, length, map, get_or, refl, sym, ap, ◌∙◌, ℤ, pos, Bool, cond, Result, Ok}
use Rattle.std.specs.Prelude.{Option, Some, None, slice_get, option_map, insert, Box}
use Rattle.std.specs.Global.{Global}
use Rattle.std.specs.List.{flat_map}
use Rattle.std.proofs.lemmas.List.{length-map}
use Rattle.arr_core.specs.declared.cell.Cell.{Cell}
use Rattle.arr_core.specs.declared.domain.Axis.{Axis}
use Rattle.arr_core.specs.declared.signature.Signature.{Signature}
use Rattle.arr_core.specs.Domains.{points}
use Rattle.wcps_types.specs.declared.typed.Node.{Node}
use Rattle.wcps_types.specs.declared.typed.Tree.{Tree}
use Rattle.wcps_types.specs.Typed.{Typed, number, iterator, cell, unary, binary, scalar, select, bracket, slice, array, listed, condense, condense_where, reduce, FieldTree, ItemTree, CombinationTree, boxed_tree, item_view, tree_view}
use Rattle.wcps_types.specs.Renamed.{renamed, renamed_field, renamed_item, renamed_combination}
use Rattle.wcps_types.specs.WellTyped.{FieldsAreTyped, ConditionIsTyped, CombinationIsTyped}
use Rattle.wcps_mean.specs.declared.cell.PointFault.{PointFault}
use Rattle.wcps_mean.specs.declared.item.Item.{Item}
use Rattle.arr_core.specs.Cells.{truth_of}
use Rattle.wcps_mean.specs.Cells.{operate1, operate2, at_position}
use Rattle.wcps_mean.specs.Condensers.{condensed, demanded}
use Rattle.wcps_mean.specs.Meaning.{val}
use Rattle.wcps_mean.specs.Answer.{then_of, given, joined, cell_of, line_of, field_count, cells_at, item_cells, item_answer, chosen, combination_answer}
use Rattle.plan_ir.specs.declared.body.Index.{Index}
use Rattle.plan_ir.specs.declared.body.Index.TheVariants.{Const, Var}
use Rattle.plan_ir.specs.declared.body.Interval.{Interval}
use Rattle.plan_ir.specs.Plans.{signature_of}
use Rattle.plan_ir.specs.Placed.{spans, IsPlaced, ConditionIsPlaced, FieldsArePlaced, AreSteps}
use Rattle.plan_ir.specs.Planned.{cells_of, steps_planned}
use Rattle.plan_rewrite.specs.Inlining.{variable}
use Rattle.plan_rewrite.specs.Lowering.{Setting, outermost, at_scalar, at_iterators, at_slice, at_box, at_points, lowered}
use Rattle.plan_rewrite.specs.LoweredItems.{lowered_field, boxed_scalar}
use Rattle.plan_rewrite.specs.LoweredPlans.{lowered_tree}
use Rattle.plan_rewrite.proofs.Inlines.{position-same}
use Rattle.plan_rewrite.proofs.Lowers.{outer-placed}
use Rattle.plan_rewrite.proofs.LoweredSteps.{steps-mean, item-placed, item-demanded}

map-each : {X Y : Type 0} (f g : X → Y) (xs : List X) → ((x : X) → f x ≡ g x) → map f xs ≡ map g xs
map-each f g [] h = refl
map-each f g (x ∷ xs) h = ap (λ y. y ∷ map f xs) (h x) ∙ ap (λ l. g x ∷ l) (map-each f g xs h)

flat-each : {X Y : Type 0} (f g : X → List Y) (xs : List X) → ((x : X) → f x ≡ g x) → flat_map f xs ≡ flat_map g xs
flat-each f g [] h = refl
flat-each f g (x ∷ xs) h = ap (λ y. y ++ flat_map f xs) (h x) ∙ ap (λ l. g x ++ l) (flat-each f g xs h)

-- a tree over coverages
val-over : (t : Typed) (ks : List ℕ) (s : ℕ → ℕ → List ℤ → ℤ) (env p : List ℤ) → val (cells_of s ks) t env p ≡ val s (renamed ks t) env p
val-over (number z) ks s env p = refl
val-over (iterator k) ks s env p = refl
val-over (cell c f) ks s env p = refl
val-over (unary op e) ks s env p = ap (operate1 op) (val-over e ks s env p)
val-over (binary op l r) ks s env p =
    ap (λ o. operate2 op o (val (cells_of s ks) r env p)) (val-over l ks s env p) ∙ ap (operate2 op (val s (renamed ks l) env p)) (val-over r ks s env p)
val-over (scalar e) ks s env p = val-over e ks s env []
val-over (select e) ks s env p = val-over e ks s env p
val-over (bracket e) ks s env p = val-over e ks s env p
val-over (slice e axis lo hi i) ks s env p =
    ap (λ o. at_position o lo hi (λ z. val (cells_of s ks) e env (insert p axis z))) (val-over i ks s env [])
    ∙ position-same (val s (renamed ks i) env []) lo hi _ _ (λ z above below. val-over e ks s env (insert p axis z))
val-over (array e) ks s env p = val-over e ks s (env ++ p) []
val-over (listed box items) ks s env p = refl
val-over (condense op box e) ks s env p = ap (condensed op) (map-each _ _ (points box) (λ x. val-over e ks s (env ++ x) []))
val-over (condense_where op box c e) ks s env p =
    ap (condensed op) (flat-each _ _ (points box) (λ x.
    ap (λ o. demanded o (val (cells_of s ks) e (env ++ x) [])) (val-over c ks s (env ++ x) [])
    ∙ ap (demanded (val s (renamed ks c) (env ++ x) [])) (val-over e ks s (env ++ x) [])))
val-over (reduce op box e) ks s env p = ap (condensed op) (map-each _ _ (points box) (λ x. val-over e ks s env x))

abbrev cell_in : (ℕ → ℕ → List ℤ → ℤ) → List ℤ → FieldTree → Result (List Cell) PointFault
cell_in s p f = given (λ z. cell_of f.boolean z ∷ []) (val s f.tree [] p)

fields-over : (fs : List FieldTree) (ks : List ℕ) (s : ℕ → ℕ → List ℤ → ℤ) (p : List ℤ) → map (cell_in (cells_of s ks) p) fs ≡ map (cell_in s p) (map (renamed_field ks) fs)
fields-over [] ks s p = refl
fields-over (f ∷ fs) ks s p =
    ap (λ o. given (λ z. cell_of f.boolean z ∷ []) o ∷ map (cell_in (cells_of s ks) p) fs) (val-over f.tree ks s [] p)
    ∙ ap (λ l. cell_in s p (renamed_field ks f) ∷ l) (fields-over fs ks s p)

item-over : (i : ItemTree) (ks : List ℕ) (s : ℕ → ℕ → List ℤ → ℤ) → item_answer (cells_of s ks) i ≡ item_answer s (renamed_item ks i)
item-over i ks s =
    ap (λ (r : Result (List Cell) PointFault). then_of r (λ cells. Ok (record { line = line_of i.domain; fields = field_count (length i.fields); cells = cells })))
    (ap joined (map-each (cells_at (cells_of s ks) i.fields) (cells_at s (map (renamed_field ks) i.fields)) (points i.domain) (λ p. ap joined (fields-over i.fields ks s p))))
    ∙ ap (λ n. then_of (item_cells s (renamed_item ks i)) (λ cells. Ok (record { line = line_of i.domain; fields = field_count n; cells = cells }))) (sym (length-map i.fields (renamed_field ks)))

chosen-over : (c : Option Typed) (ks : List ℕ) (s : ℕ → ℕ → List ℤ → ℤ) → chosen (cells_of s ks) c ≡ chosen s (option_map (renamed ks) c)
chosen-over None ks s = refl
chosen-over (Some c) ks s = ap (given truth_of) (val-over c ks s [] [])

abbrev out_of : Result Bool PointFault → Result Item PointFault → Result (List Item) PointFault
out_of c i = then_of c (λ b. cond b (then_of i (λ x. Ok (x ∷ []))) (Ok []))

combination-over : (c : CombinationTree) (ks : List ℕ) (s : ℕ → ℕ → List ℤ → ℤ) → combination_answer (cells_of s ks) c ≡ combination_answer s (renamed_combination ks c)
combination-over c ks s =
    ap (λ b. out_of b (item_answer (cells_of s ks) c.item)) (chosen-over c.condition ks s)
    ∙ ap (out_of (chosen s (option_map (renamed ks) c.condition))) (item-over c.item ks s)

-- the steps of a tree, over the coverages of a combination
pub tree-means : (t : Tree) (ks : List ℕ) (s : ℕ → ℕ → List ℤ → ℤ) → steps_planned (cells_of s ks) (lowered_tree t) ≡ combination_answer s (renamed_combination ks (tree_view t))
tree-means t ks s = steps-mean t.condition t.item (cells_of s ks) ∙ combination-over (tree_view t) ks s

variable-over : (i : Index) (cs : List Signature) (ks : List ℕ) (regs : ℕ) (scope : List Interval) → IsPlaced (slice_get cs) regs scope (variable i) → IsPlaced (signature_of cs ks) regs scope (variable i)
variable-over (Const z) cs ks regs scope h = tt
variable-over (Var k) cs ks regs scope h = h

-- a body over the coverages of a combination
placed-over : (t : Typed) (cs : List Signature) (ks : List ℕ) (regs : ℕ) (c : Setting) → IsPlaced (slice_get cs) regs c.scope (lowered c (renamed ks t)) → IsPlaced (signature_of cs ks) regs c.scope (lowered c t)
placed-over (number z) cs ks regs c h = tt
placed-over (iterator k) cs ks regs c h = variable-over (get_or c.iterators k (Const (pos 0))) cs ks regs c.scope h
placed-over (cell v f) cs ks regs c h = h
placed-over (unary op e) cs ks regs c h = placed-over e cs ks regs c h
placed-over (binary op l r) cs ks regs c h = (placed-over l cs ks regs c h.0, placed-over r cs ks regs c h.1)
placed-over (scalar e) cs ks regs c h = placed-over e cs ks regs (at_scalar c) h
placed-over (select e) cs ks regs c h = placed-over e cs ks regs c h
placed-over (bracket e) cs ks regs c h = placed-over e cs ks regs c h
placed-over (slice e axis lo hi i) cs ks regs c h = (placed-over i cs ks regs (at_scalar c) h.0, placed-over e cs ks regs (at_slice c axis lo hi) h.1)
placed-over (array e) cs ks regs c h = placed-over e cs ks regs (at_iterators c) h
placed-over (listed box items) cs ks regs c h = h
placed-over (condense op box e) cs ks regs c h = (tt, placed-over e cs ks regs (at_box c box) h.1)
placed-over (condense_where op box b e) cs ks regs c h = (placed-over b cs ks regs (at_box c box) h.0, placed-over e cs ks regs (at_box c box) h.1)
placed-over (reduce op box e) cs ks regs c h = (tt, placed-over e cs ks regs (at_points c box) h.1)

fields-placed : (fs : List FieldTree) (cs : List Signature) (ks : List ℕ) (dom : List Axis) → FieldsAreTyped cs dom (map (renamed_field ks) fs)
    → FieldsArePlaced (signature_of cs ks) 0 (spans dom) (map (lowered_field (outermost [] dom)) fs)
fields-placed [] cs ks dom h = tt
fields-placed (f ∷ fs) cs ks dom h =
    (placed-over f.tree cs ks 0 (outermost [] dom) (outer-placed (renamed ks f.tree) [] dom cs 0 h.0), fields-placed fs cs ks dom h.1)

condition-placed : (o : Option (Box Node Global)) (cs : List Signature) (ks : List ℕ) → ConditionIsTyped cs [] (option_map (renamed ks) (option_map boxed_tree o)) → ConditionIsPlaced (signature_of cs ks) 0 [] (option_map boxed_scalar o)
condition-placed None cs ks h = tt
condition-placed (Some e) cs ks h = placed-over (boxed_tree e) cs ks 0 (outermost [] []) (outer-placed (renamed ks (boxed_tree e)) [] [] cs 0 h)

pub tree-placed : (t : Tree) (cs : List Signature) (ks : List ℕ) → CombinationIsTyped cs (renamed_combination ks (tree_view t)) → AreSteps (signature_of cs ks) (lowered_tree t)
tree-placed t cs ks h = record {
  passes = tt;
  condition = condition-placed t.condition cs ks h.0;
  item = item-placed t.item (signature_of cs ks) (fields-placed (item_view t.item).fields cs ks t.item.domain h.1);
  demanded = item-demanded t.item;
}
