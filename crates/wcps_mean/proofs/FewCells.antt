-- A part of few cells has few.
use Rattle.std.proofs.Common.{◌≡◌, ℕ, zero, suc, ◌*◌, ◌<◌, ◌≤◌, List, [], ◌∷◌, length, get_or, map, Bool, sym, subst, ◌∙◌, arith}
use Rattle.std.proofs.lemmas.List.{length-map}
use Rattle.arr_core.specs.declared.domain.Axis.{Axis}
use Rattle.arr_core.specs.Domains.{count}
use Rattle.wcps_types.specs.declared.typed.Node.{Node}
use Rattle.wcps_types.specs.declared.typed.Tree.{Tree}
use Rattle.wcps_types.specs.Typed.{CombinationTree, fields_view, tree_view}
use Rattle.wcps_types.specs.Renamed.{renamed_field}
use Rattle.wcps_types.specs.Cells.{result_cells}
use Rattle.wcps_types.proofs.Efforts.{field_places}
use Rattle.arr_core.proofs.Points.{count-pos}

-- of one combination
pub few_in_one : {X : Type 0} (view : X → CombinationTree) (all : List X) (k : ℕ) (x : X) (m : ℕ) → k < length all → x ≡ get_or all k x → result_cells (map view all) ≤ m → result_cells (view x ∷ []) ≤ m
few_in_one view [] k x m lt is h = absurd (omega (arith, lt))
few_in_one view (c ∷ all) zero x m lt is h = subst (λ y. result_cells (view y ∷ []) ≤ m) (sym is) (omega (arith, h))
few_in_one view (c ∷ all) (suc k) x m lt is h = few_in_one view all k x m (omega (arith, lt)) is (omega (arith, h))

-- of its item
pub few_in_item : (t : Tree) (m : ℕ) → result_cells (tree_view t ∷ []) ≤ m → count t.item.domain * length t.item.booleans.items ≤ m
few_in_item t m h =
    let few : count t.item.domain * length (fields_view t.item.node.value 0 t.item.booleans.items) ≤ m = omega (arith, h) in
    subst (λ n. count t.item.domain * n ≤ m) (field_places t.item.node.value 0 t.item.booleans.items) few

-- an item has a field for each of its kinds, over coverages too
pub fields_over : (places : List ℕ) (e : Node) (k : ℕ) (bs : List Bool) → length (map (renamed_field places) (fields_view e k bs)) ≡ length bs
fields_over places e k bs = length-map (fields_view e k bs) (renamed_field places) ∙ field_places e k bs

at_least : (n k m : ℕ) → 0 < n → n * k ≤ m → k ≤ m
at_least zero k m p h = absurd (omega (arith, p))
at_least (suc n) k m p h = grind (arith, h)

-- the fields of an item are no more than its cells
pub few_fields : (axes : List Axis) (k m : ℕ) → count axes * k ≤ m → k ≤ m
few_fields axes k m h = at_least (count axes) k m (count-pos axes) h

-- the points of an item times its fields
pub few_products : (axes : List Axis) (k n j m : ℕ) → n ≡ count axes → j ≡ k → count axes * k ≤ m → n * j ≤ m
few_products axes k n j m is f h = subst (λ i. n * i ≤ m) (sym f) (subst (λ i. i * k ≤ m) (sym is) h)
