-- A query that is typed is well typed.
use Rattle.std.proofs.Common.{◌≡◌, List, [], ◌∷◌, ◌++◌, map, refl, subst}
use Rattle.std.specs.Prelude.{Ok}
use Rattle.arr_core.specs.declared.domain.Axis.{Axis}
use Rattle.arr_core.specs.declared.signature.Signature.{Signature}
use Rattle.wcps_text.specs.Tree as tree
use Rattle.wcps_text.specs.Tree.{QueryTree, encode, plain}
use Rattle.wcps_types.specs.declared.bound.Bound.{Bound}
use Rattle.wcps_types.specs.Typed.{ItemTree, CombinationTree}
use Rattle.wcps_types.specs.Shapes.{SlotTree, ShapeTree, is_scalar}
use Rattle.wcps_types.specs.Typing.{typ, typ_condition}
use Rattle.wcps_types.specs.Queries.{field_of_slot, item_of, plain_item, typ_item, combination_of, typ_combination, typ_each}
use Rattle.wcps_types.specs.WellTyped.{FieldsAreTyped, ConditionIsTyped, CombinationIsTyped, AreTyped}
use Rattle.wcps_types.proofs.Gives.{Gives, gives-then, gives-cond}
use Rattle.wcps_types.proofs.TypedForms.{SlotsAreTyped, ShapeIsTyped}
use Rattle.wcps_types.proofs.Sound.{typ-typed, only-where}

abbrev ItemIsTyped : List Signature → ItemTree → Type 0
ItemIsTyped cs i = FieldsAreTyped cs i.domain i.fields

fields-typed : (cs : List Signature) (dom : List Axis) (slots : List SlotTree) → SlotsAreTyped cs [] dom slots → FieldsAreTyped cs dom (map field_of_slot slots)
fields-typed cs dom [] h = tt
fields-typed cs dom (s ∷ slots) h = (h.0, fields-typed cs dom slots h.1)

whole-typed : (cs : List Signature) (s : ShapeTree) → ShapeIsTyped cs [] s → Gives (ItemIsTyped cs) (item_of s)
whole-typed cs s h = fields-typed cs s.domain s.fields h

item-typed : (cs : List Signature) (bound : List Bound) (i : tree.ItemTree) → Gives (ItemIsTyped cs) (typ_item cs bound [] i)
item-typed cs bound (encode e) =
    gives-then (ShapeIsTyped cs []) (ItemIsTyped cs) (typ cs bound [] e) item_of (typ-typed cs bound [] [] refl e) (λ s h. whole-typed cs s h)
item-typed cs bound (plain e) =
    gives-then (ShapeIsTyped cs []) (ItemIsTyped cs) (typ cs bound [] e) plain_item (typ-typed cs bound [] [] refl e)
    (λ s h. gives-cond (ItemIsTyped cs) (is_scalar s.domain) _ _ (λ _. whole-typed cs s h) (λ _. tt))

combination-typed : (cs : List Signature) (q : QueryTree) (bound : List Bound) → Gives (CombinationIsTyped cs) (typ_combination cs q bound)
combination-typed cs q bound =
    gives-then (ConditionIsTyped cs []) (CombinationIsTyped cs) (typ_condition cs bound [] q.condition) _ (only-where cs bound [] [] refl q.condition)
    (λ c h. gives-then (ItemIsTyped cs) (CombinationIsTyped cs) (typ_item cs bound [] q.item) (combination_of c) (item-typed cs bound q.item) (λ i k. (h, k)))

typed-last : (cs : List Signature) (done : List CombinationTree) (c : CombinationTree) → AreTyped cs done → CombinationIsTyped cs c → AreTyped cs (done ++ c ∷ [])
typed-last cs [] c h k = (k, tt)
typed-last cs (d ∷ done) c h k = (h.0, typed-last cs done c h.1 k)

each-gives : (cs : List Signature) (q : QueryTree) (done : List CombinationTree) → AreTyped cs done → (choices : List (List Bound)) → Gives (AreTyped cs) (typ_each cs q done choices)
each-gives cs q done h [] = h
each-gives cs q done h (bound ∷ choices) =
    gives-then (CombinationIsTyped cs) (AreTyped cs) (typ_combination cs q bound) _ (combination-typed cs q bound)
    (λ c k. each-gives cs q (done ++ c ∷ []) (typed-last cs done c h k) choices)

-- the combinations that the check gives
pub each-typed : (cs : List Signature) (q : QueryTree) (choices : List (List Bound)) (all : List CombinationTree) → typ_each cs q [] choices ≡ Ok all → AreTyped cs all
each-typed cs q choices all e = subst (Gives (AreTyped cs)) e (each-gives cs q [] tt choices)
