-- What is typed has its kinds.
use Rattle.std.proofs.Common.{◌≡◌, ℕ, List, [], ◌∷◌, ◌++◌, map, true, false, not, refl, subst, Some}
use Rattle.std.specs.Prelude.{Ok}
use Rattle.arr_core.specs.declared.domain.Axis.{Axis}
use Rattle.arr_core.specs.declared.signature.Signature.{Signature}
use Rattle.wcps_text.specs.Tree as tree
use Rattle.wcps_text.specs.Tree.{Tree, Parts, no_parts, part, Subs, no_subs, sub, PlaceTree, trim, at, Condition, always, only, QueryTree, encode, plain}
use Rattle.wcps_types.specs.declared.bound.Bound.{Bound}
use Rattle.wcps_types.specs.Typed.{ItemTree, CombinationTree}
use Rattle.wcps_types.specs.Shapes.{SlotTree, ShapeTree, is_scalar, then_of, only_field, only_scalar}
use Rattle.wcps_types.specs.Brackets.{BoundsOf, BracketTree, opened, place_to_cut, position_of}
use Rattle.wcps_types.specs.Records.{PieceTrees, no_pieces, is_part, with_part}
use Rattle.wcps_types.specs.Boxes.{IteratorTrees, no_iterators, box_of, array_on, condition_of}
use Rattle.wcps_types.specs.Typing.{some_condition, closed_on, array_of, condition_tree, typ, typ_parts, typ_subs, typ_place, typ_interval, typ_iters, typ_condition}
use Rattle.wcps_types.specs.Queries.{field_of_slot, item_of, plain_item, typ_item, combination_of, typ_combination, typ_each}
use Rattle.wcps_types.specs.Kinds.{HasKind, FieldsHaveKinds, ConditionIsBoolean, CombinationHasKinds, HaveKinds}
use Rattle.wcps_types.proofs.Gives.{Gives, gives-then, gives-cond, gives-any}
use Rattle.wcps_types.proofs.KindForms.{SlotsHaveKinds, ShapeHasKinds, FieldHasKind, ScalarHasKind, variable-kinds, truth-kind, field-kind, scalar-kind, selected-kinds, unary-kinds, binary-kinds, reduction-kinds, condensed-kinds, condition-kind, list-kinds, RecordHasKinds, part-kinds, finished-kinds, BracketHasKinds, cuts-last, trim-kinds, position-kind, closed-kinds}

where-boolean : (cs : List Signature) (s : ShapeTree) → ShapeHasKinds cs s → Gives (ConditionIsBoolean cs) (condition_tree s)
where-boolean cs s h =
    gives-then (ScalarHasKind cs) (ConditionIsBoolean cs) (only_scalar s) _ (scalar-kind cs s h)
    (λ t k. gives-then (λ u. HasKind cs u (Some true)) (ConditionIsBoolean cs) (condition_of t) some_condition (condition-kind cs t k) (λ u l. l))

array-of-kinds : (cs : List Signature) (box : List Axis) (s : ShapeTree) → ShapeHasKinds cs s → Gives (ShapeHasKinds cs) (array_of box s)
array-of-kinds cs box s h = gives-then (ScalarHasKind cs) (ShapeHasKinds cs) (only_scalar s) (array_on box) (scalar-kind cs s h) (λ t k. (k, tt))

mutual
  pub typ-kinds : (cs : List Signature) (bound : List Bound) (scope : List (List ℕ)) (e : Tree) → Gives (ShapeHasKinds cs) (typ cs bound scope e)
  typ-kinds cs bound scope (tree.number n) = (refl, tt)
  typ-kinds cs bound scope (tree.truth b) = (truth-kind cs b, tt)
  typ-kinds cs bound scope (tree.variable x) = variable-kinds cs bound scope x
  typ-kinds cs bound scope (tree.unary op e) =
      gives-then (ShapeHasKinds cs) (ShapeHasKinds cs) (typ cs bound scope e) _ (typ-kinds cs bound scope e) (λ s h. unary-kinds cs op s h)
  typ-kinds cs bound scope (tree.binary op l r) =
      gives-then (ShapeHasKinds cs) (ShapeHasKinds cs) (typ cs bound scope l) _ (typ-kinds cs bound scope l)
      (λ s h. gives-then (ShapeHasKinds cs) (ShapeHasKinds cs) (typ cs bound scope r) _ (typ-kinds cs bound scope r) (λ t k. binary-kinds cs op s t h k))
  typ-kinds cs bound scope (tree.reduce op e) =
      gives-then (ShapeHasKinds cs) (ShapeHasKinds cs) (typ cs bound scope e) _ (typ-kinds cs bound scope e) (λ s h. reduction-kinds cs op s h)
  typ-kinds cs bound scope (tree.parts ps) = parts-kinds cs bound scope no_pieces tt ps
  typ-kinds cs bound scope (tree.value_list is items) =
      gives-then (λ (_ : IteratorTrees). Unit {0}) (ShapeHasKinds cs) (typ_iters cs bound scope no_iterators is) _ (gives-any (typ_iters cs bound scope no_iterators is))
      (λ i _. gives-then (λ (_ : List Axis). Unit {0}) (ShapeHasKinds cs) (box_of i.axes) _ (gives-any (box_of i.axes)) (λ box _. list-kinds cs box items))
  typ-kinds cs bound scope (tree.field e x) =
      gives-then (ShapeHasKinds cs) (ShapeHasKinds cs) (typ cs bound scope e) _ (typ-kinds cs bound scope e) (λ s h. selected-kinds cs x s.domain s.fields h)
  typ-kinds cs bound scope (tree.brackets e ss) =
      gives-then (ShapeHasKinds cs) (ShapeHasKinds cs) (typ cs bound scope e) _ (typ-kinds cs bound scope e)
      (λ s h. gives-then (BracketHasKinds cs) (ShapeHasKinds cs) (typ_subs cs bound scope (opened s.domain) ss) (closed_on s) (subs-kinds cs bound scope (opened s.domain) tt ss)
      (λ b k. closed-kinds cs b s.fields k h))
  typ-kinds cs bound scope (tree.coverage is e) =
      gives-then (λ (_ : IteratorTrees). Unit {0}) (ShapeHasKinds cs) (typ_iters cs bound scope no_iterators is) _ (gives-any (typ_iters cs bound scope no_iterators is))
      (λ i _. gives-then (λ (_ : List Axis). Unit {0}) (ShapeHasKinds cs) (box_of i.axes) _ (gives-any (box_of i.axes))
      (λ box _. gives-then (ShapeHasKinds cs) (ShapeHasKinds cs) (typ cs bound (scope ++ i.variables) e) (array_of box) (typ-kinds cs bound (scope ++ i.variables) e) (λ s h. array-of-kinds cs box s h)))
  typ-kinds cs bound scope (tree.condense op is c e) =
      gives-then (λ (_ : IteratorTrees). Unit {0}) (ShapeHasKinds cs) (typ_iters cs bound scope no_iterators is) _ (gives-any (typ_iters cs bound scope no_iterators is))
      (λ i _. gives-then (λ (_ : List Axis). Unit {0}) (ShapeHasKinds cs) (box_of i.axes) _ (gives-any (box_of i.axes))
      (λ box _. gives-then (ConditionIsBoolean cs) (ShapeHasKinds cs) (typ_condition cs bound (scope ++ i.variables) c) _ (condition-kinds cs bound (scope ++ i.variables) c)
      (λ w k. gives-then (ShapeHasKinds cs) (ShapeHasKinds cs) (typ cs bound (scope ++ i.variables) e) _ (typ-kinds cs bound (scope ++ i.variables) e)
      (λ s h. gives-then (ScalarHasKind cs) (ShapeHasKinds cs) (only_scalar s) _ (scalar-kind cs s h) (λ t r. condensed-kinds cs op box w t k r)))))

  parts-kinds : (cs : List Signature) (bound : List Bound) (scope : List (List ℕ)) (ps : PieceTrees) → RecordHasKinds cs ps → (more : Parts) → Gives (ShapeHasKinds cs) (typ_parts cs bound scope ps more)
  parts-kinds cs bound scope ps h no_parts = finished-kinds cs (not (is_scalar ps.domain)) ps.pieces h
  parts-kinds cs bound scope ps h (part x e more) =
      gives-cond (ShapeHasKinds cs) (is_part x ps.pieces) _ _ (λ _. tt)
      (λ _. gives-then (ShapeHasKinds cs) (ShapeHasKinds cs) (typ cs bound scope e) _ (typ-kinds cs bound scope e)
      (λ s k. gives-then (FieldHasKind cs) (ShapeHasKinds cs) (only_field s.domain s.fields) _ (field-kind cs s.domain s.fields k)
      (λ f m. gives-then (RecordHasKinds cs) (ShapeHasKinds cs) (with_part x f ps) _ (part-kinds cs x f ps h m) (λ qs n. parts-kinds cs bound scope qs n more))))

  subs-kinds : (cs : List Signature) (bound : List Bound) (scope : List (List ℕ)) (b : BracketTree) → BracketHasKinds cs b → (ss : Subs) → Gives (BracketHasKinds cs) (typ_subs cs bound scope b ss)
  subs-kinds cs bound scope b h no_subs = h
  subs-kinds cs bound scope b h (sub x p more) =
      gives-then (BracketHasKinds cs) (BracketHasKinds cs) (then_of (place_to_cut x b) (λ (k : ℕ). typ_place cs bound scope k x b p)) _
      (gives-then (λ (_ : ℕ). Unit {0}) (BracketHasKinds cs) (place_to_cut x b) _ (gives-any (place_to_cut x b)) (λ k _. place-kinds cs bound scope k x b h p))
      (λ c k. subs-kinds cs bound scope c k more)

  place-kinds : (cs : List Signature) (bound : List Bound) (scope : List (List ℕ)) (k : ℕ) (x : List ℕ) (b : BracketTree) → BracketHasKinds cs b → (p : PlaceTree) → Gives (BracketHasKinds cs) (typ_place cs bound scope k x b p)
  place-kinds cs bound scope k x b h (trim i) =
      gives-then (λ (_ : BoundsOf). Unit {0}) (BracketHasKinds cs) (typ_interval cs bound scope i) _ (gives-any (typ_interval cs bound scope i)) (λ j _. trim-kinds cs k x j b h)
  place-kinds cs bound scope k x b h (at e) =
      gives-then (ShapeHasKinds cs) (BracketHasKinds cs) (typ cs bound scope e) _ (typ-kinds cs bound scope e)
      (λ s m. gives-then (λ t. HasKind cs t (Some false)) (BracketHasKinds cs) (position_of s) _ (position-kind cs s m)
      (λ t n. cuts-last cs b.cuts (record { axis = x; position = t }) h n))

  condition-kinds : (cs : List Signature) (bound : List Bound) (scope : List (List ℕ)) (c : Condition) → Gives (ConditionIsBoolean cs) (typ_condition cs bound scope c)
  condition-kinds cs bound scope always = tt
  condition-kinds cs bound scope (only e) =
      gives-then (ShapeHasKinds cs) (ConditionIsBoolean cs) (typ cs bound scope e) condition_tree (typ-kinds cs bound scope e) (λ s h. where-boolean cs s h)

-- ---- queries

abbrev ItemHasKinds : List Signature → ItemTree → Type 0
ItemHasKinds cs i = FieldsHaveKinds cs i.fields

fields-kinds : (cs : List Signature) (slots : List SlotTree) → SlotsHaveKinds cs slots → FieldsHaveKinds cs (map field_of_slot slots)
fields-kinds cs [] h = tt
fields-kinds cs (s ∷ slots) h = (h.0, fields-kinds cs slots h.1)

item-kinds : (cs : List Signature) (bound : List Bound) (i : tree.ItemTree) → Gives (ItemHasKinds cs) (typ_item cs bound [] i)
item-kinds cs bound (encode e) =
    gives-then (ShapeHasKinds cs) (ItemHasKinds cs) (typ cs bound [] e) item_of (typ-kinds cs bound [] e) (λ s h. fields-kinds cs s.fields h)
item-kinds cs bound (plain e) =
    gives-then (ShapeHasKinds cs) (ItemHasKinds cs) (typ cs bound [] e) plain_item (typ-kinds cs bound [] e)
    (λ s h. gives-cond (ItemHasKinds cs) (is_scalar s.domain) _ _ (λ _. fields-kinds cs s.fields h) (λ _. tt))

combination-kinds : (cs : List Signature) (q : QueryTree) (bound : List Bound) → Gives (CombinationHasKinds cs) (typ_combination cs q bound)
combination-kinds cs q bound =
    gives-then (ConditionIsBoolean cs) (CombinationHasKinds cs) (typ_condition cs bound [] q.condition) _ (condition-kinds cs bound [] q.condition)
    (λ c h. gives-then (ItemHasKinds cs) (CombinationHasKinds cs) (typ_item cs bound [] q.item) (combination_of c) (item-kinds cs bound q.item) (λ i k. (h, k)))

kinds-last : (cs : List Signature) (done : List CombinationTree) (c : CombinationTree) → HaveKinds cs done → CombinationHasKinds cs c → HaveKinds cs (done ++ c ∷ [])
kinds-last cs [] c h k = (k, tt)
kinds-last cs (d ∷ done) c h k = (h.0, kinds-last cs done c h.1 k)

each-gives : (cs : List Signature) (q : QueryTree) (done : List CombinationTree) → HaveKinds cs done → (choices : List (List Bound)) → Gives (HaveKinds cs) (typ_each cs q done choices)
each-gives cs q done h [] = h
each-gives cs q done h (bound ∷ choices) =
    gives-then (CombinationHasKinds cs) (HaveKinds cs) (typ_combination cs q bound) _ (combination-kinds cs q bound)
    (λ c k. each-gives cs q (done ++ c ∷ []) (kinds-last cs done c h k) choices)

-- the combinations that the check gives
pub each-kinds : (cs : List Signature) (q : QueryTree) (choices : List (List Bound)) (all : List CombinationTree) → typ_each cs q [] choices ≡ Ok all → HaveKinds cs all
each-kinds cs q choices all e = subst (Gives (HaveKinds cs)) e (each-gives cs q [] tt choices)
