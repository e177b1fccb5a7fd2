-- What is typed is well typed.
use Rattle.std.proofs.Common.{◌≡◌, ℕ, List, [], ◌∷◌, ◌++◌, length, refl, arith, length-append}
use Rattle.std.specs.Prelude.{is_some}
use Rattle.arr_core.specs.declared.domain.Axis.{Axis}
use Rattle.arr_core.specs.declared.signature.Signature.{Signature}
use Rattle.arr_core.specs.Domains.{axis_place}
use Rattle.wcps_text.specs.Tree as tree
use Rattle.wcps_text.specs.Tree.{Tree, Parts, no_parts, part, Subs, no_subs, sub, PlaceTree, trim, at, Iters, no_iters, iter, Condition, always, only}
use Rattle.wcps_types.specs.declared.bound.Bound.{Bound}
use Rattle.wcps_types.specs.Shapes.{ShapeTree, then_of, only_field, only_scalar}
use Rattle.wcps_types.specs.Brackets.{BoundsOf, BracketTree, opened, place_to_cut, position_of}
use Rattle.wcps_types.specs.Records.{PieceTrees, no_pieces, is_part, with_part}
use Rattle.wcps_types.specs.Boxes.{IteratorTrees, no_iterators, is_taken, axis_of, with_axis, with_iterator, is_domain, box_of, array_on, condition_of}
use Rattle.wcps_types.specs.Typing.{some_condition, closed_on, array_of, condition_tree, typ, typ_parts, typ_subs, typ_place, typ_interval, typ_iters, typ_condition}
use Rattle.wcps_types.specs.WellTyped.{IsTyped, ConditionIsTyped}
use Rattle.wcps_types.proofs.Gives.{Gives, gives-then, gives-cond, gives-any}
use Rattle.wcps_types.proofs.TypedForms.{ShapeIsTyped, FieldIsTyped, ScalarIsTyped, variable-typed, field-typed, scalar-typed, selected-typed, unary-typed, binary-typed, reduction-typed, array-typed, condition-typed, condensed-typed, list-typed}
use Rattle.wcps_types.proofs.TypedBrackets.{BracketIsTyped, opened-typed, trim-typed, position-typed, cut-typed, closed-typed, RecordIsTyped, part-typed, record-typed}

-- as many variables as axes
abbrev pub ArePaired : IteratorTrees → Type 0
ArePaired is = length is.axes ≡ length is.variables

abbrev IsAsLong : List (List ℕ) → List Axis → Type 0
IsAsLong names box = length box ≡ length names

paired-more : (names : List (List ℕ)) (axes : List Axis) (v : List ℕ) (a : Axis) → length axes ≡ length names → length (axes ++ a ∷ []) ≡ length (names ++ v ∷ [])
paired-more names axes v a e = omega (arith, e, length-append axes (a ∷ []), length-append names (v ∷ []))

iterator-paired : (v x : List ℕ) (i : BoundsOf) (is : IteratorTrees) → ArePaired is → Gives ArePaired (with_iterator v x i is)
iterator-paired v x i is e =
    gives-then (λ (_ : Axis). Unit {0}) ArePaired (axis_of x i) (with_axis v is) (gives-any (axis_of x i)) (λ a _. paired-more is.variables is.axes v a e)

box-paired : (is : IteratorTrees) → ArePaired is → Gives (IsAsLong is.variables) (box_of is.axes)
box-paired is e = gives-cond (IsAsLong is.variables) (is_domain is.axes) _ _ (λ _. e) (λ _. tt)

deeper : (names more : List (List ℕ)) (scope box : List Axis) → length scope ≡ length names → length box ≡ length more → length (scope ++ box) ≡ length (names ++ more)
deeper names more scope box e f = omega (arith, e, f, length-append scope box, length-append names more)

where-typed : (cs : List Signature) (scope : List Axis) (s : ShapeTree) → ShapeIsTyped cs scope s → Gives (ConditionIsTyped cs scope) (condition_tree s)
where-typed cs scope s h =
    gives-then (ScalarIsTyped cs scope) (ConditionIsTyped cs scope) (only_scalar s) _ (scalar-typed cs scope s.domain s.fields h)
    (λ t k. gives-then (λ u. IsTyped cs u scope []) (ConditionIsTyped cs scope) (condition_of t) some_condition (condition-typed cs scope t k) (λ u l. l))

array-of : (cs : List Signature) (scope box : List Axis) (s : ShapeTree) → ShapeIsTyped cs (scope ++ box) s → Gives (ShapeIsTyped cs scope) (array_of box s)
array-of cs scope box s h =
    gives-then (ScalarIsTyped cs (scope ++ box)) (ShapeIsTyped cs scope) (only_scalar s) (array_on box) (scalar-typed cs (scope ++ box) s.domain s.fields h) (λ t k. array-typed cs scope box t k)

mutual
  pub typ-typed : (cs : List Signature) (bound : List Bound) (names : List (List ℕ)) (scope : List Axis) → length scope ≡ length names → (e : Tree) → Gives (ShapeIsTyped cs scope) (typ cs bound names e)
  typ-typed cs bound names scope l (tree.number n) = (tt, tt)
  typ-typed cs bound names scope l (tree.truth b) = (tt, tt)
  typ-typed cs bound names scope l (tree.variable x) = variable-typed cs bound names scope x l
  typ-typed cs bound names scope l (tree.unary op e) =
      gives-then (ShapeIsTyped cs scope) (ShapeIsTyped cs scope) (typ cs bound names e) _ (typ-typed cs bound names scope l e) (λ s h. unary-typed cs scope op s h)
  typ-typed cs bound names scope l (tree.binary op x y) =
      gives-then (ShapeIsTyped cs scope) (ShapeIsTyped cs scope) (typ cs bound names x) _ (typ-typed cs bound names scope l x)
      (λ s h. gives-then (ShapeIsTyped cs scope) (ShapeIsTyped cs scope) (typ cs bound names y) _ (typ-typed cs bound names scope l y) (λ t k. binary-typed cs scope op s t h k))
  typ-typed cs bound names scope l (tree.reduce op e) =
      gives-then (ShapeIsTyped cs scope) (ShapeIsTyped cs scope) (typ cs bound names e) _ (typ-typed cs bound names scope l e) (λ s h. reduction-typed cs scope op s h)
  typ-typed cs bound names scope l (tree.parts ps) = parts-typed cs bound names scope l no_pieces tt ps
  typ-typed cs bound names scope l (tree.value_list is items) =
      gives-then ArePaired (ShapeIsTyped cs scope) (typ_iters cs bound names no_iterators is) _ (iters-paired cs bound names no_iterators refl is)
      (λ i e. gives-then (IsAsLong i.variables) (ShapeIsTyped cs scope) (box_of i.axes) _ (box-paired i e) (λ box _. list-typed cs scope box items))
  typ-typed cs bound names scope l (tree.field e x) =
      gives-then (ShapeIsTyped cs scope) (ShapeIsTyped cs scope) (typ cs bound names e) _ (typ-typed cs bound names scope l e) (λ s h. selected-typed cs scope x s.domain s.fields h)
  typ-typed cs bound names scope l (tree.brackets e ss) =
      gives-then (ShapeIsTyped cs scope) (ShapeIsTyped cs scope) (typ cs bound names e) _ (typ-typed cs bound names scope l e)
      (λ s h. gives-then (BracketIsTyped cs scope s.domain) (ShapeIsTyped cs scope) (typ_subs cs bound names (opened s.domain) ss) (closed_on s) (subs-typed cs bound names scope l s.domain (opened s.domain) (opened-typed cs scope s.domain) ss)
      (λ b k. closed-typed cs scope s.domain b s.fields k h))
  typ-typed cs bound names scope l (tree.coverage is e) =
      gives-then ArePaired (ShapeIsTyped cs scope) (typ_iters cs bound names no_iterators is) _ (iters-paired cs bound names no_iterators refl is)
      (λ i p. gives-then (IsAsLong i.variables) (ShapeIsTyped cs scope) (box_of i.axes) _ (box-paired i p)
      (λ box q. gives-then (ShapeIsTyped cs (scope ++ box)) (ShapeIsTyped cs scope) (typ cs bound (names ++ i.variables) e) (array_of box)
      (typ-typed cs bound (names ++ i.variables) (scope ++ box) (deeper names i.variables scope box l q) e) (λ s h. array-of cs scope box s h)))
  typ-typed cs bound names scope l (tree.condense op is c e) =
      gives-then ArePaired (ShapeIsTyped cs scope) (typ_iters cs bound names no_iterators is) _ (iters-paired cs bound names no_iterators refl is)
      (λ i p. gives-then (IsAsLong i.variables) (ShapeIsTyped cs scope) (box_of i.axes) _ (box-paired i p)
      (λ box q. gives-then (ConditionIsTyped cs (scope ++ box)) (ShapeIsTyped cs scope) (typ_condition cs bound (names ++ i.variables) c) _
      (only-where cs bound (names ++ i.variables) (scope ++ box) (deeper names i.variables scope box l q) c)
      (λ w k. gives-then (ShapeIsTyped cs (scope ++ box)) (ShapeIsTyped cs scope) (typ cs bound (names ++ i.variables) e) _
      (typ-typed cs bound (names ++ i.variables) (scope ++ box) (deeper names i.variables scope box l q) e)
      (λ s h. gives-then (ScalarIsTyped cs (scope ++ box)) (ShapeIsTyped cs scope) (only_scalar s) _ (scalar-typed cs (scope ++ box) s.domain s.fields h) (λ t r. condensed-typed cs scope op box w t k r)))))

  parts-typed : (cs : List Signature) (bound : List Bound) (names : List (List ℕ)) (scope : List Axis) → length scope ≡ length names → (ps : PieceTrees) → RecordIsTyped cs scope ps → (more : Parts) → Gives (ShapeIsTyped cs scope) (typ_parts cs bound names ps more)
  parts-typed cs bound names scope l ps h no_parts = record-typed cs scope ps h
  parts-typed cs bound names scope l ps h (part x e more) =
      gives-cond (ShapeIsTyped cs scope) (is_part x ps.pieces) _ _ (λ _. tt)
      (λ _. gives-then (ShapeIsTyped cs scope) (ShapeIsTyped cs scope) (typ cs bound names e) _ (typ-typed cs bound names scope l e)
      (λ s k. gives-then (FieldIsTyped cs scope) (ShapeIsTyped cs scope) (only_field s.domain s.fields) _ (field-typed cs scope s.domain s.fields k)
      (λ f m. gives-then (RecordIsTyped cs scope) (ShapeIsTyped cs scope) (with_part x f ps) _ (part-typed cs scope x f ps h m) (λ qs n. parts-typed cs bound names scope l qs n more))))

  subs-typed : (cs : List Signature) (bound : List Bound) (names : List (List ℕ)) (scope : List Axis) → length scope ≡ length names → (dom : List Axis) (b : BracketTree) → BracketIsTyped cs scope dom b → (ss : Subs) → Gives (BracketIsTyped cs scope dom) (typ_subs cs bound names b ss)
  subs-typed cs bound names scope l dom b h no_subs = h
  subs-typed cs bound names scope l dom b h (sub x p more) =
      gives-then (BracketIsTyped cs scope dom) (BracketIsTyped cs scope dom) (then_of (place_to_cut x b) (λ (k : ℕ). typ_place cs bound names k x b p)) _
      (gives-then (λ (_ : ℕ). Unit {0}) (BracketIsTyped cs scope dom) (place_to_cut x b) _ (gives-any (place_to_cut x b)) (λ k _. place-typed cs bound names scope l dom k x b h p))
      (λ c k. subs-typed cs bound names scope l dom c k more)

  place-typed : (cs : List Signature) (bound : List Bound) (names : List (List ℕ)) (scope : List Axis) → length scope ≡ length names → (dom : List Axis) (k : ℕ) (x : List ℕ) (b : BracketTree) → BracketIsTyped cs scope dom b → (p : PlaceTree) → Gives (BracketIsTyped cs scope dom) (typ_place cs bound names k x b p)
  place-typed cs bound names scope l dom k x b h (trim i) =
      gives-then (λ (_ : BoundsOf). Unit {0}) (BracketIsTyped cs scope dom) (typ_interval cs bound names i) _ (gives-any (typ_interval cs bound names i)) (λ j _. trim-typed cs scope dom k x j b h)
  place-typed cs bound names scope l dom k x b h (at e) =
      gives-then (ShapeIsTyped cs scope) (BracketIsTyped cs scope dom) (typ cs bound names e) _ (typ-typed cs bound names scope l e)
      (λ s m. gives-then (λ t. IsTyped cs t scope []) (BracketIsTyped cs scope dom) (position_of s) _ (position-typed cs scope s m) (λ t n. cut-typed cs scope dom x t b h n))

  iters-paired : (cs : List Signature) (bound : List Bound) (names : List (List ℕ)) (is : IteratorTrees) → ArePaired is → (more : Iters) → Gives ArePaired (typ_iters cs bound names is more)
  iters-paired cs bound names is e no_iters = e
  iters-paired cs bound names is e (iter v x i more) =
      gives-cond ArePaired (is_taken bound names is.variables v) _ _ (λ _. tt)
      (λ _. gives-cond ArePaired (is_some (axis_place x is.axes)) _ _ (λ _. tt)
      (λ _. gives-then (λ (_ : BoundsOf). Unit {0}) ArePaired (typ_interval cs bound names i) _ (gives-any (typ_interval cs bound names i))
      (λ j _. gives-then ArePaired ArePaired (with_iterator v x j is) _ (iterator-paired v x j is e) (λ js p. iters-paired cs bound names js p more))))

  pub only-where : (cs : List Signature) (bound : List Bound) (names : List (List ℕ)) (scope : List Axis) → length scope ≡ length names → (c : Condition) → Gives (ConditionIsTyped cs scope) (typ_condition cs bound names c)
  only-where cs bound names scope l always = tt
  only-where cs bound names scope l (only e) =
      gives-then (ShapeIsTyped cs scope) (ConditionIsTyped cs scope) (typ cs bound names e) condition_tree (typ-typed cs bound names scope l e) (λ s h. where-typed cs scope s h)
