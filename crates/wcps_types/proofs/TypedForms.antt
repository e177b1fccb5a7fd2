-- The forms of an expression keep their trees typed.
use Rattle.std.proofs.Common.{◌≡◌, ℕ, ◌+◌, ◌<◌, ◌≤◌, ◌≤ℤ◌, Bool, true, false, cond, not, ◌&&◌, ◌||◌, List, [], ◌∷◌, ◌++◌, length, refl, subst, sym, ◌∙◌, arith, Option, Some, None}
use Rattle.std.specs.Prelude.{slice_get, IfSome, nat_lt, nat_eq}
use Rattle.std.specs.Ordering.{int_eq}
use Rattle.std.specs.List.{list_all}
use Rattle.std.specs.Str.{bytes_eq}
use Rattle.std.proofs.lemmas.Int.{ints}
use Rattle.std.proofs.lemmas.Bool.{and_parts, false≢true, ltb-true, eqb-true}
use Rattle.std.proofs.lemmas.List.{length-map}
use Rattle.arr_core.specs.declared.domain.Axis.{Axis}
use Rattle.arr_core.specs.declared.field.Field.{Field}
use Rattle.arr_core.specs.declared.signature.Signature.{Signature}
use Rattle.arr_core.specs.Domains.{count}
use Rattle.wcps_text.specs.declared.operator.UnaryOperator.{UnaryOperator}
use Rattle.wcps_text.specs.declared.operator.UnaryOperator.TheVariants as unaries
use Rattle.wcps_text.specs.declared.operator.BinaryOperator.{BinaryOperator}
use Rattle.wcps_text.specs.declared.operator.BinaryOperator.TheVariants as binaries
use Rattle.wcps_text.specs.declared.operator.Aggregate.{Aggregate}
use Rattle.wcps_text.specs.declared.operator.Aggregate.TheVariants as aggregates
use Rattle.wcps_text.specs.declared.tree.ListItem.{ListItem}
use Rattle.wcps_types.specs.declared.bound.Bound.{Bound}
use Rattle.wcps_types.specs.Typed.{Typed, condense_of}
use Rattle.wcps_types.specs.Names.{name_place, bound_place, is_name_of}
use Rattle.wcps_types.specs.Shapes.{SlotTree, ShapeTree, FieldOf, ScalarOf, Answer, then_of, only_field, only_scalar}
use Rattle.wcps_types.specs.Variables.{cells_from, coverage_at, bound_at, bound_of, iterator_or, variable}
use Rattle.wcps_types.specs.Operators.{selected, made_of, negated, unary, is_same_axis, are_same, OperandTrees, joined, binary_shape, numeric, logical, binary, reduced_integer, integer_reduction, reduced_boolean, boolean_reduction, reduction}
use Rattle.wcps_types.specs.Boxes.{array_on, condition_of, integers_condensed, booleans_condensed, condensed, item_number, listed_on, has_kind, first_is_truth, value_list}
use Rattle.wcps_types.specs.WellTyped.{LieWithin, HasCells, IsTyped, ConditionIsTyped}
use Rattle.wcps_types.proofs.Gives.{Gives, gives-then, gives-cond}
use Rattle.wcps_types.proofs.Narrower.{within-refl, typed-narrow}

-- what each field of a value stands on
abbrev pub SlotsAreTyped : List Signature → List Axis → List Axis → List SlotTree → Type 0
SlotsAreTyped cs scope dom [] = Unit {0}
SlotsAreTyped cs scope dom (s ∷ slots) = IsTyped cs s.tree scope dom × SlotsAreTyped cs scope dom slots

abbrev pub ShapeIsTyped : List Signature → List Axis → ShapeTree → Type 0
ShapeIsTyped cs scope s = SlotsAreTyped cs scope s.domain s.fields

abbrev pub FieldIsTyped : List Signature → List Axis → FieldOf → Type 0
FieldIsTyped cs scope f = IsTyped cs f.tree scope f.domain

abbrev pub ScalarIsTyped : List Signature → List Axis → ScalarOf → Type 0
ScalarIsTyped cs scope f = IsTyped cs f.tree scope []

abbrev pub OperandsAreTyped : List Signature → List Axis → OperandTrees → Type 0
OperandsAreTyped cs scope o = IsTyped cs o.left scope o.domain × IsTyped cs o.right scope o.domain

-- ---- variables

cells-typed : (cs : List Signature) (c : ℕ) (s : Signature) (scope : List Axis) (k : ℕ) (fields : List Field) → slice_get cs c ≡ Some s → k + length fields ≤ length s.fields → SlotsAreTyped cs scope s.domain (cells_from c k fields)
cells-typed cs c s scope k [] e h = tt
cells-typed cs c s scope k (f ∷ fields) e h =
    let lt : k < length s.fields = omega (arith, h) in
    (subst (λ (o : Option Signature). HasCells o k s.domain) (sym e) (lt, within-refl s.domain), cells-typed cs c s scope (k + 1) fields e (omega (arith, h)))

coverage-typed : (cs : List Signature) (c : ℕ) (scope : List Axis) (o : Option Signature) → slice_get cs c ≡ o → Gives (ShapeIsTyped cs scope) (coverage_at c o)
coverage-typed cs c scope None e = tt
coverage-typed cs c scope (Some s) e = cells-typed cs c s scope 0 s.fields e (omega arith)

bound-typed : (cs : List Signature) (scope : List Axis) (o : Option Bound) → Gives (ShapeIsTyped cs scope) (bound_at cs o)
bound-typed cs scope None = tt
bound-typed cs scope (Some b) = coverage-typed cs b.coverage scope (slice_get cs b.coverage) refl

place-typed : (cs : List Signature) (bound : List Bound) (scope : List Axis) (o : Option ℕ) → Gives (ShapeIsTyped cs scope) (bound_of cs bound o)
place-typed cs bound scope None = tt
place-typed cs bound scope (Some k) = bound-typed cs scope (slice_get bound k)

iterator-typed : (cs : List Signature) (scope : List Axis) (o : Option ℕ) (a : Answer ShapeTree) → IfSome o (λ k. k < length scope) → Gives (ShapeIsTyped cs scope) a → Gives (ShapeIsTyped cs scope) (iterator_or o a)
iterator-typed cs scope None a h k = k
iterator-typed cs scope (Some level) a h k = (h, tt)

-- the place of what is found is one in the list
found-inside : (n m : ℕ) → IfSome (cond (nat_lt n m) (Some n) None) (λ k. k < m)
found-inside n m = by_test (nat_lt n m) n m (λ e. ltb-true n m e)
  where
    by_test : (b : Bool) (n m : ℕ) → (b ≡ true → n < m) → IfSome (cond b (Some n) None) (λ k. k < m)
    by_test true n m h = h refl
    by_test false n m h = tt

pub variable-typed : (cs : List Signature) (bound : List Bound) (names : List (List ℕ)) (scope : List Axis) (name : List ℕ) → length scope ≡ length names → Gives (ShapeIsTyped cs scope) (variable cs bound names name)
variable-typed cs bound names scope name e =
    let inside : IfSome (name_place name names) (λ k. k < length names) = found-inside _ (length names) in
    iterator-typed cs scope (name_place name names) _ (subst (λ n. IfSome (name_place name names) (λ k. k < n)) (sym e) inside) (place-typed cs bound scope (bound_place name bound))

-- ---- one field

pub field-typed : (cs : List Signature) (scope dom : List Axis) (slots : List SlotTree) → SlotsAreTyped cs scope dom slots → Gives (FieldIsTyped cs scope) (only_field dom slots)
field-typed cs scope dom [] h = tt
field-typed cs scope dom (s ∷ []) h = h.0
field-typed cs scope dom (s ∷ t ∷ more) h = tt

pub scalar-typed : (cs : List Signature) (scope dom : List Axis) (slots : List SlotTree) → SlotsAreTyped cs scope dom slots → Gives (ScalarIsTyped cs scope) (only_scalar (record { domain = dom; fields = slots }))
scalar-typed cs scope [] [] h = tt
scalar-typed cs scope [] (s ∷ []) h = h.0
scalar-typed cs scope [] (s ∷ t ∷ more) h = tt
scalar-typed cs scope (a ∷ dom) slots h = tt

pub selected-typed : (cs : List Signature) (scope : List Axis) (name : List ℕ) (dom : List Axis) (slots : List SlotTree) → SlotsAreTyped cs scope dom slots → Gives (ShapeIsTyped cs scope) (selected name dom slots)
selected-typed cs scope name dom [] h = tt
selected-typed cs scope name dom (s ∷ slots) h =
    gives-cond (ShapeIsTyped cs scope) (is_name_of name s.name) _ _ (λ _. (h.0, tt)) (λ _. selected-typed cs scope name dom slots h.1)

-- ---- operators

made-typed : (cs : List Signature) (scope : List Axis) (op : UnaryOperator) (s : ShapeTree) → ShapeIsTyped cs scope s → Gives (ShapeIsTyped cs scope) (then_of (only_field s.domain s.fields) (made_of op))
made-typed cs scope op s h = gives-then (FieldIsTyped cs scope) (ShapeIsTyped cs scope) (only_field s.domain s.fields) (made_of op) (field-typed cs scope s.domain s.fields h) (λ f k. (k, tt))

pub unary-typed : (cs : List Signature) (scope : List Axis) (op : UnaryOperator) (s : ShapeTree) → ShapeIsTyped cs scope s → Gives (ShapeIsTyped cs scope) (unary op s)
unary-typed cs scope unaries.Negate s h = made-typed cs scope unaries.Negate s h
unary-typed cs scope unaries.Plus s h = made-typed cs scope unaries.Plus s h
unary-typed cs scope unaries.Absolute s h = made-typed cs scope unaries.Absolute s h
unary-typed cs scope unaries.Not s h =
    gives-then (FieldIsTyped cs scope) (ShapeIsTyped cs scope) (only_field s.domain s.fields) negated (field-typed cs scope s.domain s.fields h)
    (λ f k. gives-cond (ShapeIsTyped cs scope) f.boolean _ _ (λ _. (k, tt)) (λ _. tt))

axis-within : (a b : Axis) → is_same_axis a b ≡ true → (b.lo ≤ℤ a.lo) × (a.hi ≤ℤ b.hi)
axis-within a b e =
    let both = and_parts (bytes_eq a.name b.name && int_eq a.lo b.lo) (int_eq a.hi b.hi) e in
    let lo = (and_parts (bytes_eq a.name b.name) (int_eq a.lo b.lo) both.0).1 in
    let hi = both.1 in
    (grind (arith, ints, lo), grind (arith, ints, hi))

axis-around : (a b : Axis) → is_same_axis a b ≡ true → (a.lo ≤ℤ b.lo) × (b.hi ≤ℤ a.hi)
axis-around a b e =
    let both = and_parts (bytes_eq a.name b.name && int_eq a.lo b.lo) (int_eq a.hi b.hi) e in
    let lo = (and_parts (bytes_eq a.name b.name) (int_eq a.lo b.lo) both.0).1 in
    let hi = both.1 in
    (grind (arith, ints, lo), grind (arith, ints, hi))

-- axes that are the same have the same coordinates, either way round
pub same-within : (axes others : List Axis) → are_same axes others ≡ true → LieWithin others axes
same-within [] [] e = tt
same-within [] (b ∷ others) e = absurd (false≢true e)
same-within (a ∷ axes) [] e = absurd (false≢true e)
same-within (a ∷ axes) (b ∷ others) e =
    let parts = and_parts (is_same_axis a b) (are_same axes others) e in
    let first = axis-around a b parts.0 in
    (first.0, first.1, same-within axes others parts.1)

pub within-same : (axes others : List Axis) → are_same axes others ≡ true → LieWithin axes others
within-same [] [] e = tt
within-same [] (b ∷ others) e = absurd (false≢true e)
within-same (a ∷ axes) [] e = absurd (false≢true e)
within-same (a ∷ axes) (b ∷ others) e =
    let parts = and_parts (is_same_axis a b) (are_same axes others) e in
    let first = axis-within a b parts.0 in
    (first.0, first.1, within-same axes others parts.1)

joined-typed : (cs : List Signature) (scope left right : List Axis) (lb rb : Bool) (l r : Typed) → IsTyped cs l scope left → IsTyped cs r scope right
    → Gives (OperandsAreTyped cs scope) (joined (record { domain = left; boolean = lb; tree = l }) (record { domain = right; boolean = rb; tree = r }))
joined-typed cs scope [] [] lb rb l r h k = (h, k)
joined-typed cs scope [] (b ∷ right) lb rb l r h k = (h, k)
joined-typed cs scope (a ∷ left) [] lb rb l r h k = (h, k)
joined-typed cs scope (a ∷ left) (b ∷ right) lb rb l r h k =
    gives-cond (OperandsAreTyped cs scope) (are_same (a ∷ left) (b ∷ right)) _ _ (λ e. (h, typed-narrow cs r scope scope (b ∷ right) (a ∷ left) refl (within-same (a ∷ left) (b ∷ right) e) k)) (λ _. tt)

combined-typed : (cs : List Signature) (scope : List Axis) (op : BinaryOperator) (boolean : Bool) (f g : FieldOf) → FieldIsTyped cs scope f → FieldIsTyped cs scope g → Gives (ShapeIsTyped cs scope) (then_of (joined f g) (binary_shape op boolean))
combined-typed cs scope op boolean f g h k =
    gives-then (OperandsAreTyped cs scope) (ShapeIsTyped cs scope) (joined f g) (binary_shape op boolean) (joined-typed cs scope f.domain g.domain f.boolean g.boolean f.tree g.tree h k) (λ o p. (p, tt))

numeric-typed : (cs : List Signature) (scope : List Axis) (op : BinaryOperator) (boolean : Bool) (l r : ShapeTree) → ShapeIsTyped cs scope l → ShapeIsTyped cs scope r → Gives (ShapeIsTyped cs scope) (numeric op boolean l r)
numeric-typed cs scope op boolean l r h k =
    gives-then (FieldIsTyped cs scope) (ShapeIsTyped cs scope) (only_field l.domain l.fields) _ (field-typed cs scope l.domain l.fields h)
    (λ f p. gives-then (FieldIsTyped cs scope) (ShapeIsTyped cs scope) (only_field r.domain r.fields) _ (field-typed cs scope r.domain r.fields k) (λ g q. combined-typed cs scope op boolean f g p q))

logical-typed : (cs : List Signature) (scope : List Axis) (op : BinaryOperator) (l r : ShapeTree) → ShapeIsTyped cs scope l → ShapeIsTyped cs scope r → Gives (ShapeIsTyped cs scope) (logical op l r)
logical-typed cs scope op l r h k =
    gives-then (FieldIsTyped cs scope) (ShapeIsTyped cs scope) (only_field l.domain l.fields) _ (field-typed cs scope l.domain l.fields h)
    (λ f p. gives-then (FieldIsTyped cs scope) (ShapeIsTyped cs scope) (only_field r.domain r.fields) _ (field-typed cs scope r.domain r.fields k)
    (λ g q. gives-cond (ShapeIsTyped cs scope) (not f.boolean || not g.boolean) _ _ (λ _. tt) (λ _. combined-typed cs scope op true f g p q)))

pub binary-typed : (cs : List Signature) (scope : List Axis) (op : BinaryOperator) (l r : ShapeTree) → ShapeIsTyped cs scope l → ShapeIsTyped cs scope r → Gives (ShapeIsTyped cs scope) (binary op l r)
binary-typed cs scope binaries.Multiply l r h k = numeric-typed cs scope binaries.Multiply false l r h k
binary-typed cs scope binaries.Divide l r h k = numeric-typed cs scope binaries.Divide false l r h k
binary-typed cs scope binaries.Add l r h k = numeric-typed cs scope binaries.Add false l r h k
binary-typed cs scope binaries.Subtract l r h k = numeric-typed cs scope binaries.Subtract false l r h k
binary-typed cs scope binaries.Less l r h k = numeric-typed cs scope binaries.Less true l r h k
binary-typed cs scope binaries.LessEqual l r h k = numeric-typed cs scope binaries.LessEqual true l r h k
binary-typed cs scope binaries.Greater l r h k = numeric-typed cs scope binaries.Greater true l r h k
binary-typed cs scope binaries.GreaterEqual l r h k = numeric-typed cs scope binaries.GreaterEqual true l r h k
binary-typed cs scope binaries.Equal l r h k = numeric-typed cs scope binaries.Equal true l r h k
binary-typed cs scope binaries.NotEqual l r h k = numeric-typed cs scope binaries.NotEqual true l r h k
binary-typed cs scope binaries.And l r h k = logical-typed cs scope binaries.And l r h k
binary-typed cs scope binaries.Or l r h k = logical-typed cs scope binaries.Or l r h k
binary-typed cs scope binaries.Xor l r h k = logical-typed cs scope binaries.Xor l r h k
binary-typed cs scope binaries.Bit l r h k = numeric-typed cs scope binaries.Bit true l r h k

integers-typed : (cs : List Signature) (scope : List Axis) (op : Aggregate) (s : ShapeTree) → ShapeIsTyped cs scope s → Gives (ShapeIsTyped cs scope) (integer_reduction op s)
integers-typed cs scope op s h =
    gives-then (FieldIsTyped cs scope) (ShapeIsTyped cs scope) (only_field s.domain s.fields) (reduced_integer op) (field-typed cs scope s.domain s.fields h)
    (λ f k. gives-cond (ShapeIsTyped cs scope) f.boolean _ _ (λ _. tt) (λ _. (k, tt)))

booleans-typed : (cs : List Signature) (scope : List Axis) (op : Aggregate) (boolean : Bool) (s : ShapeTree) → ShapeIsTyped cs scope s → Gives (ShapeIsTyped cs scope) (boolean_reduction op boolean s)
booleans-typed cs scope op boolean s h =
    gives-then (FieldIsTyped cs scope) (ShapeIsTyped cs scope) (only_field s.domain s.fields) (reduced_boolean op boolean) (field-typed cs scope s.domain s.fields h)
    (λ f k. gives-cond (ShapeIsTyped cs scope) f.boolean _ _ (λ _. (k, tt)) (λ _. tt))

pub reduction-typed : (cs : List Signature) (scope : List Axis) (op : Aggregate) (s : ShapeTree) → ShapeIsTyped cs scope s → Gives (ShapeIsTyped cs scope) (reduction op s)
reduction-typed cs scope aggregates.Count s h = booleans-typed cs scope aggregates.Count false s h
reduction-typed cs scope aggregates.Any s h = booleans-typed cs scope aggregates.Any true s h
reduction-typed cs scope aggregates.Every s h = booleans-typed cs scope aggregates.Every true s h
reduction-typed cs scope aggregates.Sum s h = integers-typed cs scope aggregates.Sum s h
reduction-typed cs scope aggregates.Average s h = integers-typed cs scope aggregates.Average s h
reduction-typed cs scope aggregates.Least s h = integers-typed cs scope aggregates.Least s h
reduction-typed cs scope aggregates.Greatest s h = integers-typed cs scope aggregates.Greatest s h
reduction-typed cs scope aggregates.Product s h = integers-typed cs scope aggregates.Product s h

-- ---- boxes

pub array-typed : (cs : List Signature) (scope box : List Axis) (s : ScalarOf) → ScalarIsTyped cs (scope ++ box) s → Gives (ShapeIsTyped cs scope) (array_on box s)
array-typed cs scope box s h = (h, tt)

pub condition-typed : (cs : List Signature) (scope : List Axis) (s : ScalarOf) → ScalarIsTyped cs scope s → Gives (λ t. IsTyped cs t scope []) (condition_of s)
condition-typed cs scope s h = gives-cond (λ t. IsTyped cs t scope []) s.boolean _ _ (λ _. h) (λ _. tt)

condenser-typed : (cs : List Signature) (scope : List Axis) (op : Aggregate) (box : List Axis) (c : Option Typed) (e : Typed) → ConditionIsTyped cs (scope ++ box) c → IsTyped cs e (scope ++ box) [] → IsTyped cs (condense_of op box c e) scope []
condenser-typed cs scope op box None e h k = k
condenser-typed cs scope op box (Some c) e h k = (h, k)

integers-condensed : (cs : List Signature) (scope : List Axis) (op : Aggregate) (box : List Axis) (c : Option Typed) (s : ScalarOf) → ConditionIsTyped cs (scope ++ box) c → ScalarIsTyped cs (scope ++ box) s → Gives (ShapeIsTyped cs scope) (integers_condensed op box c s)
integers-condensed cs scope op box c s h k = gives-cond (ShapeIsTyped cs scope) s.boolean _ _ (λ _. tt) (λ _. (condenser-typed cs scope op box c s.tree h k, tt))

booleans-condensed : (cs : List Signature) (scope : List Axis) (op : Aggregate) (boolean : Bool) (box : List Axis) (c : Option Typed) (s : ScalarOf) → ConditionIsTyped cs (scope ++ box) c → ScalarIsTyped cs (scope ++ box) s → Gives (ShapeIsTyped cs scope) (booleans_condensed op boolean box c s)
booleans-condensed cs scope op boolean box c s h k = gives-cond (ShapeIsTyped cs scope) s.boolean _ _ (λ _. (condenser-typed cs scope op box c s.tree h k, tt)) (λ _. tt)

pub condensed-typed : (cs : List Signature) (scope : List Axis) (op : Aggregate) (box : List Axis) (c : Option Typed) (s : ScalarOf) → ConditionIsTyped cs (scope ++ box) c → ScalarIsTyped cs (scope ++ box) s → Gives (ShapeIsTyped cs scope) (condensed op box c s)
condensed-typed cs scope aggregates.Sum box c s h k = integers-condensed cs scope aggregates.Sum box c s h k
condensed-typed cs scope aggregates.Product box c s h k = integers-condensed cs scope aggregates.Product box c s h k
condensed-typed cs scope aggregates.Greatest box c s h k = integers-condensed cs scope aggregates.Greatest box c s h k
condensed-typed cs scope aggregates.Least box c s h k = integers-condensed cs scope aggregates.Least box c s h k
condensed-typed cs scope aggregates.Every box c s h k = booleans-condensed cs scope aggregates.Every true box c s h k
condensed-typed cs scope aggregates.Any box c s h k = booleans-condensed cs scope aggregates.Any true box c s h k
condensed-typed cs scope aggregates.Count box c s h k = booleans-condensed cs scope aggregates.Count false box c s h k
condensed-typed cs scope aggregates.Average box c s h k = integers-condensed cs scope aggregates.Average box c s h k

listed-typed : (cs : List Signature) (scope box : List Axis) (boolean : Bool) (items : List ListItem) → length items ≡ count box → Gives (ShapeIsTyped cs scope) (listed_on boolean box items)
listed-typed cs scope box boolean items e =
    gives-cond (ShapeIsTyped cs scope) (list_all (has_kind boolean) items) _ _ (λ _. ((within-refl box, length-map items item_number ∙ e), tt)) (λ _. tt)

pub list-typed : (cs : List Signature) (scope box : List Axis) (items : List ListItem) → Gives (ShapeIsTyped cs scope) (value_list box items)
list-typed cs scope box items =
    gives-cond (ShapeIsTyped cs scope) (nat_eq (length items) (count box)) _ _ (λ e. listed-typed cs scope box (first_is_truth items) items (eqb-true (length items) (count box) e)) (λ _. tt)
