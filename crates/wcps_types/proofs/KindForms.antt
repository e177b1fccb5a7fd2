-- The forms of an expression keep the kinds of their trees.
use Rattle.std.proofs.Common.{◌≡◌, ℕ, suc, ◌+◌, ℤ, pos, List, [], ◌∷◌, ◌++◌, map, Bool, true, false, not, ◌&&◌, ◌||◌, cond, refl, ap, sym, subst, arith, ◌∙◌, Option, Some, None}
use Rattle.std.specs.Prelude.{option_map, slice_get, nat_eq, length, int_lt}
use Rattle.std.specs.List.{list_all}
use Rattle.std.proofs.lemmas.Bool.{false≢true, true≢false}
use Rattle.arr_core.specs.declared.domain.Axis.{Axis}
use Rattle.arr_core.specs.declared.field.Field.{Field}
use Rattle.arr_core.specs.declared.signature.Signature.{Signature}
use Rattle.arr_core.specs.Domains.{count, axis_place}
use Rattle.wcps_text.specs.declared.operator.UnaryOperator.{UnaryOperator}
use Rattle.wcps_text.specs.declared.operator.UnaryOperator.TheVariants as unaries
use Rattle.wcps_text.specs.declared.operator.BinaryOperator.{BinaryOperator}
use Rattle.wcps_text.specs.declared.operator.BinaryOperator.TheVariants as binaries
use Rattle.wcps_text.specs.declared.operator.Aggregate.{Aggregate}
use Rattle.wcps_text.specs.declared.operator.Aggregate.TheVariants as aggregates
use Rattle.wcps_text.specs.declared.tree.ListItem.{ListItem}
use Rattle.wcps_text.specs.declared.tree.ListItem.TheVariants.{Int, Truth}
use Rattle.wcps_types.specs.declared.bound.Bound.{Bound}
use Rattle.wcps_types.specs.Typed.{Typed, number, iterator, cell, unary, binary, scalar, select, bracket, slice, array, listed, condense, condense_where, reduce, condense_of}
use Rattle.wcps_types.specs.Names.{name_place, bound_place, is_name_of}
use Rattle.wcps_types.specs.Shapes.{SlotTree, ShapeTree, FieldOf, ScalarOf, Answer, then_of, is_scalar, only_field, without_domain, only_scalar}
use Rattle.arr_core.specs.Cells.{is_bool}
use Rattle.wcps_types.specs.Variables.{cells_from, coverage_at, bound_at, bound_of, iterator_or, variable}
use Rattle.wcps_types.specs.Operators.{selected, made_of, negated, unary as unary_of, are_same, OperandTrees, joined, binary_shape, numeric, logical, binary as binary_of, reduced_integer, integer_reduction, reduced_boolean, boolean_reduction, reduction}
use Rattle.wcps_types.specs.Brackets.{BoundsOf, bounds_of, CutTree, BracketTree, trimmed_at, with_trim, integer_tree, position_of, sliced_slot, cut_between, cut_at, all_cut_out, bracketed_slot, closed}
use Rattle.wcps_types.specs.Records.{PieceTree, PieceTrees, with_part, finished_part}
use Rattle.wcps_types.specs.Boxes.{integers_condensed, booleans_condensed, condensed, condition_of, item_number, listed_on, has_kind, first_is_truth, value_list}
use Rattle.wcps_types.specs.Kinds.{meets, is_bit, are_kept, kind_of, cell_kind, meets_some, takes1, gives1, takes2, gives2, takes_boolean, gives_boolean, HasKind, ConditionIsBoolean}
use Rattle.wcps_types.proofs.Gives.{Gives, gives-then, gives-cond}

-- each field of a value has its kind
abbrev pub SlotsHaveKinds : List Signature → List SlotTree → Type 0
SlotsHaveKinds cs [] = Unit {0}
SlotsHaveKinds cs (s ∷ more) = HasKind cs s.tree (Some s.boolean) × SlotsHaveKinds cs more

abbrev pub ShapeHasKinds : List Signature → ShapeTree → Type 0
ShapeHasKinds cs s = SlotsHaveKinds cs s.fields

abbrev pub FieldHasKind : List Signature → FieldOf → Type 0
FieldHasKind cs f = HasKind cs f.tree (Some f.boolean)

abbrev pub ScalarHasKind : List Signature → ScalarOf → Type 0
ScalarHasKind cs s = HasKind cs s.tree (Some s.boolean)

meets-own : (b : Bool) → meets (Some b) b ≡ true
meets-own true = refl
meets-own false = refl

meets-none : (o : Option Bool) (b : Bool) → meets_some (Some b) o ≡ true → meets_some None o ≡ true
meets-none None b h = h
meets-none (Some c) b h = refl

-- what is of a kind is also of either
pub any-kind : (cs : List Signature) (t : Typed) (b : Bool) → HasKind cs t (Some b) → HasKind cs t None
any-kind cs (number z) b h = refl
any-kind cs (iterator level) b h = refl
any-kind cs (cell c f) b h = meets-none (cell_kind (slice_get cs c) f) b h
any-kind cs (unary op e) b h = (h.0, refl)
any-kind cs (binary op l r) b h = (h.0, h.1, refl)
any-kind cs (scalar e) b h = any-kind cs e b h
any-kind cs (select e) b h = any-kind cs e b h
any-kind cs (bracket e) b h = any-kind cs e b h
any-kind cs (slice e axis lo hi q) b h = (any-kind cs e b h.0, h.1)
any-kind cs (array e) b h = any-kind cs e b h
any-kind cs (listed box items) b h = refl
any-kind cs (condense op box e) b h = (h.0, refl)
any-kind cs (condense_where op box c e) b h = (h.0, h.1, refl)
any-kind cs (reduce op box e) b h = (h.0, refl)

kind-cond : (cs : List Signature) (k : Option Bool) (b : Bool) (x y : Typed) → HasKind cs x k → HasKind cs y k → HasKind cs (cond b x y) k
kind-cond cs k true x y h i = h
kind-cond cs k false x y h i = i

-- of a kind that is known
of-kind : (cs : List Signature) (t : Typed) (b c : Bool) → b ≡ c → HasKind cs t (Some b) → HasKind cs t (Some c)
of-kind cs t b c e h = subst (λ k. HasKind cs t (Some k)) e h

-- ---- variables

cells-kinds : (cs : List Signature) (c k : ℕ) (s : Signature) (fields : List Field) → slice_get cs c ≡ Some s
    → ((j : ℕ) → slice_get s.fields (k + j) ≡ slice_get fields j) → SlotsHaveKinds cs (cells_from c k fields)
cells-kinds cs c k s [] at h = tt
cells-kinds cs c k s (f ∷ fields) at h =
    let here : k + 0 ≡ k = omega arith in
    let first : slice_get s.fields k ≡ Some f = subst (λ n. slice_get s.fields n ≡ Some f) here (h 0) in
    let own : cell_kind (slice_get cs c) k ≡ Some (is_bool f.kind) = ap (λ o. cell_kind o k) at ∙ ap (option_map kind_of) first in (
      ap (meets_some (Some (is_bool f.kind))) own ∙ meets-own (is_bool f.kind),
      cells-kinds cs c (k + 1) s fields at (λ j. let e : k + suc j ≡ (k + 1) + j = omega arith in subst (λ n. slice_get s.fields n ≡ slice_get fields j) e (h (suc j))),
    )

at-kinds : (cs : List Signature) (c : ℕ) (o : Option Signature) → slice_get cs c ≡ o → Gives (ShapeHasKinds cs) (coverage_at c o)
at-kinds cs c None at = tt
at-kinds cs c (Some s) at = cells-kinds cs c 0 s s.fields at (λ j. let e : 0 + j ≡ j = omega arith in ap (λ n. slice_get s.fields n) e)

bound-kinds : (cs : List Signature) (o : Option Bound) → Gives (ShapeHasKinds cs) (bound_at cs o)
bound-kinds cs None = tt
bound-kinds cs (Some b) = at-kinds cs b.coverage (slice_get cs b.coverage) refl

of-kinds : (cs : List Signature) (bound : List Bound) (o : Option ℕ) → Gives (ShapeHasKinds cs) (bound_of cs bound o)
of-kinds cs bound None = tt
of-kinds cs bound (Some k) = bound-kinds cs (slice_get bound k)

iterator-kinds : (cs : List Signature) (o : Option ℕ) (a : Answer ShapeTree) → Gives (ShapeHasKinds cs) a → Gives (ShapeHasKinds cs) (iterator_or o a)
iterator-kinds cs None a h = h
iterator-kinds cs (Some level) a h = (refl, tt)

pub variable-kinds : (cs : List Signature) (bound : List Bound) (names : List (List ℕ)) (x : List ℕ) → Gives (ShapeHasKinds cs) (variable cs bound names x)
variable-kinds cs bound names x = iterator-kinds cs (name_place x names) _ (of-kinds cs bound (bound_place x bound))

pub truth-kind : (cs : List Signature) (b : Bool) → HasKind cs (number (cond b (pos 1) (pos 0))) (Some true)
truth-kind cs true = refl
truth-kind cs false = refl

-- ---- one field

pub field-kind : (cs : List Signature) (axes : List Axis) (slots : List SlotTree) → SlotsHaveKinds cs slots → Gives (FieldHasKind cs) (only_field axes slots)
field-kind cs axes [] h = tt
field-kind cs axes (s ∷ []) h = h.0
field-kind cs axes (s ∷ t ∷ more) h = tt

pub scalar-kind : (cs : List Signature) (s : ShapeTree) → ShapeHasKinds cs s → Gives (ScalarHasKind cs) (only_scalar s)
scalar-kind cs s h =
    gives-cond (ScalarHasKind cs) (is_scalar s.domain) _ _
    (λ _. gives-then (FieldHasKind cs) (ScalarHasKind cs) (only_field s.domain s.fields) without_domain (field-kind cs s.domain s.fields h) (λ f k. k)) (λ _. tt)

pub selected-kinds : (cs : List Signature) (x : List ℕ) (axes : List Axis) (slots : List SlotTree) → SlotsHaveKinds cs slots → Gives (ShapeHasKinds cs) (selected x axes slots)
selected-kinds cs x axes [] h = tt
selected-kinds cs x axes (s ∷ more) h =
    gives-cond (ShapeHasKinds cs) (is_name_of x s.name) _ _ (λ _. (h.0, tt)) (λ _. selected-kinds cs x axes more h.1)

-- ---- operators

made-kinds : (cs : List Signature) (op : UnaryOperator) (s : ShapeTree) → takes1 op ≡ None → gives1 op ≡ false → ShapeHasKinds cs s → Gives (ShapeHasKinds cs) (then_of (only_field s.domain s.fields) (made_of op))
made-kinds cs op s e g h =
    gives-then (FieldHasKind cs) (ShapeHasKinds cs) (only_field s.domain s.fields) (made_of op) (field-kind cs s.domain s.fields h)
    (λ f k. ((subst (HasKind cs f.tree) (sym e) (any-kind cs f.tree f.boolean k), ap (meets (Some false)) g), tt))

pub unary-kinds : (cs : List Signature) (op : UnaryOperator) (s : ShapeTree) → ShapeHasKinds cs s → Gives (ShapeHasKinds cs) (unary_of op s)
unary-kinds cs unaries.Negate s h = made-kinds cs unaries.Negate s refl refl h
unary-kinds cs unaries.Plus s h = made-kinds cs unaries.Plus s refl refl h
unary-kinds cs unaries.Absolute s h = made-kinds cs unaries.Absolute s refl refl h
unary-kinds cs unaries.Not s h =
    gives-then (FieldHasKind cs) (ShapeHasKinds cs) (only_field s.domain s.fields) negated (field-kind cs s.domain s.fields h)
    (λ f k. gives-cond (ShapeHasKinds cs) f.boolean _ _ (λ e. ((of-kind cs f.tree f.boolean true e k, refl), tt)) (λ _. tt))

-- two operands that have what is asked
abbrev OperandsHave : List Signature → Option Bool → OperandTrees → Type 0
OperandsHave cs k o = HasKind cs o.left k × HasKind cs o.right k

joined-kinds : (cs : List Signature) (k : Option Bool) (l r : FieldOf) → HasKind cs l.tree k → HasKind cs r.tree k → Gives (OperandsHave cs k) (joined l r)
joined-kinds cs k l r h i =
    gives-cond (OperandsHave cs k) (is_scalar l.domain && not (is_scalar r.domain)) _ _ (λ _. (h, i))
    (λ _. gives-cond (OperandsHave cs k) (is_scalar r.domain && not (is_scalar l.domain)) _ _ (λ _. (h, i))
    (λ _. gives-cond (OperandsHave cs k) (are_same l.domain r.domain) _ _ (λ _. (h, i)) (λ _. tt)))

combined-kinds : (cs : List Signature) (op : BinaryOperator) (b : Bool) (l r : FieldOf) → gives2 op ≡ b → HasKind cs l.tree (takes2 op) → HasKind cs r.tree (takes2 op) → Gives (ShapeHasKinds cs) (then_of (joined l r) (binary_shape op b))
combined-kinds cs op b l r g h i =
    gives-then (OperandsHave cs (takes2 op)) (ShapeHasKinds cs) (joined l r) (binary_shape op b) (joined-kinds cs (takes2 op) l r h i)
    (λ o k. ((k.0, k.1, ap (meets (Some b)) g ∙ meets-own b), tt))

numeric-kinds : (cs : List Signature) (op : BinaryOperator) (b : Bool) (l r : ShapeTree) → takes2 op ≡ None → gives2 op ≡ b → ShapeHasKinds cs l → ShapeHasKinds cs r → Gives (ShapeHasKinds cs) (numeric op b l r)
numeric-kinds cs op b l r e g h i =
    gives-then (FieldHasKind cs) (ShapeHasKinds cs) (only_field l.domain l.fields) _ (field-kind cs l.domain l.fields h)
    (λ f p. gives-then (FieldHasKind cs) (ShapeHasKinds cs) (only_field r.domain r.fields) _ (field-kind cs r.domain r.fields i)
    (λ m q. combined-kinds cs op b f m g (subst (HasKind cs f.tree) (sym e) (any-kind cs f.tree f.boolean p)) (subst (HasKind cs m.tree) (sym e) (any-kind cs m.tree m.boolean q))))

both-true : (a b : Bool) → not a || not b ≡ false → (a ≡ true) × (b ≡ true)
both-true true true e = (refl, refl)
both-true true false e = absurd (true≢false e)
both-true false b e = absurd (true≢false e)

logical-kinds : (cs : List Signature) (op : BinaryOperator) (l r : ShapeTree) → takes2 op ≡ Some true → gives2 op ≡ true → ShapeHasKinds cs l → ShapeHasKinds cs r → Gives (ShapeHasKinds cs) (logical op l r)
logical-kinds cs op l r e g h i =
    gives-then (FieldHasKind cs) (ShapeHasKinds cs) (only_field l.domain l.fields) _ (field-kind cs l.domain l.fields h)
    (λ f p. gives-then (FieldHasKind cs) (ShapeHasKinds cs) (only_field r.domain r.fields) _ (field-kind cs r.domain r.fields i)
    (λ m q. gives-cond (ShapeHasKinds cs) (not f.boolean || not m.boolean) _ _ (λ _. tt)
    (λ t. let two = both-true f.boolean m.boolean t in
    combined-kinds cs op true f m g (subst (HasKind cs f.tree) (sym e) (of-kind cs f.tree f.boolean true two.0 p)) (subst (HasKind cs m.tree) (sym e) (of-kind cs m.tree m.boolean true two.1 q)))))

pub binary-kinds : (cs : List Signature) (op : BinaryOperator) (l r : ShapeTree) → ShapeHasKinds cs l → ShapeHasKinds cs r → Gives (ShapeHasKinds cs) (binary_of op l r)
binary-kinds cs binaries.Multiply l r h k = numeric-kinds cs binaries.Multiply false l r refl refl h k
binary-kinds cs binaries.Divide l r h k = numeric-kinds cs binaries.Divide false l r refl refl h k
binary-kinds cs binaries.Add l r h k = numeric-kinds cs binaries.Add false l r refl refl h k
binary-kinds cs binaries.Subtract l r h k = numeric-kinds cs binaries.Subtract false l r refl refl h k
binary-kinds cs binaries.Less l r h k = numeric-kinds cs binaries.Less true l r refl refl h k
binary-kinds cs binaries.LessEqual l r h k = numeric-kinds cs binaries.LessEqual true l r refl refl h k
binary-kinds cs binaries.Greater l r h k = numeric-kinds cs binaries.Greater true l r refl refl h k
binary-kinds cs binaries.GreaterEqual l r h k = numeric-kinds cs binaries.GreaterEqual true l r refl refl h k
binary-kinds cs binaries.Equal l r h k = numeric-kinds cs binaries.Equal true l r refl refl h k
binary-kinds cs binaries.NotEqual l r h k = numeric-kinds cs binaries.NotEqual true l r refl refl h k
binary-kinds cs binaries.And l r h k = logical-kinds cs binaries.And l r refl refl h k
binary-kinds cs binaries.Or l r h k = logical-kinds cs binaries.Or l r refl refl h k
binary-kinds cs binaries.Xor l r h k = logical-kinds cs binaries.Xor l r refl refl h k
binary-kinds cs binaries.Bit l r h k = numeric-kinds cs binaries.Bit true l r refl refl h k

-- ---- reductions and condensers

integer-kinds : (cs : List Signature) (op : Aggregate) (s : ShapeTree) → takes_boolean op ≡ false → gives_boolean op ≡ false → ShapeHasKinds cs s → Gives (ShapeHasKinds cs) (integer_reduction op s)
integer-kinds cs op s e g h =
    gives-then (FieldHasKind cs) (ShapeHasKinds cs) (only_field s.domain s.fields) (reduced_integer op) (field-kind cs s.domain s.fields h)
    (λ f k. gives-cond (ShapeHasKinds cs) f.boolean _ _ (λ _. tt) (λ t. ((of-kind cs f.tree f.boolean (takes_boolean op) (t ∙ sym e) k, ap (meets (Some false)) g), tt)))

boolean-kinds : (cs : List Signature) (op : Aggregate) (b : Bool) (s : ShapeTree) → takes_boolean op ≡ true → gives_boolean op ≡ b → ShapeHasKinds cs s → Gives (ShapeHasKinds cs) (boolean_reduction op b s)
boolean-kinds cs op b s e g h =
    gives-then (FieldHasKind cs) (ShapeHasKinds cs) (only_field s.domain s.fields) (reduced_boolean op b) (field-kind cs s.domain s.fields h)
    (λ f k. gives-cond (ShapeHasKinds cs) f.boolean _ _ (λ t. ((of-kind cs f.tree f.boolean (takes_boolean op) (t ∙ sym e) k, ap (meets (Some b)) g ∙ meets-own b), tt)) (λ _. tt))

pub reduction-kinds : (cs : List Signature) (op : Aggregate) (s : ShapeTree) → ShapeHasKinds cs s → Gives (ShapeHasKinds cs) (reduction op s)
reduction-kinds cs aggregates.Count s h = boolean-kinds cs aggregates.Count false s refl refl h
reduction-kinds cs aggregates.Any s h = boolean-kinds cs aggregates.Any true s refl refl h
reduction-kinds cs aggregates.Every s h = boolean-kinds cs aggregates.Every true s refl refl h
reduction-kinds cs aggregates.Sum s h = integer-kinds cs aggregates.Sum s refl refl h
reduction-kinds cs aggregates.Average s h = integer-kinds cs aggregates.Average s refl refl h
reduction-kinds cs aggregates.Least s h = integer-kinds cs aggregates.Least s refl refl h
reduction-kinds cs aggregates.Greatest s h = integer-kinds cs aggregates.Greatest s refl refl h
reduction-kinds cs aggregates.Product s h = integer-kinds cs aggregates.Product s refl refl h

condenser-kinds : (cs : List Signature) (op : Aggregate) (box : List Axis) (c : Option Typed) (e : Typed) (b : Bool) → gives_boolean op ≡ b → ConditionIsBoolean cs c → HasKind cs e (Some (takes_boolean op)) → HasKind cs (condense_of op box c e) (Some b)
condenser-kinds cs op box None e b g h k = (k, ap (meets (Some b)) g ∙ meets-own b)
condenser-kinds cs op box (Some c) e b g h k = (h, k, ap (meets (Some b)) g ∙ meets-own b)

integers-kinds : (cs : List Signature) (op : Aggregate) (box : List Axis) (c : Option Typed) (s : ScalarOf) → takes_boolean op ≡ false → gives_boolean op ≡ false → ConditionIsBoolean cs c → ScalarHasKind cs s → Gives (ShapeHasKinds cs) (integers_condensed op box c s)
integers-kinds cs op box c s e g h k =
    gives-cond (ShapeHasKinds cs) s.boolean _ _ (λ _. tt) (λ t. (condenser-kinds cs op box c s.tree false g h (of-kind cs s.tree s.boolean (takes_boolean op) (t ∙ sym e) k), tt))

booleans-kinds : (cs : List Signature) (op : Aggregate) (b : Bool) (box : List Axis) (c : Option Typed) (s : ScalarOf) → takes_boolean op ≡ true → gives_boolean op ≡ b → ConditionIsBoolean cs c → ScalarHasKind cs s → Gives (ShapeHasKinds cs) (booleans_condensed op b box c s)
booleans-kinds cs op b box c s e g h k =
    gives-cond (ShapeHasKinds cs) s.boolean _ _ (λ t. (condenser-kinds cs op box c s.tree b g h (of-kind cs s.tree s.boolean (takes_boolean op) (t ∙ sym e) k), tt)) (λ _. tt)

pub condensed-kinds : (cs : List Signature) (op : Aggregate) (box : List Axis) (c : Option Typed) (s : ScalarOf) → ConditionIsBoolean cs c → ScalarHasKind cs s → Gives (ShapeHasKinds cs) (condensed op box c s)
condensed-kinds cs aggregates.Sum box c s h k = integers-kinds cs aggregates.Sum box c s refl refl h k
condensed-kinds cs aggregates.Product box c s h k = integers-kinds cs aggregates.Product box c s refl refl h k
condensed-kinds cs aggregates.Greatest box c s h k = integers-kinds cs aggregates.Greatest box c s refl refl h k
condensed-kinds cs aggregates.Least box c s h k = integers-kinds cs aggregates.Least box c s refl refl h k
condensed-kinds cs aggregates.Every box c s h k = booleans-kinds cs aggregates.Every true box c s refl refl h k
condensed-kinds cs aggregates.Any box c s h k = booleans-kinds cs aggregates.Any true box c s refl refl h k
condensed-kinds cs aggregates.Count box c s h k = booleans-kinds cs aggregates.Count false box c s refl refl h k
condensed-kinds cs aggregates.Average box c s h k = integers-kinds cs aggregates.Average box c s refl refl h k

pub condition-kind : (cs : List Signature) (s : ScalarOf) → ScalarHasKind cs s → Gives (λ t. HasKind cs t (Some true)) (condition_of s)
condition-kind cs s k = gives-cond (λ t. HasKind cs t (Some true)) s.boolean _ _ (λ t. of-kind cs s.tree s.boolean true t k) (λ _. tt)

-- ---- value lists

items-kept : (items : List ListItem) → list_all (has_kind true) items ≡ true → list_all is_bit (map item_number items) ≡ true
items-kept [] h = refl
items-kept (Int z ∷ items) h = absurd (false≢true h)
items-kept (Truth true ∷ items) h = items-kept items h
items-kept (Truth false ∷ items) h = items-kept items h

kept-list : (b : Bool) (items : List ListItem) → list_all (has_kind b) items ≡ true → are_kept (Some b) (map item_number items) ≡ true
kept-list true items h = items-kept items h
kept-list false items h = refl

listed-kinds : (cs : List Signature) (b : Bool) (box : List Axis) (items : List ListItem) → Gives (ShapeHasKinds cs) (listed_on b box items)
listed-kinds cs b box items = gives-cond (ShapeHasKinds cs) (list_all (has_kind b) items) _ _ (λ h. (kept-list b items h, tt)) (λ _. tt)

pub list-kinds : (cs : List Signature) (box : List Axis) (items : List ListItem) → Gives (ShapeHasKinds cs) (value_list box items)
list-kinds cs box items = gives-cond (ShapeHasKinds cs) (nat_eq (length items) (count box)) _ _ (λ _. listed-kinds cs (first_is_truth items) box items) (λ _. tt)

-- ---- records

abbrev PiecesHaveKinds : List Signature → List PieceTree → Type 0
PiecesHaveKinds cs [] = Unit {0}
PiecesHaveKinds cs (p ∷ more) = HasKind cs p.tree (Some p.boolean) × PiecesHaveKinds cs more

abbrev pub RecordHasKinds : List Signature → PieceTrees → Type 0
RecordHasKinds cs p = PiecesHaveKinds cs p.pieces

pieces-last : (cs : List Signature) (ps : List PieceTree) (p : PieceTree) → PiecesHaveKinds cs ps → HasKind cs p.tree (Some p.boolean) → PiecesHaveKinds cs (ps ++ p ∷ [])
pieces-last cs [] p h k = (k, tt)
pieces-last cs (q ∷ ps) p h k = (h.0, pieces-last cs ps p h.1 k)

pub part-kinds : (cs : List Signature) (x : List ℕ) (f : FieldOf) (ps : PieceTrees) → RecordHasKinds cs ps → FieldHasKind cs f → Gives (RecordHasKinds cs) (with_part x f ps)
part-kinds cs x f ps h k =
    gives-cond (RecordHasKinds cs) (not (is_scalar f.domain) && (not (is_scalar ps.domain) && not (are_same ps.domain f.domain))) _ _ (λ _. tt)
    (λ _. pieces-last cs ps.pieces (record { name = x; on_no_axes = is_scalar f.domain; boolean = f.boolean; tree = f.tree }) h k)

pub finished-kinds : (cs : List Signature) (on : Bool) (ps : List PieceTree) → PiecesHaveKinds cs ps → SlotsHaveKinds cs (map (finished_part on) ps)
finished-kinds cs on [] h = tt
finished-kinds cs on (p ∷ ps) h = (kind-cond cs (Some p.boolean) (p.on_no_axes && on) _ _ h.0 h.0, finished-kinds cs on ps h.1)

-- ---- brackets

abbrev CutsHaveKinds : List Signature → List CutTree → Type 0
CutsHaveKinds cs [] = Unit {0}
CutsHaveKinds cs (c ∷ more) = HasKind cs c.position (Some false) × CutsHaveKinds cs more

abbrev pub BracketHasKinds : List Signature → BracketTree → Type 0
BracketHasKinds cs b = CutsHaveKinds cs b.cuts

pub cuts-last : (cs : List Signature) (all : List CutTree) (c : CutTree) → CutsHaveKinds cs all → HasKind cs c.position (Some false) → CutsHaveKinds cs (all ++ c ∷ [])
cuts-last cs [] c h k = (k, tt)
cuts-last cs (d ∷ all) c h k = (h.0, cuts-last cs all c h.1 k)

trimmed-kinds : (cs : List Signature) (o : Option BoundsOf) (k : ℕ) (x : List ℕ) (i : BoundsOf) (b : BracketTree) → BracketHasKinds cs b → Gives (BracketHasKinds cs) (trimmed_at o k x i b)
trimmed-kinds cs None k x i b h = tt
trimmed-kinds cs (Some a) k x i b h = gives-cond (BracketHasKinds cs) (int_lt i.lo a.lo || int_lt a.hi i.hi) _ _ (λ _. tt) (λ _. h)

pub trim-kinds : (cs : List Signature) (k : ℕ) (x : List ℕ) (i : BoundsOf) (b : BracketTree) → BracketHasKinds cs b → Gives (BracketHasKinds cs) (with_trim k x i b)
trim-kinds cs k x i b h = trimmed-kinds cs (option_map bounds_of (slice_get b.domain k)) k x i b h

pub position-kind : (cs : List Signature) (s : ShapeTree) → ShapeHasKinds cs s → Gives (λ t. HasKind cs t (Some false)) (position_of s)
position-kind cs s h =
    gives-then (ScalarHasKind cs) (λ t. HasKind cs t (Some false)) (only_scalar s) integer_tree (scalar-kind cs s h)
    (λ t k. gives-cond (λ u. HasKind cs u (Some false)) t.boolean _ _ (λ _. tt) (λ e. of-kind cs t.tree t.boolean false e k))

sliced-kinds : (cs : List Signature) (k : ℕ) (lo hi : ℤ) (q : Typed) (slots : List SlotTree) → HasKind cs q (Some false) → SlotsHaveKinds cs slots → SlotsHaveKinds cs (map (sliced_slot k lo hi q) slots)
sliced-kinds cs k lo hi q [] g h = tt
sliced-kinds cs k lo hi q (s ∷ more) g h = ((h.0, g), sliced-kinds cs k lo hi q more g h.1)

between-kinds : (cs : List Signature) (o : Option BoundsOf) (k : ℕ) (q : Typed) (s : ShapeTree) → HasKind cs q (Some false) → ShapeHasKinds cs s → ShapeHasKinds cs (cut_between o k q s)
between-kinds cs None k q s g h = h
between-kinds cs (Some i) k q s g h = sliced-kinds cs k i.lo i.hi q s.fields g h

cut-kinds : (cs : List Signature) (o : Option ℕ) (q : Typed) (s : ShapeTree) → HasKind cs q (Some false) → ShapeHasKinds cs s → ShapeHasKinds cs (cut_at o q s)
cut-kinds cs None q s g h = h
cut-kinds cs (Some k) q s g h = between-kinds cs (option_map bounds_of (slice_get s.domain k)) k q s g h

all-kinds : (cs : List Signature) (cuts : List CutTree) (s : ShapeTree) → CutsHaveKinds cs cuts → ShapeHasKinds cs s → ShapeHasKinds cs (all_cut_out cuts s)
all-kinds cs [] s g h = h
all-kinds cs (c ∷ cuts) s g h =
    let rest = all_cut_out cuts s in cut-kinds cs (axis_place c.axis rest.domain) c.position rest g.0 (all-kinds cs cuts s g.1 h)

bracketed-kinds : (cs : List Signature) (slots : List SlotTree) → SlotsHaveKinds cs slots → SlotsHaveKinds cs (map bracketed_slot slots)
bracketed-kinds cs [] h = tt
bracketed-kinds cs (s ∷ more) h = (h.0, bracketed-kinds cs more h.1)

pub closed-kinds : (cs : List Signature) (b : BracketTree) (fields : List SlotTree) → BracketHasKinds cs b → SlotsHaveKinds cs fields → ShapeHasKinds cs (closed b fields)
closed-kinds cs b fields g h =
    let s : ShapeTree = record { domain = b.domain; fields = fields } in bracketed-kinds cs (all_cut_out b.cuts s).fields (all-kinds cs b.cuts s g h)
