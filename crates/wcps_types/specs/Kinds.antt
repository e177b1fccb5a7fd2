-- Kinds: which trees give Booleans, as 0 or 1, and which integers.
use Rattle.std.specs.Prelude.{◌≡◌, ℕ, ℤ, pos, List, [], ◌∷◌, Bool, true, false, not, ◌||◌, Option, Some, None, option_map, slice_get}
use Rattle.std.specs.List.{list_all}
use Rattle.std.specs.Ordering.{int_eq}
use Rattle.arr_core.specs.declared.field.Field.{Field}
use Rattle.arr_core.specs.declared.signature.Signature.{Signature}
use Rattle.wcps_text.specs.declared.operator.UnaryOperator.{UnaryOperator}
use Rattle.wcps_text.specs.declared.operator.UnaryOperator.TheVariants as unaries
use Rattle.wcps_text.specs.declared.operator.BinaryOperator.{BinaryOperator}
use Rattle.wcps_text.specs.declared.operator.BinaryOperator.TheVariants as binaries
use Rattle.wcps_text.specs.declared.operator.Aggregate.{Aggregate}
use Rattle.wcps_text.specs.declared.operator.Aggregate.TheVariants as aggregates
use Rattle.wcps_types.specs.Typed.{Typed, number, iterator, cell, unary, binary, scalar, select, bracket, slice, array, listed, condense, condense_where, reduce, FieldTree, CombinationTree}
use Rattle.arr_core.specs.Cells.{is_bool}

-- What is asked of a tree: a Boolean (Some true), an integer (Some false), or either (None), as of the operands of
-- arithmetic and comparisons, where a Boolean counts as 0 or 1.
abbrev pub meets : Option Bool → Bool → Bool
meets None b = true
meets (Some true) b = b
meets (Some false) b = not b

abbrev pub is_bit : ℤ → Bool
is_bit z = int_eq z (pos 0) || int_eq z (pos 1)

-- the numbers are 0 or 1 where they are kept for Booleans
abbrev pub are_kept : Option Bool → List ℤ → Bool
are_kept None zs = true
are_kept (Some true) zs = list_all is_bit zs
are_kept (Some false) zs = true

abbrev pub kind_of : Field → Bool
kind_of f = is_bool f.kind

-- the kind of a field of a coverage
abbrev pub cell_kind : Option Signature → ℕ → Option Bool
cell_kind None f = None
cell_kind (Some s) f = option_map kind_of (slice_get s.fields f)

abbrev pub meets_some : Option Bool → Option Bool → Bool
meets_some asked None = false
meets_some asked (Some b) = meets asked b

-- what an operation takes
abbrev pub takes1 : UnaryOperator → Option Bool
takes1 unaries.Negate = None
takes1 unaries.Plus = None
takes1 unaries.Absolute = None
takes1 unaries.Not = Some true

-- whether it gives a Boolean
abbrev pub gives1 : UnaryOperator → Bool
gives1 unaries.Negate = false
gives1 unaries.Plus = false
gives1 unaries.Absolute = false
gives1 unaries.Not = true

abbrev pub takes2 : BinaryOperator → Option Bool
takes2 binaries.Multiply = None
takes2 binaries.Divide = None
takes2 binaries.Add = None
takes2 binaries.Subtract = None
takes2 binaries.Less = None
takes2 binaries.LessEqual = None
takes2 binaries.Greater = None
takes2 binaries.GreaterEqual = None
takes2 binaries.Equal = None
takes2 binaries.NotEqual = None
takes2 binaries.And = Some true
takes2 binaries.Or = Some true
takes2 binaries.Xor = Some true
takes2 binaries.Bit = None

abbrev pub gives2 : BinaryOperator → Bool
gives2 binaries.Multiply = false
gives2 binaries.Divide = false
gives2 binaries.Add = false
gives2 binaries.Subtract = false
gives2 binaries.Less = true
gives2 binaries.LessEqual = true
gives2 binaries.Greater = true
gives2 binaries.GreaterEqual = true
gives2 binaries.Equal = true
gives2 binaries.NotEqual = true
gives2 binaries.And = true
gives2 binaries.Or = true
gives2 binaries.Xor = true
gives2 binaries.Bit = true

-- whether an aggregate takes Booleans
abbrev pub takes_boolean : Aggregate → Bool
takes_boolean aggregates.Sum = false
takes_boolean aggregates.Product = false
takes_boolean aggregates.Greatest = false
takes_boolean aggregates.Least = false
takes_boolean aggregates.Every = true
takes_boolean aggregates.Any = true
takes_boolean aggregates.Count = true
takes_boolean aggregates.Average = false

-- whether it gives one
abbrev pub gives_boolean : Aggregate → Bool
gives_boolean aggregates.Sum = false
gives_boolean aggregates.Product = false
gives_boolean aggregates.Greatest = false
gives_boolean aggregates.Least = false
gives_boolean aggregates.Every = true
gives_boolean aggregates.Any = true
gives_boolean aggregates.Count = false
gives_boolean aggregates.Average = false

-- A tree gives what is asked, and so do its parts: a number kept for a Boolean is 0 or 1, a cell has the kind of its
-- field, an operation takes and gives its own, a position is an integer and a condition a Boolean.
abbrev pub HasKind : List Signature → Typed → Option Bool → Type 0
HasKind cs (number z) k = are_kept k (z ∷ []) ≡ true
HasKind cs (iterator level) k = meets k false ≡ true
HasKind cs (cell c f) k = meets_some k (cell_kind (slice_get cs c) f) ≡ true
HasKind cs (unary op e) k = HasKind cs e (takes1 op) × (meets k (gives1 op) ≡ true)
HasKind cs (binary op l r) k = HasKind cs l (takes2 op) × HasKind cs r (takes2 op) × (meets k (gives2 op) ≡ true)
HasKind cs (scalar e) k = HasKind cs e k
HasKind cs (select e) k = HasKind cs e k
HasKind cs (bracket e) k = HasKind cs e k
HasKind cs (slice e axis lo hi position) k = HasKind cs e k × HasKind cs position (Some false)
HasKind cs (array e) k = HasKind cs e k
HasKind cs (listed box items) k = are_kept k items ≡ true
HasKind cs (condense op box e) k = HasKind cs e (Some (takes_boolean op)) × (meets k (gives_boolean op) ≡ true)
HasKind cs (condense_where op box c e) k =
    HasKind cs c (Some true) × HasKind cs e (Some (takes_boolean op)) × (meets k (gives_boolean op) ≡ true)
HasKind cs (reduce op box e) k = HasKind cs e (Some (takes_boolean op)) × (meets k (gives_boolean op) ≡ true)

-- each field of an item has its kind
abbrev pub FieldsHaveKinds : List Signature → List FieldTree → Type 0
FieldsHaveKinds cs [] = Unit {0}
FieldsHaveKinds cs (f ∷ fields) = HasKind cs f.tree (Some f.boolean) × FieldsHaveKinds cs fields

-- what follows `where`, if it is there, is a Boolean
abbrev pub ConditionIsBoolean : List Signature → Option Typed → Type 0
ConditionIsBoolean cs None = Unit {0}
ConditionIsBoolean cs (Some c) = HasKind cs c (Some true)

abbrev pub CombinationHasKinds : List Signature → CombinationTree → Type 0
CombinationHasKinds cs c = ConditionIsBoolean cs c.condition × FieldsHaveKinds cs c.item.fields

-- the combinations of a query over those coverages
abbrev pub HaveKinds : List Signature → List CombinationTree → Type 0
HaveKinds cs [] = Unit {0}
HaveKinds cs (c ∷ more) = CombinationHasKinds cs c × HaveKinds cs more
