-- Which trees may be evaluated where: each name has its place, and what a cell is read at lies in its coverage.
use Rattle.std.specs.Prelude.{◌≡◌, ℕ, ◌<◌, ◌≤◌, ℤ, ◌≤ℤ◌, List, [], ◌∷◌, ◌++◌, length, Option, Some, None, slice_get, insert}
use Rattle.arr_core.specs.declared.domain.Axis.{Axis}
use Rattle.arr_core.specs.declared.signature.Signature.{Signature}
use Rattle.arr_core.specs.Domains.{count}
use Rattle.wcps_types.specs.Typed.{Typed, number, iterator, cell, unary, binary, scalar, select, bracket, slice, array, listed, condense, condense_where, reduce, FieldTree, CombinationTree}

-- axis by axis, in their order, the coordinates of the first axes are among those of the second; names do not matter
abbrev pub LieWithin : List Axis → List Axis → Type 0
LieWithin [] [] = Unit {0}
LieWithin (a ∷ axes) (b ∷ wider) = (b.lo ≤ℤ a.lo) × (a.hi ≤ℤ b.hi) × LieWithin axes wider
LieWithin [] (b ∷ wider) = ⊥
LieWithin (a ∷ axes) [] = ⊥

-- the coverage is there, has that field, and has a cell at each point of the axes
abbrev pub HasCells : Option Signature → ℕ → List Axis → Type 0
HasCells None f axes = ⊥
HasCells (Some s) f axes = (f < length s.fields) × LieWithin axes s.domain

-- an axis of which only the coordinates matter
abbrev pub from_to : ℤ → ℤ → Axis
from_to lo hi = record { name = []; lo = lo; hi = hi }

-- A tree that can be taken at each point of the axes `dom`, where the iterators in scope, outermost first, go over the
-- axes `scope`: each name has its place, and each cell is one of its coverage. A bracket is taken at the same points as
-- what it stands on, which can be taken at further ones too.
abbrev pub IsTyped : List Signature → Typed → List Axis → List Axis → Type 0
IsTyped cs (number z) scope dom = Unit {0}
IsTyped cs (iterator k) scope dom = k < length scope
IsTyped cs (cell c f) scope dom = HasCells (slice_get cs c) f dom
IsTyped cs (unary op e) scope dom = IsTyped cs e scope dom
IsTyped cs (binary op l r) scope dom = IsTyped cs l scope dom × IsTyped cs r scope dom
IsTyped cs (scalar e) scope dom = IsTyped cs e scope []
IsTyped cs (select e) scope dom = IsTyped cs e scope dom
IsTyped cs (bracket e) scope dom = IsTyped cs e scope dom
IsTyped cs (slice e axis lo hi position) scope dom =
    (axis ≤ length dom) × IsTyped cs position scope [] × IsTyped cs e scope (insert dom axis (from_to lo hi))
IsTyped cs (array e) scope dom = IsTyped cs e (scope ++ dom) []
IsTyped cs (listed box items) scope dom = LieWithin dom box × (length items ≡ count box)
IsTyped cs (condense op box e) scope dom = IsTyped cs e (scope ++ box) []
IsTyped cs (condense_where op box c e) scope dom = IsTyped cs c (scope ++ box) [] × IsTyped cs e (scope ++ box) []
IsTyped cs (reduce op box e) scope dom = IsTyped cs e scope box

-- the fields of an item can be taken at each point of its axes, with no iterator in scope
abbrev pub FieldsAreTyped : List Signature → List Axis → List FieldTree → Type 0
FieldsAreTyped cs dom [] = Unit {0}
FieldsAreTyped cs dom (f ∷ fields) = IsTyped cs f.tree [] dom × FieldsAreTyped cs dom fields

-- what follows `where`, if it is there, is a scalar
abbrev pub ConditionIsTyped : List Signature → List Axis → Option Typed → Type 0
ConditionIsTyped cs scope None = Unit {0}
ConditionIsTyped cs scope (Some c) = IsTyped cs c scope []

abbrev pub CombinationIsTyped : List Signature → CombinationTree → Type 0
CombinationIsTyped cs c = ConditionIsTyped cs [] c.condition × FieldsAreTyped cs c.item.domain c.item.fields

-- the combinations of a query over those coverages
abbrev pub AreTyped : List Signature → List CombinationTree → Type 0
AreTyped cs [] = Unit {0}
AreTyped cs (c ∷ more) = CombinationIsTyped cs c × AreTyped cs more
