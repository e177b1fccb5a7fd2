-- There is at most one proof that a query is well typed.
use Rattle.std.specs.Prelude.{ℕ, length, List, [], ◌∷◌, ◌++◌, Option, Some, None, slice_get, insert}
use lib.Dec.{T_prop}
use Rattle.std.specs.Coded.{×_prop, Unit-prop, le_prop, Coded-set, coded_ℕ}
use Rattle.arr_core.specs.declared.domain.Axis.{Axis}
use Rattle.arr_core.specs.declared.signature.Signature.{Signature}
use Rattle.arr_core.specs.Domains.{count}
use Rattle.wcps_types.specs.Typed.{Typed, number, iterator, cell, unary, binary, scalar, select, bracket, slice, array, listed, condense, condense_where, reduce, FieldTree, CombinationTree}
use Rattle.wcps_types.specs.WellTyped.{LieWithin, HasCells, from_to, IsTyped, FieldsAreTyped, ConditionIsTyped, AreTyped}

LieWithin-prop : (axes wider : List Axis) → IsProp (LieWithin axes wider)
LieWithin-prop [] [] = Unit-prop
LieWithin-prop [] (b ∷ wider) = Prim.hlevel
LieWithin-prop (a ∷ axes) [] = Prim.hlevel
LieWithin-prop (a ∷ axes) (b ∷ wider) = Prim.hlevel (T_prop, LieWithin-prop axes wider)

HasCells-prop : (s : Option Signature) (f : ℕ) (axes : List Axis) → IsProp (HasCells s f axes)
HasCells-prop None f axes = Prim.hlevel
HasCells-prop (Some s) f axes = ×_prop le_prop (LieWithin-prop axes s.domain)

IsTyped-prop : (cs : List Signature) (t : Typed) (scope dom : List Axis) → IsProp (IsTyped cs t scope dom)
IsTyped-prop cs (number z) scope dom = Unit-prop
IsTyped-prop cs (iterator k) scope dom = le_prop
IsTyped-prop cs (cell c f) scope dom = HasCells-prop (slice_get cs c) f dom
IsTyped-prop cs (unary op e) scope dom = IsTyped-prop cs e scope dom
IsTyped-prop cs (binary op l r) scope dom = ×_prop (IsTyped-prop cs l scope dom) (IsTyped-prop cs r scope dom)
IsTyped-prop cs (scalar e) scope dom = IsTyped-prop cs e scope []
IsTyped-prop cs (select e) scope dom = IsTyped-prop cs e scope dom
IsTyped-prop cs (bracket e) scope dom = IsTyped-prop cs e scope dom
IsTyped-prop cs (slice e axis lo hi position) scope dom =
    Prim.hlevel (le_prop, IsTyped-prop cs position scope [], IsTyped-prop cs e scope (insert dom axis (from_to lo hi)))
IsTyped-prop cs (array e) scope dom = IsTyped-prop cs e (scope ++ dom) []
IsTyped-prop cs (listed box items) scope dom =
    ×_prop (LieWithin-prop dom box) (Coded-set coded_ℕ (length items) (count box))
IsTyped-prop cs (condense op box e) scope dom = IsTyped-prop cs e (scope ++ box) []
IsTyped-prop cs (condense_where op box c e) scope dom =
    ×_prop (IsTyped-prop cs c (scope ++ box) []) (IsTyped-prop cs e (scope ++ box) [])
IsTyped-prop cs (reduce op box e) scope dom = IsTyped-prop cs e scope box

FieldsAreTyped-prop : (cs : List Signature) (dom : List Axis) (fields : List FieldTree)
    → IsProp (FieldsAreTyped cs dom fields)
FieldsAreTyped-prop cs dom [] = Unit-prop
FieldsAreTyped-prop cs dom (f ∷ fields) = ×_prop (IsTyped-prop cs f.tree [] dom) (FieldsAreTyped-prop cs dom fields)

ConditionIsTyped-prop : (cs : List Signature) (c : Option Typed) → IsProp (ConditionIsTyped cs [] c)
ConditionIsTyped-prop cs None = Unit-prop
ConditionIsTyped-prop cs (Some c) = IsTyped-prop cs c [] []

pub AreTyped-prop : (cs : List Signature) (all : List CombinationTree) → IsProp (AreTyped cs all)
AreTyped-prop cs [] = Unit-prop
AreTyped-prop cs (c ∷ more) =
    ×_prop (×_prop (ConditionIsTyped-prop cs c.condition) (FieldsAreTyped-prop cs c.item.domain c.item.fields))
    (AreTyped-prop cs more)
