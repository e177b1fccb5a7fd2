-- There is at most one proof that the trees of a query have their kinds.
use Rattle.std.specs.Prelude.{List, [], ◌∷◌, Bool, true, false, Option, Some, None, slice_get}
use Rattle.std.specs.Coded.{×_prop, Unit-prop, Coded-set, coded_bool}
use Rattle.arr_core.specs.declared.signature.Signature.{Signature}
use Rattle.wcps_types.specs.Typed.{Typed, number, iterator, cell, unary, binary, scalar, select, bracket, slice, array, listed, condense, condense_where, reduce, FieldTree, CombinationTree}
use Rattle.wcps_types.specs.Kinds.{meets, meets_some, are_kept, cell_kind, takes1, gives1, takes2, gives2, takes_boolean, gives_boolean, HasKind, FieldsHaveKinds, ConditionIsBoolean, HaveKinds}

HasKind-prop : (cs : List Signature) (t : Typed) (k : Option Bool) → IsProp (HasKind cs t k)
HasKind-prop cs (number z) k = Coded-set coded_bool (are_kept k (z ∷ [])) true
HasKind-prop cs (iterator level) k = Coded-set coded_bool (meets k false) true
HasKind-prop cs (cell c f) k = Coded-set coded_bool (meets_some k (cell_kind (slice_get cs c) f)) true
HasKind-prop cs (unary op e) k =
    ×_prop (HasKind-prop cs e (takes1 op)) (Coded-set coded_bool (meets k (gives1 op)) true)
HasKind-prop cs (binary op l r) k =
    Prim.hlevel (
      HasKind-prop cs l (takes2 op),
      HasKind-prop cs r (takes2 op),
      Coded-set coded_bool
          (meets k (gives2 op)) true,
    )
HasKind-prop cs (scalar e) k = HasKind-prop cs e k
HasKind-prop cs (select e) k = HasKind-prop cs e k
HasKind-prop cs (bracket e) k = HasKind-prop cs e k
HasKind-prop cs (slice e axis lo hi position) k = ×_prop (HasKind-prop cs e k) (HasKind-prop cs position (Some false))
HasKind-prop cs (array e) k = HasKind-prop cs e k
HasKind-prop cs (listed box items) k = Coded-set coded_bool (are_kept k items) true
HasKind-prop cs (condense op box e) k =
    ×_prop (HasKind-prop cs e (Some (takes_boolean op))) (Coded-set coded_bool (meets k (gives_boolean op)) true)
HasKind-prop cs (condense_where op box c e) k =
    Prim.hlevel (
      HasKind-prop cs c (Some true),
      HasKind-prop cs e (Some (takes_boolean op)),
      Coded-set coded_bool
          (meets k (gives_boolean op)) true,
    )
HasKind-prop cs (reduce op box e) k =
    ×_prop (HasKind-prop cs e (Some (takes_boolean op))) (Coded-set coded_bool (meets k (gives_boolean op)) true)

FieldsHaveKinds-prop : (cs : List Signature) (fields : List FieldTree) → IsProp (FieldsHaveKinds cs fields)
FieldsHaveKinds-prop cs [] = Unit-prop
FieldsHaveKinds-prop cs (f ∷ fields) = ×_prop (HasKind-prop cs f.tree (Some f.boolean)) (FieldsHaveKinds-prop cs fields)

ConditionIsBoolean-prop : (cs : List Signature) (c : Option Typed) → IsProp (ConditionIsBoolean cs c)
ConditionIsBoolean-prop cs None = Unit-prop
ConditionIsBoolean-prop cs (Some c) = HasKind-prop cs c (Some true)

pub HaveKinds-prop : (cs : List Signature) (all : List CombinationTree) → IsProp (HaveKinds cs all)
HaveKinds-prop cs [] = Unit-prop
HaveKinds-prop cs (c ∷ more) =
    ×_prop (×_prop (ConditionIsBoolean-prop cs c.condition) (FieldsHaveKinds-prop cs c.item.fields))
    (HaveKinds-prop cs more)
