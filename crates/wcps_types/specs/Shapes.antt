-- Shapes: what an expression is found to be. A check gives a shape, or the first refusal.
use Rattle.std.specs.Prelude.{◌≡◌, ℕ, suc, List, [], ◌∷◌, Bool, true, false, cond, Option, None, Some, Result, Ok, Err}
use Rattle.arr_core.specs.declared.domain.Axis.{Axis}
use Rattle.wcps_types.specs.declared.refusal.TypeRefusal.{TypeRefusal}
use Rattle.wcps_types.specs.declared.refusal.TypeRefusal.TheVariants.{NeedsScalar, NeedsOneField}
use Rattle.wcps_types.specs.declared.refusal.CheckError.{CheckError}
use Rattle.wcps_types.specs.declared.refusal.CheckError.TheVariants.{Refused, NoMemory}
use Rattle.wcps_types.specs.declared.labels.Label.{Label}
use Rattle.wcps_types.specs.declared.shape.Shape.{Shape}
use Rattle.wcps_types.specs.declared.shape.OneField.{OneField}
use Rattle.wcps_types.specs.declared.shape.OneScalar.{OneScalar}
use Rattle.wcps_types.specs.declared.typed.Node.{Node}
use Rattle.wcps_types.specs.Labels.{labels_in}
use Rattle.wcps_types.specs.Typed.{Typed, field_tree, boxed_tree}

-- one field: its name if it has one, whether it is Boolean, and its tree
pub record SlotTree : Type 0 where
  pub name : Option (List ℕ)
  pub boolean : Bool
  pub tree : Typed

-- a domain and a list of fields; a scalar where there is no axis
pub record ShapeTree : Type 0 where
  pub domain : List Axis
  pub fields : List SlotTree

-- what has one field, whose name no longer matters
pub record FieldOf : Type 0 where
  pub domain : List Axis
  pub boolean : Bool
  pub tree : Typed

-- a scalar with one field
pub record ScalarOf : Type 0 where
  pub boolean : Bool
  pub tree : Typed

-- what a check gives: the thing, or the first refusal
abbrev pub Answer : Type 0 → Type 0
Answer A = Result A TypeRefusal

-- a check after another one, which is made only where the first one gave something
abbrev pub then_of : {A B E : Type 0} → Result A E → (A → Result B E) → Result B E
then_of (Err f) go = Err f
then_of (Ok a) go = go a

-- what a call gave says this answer, save where no memory was left
abbrev pub Says : {T A : Type 0} → (T → A) → Result T CheckError → Answer A → Type 0
Says view (Ok t) a = a ≡ Ok (view t)
Says view (Err (Refused f)) a = a ≡ Err f
Says view (Err NoMemory) a = Unit {0}

-- the field at place k of what a node gives, with its label
abbrev pub slot_of : Node → ℕ → Label → SlotTree
slot_of e k l = record { name = l.name; boolean = l.boolean; tree = field_tree e k }

-- the fields from that of place k on
abbrev pub labels_view : Node → ℕ → List Label → List SlotTree
labels_view e k [] = []
labels_view e k (l ∷ labels) = slot_of e k l ∷ labels_view e (suc k) labels

abbrev pub shape_view : Shape → ShapeTree
shape_view s = record { domain = s.domain; fields = labels_view s.node.value 0 (labels_in s.labels) }

abbrev pub field_of_view : OneField → FieldOf
field_of_view s = record { domain = s.domain; boolean = s.boolean; tree = boxed_tree s.node }

abbrev pub scalar_of_view : OneScalar → ScalarOf
scalar_of_view s = record { boolean = s.boolean; tree = boxed_tree s.node }

abbrev pub is_scalar : List Axis → Bool
is_scalar [] = true
is_scalar (a ∷ axes) = false

-- one unnamed field
abbrev pub unnamed : List Axis → Bool → Typed → ShapeTree
unnamed axes boolean tree = record
    { domain = axes; fields = record { name = None; boolean = boolean; tree = tree } ∷ [] }

-- whether the label is Boolean, where there is one alone
abbrev pub the_boolean : List Label → Option Bool
the_boolean [] = None
the_boolean (l ∷ []) = Some l.boolean
the_boolean (l ∷ m ∷ more) = None

-- the only field of a node, where it has one alone
abbrev pub labelled : List Axis → Node → Option Bool → Answer FieldOf
labelled axes e None = Err NeedsOneField
labelled axes e (Some boolean) = Ok (record { domain = axes; boolean = boolean; tree = field_tree e 0 })

-- the only field
abbrev pub only_field : List Axis → List SlotTree → Answer FieldOf
only_field axes [] = Err NeedsOneField
only_field axes (s ∷ []) = Ok (record { domain = axes; boolean = s.boolean; tree = s.tree })
only_field axes (s ∷ t ∷ more) = Err NeedsOneField

abbrev pub without_domain : FieldOf → Answer ScalarOf
without_domain f = Ok (record { boolean = f.boolean; tree = f.tree })

-- the only field of a scalar: it is a scalar, then it has one field
abbrev pub only_scalar : ShapeTree → Answer ScalarOf
only_scalar s = cond (is_scalar s.domain) (then_of (only_field s.domain s.fields) without_domain) (Err NeedsScalar)
