-- How the layers of a template and its whole query are typed.
use Rattle.std.proofs.Common.{◌≡◌, ℕ, zero, suc, ◌+◌, ◌<◌, Bool, true, false, cond, List, [], ◌∷◌, length, get_or, Option, Some, None, Ok, Err, refl, sym, ap, ◌∙◌, subst, arith, slice_get}
use Rattle.std.specs.Prelude.{nat_eq}
use Rattle.std.specs.Str.{bytes_eq}
use Rattle.std.proofs.lemmas.Bool.Decides.{nat_tests}
use Rattle.std.proofs.lemmas.List.Quantifiers.{position-Some}
use Rattle.std.proofs.lemmas.Slice.Eq.{bytes_eq-Decides}
use Rattle.arr_core.specs.declared.domain.Axis.{Axis}
use Rattle.arr_core.specs.declared.field.Field.{Field}
use Rattle.arr_core.specs.declared.signature.Signature.{Signature}
use Rattle.wcps_text.specs.Tree as tree
use Rattle.wcps_text.specs.Tree.{Tree}
use Rattle.wcps_types.specs.declared.bound.Bound.{Bound}
use Rattle.wcps_types.specs.declared.refusal.TypeRefusal.{TypeRefusal}
use Rattle.wcps_types.specs.declared.refusal.TypeRefusal.TheVariants.{ResultTooLarge, TooMuchWork}
use Rattle.wcps_types.specs.Typed.{Typed, cell, select, TypedTree, CombinationTree}
use Rattle.wcps_types.specs.Shapes.{ShapeTree, Answer, then_of, unnamed, is_scalar}
use Rattle.arr_core.specs.Cells.{is_bool}
use Rattle.arr_core.specs.Fields.{field_place}
use Rattle.wcps_types.specs.Variables.{cells_from, variable}
use Rattle.wcps_types.specs.Operators.{selected}
use Rattle.wcps_types.specs.Typing.{typ}
use Rattle.wcps_types.specs.Names.{coverage_place}
use Rattle.wcps_types.specs.Bindings.{ChoiceTree, no_bindings, signature_at, bound_from, few_combinations, combinations}
use Rattle.wcps_types.specs.Queries.{typ_query, within_limits}
use Rattle.wcps_mean.specs.declared.cell.Outcome.TheVariants.{Value}
use Rattle.map_templates.specs.declared.params.Layer.{Layer}
use Rattle.map_templates.specs.declared.refusal.ExpandRefusal.TheVariants.{BadParameter}
use Rattle.map_templates.specs.Refusals.{Answer as Asked}
use Rattle.map_templates.specs.Expansion.{field_found, field_at}
use Rattle.map_templates.specs.Laws.{Reads}
use Rattle.map_templates.specs.Meaning.{Cells, cells_of, listed}
use Rattle.map_templates.specs.TypedTrees.{single}
use Rattle.map_templates.proofs.Found.{no_answer, none_some, same_answer}
use Rattle.map_templates.proofs.Spelled.{field_expr, bound_tree, query_of}

-- the tree of a layer's field
abbrev pub layer_node : ℕ → Option (List ℕ) → ℕ → Typed
layer_node c None f = cell c f
layer_node c (Some x) f = select (cell c f)

-- a shape with one field
abbrev pub one : List Axis → Option (List ℕ) → Bool → Typed → ShapeTree
one axes n b t = record { domain = axes; fields = record { name = n; boolean = b; tree = t } ∷ [] }

-- the answer is a shape with one field, of that tree
pub record IsOne (a : Answer ShapeTree) (axes : List Axis) (t : Typed) : Type 0 where
  pub name : Option (List ℕ)
  pub boolean : Bool
  pub is : a ≡ Ok (one axes name boolean t)

selected_at : (name : List ℕ) (axes : List Axis) (c k : ℕ) (fields : List Field) (f : ℕ) (d : Field) → f < length fields → bytes_eq (get_or fields f d).name name ≡ true
    → ((i : ℕ) → i < f → bytes_eq (get_or fields i d).name name ≡ false) → IsOne (selected name axes (cells_from c k fields)) axes (select (cell c (k + f)))
selected_at name axes c k [] f d lt at before = absurd (omega arith)
selected_at name axes c k (x ∷ fields) zero d lt at before =
    let same : k ≡ k + zero = omega arith in
    record { name = Some x.name; boolean = is_bool x.kind; is = subst (λ (j : ℕ). selected name axes (cells_from c k (x ∷ fields)) ≡ Ok (one axes (Some x.name) (is_bool x.kind) (select (cell c j)))) same (rw at refl) }
selected_at name axes c k (x ∷ fields) (suc f) d lt at before =
    let more = selected_at name axes c (k + 1) fields f d (omega arith) at (λ i small. before (suc i) (omega arith)) in
    let same : (k + 1) + f ≡ k + suc f = omega arith in
    record { name = more.name; boolean = more.boolean; is = rw (before 0 (omega arith)) (subst (λ (j : ℕ). selected name axes (cells_from c (k + 1) fields) ≡ Ok (one axes more.name more.boolean (select (cell c j)))) same more.is) }

field_selected : (name : List ℕ) (axes : List Axis) (c : ℕ) (fields : List Field) (f : ℕ) → field_place name fields ≡ Some f → IsOne (selected name axes (cells_from c 0 fields)) axes (select (cell c f))
field_selected name axes c [] f e = none_some e
field_selected name axes c (d ∷ fields) f e =
    let at = position-Some (λ (x : Field). bytes_eq x.name name) (d ∷ fields) f d e in
    let same : 0 + f ≡ f = omega arith in
    subst (λ (j : ℕ). IsOne (selected name axes (cells_from c 0 (d ∷ fields))) axes (select (cell c j))) same (selected_at name axes c 0 (d ∷ fields) f d at.0 at.1 at.2)

only_field_at : (axes : List Axis) (c : ℕ) (fields : List Field) (f : ℕ) → field_at None fields ≡ Ok f → IsOne (Ok (record { domain = axes; fields = cells_from c 0 fields })) axes (cell c f)
only_field_at axes c [] f e = no_answer e
only_field_at axes c (d ∷ []) f e = record { name = Some d.name; boolean = is_bool d.kind; is = ap (λ (j : ℕ). Ok (one axes (Some d.name) (is_bool d.kind) (cell c j))) (same_answer e) }
only_field_at axes c (d ∷ b ∷ fields) f e = absurd (many (nat_eq (length (d ∷ b ∷ fields)) 1) refl e)
  where
    many : (t : Bool) → nat_eq (length (d ∷ b ∷ fields)) 1 ≡ t → cond {A = Asked ℕ} t (Ok 0) (Err BadParameter) ≡ Ok f → ⊥
    many true h e = absurd (grind (arith, nat_tests))
    many false h e = no_answer e

found_place : (o : Option ℕ) (f : ℕ) → field_found o ≡ Ok f → o ≡ Some f
found_place None f e = no_answer e
found_place (Some k) f e = ap (λ (x : ℕ). Some x) (same_answer e)

-- the shape of a layer, where its variable stands for its coverage
pub layer_typed : (cs : List Signature) (bound : List Bound) (scope : List (List ℕ)) (v : List ℕ) (o : Option (List ℕ)) (s : Signature) (c f : ℕ)
    → variable cs bound scope v ≡ Ok (record { domain = s.domain; fields = cells_from c 0 s.fields }) → field_at o s.fields ≡ Ok f
    → IsOne (typ cs bound scope (field_expr (tree.variable v) o)) s.domain (layer_node c o f)
layer_typed cs bound scope v None s c f var e =
    let at = only_field_at s.domain c s.fields f e in
    record { name = at.name; boolean = at.boolean; is = var ∙ at.is }
layer_typed cs bound scope v (Some x) s c f var e =
    let at = field_selected x s.domain c s.fields f (found_place (field_place x s.fields) f e) in
    record { name = at.name; boolean = at.boolean; is = ap (λ (a : Answer ShapeTree). then_of a (λ (t : ShapeTree). selected x t.domain t.fields)) var ∙ at.is }

-- it gives the cells of the coverage
pub layer_reads : (cells : Cells) (cs : List Signature) (layer : Layer) (s : Signature) (c f : ℕ) (o : Option (List ℕ)) → slice_get cs c ≡ Some s → s.name ≡ layer.coverage
    → Reads (listed cells cs) (layer_node c o f) (cells layer.coverage f)
layer_reads cells cs layer s c f None at named env p = ap (λ (x : Option Signature). Value (cells_of cells x f p)) at ∙ ap (λ (n : List ℕ). Value (cells n f p)) named
layer_reads cells cs layer s c f (Some x) at named env p = ap (λ (x : Option Signature). Value (cells_of cells x f p)) at ∙ ap (λ (n : List ℕ). Value (cells n f p)) named

-- ---- operations on one domain

abbrev pub HasAxes : List Axis → Type 0
HasAxes axes = is_scalar axes ≡ false

-- ---- the coverages of a query

abbrev pub one_choice : List ℕ → ℕ → ChoiceTree
one_choice v k = record { variable = v; coverages = k ∷ [] }

-- two variables that stand for a coverage each
pub record AreBound (signatures : List Signature) (v w n m : List ℕ) (s t : Signature) : Type 0 where
  pub coverages : List Signature
  pub place : ℕ
  pub is : bound_from signatures no_bindings (bound_tree v n ∷ bound_tree w m ∷ []) ≡ Ok (record { coverages = coverages; choices = one_choice v 0 ∷ one_choice w place ∷ [] })
  pub first : slice_get coverages 0 ≡ Some s
  pub second : slice_get coverages place ≡ Some t

pub bound_one : (signatures : List Signature) (v n : List ℕ) (s : Signature) → signature_at (coverage_place n signatures) signatures ≡ Some s
    → bound_from signatures no_bindings (bound_tree v n ∷ []) ≡ Ok (record { coverages = s ∷ []; choices = one_choice v 0 ∷ [] })
bound_one signatures v n s h = rw h refl

pub bound_both : (signatures : List Signature) (v w n m : List ℕ) (s t : Signature) → bytes_eq v w ≡ false → s.name ≡ n → signature_at (coverage_place n signatures) signatures ≡ Some s
    → signature_at (coverage_place m signatures) signatures ≡ Some t → AreBound signatures v w n m s t
bound_both signatures v w n m s t free named h k = by_name (bytes_eq s.name m) refl
  where
    by_name : (b : Bool) → bytes_eq s.name m ≡ b → AreBound signatures v w n m s t
    by_name true e =
        let same : n ≡ m = sym named ∙ (bytes_eq-Decides s.name m).0 e in
        record {
          coverages = s ∷ [];
          place = 0;
          is = rw (h, free, e) refl;
          first = refl;
          second = sym h ∙ subst (λ (x : List ℕ). signature_at (coverage_place x signatures) signatures ≡ Some t) (sym same) k;
        }
    by_name false e = record { coverages = s ∷ t ∷ []; place = 1; is = rw (h, free, e, k) refl; first = refl; second = refl }

-- ---- whole queries

limits_kept : (cs : List Signature) (all : List CombinationTree) (t : TypedTree) → within_limits cs all ≡ Ok t → t ≡ record { coverages = cs; combinations = all }
limits_kept cs all t e = by_cells _ _ e
  where
    by_cells : (a b : Bool) → cond a (Err ResultTooLarge) (cond b (Err TooMuchWork) (Ok (record { coverages = cs; combinations = all }))) ≡ Ok t → t ≡ record { coverages = cs; combinations = all }
    by_cells true b e = absurd (refused ResultTooLarge e)
      where
        refused : (r : TypeRefusal) → Err r ≡ Ok t → ⊥
        refused r e = cc
    by_cells false true e = absurd (refused TooMuchWork e)
      where
        refused : (r : TypeRefusal) → Err r ≡ Ok t → ⊥
        refused r e = cc
    by_cells false false e = cc

-- a query without a condition, which has one choice of coverages and an item of one integer field
pub query_typed : (signatures : List Signature) (bs : List tree.BindingTree) (e : Tree) (cs : List Signature) (choices : List ChoiceTree) (bound : List Bound) (axes : List Axis) (node : Typed) (t : TypedTree)
    → bound_from signatures no_bindings bs ≡ Ok (record { coverages = cs; choices = choices }) → few_combinations choices ≡ Ok 1 → combinations choices ≡ bound ∷ []
    → typ cs bound [] e ≡ Ok (unnamed axes false node) → typ_query signatures (query_of bs e) ≡ Ok t → t ≡ single cs axes node
query_typed signatures bs e cs choices bound axes node t found few all typed accepted =
    limits_kept cs _ t (sym computed ∙ accepted)
  where
    computed : typ_query signatures (query_of bs e) ≡ within_limits cs (record { condition = None; item = record { domain = axes; fields = record { boolean = false; tree = node } ∷ [] } } ∷ [])
    computed = rw (found, few, all, typed) refl

-- what refuses the item refuses the query
pub query_refused : (signatures : List Signature) (bs : List tree.BindingTree) (e : Tree) (cs : List Signature) (choices : List ChoiceTree) (bound : List Bound) (r : TypeRefusal) (t : TypedTree)
    → bound_from signatures no_bindings bs ≡ Ok (record { coverages = cs; choices = choices }) → few_combinations choices ≡ Ok 1 → combinations choices ≡ bound ∷ []
    → typ cs bound [] e ≡ Err r → typ_query signatures (query_of bs e) ≡ Ok t → ⊥
query_refused signatures bs e cs choices bound r t found few all typed accepted =
    refused (sym computed ∙ accepted)
  where
    computed : typ_query signatures (query_of bs e) ≡ Err r
    computed = rw (found, few, all, typed) refl

    refused : Err r ≡ Ok t → ⊥
    refused e = cc
