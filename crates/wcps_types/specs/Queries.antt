-- The check of a whole query.
use Rattle.std.specs.Prelude.{ℕ, List, [], ◌∷◌, ◌++◌, map, Bool, cond, nat_lt, Option, Ok, Err}
use Rattle.arr_core.specs.declared.signature.Signature.{Signature}
use Rattle.wcps_text.specs.Tree as tree
use Rattle.wcps_text.specs.Tree.{QueryTree, encode, plain}
use Rattle.wcps_types.specs.declared.refusal.TypeRefusal.TheVariants.{MustEncode, TooMuchWork, ResultTooLarge}
use Rattle.wcps_types.specs.declared.bound.Bound.{Bound}
use Rattle.wcps_types.specs.declared.labels.Label.{Label}
use Rattle.wcps_types.specs.Typed.{Typed, FieldTree, ItemTree, CombinationTree, TypedTree}
use Rattle.wcps_types.specs.Shapes.{SlotTree, ShapeTree, Answer, then_of, is_scalar}
use Rattle.wcps_types.specs.Typing.{Check, typ, typ_condition}
use Rattle.wcps_types.specs.Bindings.{BindingTrees, no_bindings, bound_from, few_combinations, combinations}
use Rattle.wcps_types.specs.Cells.{result_cells, max_cells}
use Rattle.wcps_types.specs.Work.{query_work, max_work}

-- whether a label is of a Boolean field
abbrev pub label_boolean : Label → Bool
label_boolean l = l.boolean

abbrev pub field_of_slot : SlotTree → FieldTree
field_of_slot s = record { boolean = s.boolean; tree = s.tree }

abbrev pub item_of : ShapeTree → Answer ItemTree
item_of s = Ok (record { domain = s.domain; fields = map field_of_slot s.fields })

-- without `encode` a scalar
abbrev pub plain_item : ShapeTree → Answer ItemTree
plain_item s = cond (is_scalar s.domain) (item_of s) (Err MustEncode)

abbrev pub typ_item : Check (tree.ItemTree → Answer ItemTree)
typ_item cs bound scope (encode e) = then_of (typ cs bound scope e) item_of
typ_item cs bound scope (plain e) = then_of (typ cs bound scope e) plain_item

abbrev pub combination_of : Option Typed → ItemTree → Answer CombinationTree
combination_of c i = Ok (record { condition = c; item = i })

-- with one choice of coverages: the `where`, then the item
abbrev pub typ_combination : List Signature → QueryTree → List Bound → Answer CombinationTree
typ_combination cs q bound = then_of (typ_condition cs bound [] q.condition)
    (λ (c : Option Typed). then_of (typ_item cs bound [] q.item) (combination_of c))

-- with one choice after the other, behind those that are done
abbrev pub typ_each : List Signature → QueryTree → List CombinationTree → List (List Bound)
    → Answer (List CombinationTree)
typ_each cs q done [] = Ok done
typ_each cs q done (bound ∷ more) =
    then_of (typ_combination cs q bound) (λ (c : CombinationTree). typ_each cs q (done ++ c ∷ []) more)

-- first the cells of the result, then the work
abbrev pub within_limits : List Signature → List CombinationTree → Answer TypedTree
within_limits cs all =
    cond (nat_lt max_cells (result_cells all)) (Err ResultTooLarge)
    (cond (nat_lt max_work (query_work all)) (Err TooMuchWork) (Ok (record { coverages = cs; combinations = all })))

-- the typed query, or the first refusal: the `for` list, the number of combinations, each combination in order, then
-- the limits of all together
abbrev pub typ_query : List Signature → QueryTree → Answer TypedTree
typ_query signatures q =
    then_of (bound_from signatures no_bindings q.bindings)
    (λ (b : BindingTrees). then_of (few_combinations b.choices)
    (λ (n : ℕ). then_of (typ_each b.coverages q [] (combinations b.choices)) (within_limits b.coverages)))
