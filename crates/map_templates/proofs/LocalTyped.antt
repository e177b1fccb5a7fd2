-- The queries of local operations are typed as their trees, and mean them.
use Rattle.std.proofs.Common.{◌≡◌, ℕ, ◌≤◌, Bool, true, false, List, [], ◌∷◌, length, codes, All, Ok, Err, refl, sym, subst, arith}
use Rattle.arr_core.specs.declared.domain.Axis.{Axis}
use Rattle.arr_core.specs.declared.signature.Signature.{Signature}
use Rattle.wcps_text.specs.Tree.{Tree}
use Rattle.wcps_types.specs.declared.bound.Bound.{Bound}
use Rattle.wcps_types.specs.declared.refusal.TypeRefusal.TheVariants.{DomainMismatch}
use Rattle.wcps_types.specs.Typed.{Typed, TypedTree}
use Rattle.wcps_types.specs.Shapes.{unnamed}
use Rattle.wcps_types.specs.Bindings.{bound_to}
use Rattle.wcps_types.specs.Operators.{are_same}
use Rattle.wcps_types.specs.Queries.{typ_query}
use Rattle.wcps_types.specs.Typing.{typ}
use Rattle.wcps_mean.specs.Answer.{answer}
use Rattle.map_templates.specs.declared.params.Layer.{Layer}
use Rattle.map_templates.specs.declared.template.LocalOperation.{LocalOperation}
use Rattle.map_templates.specs.declared.template.LocalOperation.TheVariants as locals
use Rattle.map_templates.specs.Expansion.{local_on}
use Rattle.map_templates.specs.Meaning.{Cells, AreIntegers, listed, array_of}
use Rattle.map_templates.specs.Queries.{IsCoverage}
use Rattle.map_templates.specs.TypedTrees as trees
use Rattle.map_templates.proofs.Found.{IsFound, found_named}
use Rattle.map_templates.proofs.Laws.{tomlins}
use Rattle.map_templates.proofs.Layers.{layer_node, IsOne, HasAxes, layer_typed, layer_reads, AreBound, bound_both, one_choice, query_typed, query_refused}
use Rattle.map_templates.proofs.Same.{Decides-same}
use Rattle.map_templates.proofs.Spelled.{layer_expr, local_expr, local_tree, bound_tree}

pub has_axes : (axes : List Axis) → 1 ≤ length axes → HasAxes axes
has_axes [] some = absurd (omega arith)
has_axes (a ∷ axes) some = refl

-- on one domain
value_typed : (op : LocalOperation) (cs : List Signature) (bound : List Bound) (a b : Tree) (axes : List Axis) (l r : Typed) → HasAxes axes → are_same axes axes ≡ true
    → IsOne (typ cs bound [] a) axes l → IsOne (typ cs bound [] b) axes r → typ cs bound [] (local_expr op a b) ≡ Ok (unnamed axes false (trees.local_tree op l r))
value_typed locals.Sum cs bound a b axes l r some same ha hb = rw (ha.is, hb.is, some, same) refl
value_typed locals.Difference cs bound a b axes l r some same ha hb = rw (ha.is, hb.is, some, same) refl
value_typed locals.Product cs bound a b axes l r some same ha hb = rw (ha.is, hb.is, some, same) refl
value_typed locals.Maximum cs bound a b axes l r some same ha hb = rw (ha.is, hb.is) (simp (some, same) refl)
value_typed locals.Minimum cs bound a b axes l r some same ha hb = rw (ha.is, hb.is) (simp (some, same) refl)

-- on unlike domains
value_refused : (op : LocalOperation) (cs : List Signature) (bound : List Bound) (a b : Tree) (axes others : List Axis) (l r : Typed) → HasAxes axes → HasAxes others → are_same axes others ≡ false
    → IsOne (typ cs bound [] a) axes l → IsOne (typ cs bound [] b) others r → typ cs bound [] (local_expr op a b) ≡ Err DomainMismatch
value_refused locals.Sum cs bound a b axes others l r some more unlike ha hb = rw (ha.is, hb.is, some, more, unlike) refl
value_refused locals.Difference cs bound a b axes others l r some more unlike ha hb = rw (ha.is, hb.is, some, more, unlike) refl
value_refused locals.Product cs bound a b axes others l r some more unlike ha hb = rw (ha.is, hb.is, some, more, unlike) refl
value_refused locals.Maximum cs bound a b axes others l r some more unlike ha hb = rw (ha.is, hb.is, some, more, unlike) refl
value_refused locals.Minimum cs bound a b axes others l r some more unlike ha hb = rw (ha.is, hb.is, some, more, unlike) refl

pub local_answered : (op : LocalOperation) (signatures : List Signature) (first second : Layer) (s t : Signature) (f g : ℕ) → IsFound signatures first s f → IsFound signatures second t g → All IsCoverage signatures
    → (q : TypedTree) (cells : Cells) → typ_query signatures (local_tree op first second) ≡ Ok q → AreIntegers cells → answer (listed cells q.coverages) q ≡ array_of cells (local_on op first f second g s.domain)
local_answered op signatures first second s t f g h k all q cells accepted integers = by_domain (are_same s.domain t.domain) refl
  where
    named : (s.name ≡ first.coverage) × IsCoverage s
    named = found_named signatures first s f h all

    other : (t.name ≡ second.coverage) × IsCoverage t
    other = found_named signatures second t g k all

    both : AreBound signatures (codes "a") (codes "b") first.coverage second.coverage s t
    both = bound_both signatures (codes "a") (codes "b") first.coverage second.coverage s t refl named.0 h.found k.found

    l : IsOne (typ both.coverages (bound_to (codes "a") 0 ∷ bound_to (codes "b") both.place ∷ []) [] (layer_expr (codes "a") first)) s.domain (layer_node 0 first.field f)
    l = layer_typed both.coverages (bound_to (codes "a") 0 ∷ bound_to (codes "b") both.place ∷ []) [] (codes "a") first.field s 0 f (rw both.first refl) h.field

    r : IsOne (typ both.coverages (bound_to (codes "a") 0 ∷ bound_to (codes "b") both.place ∷ []) [] (layer_expr (codes "b") second)) t.domain (layer_node both.place second.field g)
    r = layer_typed both.coverages (bound_to (codes "a") 0 ∷ bound_to (codes "b") both.place ∷ []) [] (codes "b") second.field t both.place g (rw both.second refl) k.field

    some : HasAxes s.domain
    some = has_axes s.domain named.1.some

    more : HasAxes t.domain
    more = has_axes t.domain other.1.some

    by_domain : (b : Bool) → are_same s.domain t.domain ≡ b → answer (listed cells q.coverages) q ≡ array_of cells (local_on op first f second g s.domain)
    by_domain true e =
        let same = (Decides-same s.domain t.domain).0 e in
        let right = subst (λ (d : List Axis). IsOne (typ both.coverages (bound_to (codes "a") 0 ∷ bound_to (codes "b") both.place ∷ []) [] (layer_expr (codes "b") second)) d (layer_node both.place second.field g)) (sym same) r in
        let node = trees.local_tree op (layer_node 0 first.field f) (layer_node both.place second.field g) in
        let typed = value_typed op both.coverages (bound_to (codes "a") 0 ∷ bound_to (codes "b") both.place ∷ []) (layer_expr (codes "a") first) (layer_expr (codes "b") second) s.domain (layer_node 0 first.field f) (layer_node both.place second.field g) some ((Decides-same s.domain s.domain).1 refl) l right in
        let is = query_typed signatures (bound_tree (codes "a") first.coverage ∷ bound_tree (codes "b") second.coverage ∷ []) (local_expr op (layer_expr (codes "a") first) (layer_expr (codes "b") second)) both.coverages (one_choice (codes "a") 0 ∷ one_choice (codes "b") both.place ∷ []) (bound_to (codes "a") 0 ∷ bound_to (codes "b") both.place ∷ []) s.domain node q both.is refl refl typed accepted in
        subst (λ (u : TypedTree). answer (listed cells u.coverages) u ≡ array_of cells (local_on op first f second g s.domain)) (sym is)
        (tomlins (local_on op first f second g s.domain) (listed cells both.coverages) cells both.coverages (layer_node 0 first.field f) (layer_node both.place second.field g) integers
        (layer_reads cells both.coverages first s 0 f first.field both.first named.0, layer_reads cells both.coverages second t both.place g second.field both.second other.0) tt named.1.domain.ordered)
    by_domain false e =
        absurd (query_refused signatures (bound_tree (codes "a") first.coverage ∷ bound_tree (codes "b") second.coverage ∷ []) (local_expr op (layer_expr (codes "a") first) (layer_expr (codes "b") second)) both.coverages (one_choice (codes "a") 0 ∷ one_choice (codes "b") both.place ∷ []) (bound_to (codes "a") 0 ∷ bound_to (codes "b") both.place ∷ []) DomainMismatch q both.is refl refl
        (value_refused op both.coverages (bound_to (codes "a") 0 ∷ bound_to (codes "b") both.place ∷ []) (layer_expr (codes "a") first) (layer_expr (codes "b") second) s.domain t.domain (layer_node 0 first.field f) (layer_node both.place second.field g) some more e l r) accepted)
