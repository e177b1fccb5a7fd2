-- What the queries of zonal operations answer.
use Rattle.std.proofs.Common.{◌≡◌, ℕ, suc, Bool, true, false, List, [], ◌∷◌, ◌++◌, length, codes, All, Option, Ok, Err, refl, sym, ap, subst, arith}
use Rattle.arr_core.specs.declared.domain.Axis.{Axis}
use Rattle.arr_core.specs.declared.signature.Signature.{Signature}
use Rattle.arr_core.specs.Domains.{AreOrdered}
use Rattle.wcps_text.specs.Tree as tree
use Rattle.wcps_text.specs.Tree.{Tree, only}
use Rattle.wcps_text.specs.declared.operator.BinaryOperator.TheVariants as binaries
use Rattle.wcps_types.specs.declared.refusal.TypeRefusal.TheVariants.{NeedsInteger}
use Rattle.wcps_types.specs.Typed.{Typed, bracket, binary, condense_where, TypedTree}
use Rattle.wcps_types.specs.Shapes.{unnamed}
use Rattle.wcps_types.specs.Boxes.{is_domain, no_iterators}
use Rattle.wcps_types.specs.Queries.{typ_query}
use Rattle.wcps_types.specs.Typing.{typ, typ_iters}
use Rattle.wcps_types.proofs.Domains.{Decides-domain}
use Rattle.wcps_mean.specs.Answer.{answer}
use Rattle.map_templates.specs.declared.params.Layer.{Layer}
use Rattle.map_templates.specs.declared.template.Summary.{Summary}
use Rattle.map_templates.specs.declared.template.Summary.TheVariants as summaries
use Rattle.map_templates.specs.Expansion.{zonal_on}
use Rattle.map_templates.specs.Meaning.{Cells, AreIntegers, listed, array_of}
use Rattle.map_templates.specs.Queries.{IsAxis, IsCoverage}
use Rattle.map_templates.specs.TypedTrees as trees
use Rattle.map_templates.specs.TypedTrees.{condenser_of, located, iterators}
use Rattle.map_templates.proofs.FocalTyped.{is_written}
use Rattle.map_templates.proofs.Found.{IsFound, found_named}
use Rattle.map_templates.proofs.Laws.{tomlins}
use Rattle.map_templates.proofs.Layers.{layer_node, one, IsOne, layer_typed, layer_reads, AreBound, bound_both, one_choice, query_typed, query_refused}
use Rattle.map_templates.proofs.Spelled.{layer_expr, bound_tree, query_of, zonal_expr, zonal_tree}
use Rattle.map_templates.proofs.ZonalTyped.{iters_of, iters_typed, subs_of, located_typed, AllWritten, Arranged, arranged, names_from, same_iters, same_subs, bindings, Named, named}

many_iterators : (k : ℕ) (axes : List Axis) → length (iterators k axes) ≡ length axes
many_iterators k [] = refl
many_iterators k (x ∷ axes) = ap suc (many_iterators (suc k) axes)

-- ---- the forms with names of iterators

abbrev zone_of : Tree → List (List ℕ) → List (List ℕ) → List Axis → Tree
zone_of z ps us axes = tree.binary binaries.Equal (tree.brackets z (subs_of us axes)) (tree.brackets z (subs_of ps axes))

abbrev condense_of : Summary → Tree → Tree → List (List ℕ) → List (List ℕ) → List Axis → Tree
condense_of op a z ps us axes = tree.condense (condenser_of op) (iters_of us axes) (only (zone_of z ps us axes)) (tree.brackets a (subs_of us axes))

abbrev expr_of : Summary → Tree → Tree → List (List ℕ) → List (List ℕ) → List Axis → Tree
expr_of op a z ps us axes = tree.coverage (iters_of ps axes) (condense_of op a z ps us axes)

same_expr : (op : Summary) (layer zones : Layer) (axes : List Axis) (ps us : List (List ℕ)) → names_from (codes "$p") 1 axes ≡ ps → names_from (codes "$u") 1 axes ≡ us
    → zonal_expr op layer zones axes ≡ expr_of op (layer_expr (codes "a") layer) (layer_expr (codes "z") zones) ps us axes
same_expr op layer zones axes ps us hp hu =
    rw (same_iters (codes "$p") 1 axes, same_iters (codes "$u") 1 axes, same_subs (codes "$u") 1 axes, same_subs (codes "$p") 1 axes, hp, hu) refl

-- the tree of the condenser
abbrev summed : Summary → List Axis → Typed → Typed → Typed
summed op axes a z =
    condense_where (condenser_of op) axes (binary binaries.Equal (bracket (located z 0 axes (iterators (length axes) axes))) (bracket (located z 0 axes (iterators 0 axes))))
    (bracket (located a 0 axes (iterators (length axes) axes)))

-- how the iterators, the zones and the value are typed
record Inner (cs : List Signature) (place : ℕ) (axes : List Axis) (a z : Tree) (ta tz : Typed) (n m : Option (List ℕ)) (b c : Bool) (ps us : List (List ℕ)) : Type 0 where
  box : typ_iters cs (bindings place) ps no_iterators (iters_of us axes) ≡ Ok (record { variables = us; axes = axes })
  other : typ cs (bindings place) (ps ++ us) (tree.brackets z (subs_of us axes)) ≡ Ok (one [] m c (bracket (located tz 0 axes (iterators (length axes) axes))))
  own : typ cs (bindings place) (ps ++ us) (tree.brackets z (subs_of ps axes)) ≡ Ok (one [] m c (bracket (located tz 0 axes (iterators 0 axes))))
  value : typ cs (bindings place) (ps ++ us) (tree.brackets a (subs_of us axes)) ≡ Ok (one [] n b (bracket (located ta 0 axes (iterators (length axes) axes))))

inner : (cs : List Signature) (place : ℕ) (axes : List Axis) (a z : Tree) (ta tz : Typed) (n m : Option (List ℕ)) (b c : Bool) (h : Named cs place axes) → Arranged axes
    → typ cs (bindings place) (h.ps ++ h.us) a ≡ Ok (one axes n b ta) → typ cs (bindings place) (h.ps ++ h.us) z ≡ Ok (one axes m c tz) → Inner cs place axes a z ta tz n m b c h.ps h.us
inner cs place axes a z ta tz n m b c h g ha hz = record {
  box = iters_typed cs (bindings place) h.ps [] h.us [] axes h.many_us h.free_us g.new;
  other = located_typed cs (bindings place) (h.ps ++ h.us) h.us (iterators (length axes) axes) z axes m c tz hz h.many_us (many_iterators (length axes) axes) h.typed_us g.placed g.order;
  own = located_typed cs (bindings place) (h.ps ++ h.us) h.ps (iterators 0 axes) z axes m c tz hz h.many_ps (many_iterators 0 axes) h.typed_ps g.placed g.order;
  value = located_typed cs (bindings place) (h.ps ++ h.us) h.us (iterators (length axes) axes) a axes n b ta ha h.many_us (many_iterators (length axes) axes) h.typed_us g.placed g.order;
}

condense_typed : (op : Summary) (cs : List Signature) (place : ℕ) (axes : List Axis) (a z : Tree) (ta tz : Typed) (n m : Option (List ℕ)) (c : Bool) (ps us : List (List ℕ)) → Inner cs place axes a z ta tz n m false c ps us
    → is_domain axes ≡ true → typ cs (bindings place) ps (condense_of op a z ps us axes) ≡ Ok (unnamed [] false (summed op axes ta tz))
condense_typed summaries.Sum cs place axes a z ta tz n m c ps us i dom = rw (i.box, dom, i.other, i.own, i.value) refl
condense_typed summaries.Maximum cs place axes a z ta tz n m c ps us i dom = rw (i.box, dom, i.other, i.own, i.value) refl
condense_typed summaries.Minimum cs place axes a z ta tz n m c ps us i dom = rw (i.box, dom, i.other, i.own, i.value) refl

condense_refused : (op : Summary) (cs : List Signature) (place : ℕ) (axes : List Axis) (a z : Tree) (ta tz : Typed) (n m : Option (List ℕ)) (c : Bool) (ps us : List (List ℕ)) → Inner cs place axes a z ta tz n m true c ps us
    → is_domain axes ≡ true → typ cs (bindings place) ps (condense_of op a z ps us axes) ≡ Err NeedsInteger
condense_refused summaries.Sum cs place axes a z ta tz n m c ps us i dom = rw (i.box, dom, i.other, i.own, i.value) refl
condense_refused summaries.Maximum cs place axes a z ta tz n m c ps us i dom = rw (i.box, dom, i.other, i.own, i.value) refl
condense_refused summaries.Minimum cs place axes a z ta tz n m c ps us i dom = rw (i.box, dom, i.other, i.own, i.value) refl

value_typed : (op : Summary) (cs : List Signature) (place : ℕ) (axes : List Axis) (a z : Tree) (ta tz : Typed) (n m : Option (List ℕ)) (c : Bool) (h : Named cs place axes) → Arranged axes → Inner cs place axes a z ta tz n m false c h.ps h.us
    → is_domain axes ≡ true → typ cs (bindings place) [] (expr_of op a z h.ps h.us axes) ≡ Ok (unnamed axes false (trees.zonal_tree op axes ta tz))
value_typed op cs place axes a z ta tz n m c h g i dom =
    rw (iters_typed cs (bindings place) [] [] h.ps [] axes h.many_ps h.free_ps g.new, dom, condense_typed op cs place axes a z ta tz n m c h.ps h.us i dom) refl

value_refused : (op : Summary) (cs : List Signature) (place : ℕ) (axes : List Axis) (a z : Tree) (ta tz : Typed) (n m : Option (List ℕ)) (c : Bool) (h : Named cs place axes) → Arranged axes → Inner cs place axes a z ta tz n m true c h.ps h.us
    → is_domain axes ≡ true → typ cs (bindings place) [] (expr_of op a z h.ps h.us axes) ≡ Err NeedsInteger
value_refused op cs place axes a z ta tz n m c h g i dom =
    rw (iters_typed cs (bindings place) [] [] h.ps [] axes h.many_ps h.free_ps g.new, dom, condense_refused op cs place axes a z ta tz n m c h.ps h.us i dom) refl

all_written : (axes : List Axis) → All IsAxis axes → AreOrdered axes → AllWritten axes
all_written [] known ordered = tt
all_written (x ∷ axes) known ordered = (is_written x (known 0 x (omega arith)) ordered.0, all_written axes (λ k d lt. known (suc k) d (omega arith)) ordered.1)

-- ---- the answer

abbrev a_expr : Layer → Tree
a_expr layer = layer_expr (codes "a") layer

abbrev z_expr : Layer → Tree
z_expr zones = layer_expr (codes "z") zones

pub zonal_answered : (op : Summary) (signatures : List Signature) (layer zones : Layer) (s t : Signature) (f g : ℕ) → IsFound signatures layer s f → IsFound signatures zones t g → s.domain ≡ t.domain → All IsCoverage signatures
    → (q : TypedTree) (cells : Cells) → typ_query signatures (zonal_tree op layer zones s.domain) ≡ Ok q → AreIntegers cells → answer (listed cells q.coverages) q ≡ array_of cells (zonal_on op layer f zones g s.domain)
zonal_answered op signatures layer zones s t f g h k same all q cells accepted integers = by_kind l.boolean refl
  where
    known : (s.name ≡ layer.coverage) × IsCoverage s
    known = found_named signatures layer s f h all

    other : (t.name ≡ zones.coverage) × IsCoverage t
    other = found_named signatures zones t g k all

    both : AreBound signatures (codes "a") (codes "z") layer.coverage zones.coverage s t
    both = bound_both signatures (codes "a") (codes "z") layer.coverage zones.coverage s t refl known.0 h.found k.found

    names : Named both.coverages both.place s.domain
    names = named s.domain both.coverages both.place known.1.domain.few_axes

    order : Arranged s.domain
    order = arranged s.domain known.1.domain (all_written s.domain known.1.axes known.1.domain.ordered)

    dom : is_domain s.domain ≡ true
    dom = (Decides-domain s.domain).1 known.1.domain

    l : IsOne (typ both.coverages (bindings both.place) (names.ps ++ names.us) (a_expr layer)) s.domain (layer_node 0 layer.field f)
    l = layer_typed both.coverages (bindings both.place) (names.ps ++ names.us) (codes "a") layer.field s 0 f (rw (names.no_a, both.first) refl) h.field

    r : IsOne (typ both.coverages (bindings both.place) (names.ps ++ names.us) (z_expr zones)) s.domain (layer_node both.place zones.field g)
    r = subst (λ (d : List Axis). IsOne (typ both.coverages (bindings both.place) (names.ps ++ names.us) (z_expr zones)) d (layer_node both.place zones.field g)) (sym same)
        (layer_typed both.coverages (bindings both.place) (names.ps ++ names.us) (codes "z") zones.field t both.place g (rw (names.no_z, both.second) refl) k.field)

    by_name : typ_query signatures (query_of (bound_tree (codes "a") layer.coverage ∷ bound_tree (codes "z") zones.coverage ∷ []) (expr_of op (a_expr layer) (z_expr zones) names.ps names.us s.domain)) ≡ Ok q
    by_name = subst (λ (e : Tree). typ_query signatures (query_of (bound_tree (codes "a") layer.coverage ∷ bound_tree (codes "z") zones.coverage ∷ []) e) ≡ Ok q) (same_expr op layer zones s.domain names.ps names.us names.are_ps names.are_us) accepted

    by_kind : (b : Bool) → l.boolean ≡ b → answer (listed cells q.coverages) q ≡ array_of cells (zonal_on op layer f zones g s.domain)
    by_kind false e =
        let ta = layer_node 0 layer.field f in
        let tz = layer_node both.place zones.field g in
        let typed = subst (λ (b : Bool). typ both.coverages (bindings both.place) (names.ps ++ names.us) (a_expr layer) ≡ Ok (one s.domain l.name b ta)) e l.is in
        let i = inner both.coverages both.place s.domain (a_expr layer) (z_expr zones) ta tz l.name r.name false r.boolean names order typed r.is in
        let is = query_typed signatures (bound_tree (codes "a") layer.coverage ∷ bound_tree (codes "z") zones.coverage ∷ []) (expr_of op (a_expr layer) (z_expr zones) names.ps names.us s.domain) both.coverages
        (one_choice (codes "a") 0 ∷ one_choice (codes "z") both.place ∷ []) (bindings both.place) s.domain (trees.zonal_tree op s.domain ta tz) q both.is refl refl
        (value_typed op both.coverages both.place s.domain (a_expr layer) (z_expr zones) ta tz l.name r.name r.boolean names order i dom) by_name in
        subst (λ (u : TypedTree). answer (listed cells u.coverages) u ≡ array_of cells (zonal_on op layer f zones g s.domain)) (sym is)
        (tomlins (zonal_on op layer f zones g s.domain) (listed cells both.coverages) cells both.coverages ta tz integers
        (layer_reads cells both.coverages layer s 0 f layer.field both.first known.0, layer_reads cells both.coverages zones t both.place g zones.field both.second other.0) tt known.1.domain.ordered)
    by_kind true e =
        let ta = layer_node 0 layer.field f in
        let tz = layer_node both.place zones.field g in
        let typed = subst (λ (b : Bool). typ both.coverages (bindings both.place) (names.ps ++ names.us) (a_expr layer) ≡ Ok (one s.domain l.name b ta)) e l.is in
        let i = inner both.coverages both.place s.domain (a_expr layer) (z_expr zones) ta tz l.name r.name true r.boolean names order typed r.is in
        absurd (query_refused signatures (bound_tree (codes "a") layer.coverage ∷ bound_tree (codes "z") zones.coverage ∷ []) (expr_of op (a_expr layer) (z_expr zones) names.ps names.us s.domain) both.coverages
        (one_choice (codes "a") 0 ∷ one_choice (codes "z") both.place ∷ []) (bindings both.place) NeedsInteger q both.is refl refl
        (value_refused op both.coverages both.place s.domain (a_expr layer) (z_expr zones) ta tz l.name r.name r.boolean names order i dom) by_name)
