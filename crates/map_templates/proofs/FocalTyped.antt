-- The queries of focal operations are typed as their trees, and mean them.
use Rattle.std.proofs.Common.{◌≡◌, ℕ, ◌+◌, ◌*◌, ◌^◌, ◌≤◌, ℤ, pos, negsuc, ◌≤ℤ◌, ◌-ℤ◌, Bool, true, false, List, [], ◌∷◌, codes, All, Option, Some, Ok, Err, refl, sym, subst, arith, Contains, rules}
use Rattle.std.specs.Prelude.{int_le}
use Rattle.std.specs.Str.{bytes_eq}
use Rattle.std.proofs.Math.Nat.{mul-le-mul_right}
use Rattle.std.proofs.lemmas.Int.{ints}
use Rattle.std.proofs.lemmas.Slice.Eq.{bytes_eq-Decides}
use Rattle.arr_core.specs.declared.domain.Axis.{Axis}
use Rattle.arr_core.specs.declared.signature.Signature.{Signature}
use Rattle.arr_core.specs.Domains.{size_of, IsDomain}
use Rattle.arr_core.specs.Names.{is_name}
use Rattle.wcps_text.specs.Tree.{only}
use Rattle.wcps_types.specs.declared.bound.Bound.{Bound}
use Rattle.wcps_types.specs.declared.refusal.TypeRefusal.TheVariants.{NeedsInteger}
use Rattle.wcps_types.specs.Typed.{Typed, bracket, condense_where, TypedTree}
use Rattle.wcps_types.specs.Shapes.{unnamed}
use Rattle.wcps_types.specs.Bindings.{bound_to, no_bindings, bound_from}
use Rattle.wcps_types.specs.Boxes.{is_domain, no_iterators}
use Rattle.wcps_types.specs.Brackets.{written_bounds}
use Rattle.wcps_types.specs.Queries.{typ_query}
use Rattle.wcps_types.specs.Typing.{typ, typ_iters, typ_condition}
use Rattle.wcps_types.proofs.Domains.{Decides-domain}
use Rattle.wcps_types.proofs.Parts.{no_test}
use Rattle.wcps_mean.specs.Answer.{answer}
use Rattle.map_templates.specs.declared.params.Layer.{Layer}
use Rattle.map_templates.specs.declared.template.Summary.{Summary}
use Rattle.map_templates.specs.declared.template.Summary.TheVariants as summaries
use Rattle.map_templates.specs.Expansion.{focal_on}
use Rattle.map_templates.specs.Meaning.{Cells, AreIntegers, listed, array_of}
use Rattle.map_templates.specs.Queries.{IsAxis, IsCoverage}
use Rattle.map_templates.specs.TypedTrees as trees
use Rattle.map_templates.specs.TypedTrees.{located, literal, window_of, windows_of}
use Rattle.map_templates.proofs.Found.{IsFound, found_named}
use Rattle.map_templates.proofs.Laws.{tomlins}
use Rattle.map_templates.proofs.Layers.{layer_node, one, IsOne, layer_typed, layer_reads, bound_one, one_choice, query_typed, query_refused}
use Rattle.map_templates.proofs.Windows.{window-size}
use Rattle.map_templates.proofs.Spelled.{layer_expr, bound_tree, bound_expr, edges_expr, focal_body, place_iters, window_iters, focal_condense, focal_expr, focal_tree}

-- what typing asks of an axis
pub record IsWritten (a : Axis) : Type 0 where
  pub name : is_name a.name ≡ true
  pub bounds : written_bounds a.lo a.hi ≡ Ok (record { lo = a.lo; hi = a.hi })
  pub self : bytes_eq a.name a.name ≡ true

in_order : (a b : ℤ) → a ≤ℤ b → int_le a b ≡ true
in_order a b h = grind (arith, ints)

pub are_written_bounds : (lo hi : ℤ) → lo ≤ℤ hi → negsuc 2147483647 ≤ℤ lo → hi ≤ℤ pos 2147483647 → written_bounds lo hi ≡ Ok (record { lo = lo; hi = hi })
are_written_bounds lo hi a b c = rw (in_order lo hi a, in_order (negsuc 2147483647) lo b, in_order hi (pos 2147483647) c) refl

pub is_written : (a : Axis) → IsAxis a → a.lo ≤ℤ a.hi → IsWritten a
is_written a is ordered = record { name = is.named; bounds = are_written_bounds a.lo a.hi ordered is.small.0 is.small.1; self = (bytes_eq-Decides a.name a.name).1 refl }

-- ---- the condition

abbrev names : List (List ℕ)
names = codes "$p" ∷ codes "$q" ∷ codes "$u" ∷ codes "$v" ∷ []

abbrev bindings : List Bound
bindings = bound_to (codes "a") 0 ∷ []

bound_typed : (cs : List Signature) (z : ℤ) → typ cs bindings names (bound_expr z) ≡ Ok (unnamed [] false (literal z))
bound_typed cs (pos n) = refl
bound_typed cs (negsuc n) = refl

edges_typed : (cs : List Signature) (x y : Axis)
    → typ_condition cs bindings names (only (edges_expr x y)) ≡ Ok (Some (trees.edges_tree x y))
edges_typed cs x y = rw (bound_typed cs x.lo, bound_typed cs x.hi, bound_typed cs y.lo, bound_typed cs y.hi) refl

-- ---- the value

body_typed : (cs : List Signature) (layer : Layer) (x y : Axis) (t : Typed) (n : Option (List ℕ)) (b : Bool) → typ cs bindings names (layer_expr (codes "a") layer) ≡ Ok (one (x ∷ y ∷ []) n b t)
    → bytes_eq x.name y.name ≡ false → IsWritten x → IsWritten y
    → typ cs bindings names (focal_body layer x y) ≡ Ok (one [] n b (bracket (located t 0 (x ∷ y ∷ []) (trees.first_moved ∷ trees.second_moved ∷ []))))
body_typed cs layer x y t n b typed unlike hx hy = rw typed (simp (unlike, hx.self, hy.self) refl)

-- ---- the iterators

places_typed : (cs : List Signature) (x y : Axis) → bytes_eq x.name y.name ≡ false → IsWritten x → IsWritten y
    → typ_iters cs bindings [] no_iterators (place_iters x y) ≡ Ok (record { variables = codes "$p" ∷ codes "$q" ∷ []; axes = x ∷ y ∷ [] })
places_typed cs x y unlike hx hy = rw (hx.bounds, hx.name) (rw (unlike, hy.bounds, hy.name) refl)

windows_typed : (cs : List Signature) (x y : Axis) (r : ℕ) → r ≤ 8 → bytes_eq x.name y.name ≡ false → IsWritten x → IsWritten y
    → typ_iters cs bindings (codes "$p" ∷ codes "$q" ∷ []) no_iterators (window_iters x y r) ≡ Ok (record { variables = codes "$u" ∷ codes "$v" ∷ []; axes = windows_of r (x ∷ y ∷ []) })
windows_typed cs x y r small unlike hx hy =
    let w = are_written_bounds (pos 0 -ℤ pos r) (pos r) (omega (arith, ints)) (omega (arith, ints)) (omega (arith, ints)) in
    rw (w, hx.name) (rw (unlike, hy.name) refl)

condense_typed : (op : Summary) (cs : List Signature) (layer : Layer) (x y : Axis) (r : ℕ) (t : Typed) (n : Option (List ℕ)) → r ≤ 8 → typ cs bindings names (layer_expr (codes "a") layer) ≡ Ok (one (x ∷ y ∷ []) n false t)
    → bytes_eq x.name y.name ≡ false → IsWritten x → IsWritten y → is_domain (windows_of r (x ∷ y ∷ [])) ≡ true
    → typ cs bindings (codes "$p" ∷ codes "$q" ∷ []) (focal_condense op layer x y r)
    ≡ Ok (unnamed [] false (condense_where (trees.condenser_of op) (windows_of r (x ∷ y ∷ [])) (trees.edges_tree x y) (bracket (located t 0 (x ∷ y ∷ []) (trees.first_moved ∷ trees.second_moved ∷ [])))))
condense_typed summaries.Sum cs layer x y r t n small typed unlike hx hy box =
    rw (windows_typed cs x y r small unlike hx hy, box, edges_typed cs x y, body_typed cs layer x y t n false typed unlike hx hy) refl
condense_typed summaries.Maximum cs layer x y r t n small typed unlike hx hy box =
    rw (windows_typed cs x y r small unlike hx hy, box, edges_typed cs x y, body_typed cs layer x y t n false typed unlike hx hy) refl
condense_typed summaries.Minimum cs layer x y r t n small typed unlike hx hy box =
    rw (windows_typed cs x y r small unlike hx hy, box, edges_typed cs x y, body_typed cs layer x y t n false typed unlike hx hy) refl

-- a Boolean layer is refused
condense_refused : (op : Summary) (cs : List Signature) (layer : Layer) (x y : Axis) (r : ℕ) (t : Typed) (n : Option (List ℕ)) → r ≤ 8 → typ cs bindings names (layer_expr (codes "a") layer) ≡ Ok (one (x ∷ y ∷ []) n true t)
    → bytes_eq x.name y.name ≡ false → IsWritten x → IsWritten y → is_domain (windows_of r (x ∷ y ∷ [])) ≡ true
    → typ cs bindings (codes "$p" ∷ codes "$q" ∷ []) (focal_condense op layer x y r) ≡ Err NeedsInteger
condense_refused summaries.Sum cs layer x y r t n small typed unlike hx hy box =
    rw (windows_typed cs x y r small unlike hx hy, box, edges_typed cs x y, body_typed cs layer x y t n true typed unlike hx hy) refl
condense_refused summaries.Maximum cs layer x y r t n small typed unlike hx hy box =
    rw (windows_typed cs x y r small unlike hx hy, box, edges_typed cs x y, body_typed cs layer x y t n true typed unlike hx hy) refl
condense_refused summaries.Minimum cs layer x y r t n small typed unlike hx hy box =
    rw (windows_typed cs x y r small unlike hx hy, box, edges_typed cs x y, body_typed cs layer x y t n true typed unlike hx hy) refl

value_typed : (op : Summary) (cs : List Signature) (layer : Layer) (x y : Axis) (r : ℕ) (t : Typed) (n : Option (List ℕ)) → r ≤ 8 → typ cs bindings names (layer_expr (codes "a") layer) ≡ Ok (one (x ∷ y ∷ []) n false t)
    → bytes_eq x.name y.name ≡ false → IsWritten x → IsWritten y → is_domain (x ∷ y ∷ []) ≡ true → is_domain (windows_of r (x ∷ y ∷ [])) ≡ true
    → typ cs bindings [] (focal_expr op layer x y r) ≡ Ok (unnamed (x ∷ y ∷ []) false (trees.focal_tree op x y r t))
value_typed op cs layer x y r t n small typed unlike hx hy dom box = rw (places_typed cs x y unlike hx hy, dom, condense_typed op cs layer x y r t n small typed unlike hx hy box) refl

value_refused : (op : Summary) (cs : List Signature) (layer : Layer) (x y : Axis) (r : ℕ) (t : Typed) (n : Option (List ℕ)) → r ≤ 8 → typ cs bindings names (layer_expr (codes "a") layer) ≡ Ok (one (x ∷ y ∷ []) n true t)
    → bytes_eq x.name y.name ≡ false → IsWritten x → IsWritten y → is_domain (x ∷ y ∷ []) ≡ true → is_domain (windows_of r (x ∷ y ∷ [])) ≡ true
    → typ cs bindings [] (focal_expr op layer x y r) ≡ Err NeedsInteger
value_refused op cs layer x y r t n small typed unlike hx hy dom box = rw (places_typed cs x y unlike hx hy, dom, condense_refused op cs layer x y r t n small typed unlike hx hy box) refl

-- ---- domains

unlike_names : (x y : Axis) → IsDomain (x ∷ y ∷ []) → bytes_eq x.name y.name ≡ false
unlike_names x y d = no_test (bytes_eq x.name y.name) (λ same. d.distinct.0 (here ((bytes_eq-Decides x.name y.name).0 same)))
  where
    here : x.name ≡ y.name → Contains (y.name ∷ []) x.name
    here e = search (rules, e)

windows_domain : (x y : Axis) (r : ℕ) → r ≤ 8 → IsDomain (x ∷ y ∷ []) → IsDomain (windows_of r (x ∷ y ∷ []))
windows_domain x y r small d = record {
  few_axes = omega arith;
  distinct = d.distinct;
  ordered = (omega (arith, ints), (omega (arith, ints), tt));
  few_points = few (size_of (window_of r x)) (size_of (window_of r y)) (window-size r x) (window-size r y);
}
  where
    few : (m n : ℕ) → m ≡ (r + r) + 1 → n ≡ (r + r) + 1 → m * (n * 1) ≤ 2 ^ 24
    few m n e h = omega (arith, mul-le-mul_right (n * 1) (at_most m e))
      where
        at_most : (m : ℕ) → m ≡ (r + r) + 1 → m ≤ 17
        at_most m e = omega arith

pub focal_answered : (op : Summary) (signatures : List Signature) (layer : Layer) (s : Signature) (f : ℕ) (x y : Axis) (r : ℕ) → IsFound signatures layer s f → s.domain ≡ x ∷ y ∷ [] → r ≤ 8 → All IsCoverage signatures
    → (q : TypedTree) (cells : Cells) → typ_query signatures (focal_tree op layer x y r) ≡ Ok q → AreIntegers cells → answer (listed cells q.coverages) q ≡ array_of cells (focal_on op layer f x y r)
focal_answered op signatures layer s f x y r h domain small all q cells accepted integers = by_kind l.boolean refl
  where
    named : (s.name ≡ layer.coverage) × IsCoverage s
    named = found_named signatures layer s f h all

    known : IsDomain (x ∷ y ∷ [])
    known = subst IsDomain domain named.1.domain

    axes : All IsAxis (x ∷ y ∷ [])
    axes = subst (λ (d : List Axis). All IsAxis d) domain named.1.axes

    hx : IsWritten x
    hx = is_written x (axes 0 x (omega arith)) known.ordered.0

    hy : IsWritten y
    hy = is_written y (axes 1 y (omega arith)) known.ordered.1.0

    unlike : bytes_eq x.name y.name ≡ false
    unlike = unlike_names x y known

    l : IsOne (typ (s ∷ []) (bound_to (codes "a") 0 ∷ []) (codes "$p" ∷ codes "$q" ∷ codes "$u" ∷ codes "$v" ∷ []) (layer_expr (codes "a") layer)) (x ∷ y ∷ []) (layer_node 0 layer.field f)
    l = subst (λ (d : List Axis). IsOne (typ (s ∷ []) (bound_to (codes "a") 0 ∷ []) (codes "$p" ∷ codes "$q" ∷ codes "$u" ∷ codes "$v" ∷ []) (layer_expr (codes "a") layer)) d (layer_node 0 layer.field f)) domain
        (layer_typed (s ∷ []) (bound_to (codes "a") 0 ∷ []) (codes "$p" ∷ codes "$q" ∷ codes "$u" ∷ codes "$v" ∷ []) (codes "a") layer.field s 0 f refl h.field)

    found : bound_from signatures no_bindings (bound_tree (codes "a") layer.coverage ∷ []) ≡ Ok (record { coverages = s ∷ []; choices = one_choice (codes "a") 0 ∷ [] })
    found = bound_one signatures (codes "a") layer.coverage s h.found

    by_kind : (b : Bool) → l.boolean ≡ b → answer (listed cells q.coverages) q ≡ array_of cells (focal_on op layer f x y r)
    by_kind false e =
        let typed = subst (λ (b : Bool). typ (s ∷ []) (bound_to (codes "a") 0 ∷ []) (codes "$p" ∷ codes "$q" ∷ codes "$u" ∷ codes "$v" ∷ []) (layer_expr (codes "a") layer) ≡ Ok (one (x ∷ y ∷ []) l.name b (layer_node 0 layer.field f))) e l.is in
        let node = trees.focal_tree op x y r (layer_node 0 layer.field f) in
        let is = query_typed signatures (bound_tree (codes "a") layer.coverage ∷ []) (focal_expr op layer x y r) (s ∷ []) (one_choice (codes "a") 0 ∷ []) (bound_to (codes "a") 0 ∷ []) (x ∷ y ∷ []) node q found refl refl
        (value_typed op (s ∷ []) layer x y r (layer_node 0 layer.field f) l.name small typed unlike hx hy ((Decides-domain (x ∷ y ∷ [])).1 known) ((Decides-domain (windows_of r (x ∷ y ∷ []))).1 (windows_domain x y r small known))) accepted in
        subst (λ (u : TypedTree). answer (listed cells u.coverages) u ≡ array_of cells (focal_on op layer f x y r)) (sym is)
        (tomlins (focal_on op layer f x y r) (listed cells (s ∷ [])) cells (s ∷ []) (layer_node 0 layer.field f) (layer_node 0 layer.field f) integers (layer_reads cells (s ∷ []) layer s 0 f layer.field refl named.0)
        (small, (axes 0 x (omega arith)).small, (axes 1 y (omega arith)).small) known.ordered)
    by_kind true e =
        let typed = subst (λ (b : Bool). typ (s ∷ []) (bound_to (codes "a") 0 ∷ []) (codes "$p" ∷ codes "$q" ∷ codes "$u" ∷ codes "$v" ∷ []) (layer_expr (codes "a") layer) ≡ Ok (one (x ∷ y ∷ []) l.name b (layer_node 0 layer.field f))) e l.is in
        absurd (query_refused signatures (bound_tree (codes "a") layer.coverage ∷ []) (focal_expr op layer x y r) (s ∷ []) (one_choice (codes "a") 0 ∷ []) (bound_to (codes "a") 0 ∷ []) NeedsInteger q found refl refl
        (value_refused op (s ∷ []) layer x y r (layer_node 0 layer.field f) l.name small typed unlike hx hy ((Decides-domain (x ∷ y ∷ [])).1 known) ((Decides-domain (windows_of r (x ∷ y ∷ []))).1 (windows_domain x y r small known))) accepted)
