-- A lowered item gives what the item gives.
use Rattle.std.proofs.Common.{◌≡◌, ℕ, suc, List, [], ◌∷◌, ◌++◌, length, map, refl, sym, ap, ◌∙◌, ℤ, Bool, true, false, cond, Result, Ok, Err}
use Rattle.std.specs.Prelude.{int_le, ◌&&◌}
use Rattle.std.proofs.lemmas.List.{length-map}
use Rattle.std.proofs.lemmas.Simd.{map-map}
use Rattle.arr_core.specs.declared.cell.Cell.{Cell}
use Rattle.arr_core.specs.Domains.{points}
use Rattle.wcps_types.specs.declared.typed.Node.{Node}
use Rattle.wcps_types.specs.declared.typed.Node.TheVariants as nodes
use Rattle.wcps_types.specs.declared.typed.TypedItem.{TypedItem}
use Rattle.wcps_types.specs.Typed.{Typed, bracket, slice, FieldTree, field_tree, only_tree, fields_view, item_view}
use Rattle.wcps_mean.specs.declared.cell.PointFault.{PointFault}
use Rattle.wcps_mean.specs.declared.cell.PointFault.TheVariants.{OutOfDomain}
use Rattle.wcps_mean.specs.declared.cell.Outcome.{Outcome}
use Rattle.wcps_mean.specs.declared.cell.Outcome.TheVariants.{Value, Fault}
use Rattle.wcps_mean.specs.Cells.{at_position}
use Rattle.wcps_mean.specs.Meaning.{val}
use Rattle.wcps_mean.specs.Answer.{then_of, given, joined, cell_of, line_of, field_count, cells_at as answer_cells, item_answer}
use Rattle.plan_ir.specs.Run.{run}
use Rattle.plan_ir.specs.Placed.{span, spans}
use Rattle.wcps_mean.specs.Cells.{coordinate_in}
use Rattle.plan_ir.specs.Planned.{bound, field_cell, cells_at, item_planned}
use Rattle.plan_rewrite.specs.Lowering.{Setting, outermost, at_scalar, at_slice, lowered}
use Rattle.plan_rewrite.specs.LoweredItems.{Chain, end, bracketed, sliced, chain_of, chain_tree, chain_binds, chain_fields, lowered_field, item_binds, lowered_item}
use Rattle.plan_rewrite.proofs.Scopes.{Lie, lie-length, points-lie}
use Rattle.plan_rewrite.proofs.InlinedPlans.{map-same}
use Rattle.plan_rewrite.proofs.Lowers.{outer-means}

-- the chain of a node has its trees
pub chain-tree : (e : Node) (k : ℕ) → chain_tree (chain_of e) k ≡ field_tree e k
chain-tree (nodes.Number z) k = refl
chain-tree (nodes.Iterator j) k = refl
chain-tree (nodes.Coverage v) k = refl
chain-tree (nodes.Unary' op p e) k = refl
chain-tree (nodes.Binary' op p l q r) k = refl
chain-tree (nodes.Scalar' p e) k = refl
chain-tree (nodes.Record' shape parts) k = refl
chain-tree (nodes.Select' p e j) k = refl
chain-tree (nodes.Bracket' p e) k = ap bracket (chain-tree e k)
chain-tree (nodes.Slice' p e axis lo hi q i) k = ap (λ t. slice t axis lo hi (only_tree i)) (chain-tree e k)
chain-tree (nodes.Array' p e) k = refl
chain-tree (nodes.List box items) k = refl
chain-tree (nodes.Condense' op box p e) k = refl
chain-tree (nodes.CondenseWhere' op box p c q e) k = refl
chain-tree (nodes.Reduce' op box p e) k = refl

-- the fields of a chain from that of place k on
abbrev pub chain_views : Chain → ℕ → List Bool → List FieldTree
chain_views h k [] = []
chain_views h k (b ∷ bs) = record { boolean = b; tree = chain_tree h k } ∷ chain_views h (suc k) bs

pub chain-views : (e : Node) (k : ℕ) (bs : List Bool) → chain_views (chain_of e) k bs ≡ fields_view e k bs
chain-views e k [] = refl
chain-views e k (b ∷ bs) =
    ap (λ t. record { boolean = b; tree = t } ∷ chain_views (chain_of e) (suc k) bs) (chain-tree e k)
    ∙ ap (λ l. record { boolean = b; tree = field_tree e k } ∷ l) (chain-views e (suc k) bs)

pub end-views : (e : Node) (k : ℕ) (bs : List Bool) → fields_view e k bs ≡ chain_views (end e) k bs
end-views e k [] = refl
end-views e k (b ∷ bs) = ap (λ l. record { boolean = b; tree = field_tree e k } ∷ l) (end-views e (suc k) bs)

-- a bracket changes no body
pub bracket-fields : (c : Setting) (h : Chain) (k : ℕ) (bs : List Bool) → map (lowered_field c) (chain_views h k bs) ≡ map (lowered_field c) (chain_views (bracketed h) k bs)
bracket-fields c h k [] = refl
bracket-fields c h k (b ∷ bs) = ap (λ l. lowered_field c (record { boolean = b; tree = chain_tree h k }) ∷ l) (bracket-fields c h (suc k) bs)

-- the cell of a field below a slice whose position has an outcome
abbrev cell_from : (ℕ → ℕ → List ℤ → ℤ) → List Outcome → Setting → ℕ → ℤ → ℤ → List ℤ → Outcome → FieldTree → Result (List Cell) PointFault
cell_from s regs c axis lo hi vars o f =
    given (λ z. cell_of f.boolean z ∷ []) (at_position o lo hi (λ z. run s regs (lowered (at_slice c axis lo hi) f.tree) (vars ++ z ∷ [])))

slice-fields : (s : ℕ → ℕ → List ℤ → ℤ) (regs : List Outcome) (c : Setting) (axis : ℕ) (lo hi : ℤ) (i : Typed) (vars : List ℤ) (h : Chain) (k : ℕ) (bs : List Bool)
    → map (cell_from s regs c axis lo hi vars (run s regs (lowered (at_scalar c) i) vars)) (chain_views h k bs) ≡ map (field_cell s regs vars) (map (lowered_field c) (chain_views (sliced axis lo hi i h) k bs))
slice-fields s regs c axis lo hi i vars h k [] = refl
slice-fields s regs c axis lo hi i vars h k (b ∷ bs) =
    ap (λ l. cell_from s regs c axis lo hi vars (run s regs (lowered (at_scalar c) i) vars) (record { boolean = b; tree = chain_tree h k }) ∷ l) (slice-fields s regs c axis lo hi i vars h (suc k) bs)

-- what a test of a position lets through, where there is a field
tested-cells : (t : Bool) (z : ℤ) (go : ℤ → Result (List Cell) PointFault) (booleans : FieldTree → Bool) (inner : FieldTree → Outcome) (f : FieldTree) (fs : List FieldTree)
    → go z ≡ joined (map (λ f. given (λ z. cell_of f.boolean z ∷ []) (inner f)) (f ∷ fs))
    → then_of (cond t (Ok z) (Err OutOfDomain)) go ≡ joined (map (λ f. given (λ z. cell_of f.boolean z ∷ []) (cond t (inner f) (Fault OutOfDomain))) (f ∷ fs))
tested-cells true z go booleans inner f fs h = h
tested-cells false z go booleans inner f fs h = refl

position-cells : (s : ℕ → ℕ → List ℤ → ℤ) (regs : List Outcome) (c : Setting) (axis : ℕ) (lo hi : ℤ) (vars : List ℤ) (o : Outcome) (go : ℤ → Result (List Cell) PointFault) (f : FieldTree) (fs : List FieldTree)
    → ((z : ℤ) → go z ≡ joined (map (λ (f : FieldTree). given (λ z. cell_of f.boolean z ∷ []) (run s regs (lowered (at_slice c axis lo hi) f.tree) (vars ++ z ∷ []))) (f ∷ fs)))
    → then_of (coordinate_in o lo hi) go ≡ joined (map (cell_from s regs c axis lo hi vars o) (f ∷ fs))
position-cells s regs c axis lo hi vars (Fault e) go f fs h = refl
position-cells s regs c axis lo hi vars (Value z) go f fs h =
    tested-cells (int_le lo z && int_le z hi) z go (λ f. f.boolean) (λ (f : FieldTree). run s regs (lowered (at_slice c axis lo hi) f.tree) (vars ++ z ∷ [])) f fs (h z)

then-then : {A B C : Type 0} (r : Result A PointFault) (f : A → Result B PointFault) (g : B → Result C PointFault) → then_of (then_of r f) g ≡ then_of r (λ a. then_of (f a) g)
then-then (Err e) f g = refl
then-then (Ok a) f g = refl

chain-cells : (h : Chain) (s : ℕ → ℕ → List ℤ → ℤ) (regs : List Outcome) (c : Setting) (vars : List ℤ) (b : Bool) (bs : List Bool)
    → then_of (bound s regs (chain_binds c h) vars) (λ v. joined (map (field_cell s regs v) (chain_fields c h (b ∷ bs)))) ≡ joined (map (field_cell s regs vars) (map (lowered_field c) (chain_views h 0 (b ∷ bs))))
chain-cells (end e) s regs c vars b bs = ap (λ l. joined (map (field_cell s regs vars) (map (lowered_field c) l))) (end-views e 0 (b ∷ bs))
chain-cells (bracketed h) s regs c vars b bs = chain-cells h s regs c vars b bs ∙ ap (λ l. joined (map (field_cell s regs vars) l)) (bracket-fields c h 0 (b ∷ bs))
chain-cells (sliced axis lo hi i h) s regs c vars b bs =
    let inner = at_slice c axis lo hi in
    let views = chain_views h 0 (b ∷ bs) in
    then-then (coordinate_in (run s regs (lowered (at_scalar c) i) vars) lo hi) (λ z. bound s regs (chain_binds inner h) (vars ++ z ∷ [])) (λ v. joined (map (field_cell s regs v) (chain_fields inner h (b ∷ bs))))
    ∙ position-cells s regs c axis lo hi vars (run s regs (lowered (at_scalar c) i) vars) _ (record { boolean = b; tree = chain_tree h 0 }) (chain_views h 1 bs) (λ z.
    chain-cells h s regs inner (vars ++ z ∷ []) b bs ∙ ap joined (map-map (field_cell s regs (vars ++ z ∷ [])) (lowered_field inner) views))
    ∙ ap joined (slice-fields s regs c axis lo hi i vars h 0 (b ∷ bs))

pub no-fields : (h : Chain) (c : Setting) → chain_fields c h [] ≡ []
no-fields (end e) c = refl
no-fields (bracketed h) c = no-fields h c
no-fields (sliced axis lo hi i h) c = no-fields h (at_slice c axis lo hi)

-- without binds for an item without fields
item-cells : (s : ℕ → ℕ → List ℤ → ℤ) (regs : List Outcome) (c : Setting) (h : Chain) (vars : List ℤ) (bs : List Bool)
    → then_of (bound s regs (item_binds bs (chain_binds c h)) vars) (λ v. joined (map (field_cell s regs v) (chain_fields c h bs))) ≡ joined (map (field_cell s regs vars) (map (lowered_field c) (chain_views h 0 bs)))
item-cells s regs c h vars [] = ap (λ l. joined (map (field_cell s regs vars) l)) (no-fields h c)
item-cells s regs c h vars (b ∷ bs) = chain-cells h s regs c vars b bs

fields-mean : (axes : List _) (s : ℕ → ℕ → List ℤ → ℤ) (regs : List Outcome) (p : List ℤ) (fs : List FieldTree) → length p ≡ length axes
    → map (field_cell s regs p) (map (lowered_field (outermost [] axes)) fs) ≡ map (λ (f : FieldTree). given (λ z. cell_of f.boolean z ∷ []) (val s f.tree [] p)) fs
fields-mean axes s regs p [] e = refl
fields-mean axes s regs p (f ∷ fs) e =
    ap (λ o. given (λ z. cell_of f.boolean z ∷ []) o ∷ map (field_cell s regs p) (map (lowered_field (outermost [] axes)) fs)) (outer-means f.tree [] axes s regs [] p refl e)
    ∙ ap (λ l. given (λ z. cell_of f.boolean z ∷ []) (val s f.tree [] p) ∷ l) (fields-mean axes s regs p fs e)

point-lowered : (i : TypedItem) (s : ℕ → ℕ → List ℤ → ℤ) (regs : List Outcome) (p : List ℤ) → length p ≡ length i.domain → cells_at s regs (lowered_item i) p ≡ answer_cells s (item_view i).fields p
point-lowered i s regs p e =
    let c = outermost [] i.domain in
    item-cells s regs c (chain_of i.node.value) p i.booleans.items
    ∙ ap (λ l. joined (map (field_cell s regs p) (map (lowered_field c) l))) (chain-views i.node.value 0 i.booleans.items)
    ∙ ap joined (fields-mean i.domain s regs p (fields_view i.node.value 0 i.booleans.items) e)

views-length : (e : Node) (k : ℕ) (bs : List Bool) → length (fields_view e k bs) ≡ length bs
views-length e k [] = refl
views-length e k (b ∷ bs) = ap suc (views-length e (suc k) bs)

pub fields-length : (h : Chain) (c : Setting) (bs : List Bool) → length (chain_fields c h bs) ≡ length bs
fields-length (end e) c bs = length-map (fields_view e 0 bs) (lowered_field c) ∙ views-length e 0 bs
fields-length (bracketed h) c bs = fields-length h c bs
fields-length (sliced axis lo hi i h) c bs = fields-length h (at_slice c axis lo hi) bs

-- a lowered item gives what the item gives
pub item-lowered : (i : TypedItem) (s : ℕ → ℕ → List ℤ → ℤ) (regs : List Outcome) → item_planned s regs (lowered_item i) ≡ item_answer s (item_view i)
item-lowered i s regs =
    ap (λ (r : Result (List Cell) PointFault). then_of r (λ cells. Ok (record { line = line_of i.domain; fields = field_count (length (lowered_item i).fields); cells = cells })))
    (ap joined (map-same (Lie (spans i.domain)) (cells_at s regs (lowered_item i)) (answer_cells s (item_view i).fields) (points i.domain)
    (λ p l. point-lowered i s regs p (lie-length (spans i.domain) p l ∙ length-map i.domain span)) (points-lie i.domain)))
    ∙ ap (λ n. then_of (joined (map (answer_cells s (item_view i).fields) (points i.domain))) (λ cells. Ok (record { line = line_of i.domain; fields = field_count n; cells = cells })))
    (fields-length (chain_of i.node.value) (outermost [] i.domain) i.booleans.items ∙ sym (views-length i.node.value 0 i.booleans.items))
