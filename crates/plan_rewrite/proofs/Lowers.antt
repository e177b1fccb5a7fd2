-- A lowered body means what the typed tree means, and is well-formed.
use Rattle.std.proofs.Common.{◌≡◌, ℕ, zero, suc, List, [], ◌∷◌, ◌++◌, length, map, get_or, take, drop, refl, sym, ap, ◌∙◌, subst, arith, ℤ, pos, length-append}
use Rattle.std.specs.Prelude.{Option, Some, None, slice_get, insert}
use Rattle.std.proofs.lemmas.List.{map-append, length-map, take-map, drop-map}
use Rattle.std.proofs.lemmas.List.Concat.{flat_map_single}
use Rattle.arr_core.specs.declared.domain.Axis.{Axis}
use Rattle.arr_core.specs.declared.signature.Signature.{Signature}
use Rattle.arr_core.specs.Domains.{points}
use Rattle.wcps_types.specs.Typed.{Typed, number, iterator, cell, unary, binary, scalar, select, bracket, slice, array, listed, condense, condense_where, reduce}
use Rattle.wcps_types.specs.WellTyped.{LieWithin, from_to, IsTyped, HasCells as TreeHasCells}
use Rattle.wcps_mean.specs.declared.cell.Outcome.{Outcome}
use Rattle.wcps_mean.specs.declared.cell.Outcome.TheVariants.{Value}
use Rattle.wcps_mean.specs.Cells.{operate1, operate2, at_position}
use Rattle.wcps_mean.specs.Condensers.{condensed, demanded}
use Rattle.wcps_mean.specs.Meaning.{val}
use Rattle.plan_ir.specs.declared.body.Index.{Index}
use Rattle.plan_ir.specs.declared.body.Index.TheVariants.{Const, Var}
use Rattle.plan_ir.specs.declared.body.Interval.{Interval}
use Rattle.plan_ir.specs.Run.{number_at, numbers_at, run}
use Rattle.plan_ir.specs.Placed.{span, spans, LiesIn, Indexes, HasCells, IsPlaced}
use Rattle.plan_rewrite.specs.Inlining.{levels}
use Rattle.plan_rewrite.specs.Lowering.{Setting, outermost, at_scalar, at_iterators, at_slice, at_box, at_points, lowered}
use Rattle.plan_rewrite.proofs.Scopes.{Lie, lie-length, points-lie, flat-same, at-map, lies-wider, indexes-more, indexes-append, levels-lie, numbers-more, numbers-levels, numbers-with, indexes-under}
use Rattle.plan_rewrite.proofs.Inlines.{position-same, variable-means, variable-placed}

map-insert : {X Y : Type 0} (f : X → Y) (xs : List X) (k : ℕ) (x : X) → map f (insert xs k x) ≡ insert (map f xs) k (f x)
map-insert f xs k x =
    map-append f (take k xs) (x ∷ drop k xs)
    ∙ ap (λ l. l ++ f x ∷ map f (drop k xs)) (sym (take-map f k xs))
    ∙ ap (λ l. take k (map f xs) ++ f x ∷ l) (sym (drop-map f k xs))

indexes-insert : (dom scope : List Interval) (is : List Index) (k : ℕ) (a : Interval) (i : Index) → LiesIn a scope i → Indexes dom scope is → Indexes (insert dom k a) scope (insert is k i)
indexes-insert dom scope is zero a i l h = (l, h)
indexes-insert [] scope [] (suc k) a i l h = (l, tt)
indexes-insert [] scope (j ∷ is) (suc k) a i l h = absurd h
indexes-insert (d ∷ dom) scope [] (suc k) a i l h = absurd h
indexes-insert (d ∷ dom) scope (j ∷ is) (suc k) a i l h = (h.0, indexes-insert dom scope is k a i l h.1)

-- the indexes of a point with one more coordinate
sliced-indexes : (dom : List Interval) (c : Setting) (axis : ℕ) (lo hi : ℤ) → Indexes dom c.scope c.point → Indexes (insert dom axis (record { lo = lo; hi = hi })) (at_slice c axis lo hi).scope (at_slice c axis lo hi).point
sliced-indexes dom c axis lo hi h =
    let i : Interval = record { lo = lo; hi = hi } in
    let last = levels-lie c.scope (i ∷ []) (length c.scope) refl in
    indexes-insert dom (c.scope ++ i ∷ []) c.point axis i (Var (length c.scope)) last.0 (indexes-more dom c.scope (i ∷ []) c.point h)

longer : (scope more : List Interval) (vars xs : List ℤ) → length vars ≡ length scope → length xs ≡ length more → length (vars ++ xs) ≡ length (scope ++ more)
longer scope more vars xs e f = omega (arith, length-append vars xs, length-append scope more)

sliced-point : (dom : List Interval) (c : Setting) (axis : ℕ) (lo hi : ℤ) (vars : List ℤ) (z : ℤ) → Indexes dom c.scope c.point → length vars ≡ length c.scope → numbers_at (vars ++ z ∷ []) (at_slice c axis lo hi).point ≡ insert (numbers_at vars c.point) axis z
sliced-point dom c axis lo hi vars z h len =
    let last = numbers-levels vars (z ∷ []) (record { lo = lo; hi = hi } ∷ []) (length c.scope) len refl in
    map-insert (number_at (vars ++ z ∷ [])) c.point axis (Var (length c.scope))
    ∙ ap (λ p. insert p axis (get_or (vars ++ z ∷ []) (length c.scope) (pos 0))) (numbers-more dom c.scope vars (z ∷ []) c.point len h)
    ∙ ap (λ l. insert (numbers_at vars c.point) axis (get_or l 0 (pos 0))) last

pub lowered-means : (t : Typed) (s : ℕ → ℕ → List ℤ → ℤ) (regs : List Outcome) (iters dom : List Interval) (c : Setting) (vars : List ℤ) → Indexes iters c.scope c.iterators → Indexes dom c.scope c.point → length vars ≡ length c.scope → run s regs (lowered c t) vars ≡ val s t (numbers_at vars c.iterators) (numbers_at vars c.point)
lowered-means (number z) s regs iters dom c vars h k len = refl
lowered-means (iterator j) s regs iters dom c vars h k len =
    variable-means s regs vars (get_or c.iterators j (Const (pos 0))) ∙ ap Value (sym (at-map (number_at vars) c.iterators j (Const (pos 0))))
lowered-means (cell coverage field) s regs iters dom c vars h k len = refl
lowered-means (unary op e) s regs iters dom c vars h k len = ap (operate1 op) (lowered-means e s regs iters dom c vars h k len)
lowered-means (binary op l r) s regs iters dom c vars h k len =
    ap (λ o. operate2 op o (run s regs (lowered c r) vars)) (lowered-means l s regs iters dom c vars h k len)
    ∙ ap (operate2 op (val s l (numbers_at vars c.iterators) (numbers_at vars c.point))) (lowered-means r s regs iters dom c vars h k len)
lowered-means (scalar e) s regs iters dom c vars h k len = lowered-means e s regs iters [] (at_scalar c) vars h tt len
lowered-means (select e) s regs iters dom c vars h k len = lowered-means e s regs iters dom c vars h k len
lowered-means (bracket e) s regs iters dom c vars h k len = lowered-means e s regs iters dom c vars h k len
lowered-means (slice e axis lo hi i) s regs iters dom c vars h k len =
    let one : List Interval = record { lo = lo; hi = hi } ∷ [] in
    let env = numbers_at vars c.iterators in
    let p = numbers_at vars c.point in
    ap (λ o. at_position o lo hi (λ z. run s regs (lowered (at_slice c axis lo hi) e) (vars ++ z ∷ []))) (lowered-means i s regs iters [] (at_scalar c) vars h tt len)
    ∙ position-same (val s i env []) lo hi _ _ (λ z above below.
    lowered-means e s regs iters (insert dom axis (record { lo = lo; hi = hi })) (at_slice c axis lo hi) (vars ++ z ∷ []) (indexes-more iters c.scope one c.iterators h) (sliced-indexes dom c axis lo hi k) (longer c.scope one vars (z ∷ []) len refl)
    ∙ ap (λ l. val s e l (numbers_at (vars ++ z ∷ []) (at_slice c axis lo hi).point)) (numbers-more iters c.scope vars (z ∷ []) c.iterators len h)
    ∙ ap (val s e env) (sliced-point dom c axis lo hi vars z k len))
lowered-means (array e) s regs iters dom c vars h k len =
    lowered-means e s regs (iters ++ dom) [] (at_iterators c) vars (indexes-append iters dom c.scope c.iterators c.point h k) tt len
    ∙ ap (λ env. val s e env []) (map-append (number_at vars) c.iterators c.point)
lowered-means (listed box items) s regs iters dom c vars h k len = refl
lowered-means (condense op box e) s regs iters dom c vars h k len =
    let env = numbers_at vars c.iterators in
    ap (condensed op) (flat-same (Lie (spans box)) _ (λ x. val s e (env ++ x) [] ∷ []) (points box) (λ x lx.
    let lies = lie-length (spans box) x lx in
    ap (λ o. o ∷ []) (lowered-means e s regs (iters ++ spans box) [] (at_box c box) (vars ++ x) (indexes-under iters c.scope (spans box) c.iterators h) tt (longer c.scope (spans box) vars x len lies)
    ∙ ap (λ l. val s e l []) (numbers-with iters c.scope c.iterators vars x (spans box) h len lies))) (points-lie box)
    ∙ flat_map_single (λ x. val s e (env ++ x) []) (points box))
lowered-means (condense_where op box b e) s regs iters dom c vars h k len =
    let env = numbers_at vars c.iterators in
    ap (condensed op) (flat-same (Lie (spans box)) _ _ (points box) (λ x lx.
    let lies = lie-length (spans box) x lx in
    let is = indexes-under iters c.scope (spans box) c.iterators h in
    let long = longer c.scope (spans box) vars x len lies in
    let under = numbers-with iters c.scope c.iterators vars x (spans box) h len lies in
    ap (λ o. demanded o (run s regs (lowered (at_box c box) e) (vars ++ x)))
    (lowered-means b s regs (iters ++ spans box) [] (at_box c box) (vars ++ x) is tt long ∙ ap (λ l. val s b l []) under)
    ∙ ap (demanded (val s b (env ++ x) []))
    (lowered-means e s regs (iters ++ spans box) [] (at_box c box) (vars ++ x) is tt long ∙ ap (λ l. val s e l []) under)) (points-lie box))
lowered-means (reduce op box e) s regs iters dom c vars h k len =
    let env = numbers_at vars c.iterators in
    ap (condensed op) (flat-same (Lie (spans box)) _ (λ x. val s e env x ∷ []) (points box) (λ x lx.
    let lies = lie-length (spans box) x lx in
    ap (λ o. o ∷ []) (lowered-means e s regs iters (spans box) (at_points c box) (vars ++ x) (indexes-more iters c.scope (spans box) c.iterators h) (levels-lie c.scope (spans box) (length c.scope) refl) (longer c.scope (spans box) vars x len lies)
    ∙ ap (λ l. val s e l (numbers_at (vars ++ x) (levels (length c.scope) (spans box)))) (numbers-more iters c.scope vars x c.iterators len h)
    ∙ ap (val s e env) (numbers-levels vars x (spans box) (length c.scope) len lies))) (points-lie box)
    ∙ flat_map_single (λ x. val s e env x) (points box))

-- what has one index for each axis has one for each wider axis
indexes-wider : (axes wider : List Axis) (scope : List Interval) (is : List Index) → LieWithin axes wider → Indexes (spans axes) scope is → Indexes (spans wider) scope is
indexes-wider [] [] scope is w h = h
indexes-wider [] (b ∷ wider) scope is w h = absurd w
indexes-wider (a ∷ axes) [] scope is w h = absurd w
indexes-wider (a ∷ axes) (b ∷ wider) scope [] w h = absurd h
indexes-wider (a ∷ axes) (b ∷ wider) scope (i ∷ is) w h = (lies-wider scope i (span a) (span b) (w.0, w.1) h.0, indexes-wider axes wider scope is w.2 h.1)

cells-lowered : (s : Option Signature) (field : ℕ) (axes : List Axis) (scope : List Interval) (is : List Index) → TreeHasCells s field axes → Indexes (spans axes) scope is → HasCells s field scope is
cells-lowered None field axes scope is t h = absurd t
cells-lowered (Some s) field axes scope is t h = (t.0, indexes-wider axes s.domain scope is t.1 h)

-- the iterators with those of a box
box-indexes : (iters box : List Axis) (c : Setting) → Indexes (spans iters) c.scope c.iterators → Indexes (spans (iters ++ box)) (at_box c box).scope (at_box c box).iterators
box-indexes iters box c h =
    subst (λ l. Indexes l (at_box c box).scope (at_box c box).iterators) (sym (map-append span iters box)) (indexes-under (spans iters) c.scope (spans box) c.iterators h)

pub lowered-placed : (t : Typed) (cs : List Signature) (regs : ℕ) (iters dom : List Axis) (c : Setting) → IsTyped cs t iters dom → Indexes (spans iters) c.scope c.iterators → Indexes (spans dom) c.scope c.point → IsPlaced (slice_get cs) regs c.scope (lowered c t)
lowered-placed (number z) cs regs iters dom c t h k = tt
lowered-placed (iterator j) cs regs iters dom c t h k = variable-placed (slice_get cs) regs (spans iters) c.scope c.iterators j h (omega (arith, t, length-map iters span))
lowered-placed (cell coverage field) cs regs iters dom c t h k = cells-lowered (slice_get cs coverage) field dom c.scope c.point t k
lowered-placed (unary op e) cs regs iters dom c t h k = lowered-placed e cs regs iters dom c t h k
lowered-placed (binary op l r) cs regs iters dom c t h k = (lowered-placed l cs regs iters dom c t.0 h k, lowered-placed r cs regs iters dom c t.1 h k)
lowered-placed (scalar e) cs regs iters dom c t h k = lowered-placed e cs regs iters [] (at_scalar c) t h tt
lowered-placed (select e) cs regs iters dom c t h k = lowered-placed e cs regs iters dom c t h k
lowered-placed (bracket e) cs regs iters dom c t h k = lowered-placed e cs regs iters dom c t h k
lowered-placed (slice e axis lo hi i) cs regs iters dom c t h k =
    let one : List Interval = record { lo = lo; hi = hi } ∷ [] in
    let narrow = subst (λ l. Indexes l (at_slice c axis lo hi).scope (at_slice c axis lo hi).point) (sym (map-insert span dom axis (from_to lo hi))) (sliced-indexes (spans dom) c axis lo hi k) in
    (lowered-placed i cs regs iters [] (at_scalar c) t.1 h tt, lowered-placed e cs regs iters (insert dom axis (from_to lo hi)) (at_slice c axis lo hi) t.2 (indexes-more (spans iters) c.scope one c.iterators h) narrow)
lowered-placed (array e) cs regs iters dom c t h k =
    lowered-placed e cs regs (iters ++ dom) [] (at_iterators c) t
    (subst (λ l. Indexes l c.scope (c.iterators ++ c.point)) (sym (map-append span iters dom)) (indexes-append (spans iters) (spans dom) c.scope c.iterators c.point h k)) tt
lowered-placed (listed box items) cs regs iters dom c t h k = (indexes-wider dom box c.scope c.point t.0 k, t.1)
lowered-placed (condense op box e) cs regs iters dom c t h k = (tt, lowered-placed e cs regs (iters ++ box) [] (at_box c box) t (box-indexes iters box c h) tt)
lowered-placed (condense_where op box b e) cs regs iters dom c t h k =
    let is = box-indexes iters box c h in
    (lowered-placed b cs regs (iters ++ box) [] (at_box c box) t.0 is tt, lowered-placed e cs regs (iters ++ box) [] (at_box c box) t.1 is tt)
lowered-placed (reduce op box e) cs regs iters dom c t h k =
    (tt, lowered-placed e cs regs iters box (at_points c box) t (indexes-more (spans iters) c.scope (spans box) c.iterators h) (levels-lie c.scope (spans box) (length c.scope) refl))

-- the iterators and the point of the outermost setting
outer-iterators : (iters axes : List Axis) → Indexes (spans iters) (outermost iters axes).scope (outermost iters axes).iterators
outer-iterators iters axes = indexes-more (spans iters) (spans iters) (spans axes) (levels 0 (spans iters)) (levels-lie [] (spans iters) 0 refl)

outer-point : (iters axes : List Axis) → Indexes (spans axes) (outermost iters axes).scope (outermost iters axes).point
outer-point iters axes = levels-lie (spans iters) (spans axes) (length iters) (length-map iters span)

pub outer-means : (t : Typed) (iters axes : List Axis) (s : ℕ → ℕ → List ℤ → ℤ) (regs : List Outcome) (env p : List ℤ) → length env ≡ length iters → length p ≡ length axes → run s regs (lowered (outermost iters axes) t) (env ++ p) ≡ val s t env p
outer-means t iters axes s regs env p e f =
    let n = length-map iters span in
    let m = length-map axes span in
    let le : length env ≡ length (spans iters) = e ∙ sym n in
    let lp : length p ≡ length (spans axes) = f ∙ sym m in
    lowered-means t s regs (spans iters) (spans axes) (outermost iters axes) (env ++ p) (outer-iterators iters axes) (outer-point iters axes) (longer (spans iters) (spans axes) env p le lp)
    ∙ ap (λ l. val s t l (numbers_at (env ++ p) (levels (length iters) (spans axes))))
    (numbers-more (spans iters) (spans iters) env p (levels 0 (spans iters)) le (levels-lie [] (spans iters) 0 refl) ∙ numbers-levels [] env (spans iters) 0 refl le)
    ∙ ap (val s t env) (numbers-levels env p (spans axes) (length iters) e lp)

pub outer-placed : (t : Typed) (iters axes : List Axis) (cs : List Signature) (regs : ℕ) → IsTyped cs t iters axes → IsPlaced (slice_get cs) regs (spans iters ++ spans axes) (lowered (outermost iters axes) t)
outer-placed t iters axes cs regs h = lowered-placed t cs regs iters axes (outermost iters axes) h (outer-iterators iters axes) (outer-point iters axes)
