-- What folds of windows give.
use Rattle.std.proofs.Common.{◌≡◌, ℕ, zero, suc, ◌+◌, ◌*◌, ◌≤◌, ◌<◌, ◌^◌, ℤ, pos, negsuc, ◌+ℤ◌, ◌≤ℤ◌, int_le, List, [], ◌∷◌, ◌++◌, map, length, get_or, Bool, true, false, cond, ◌&&◌, None, refl, ap, sym, ◌∙◌, subst, arith, append_assoc}
use Rattle.std.proofs.lemmas.Int.{ints}
use Rattle.std.proofs.lemmas.Bool.Decides.{nat_tests}
use Rattle.std.proofs.lemmas.List.{get_or-map, length-map}
use Rattle.std.proofs.lemmas.List.Folds.{flat_map-map}
use Rattle.std.proofs.lemmas.List.FromFn.{length-map-range_with_len}
use Rattle.std.specs.List.{range_with_len, flat_map, All}
use Rattle.arr_core.specs.declared.domain.Axis.{Axis}
use Rattle.arr_core.specs.Domains.{gap, coordinates, points, count, IsInside}
use Rattle.wcps_text.specs.declared.operator.Aggregate.{Aggregate}
use Rattle.wcps_text.specs.declared.operator.BinaryOperator.TheVariants.{Add, LessEqual, GreaterEqual, And}
use Rattle.wcps_mean.specs.declared.cell.PointFault.{PointFault}
use Rattle.wcps_mean.specs.declared.cell.PointFault.TheVariants.{OutOfDomain, Overflow}
use Rattle.wcps_mean.specs.declared.cell.Outcome.{Outcome}
use Rattle.wcps_mean.specs.declared.cell.Outcome.TheVariants.{Value, Fault}
use Rattle.wcps_mean.specs.Cells.{operate2, at_position, fits_64, truth}
use Rattle.wcps_mean.specs.Condensers.{combined, condensed, demanded, first_fault, values, fault_or}
use Rattle.plan_ir.specs.declared.body.Fold.{Fold}
use Rattle.plan_ir.specs.declared.body.Index.TheVariants.{Var}
use Rattle.plan_ir.specs.Bodies.{read, body_view, condition_view, fold_view}
use Rattle.plan_ir.specs.Run.{run, numbers_at}
use Rattle.plan_ir.specs.Planned.{cells_of}
use Rattle.plan_ir.specs.Units.{bound_times}
use Rattle.tile_columns.specs.declared.ground.Ground.{Ground}
use Rattle.tile_columns.specs.declared.reach.Extents.{Extents}
use Rattle.tile_columns.specs.declared.reach.Reach.{Reach}
use Rattle.tile_columns.specs.declared.pattern.Pattern.{Pattern}
use Rattle.tile_columns.specs.declared.windows.Window.{Window}
use Rattle.tile_columns.specs.Reaching.{lies, between, cross, extent, IsReach, HasExtents}
use Rattle.tile_columns.specs.Sources.{SourceState}
use Rattle.tile_columns.specs.Meaning.{meaning}
use Rattle.tile_columns.specs.Windows.{moved, edges, window_tree, column_tree, IsPattern, IsWindow, cells_within, windows_of, field_cells, window_places, halo_cells}
use Rattle.tile_columns.proofs.Boxes.{points_inside}
use Rattle.tile_columns.proofs.Grid.{map_map, map_all, flat_over, points_cross, flat_cross, map_cross, chosen_reached, length_cross}

-- ---- outcomes

-- the condenser of values alone
pub condensed_values : (op : Aggregate) (zs : List ℤ) → condensed op (map Value zs) ≡ combined op zs
condensed_values op zs = ap (λ o. fault_or o (combined op (values (map Value zs)))) (none zs) ∙ ap (combined op) (same zs)
  where
    none : (zs : List ℤ) → first_fault (map Value zs) ≡ None
    none [] = refl
    none (z ∷ zs) = none zs

    same : (zs : List ℤ) → values (map Value zs) ≡ zs
    same [] = refl
    same (z ∷ zs) = ap (λ l. z ∷ l) (same zs)

small-fits : (z : ℤ) → negsuc (2 ^ 34) ≤ℤ z → z ≤ℤ pos (2 ^ 34) → fits_64 z ≡ true
small-fits (pos n) low high = let h : n ≤ 2 ^ 34 = omega (arith, ints) in grind (arith, nat_tests)
small-fits (negsuc n) low high = let h : n ≤ 2 ^ 34 = omega (arith, ints) in grind (arith, nat_tests)

pub small_sum : (p u : ℤ) → negsuc (2 ^ 34) ≤ℤ (p +ℤ u) → (p +ℤ u) ≤ℤ pos (2 ^ 34) → operate2 Add (Value p) (Value u) ≡ Value (p +ℤ u)
small_sum p u low high = ap (λ b. cond b (Value (p +ℤ u)) (Fault Overflow)) (small-fits (p +ℤ u) low high)

-- what a point adds, by the tests of its edges
pub chosen_by : (a b c d : Bool) (o : Outcome) (f g : PointFault)
    → demanded (operate2 And (operate2 And (operate2 And (truth a) (truth b)) (truth c)) (truth d)) (cond (a && b) (cond (c && d) o (Fault f)) (Fault g)) ≡ cond (a && b) (cond (c && d) (o ∷ []) []) []
chosen_by true true true true o f g = refl
chosen_by true true true false o f g = refl
chosen_by true true false true o f g = refl
chosen_by true true false false o f g = refl
chosen_by true false true true o f g = refl
chosen_by true false true false o f g = refl
chosen_by true false false true o f g = refl
chosen_by true false false false o f g = refl
chosen_by false true true true o f g = refl
chosen_by false true true false o f g = refl
chosen_by false true false true o f g = refl
chosen_by false true false false o f g = refl
chosen_by false false true true o f g = refl
chosen_by false false true false o f g = refl
chosen_by false false false true o f g = refl
chosen_by false false false false o f g = refl

-- ---- variables

old_at : (e xs : List ℤ) (k : ℕ) (d : ℤ) → k < length e → get_or (e ++ xs) k d ≡ get_or e k d
old_at [] xs k d lt = absurd (omega (arith, lt))
old_at (z ∷ e) xs zero d lt = refl
old_at (z ∷ e) xs (suc k) d lt = old_at e xs k d (omega (arith, lt))

new_at : (e xs : List ℤ) (n k : ℕ) (d : ℤ) → length e ≡ n → get_or (e ++ xs) (n + k) d ≡ get_or xs k d
new_at [] xs n k d h = ap (λ m. get_or xs m d) (omega (arith, h))
new_at (z ∷ e) xs zero k d h = absurd (omega (arith, h))
new_at (z ∷ e) xs (suc n) k d h =
    let m : suc n + k ≡ suc (n + k) = omega arith in
    ap (λ j. get_or (z ∷ (e ++ xs)) j d) m ∙ new_at e xs n k d (omega (arith, h))

first_new : (e xs : List ℤ) (n : ℕ) (d : ℤ) → length e ≡ n → get_or (e ++ xs) n d ≡ get_or xs 0 d
first_new e xs n d h = let m : n ≡ n + 0 = omega arith in ap (λ j. get_or (e ++ xs) j d) m ∙ new_at e xs n 0 d h

next_new : (e xs : List ℤ) (n m k : ℕ) (d : ℤ) → length e ≡ n → m ≡ n + k → get_or (e ++ xs) m d ≡ get_or xs k d
next_new e xs n m k d h i = ap (λ j. get_or (e ++ xs) j d) i ∙ new_at e xs n k d h

-- ---- a point of the window of a place

record AtPlace (n : ℕ) (w : Pattern) (e : List ℤ) (p q u v : ℤ) : Type 0 where
  deep : length e ≡ n
  row_level : w.rows.level < n
  column_level : w.columns.level < n
  row : get_or e w.rows.level (pos 0) ≡ p
  column : get_or e w.columns.level (pos 0) ≡ q
  row_least : negsuc (2 ^ 34) ≤ℤ (p +ℤ u)
  row_most : (p +ℤ u) ≤ℤ pos (2 ^ 34)
  column_least : negsuc (2 ^ 34) ≤ℤ (q +ℤ v)
  column_most : (q +ℤ v) ≤ℤ pos (2 ^ 34)

row_moved : (n : ℕ) (w : Pattern) (e rest : List ℤ) (p q u v : ℤ) → AtPlace n w e p q u v → moved w.rows.level n (e ++ u ∷ v ∷ rest) ≡ Value (p +ℤ u)
row_moved n w e rest p q u v h =
    ap (λ x. operate2 Add (Value x) (Value (get_or (e ++ u ∷ v ∷ rest) n (pos 0)))) (old_at e (u ∷ v ∷ rest) w.rows.level (pos 0) (let a = h.deep in let b = h.row_level in omega (arith, a, b)) ∙ h.row)
    ∙ ap (λ x. operate2 Add (Value p) (Value x)) (first_new e (u ∷ v ∷ rest) n (pos 0) h.deep)
    ∙ small_sum p u h.row_least h.row_most

column_moved : (n : ℕ) (w : Pattern) (e rest : List ℤ) (p q u v : ℤ) → AtPlace n w e p q u v → moved w.columns.level (n + 1) (e ++ u ∷ v ∷ rest) ≡ Value (q +ℤ v)
column_moved n w e rest p q u v h =
    ap (λ x. operate2 Add (Value x) (Value (get_or (e ++ u ∷ v ∷ rest) (n + 1) (pos 0)))) (old_at e (u ∷ v ∷ rest) w.columns.level (pos 0) (let a = h.deep in let b = h.column_level in omega (arith, a, b)) ∙ h.column)
    ∙ ap (λ x. operate2 Add (Value q) (Value x)) (new_at e (u ∷ v ∷ rest) n 1 (pos 0) h.deep)
    ∙ small_sum q v h.column_least h.column_most

-- the condition there
edges_at : (n : ℕ) (w : Pattern) (e : List ℤ) (p q u v : ℤ) → AtPlace n w e p q u v
    → edges w n (e ++ u ∷ v ∷ []) ≡ operate2 And (operate2 And (operate2 And (truth (int_le w.rows.bounds.lo (p +ℤ u))) (truth (int_le (p +ℤ u) w.rows.bounds.hi))) (truth (int_le w.columns.bounds.lo (q +ℤ v)))) (truth (int_le (q +ℤ v) w.columns.bounds.hi))
edges_at n w e p q u v h =
    ap (λ r. operate2 And (operate2 And (operate2 And (operate2 GreaterEqual r (Value w.rows.bounds.lo)) (operate2 LessEqual r (Value w.rows.bounds.hi))) (operate2 GreaterEqual (moved w.columns.level (n + 1) (e ++ u ∷ v ∷ [])) (Value w.columns.bounds.lo))) (operate2 LessEqual (moved w.columns.level (n + 1) (e ++ u ∷ v ∷ [])) (Value w.columns.bounds.hi))) (row_moved n w e [] p q u v h)
    ∙ ap (λ c. operate2 And (operate2 And (operate2 And (operate2 GreaterEqual (Value (p +ℤ u)) (Value w.rows.bounds.lo)) (operate2 LessEqual (Value (p +ℤ u)) (Value w.rows.bounds.hi))) (operate2 GreaterEqual c (Value w.columns.bounds.lo))) (operate2 LessEqual c (Value w.columns.bounds.hi))) (column_moved n w e [] p q u v h)

-- the body there
cell_at_last : (s : ℕ → ℕ → List ℤ → ℤ) (regs : List Outcome) (n : ℕ) (w : Pattern) (e : List ℤ) (u v y x : ℤ) → length e ≡ n
    → run s regs (read w.coverage w.field (Var (n + 2) ∷ Var (n + 2 + 1) ∷ [])) (((e ++ u ∷ v ∷ []) ++ y ∷ []) ++ x ∷ []) ≡ Value (s w.coverage w.field (y ∷ x ∷ []))
cell_at_last s regs n w e u v y x h =
    ap (run s regs (read w.coverage w.field (Var (n + 2) ∷ Var (n + 2 + 1) ∷ []))) (ap (λ l. l ++ x ∷ []) (append_assoc e (u ∷ v ∷ []) (y ∷ [])) ∙ append_assoc e (u ∷ v ∷ y ∷ []) (x ∷ []))
    ∙ ap (λ z. Value (s w.coverage w.field (z ∷ get_or (e ++ u ∷ v ∷ y ∷ x ∷ []) (n + 2 + 1) (pos 0) ∷ []))) (new_at e (u ∷ v ∷ y ∷ x ∷ []) n 2 (pos 0) h)
    ∙ ap (λ z. Value (s w.coverage w.field (y ∷ z ∷ []))) (next_new e (u ∷ v ∷ y ∷ x ∷ []) n (n + 2 + 1) 3 (pos 0) h (omega arith))

body_at_place : (s : ℕ → ℕ → List ℤ → ℤ) (regs : List Outcome) (n : ℕ) (w : Pattern) (e : List ℤ) (p q u v : ℤ) → AtPlace n w e p q u v
    → run s regs (window_tree w n) (e ++ u ∷ v ∷ []) ≡ cond (lies w.rows.bounds.lo w.rows.bounds.hi (p +ℤ u)) (cond (lies w.columns.bounds.lo w.columns.bounds.hi (q +ℤ v)) (Value (s w.coverage w.field ((p +ℤ u) ∷ (q +ℤ v) ∷ []))) (Fault OutOfDomain)) (Fault OutOfDomain)
body_at_place s regs n w e p q u v h =
    let y = p +ℤ u in
    let x = q +ℤ v in
    let here = e ++ u ∷ v ∷ [] in
    ap (λ o. at_position o w.rows.bounds.lo w.rows.bounds.hi (λ z. run s regs (column_tree w n) (here ++ z ∷ []))) (row_moved n w e [] p q u v h)
    ∙ ap (λ o. cond (lies w.rows.bounds.lo w.rows.bounds.hi y) o (Fault OutOfDomain))
    (ap (λ o. at_position o w.columns.bounds.lo w.columns.bounds.hi (λ z. run s regs (read w.coverage w.field (Var (n + 2) ∷ Var (n + 2 + 1) ∷ [])) ((here ++ y ∷ []) ++ z ∷ [])))
    (ap (moved w.columns.level (n + 1)) (append_assoc e (u ∷ v ∷ []) (y ∷ [])) ∙ column_moved n w e (y ∷ []) p q u v h)
    ∙ ap (λ o. cond (lies w.columns.bounds.lo w.columns.bounds.hi x) o (Fault OutOfDomain)) (cell_at_last s regs n w e u v y x h.deep))

-- what it adds
point_adds : (s : ℕ → ℕ → List ℤ → ℤ) (regs : List Outcome) (f : Fold) (n : ℕ) (w : Pattern) (e : List ℤ) (p q u v : ℤ) → IsPattern f n w → AtPlace n w e p q u v
    → demanded (run s regs (condition_view f.condition) (e ++ u ∷ v ∷ [])) (run s regs (body_view f.body) (e ++ u ∷ v ∷ []))
    ≡ cond (lies w.rows.bounds.lo w.rows.bounds.hi (p +ℤ u)) (cond (lies w.columns.bounds.lo w.columns.bounds.hi (q +ℤ v)) (Value (s w.coverage w.field ((p +ℤ u) ∷ (q +ℤ v) ∷ [])) ∷ []) []) []
point_adds s regs f n w e p q u v i h =
    let here = e ++ u ∷ v ∷ [] in
    ap (λ c. demanded c (run s regs (body_view f.body) here)) (i.condition s regs here ∙ edges_at n w e p q u v h)
    ∙ ap (demanded (operate2 And (operate2 And (operate2 And (truth (int_le w.rows.bounds.lo (p +ℤ u))) (truth (int_le (p +ℤ u) w.rows.bounds.hi))) (truth (int_le w.columns.bounds.lo (q +ℤ v)))) (truth (int_le (q +ℤ v) w.columns.bounds.hi)))) (ap (λ t. run s regs t here) i.body ∙ body_at_place s regs n w e p q u v h)
    ∙ chosen_by (int_le w.rows.bounds.lo (p +ℤ u)) (int_le (p +ℤ u) w.rows.bounds.hi) (int_le w.columns.bounds.lo (q +ℤ v)) (int_le (q +ℤ v) w.columns.bounds.hi) (Value (s w.coverage w.field ((p +ℤ u) ∷ (q +ℤ v) ∷ []))) OutOfDomain OutOfDomain

-- ---- the window of a place

flat_between : {Y : Type 0} (f g : ℤ → List Y) (lo hi : ℤ) → lo ≤ℤ hi → ((z : ℤ) → lo ≤ℤ z → z ≤ℤ hi → f z ≡ g z) → flat_map f (between lo hi) ≡ flat_map g (between lo hi)
flat_between f g lo hi o h =
    flat_map-map f (λ i. lo +ℤ pos i) (range_with_len 0 (gap lo hi + 1))
    ∙ flat_over (λ i. f (lo +ℤ pos i)) (λ i. g (lo +ℤ pos i)) 0 (gap lo hi + 1) (λ k lt. h (lo +ℤ pos k) (omega (arith, ints)) (omega (arith, ints)))
    ∙ sym (flat_map-map g (λ i. lo +ℤ pos i) (range_with_len 0 (gap lo hi + 1)))

-- the points of two axes
pub extents_points : (e : Extents) (axes : List Axis) → HasExtents e axes → points axes ≡ cross (between e.rows.lo e.rows.hi) (between e.columns.lo e.columns.hi)
extents_points e axes h =
    ap points h.are ∙ points_cross h.first h.second
    ∙ ap (λ z. cross (between z h.first.hi) (coordinates h.second)) h.row_lo ∙ ap (λ z. cross (between e.rows.lo z) (coordinates h.second)) h.row_hi
    ∙ ap (λ z. cross (between e.rows.lo e.rows.hi) (between z h.second.hi)) h.column_lo ∙ ap (λ z. cross (between e.rows.lo e.rows.hi) (between e.columns.lo z)) h.column_hi

-- a place lies among those of the reaches
record IsPlaceOf (a b : Reach) (p q : ℤ) : Type 0 where
  row_low : a.places.lo ≤ℤ p
  row_high : p ≤ℤ a.places.hi
  column_low : b.places.lo ≤ℤ q
  column_high : q ≤ℤ b.places.hi

sum_least : (r : Reach) (p u : ℤ) → IsReach r → r.places.lo ≤ℤ p → r.offsets.lo ≤ℤ u → negsuc (2 ^ 34) ≤ℤ (p +ℤ u)
sum_least r p u h a b = let l = h.least in omega (arith, ints, l, a, b)

sum_most : (r : Reach) (p u : ℤ) → IsReach r → p ≤ℤ r.places.hi → u ≤ℤ r.offsets.hi → (p +ℤ u) ≤ℤ pos (2 ^ 34)
sum_most r p u h a b = let l = h.most in omega (arith, ints, l, a, b)

window_at : (s : ℕ → ℕ → List ℤ → ℤ) (regs : List Outcome) (f : Fold) (n : ℕ) (w : Window) (e : List ℤ) (p q : ℤ) → IsPattern f n w.pattern → w.op ≡ f.op → w.rows.bounds ≡ w.pattern.rows.bounds → w.columns.bounds ≡ w.pattern.columns.bounds
    → HasExtents (record { rows = w.rows.offsets; columns = w.columns.offsets }) f.domain → IsReach w.rows → IsReach w.columns → IsPlaceOf w.rows w.columns p q
    → length e ≡ n → get_or e w.pattern.rows.level (pos 0) ≡ p → get_or e w.pattern.columns.level (pos 0) ≡ q
    → run s regs (fold_view f) e ≡ combined w.op (cells_within (s w.pattern.coverage w.pattern.field) w p q)
window_at s regs f n w e p q i o rb cb x ra ca at d ep eq =
    let go : List ℤ → List Outcome = λ x. demanded (run s regs (condition_view f.condition) (e ++ x)) (run s regs (body_view f.body) (e ++ x)) in
    let us = between w.rows.offsets.lo w.rows.offsets.hi in
    let vs = between w.columns.offsets.lo w.columns.offsets.hi in
    let cell : ℤ → ℤ → ℤ = λ y x. s w.pattern.coverage w.pattern.field (y ∷ x ∷ []) in
    let first : ℤ → Bool = lies w.rows.bounds.lo w.rows.bounds.hi in
    let second : ℤ → Bool = lies w.columns.bounds.lo w.columns.bounds.hi in
    ap (condensed f.op) (
    ap (flat_map go) (extents_points _ f.domain x)
    ∙ flat_cross go us vs
    ∙ flat_between (λ u. flat_map (λ v. go (u ∷ v ∷ [])) vs) (λ u. flat_map (λ v. cond (first (p +ℤ u)) (cond (second (q +ℤ v)) (Value (cell (p +ℤ u) (q +ℤ v)) ∷ []) []) []) vs) w.rows.offsets.lo w.rows.offsets.hi ra.offsets
    (λ u ul uh. flat_between (λ v. go (u ∷ v ∷ [])) (λ v. cond (first (p +ℤ u)) (cond (second (q +ℤ v)) (Value (cell (p +ℤ u) (q +ℤ v)) ∷ []) []) []) w.columns.offsets.lo w.columns.offsets.hi ca.offsets
    (λ v vl vh.
    point_adds s regs f n w.pattern e p q u v i (record {
      deep = d;
      row_level = i.row_level;
      column_level = i.column_level;
      row = ep;
      column = eq;
      row_least = sum_least w.rows p u ra at.row_low ul;
      row_most = sum_most w.rows p u ra at.row_high uh;
      column_least = sum_least w.columns q v ca at.column_low vl;
      column_most = sum_most w.columns q v ca at.column_high vh;
    })
    ∙ ap (λ b. cond (lies b.lo b.hi (p +ℤ u)) (cond (lies w.pattern.columns.bounds.lo w.pattern.columns.bounds.hi (q +ℤ v)) (Value (cell (p +ℤ u) (q +ℤ v)) ∷ []) []) []) (sym rb)
    ∙ ap (λ b. cond (first (p +ℤ u)) (cond (lies b.lo b.hi (q +ℤ v)) (Value (cell (p +ℤ u) (q +ℤ v)) ∷ []) []) []) (sym cb)))
    ∙ chosen_reached Value cell p q first second us vs)
    ∙ condensed_values f.op (cells_within (s w.pattern.coverage w.pattern.field) w p q)
    ∙ ap (λ op. combined op (cells_within (s w.pattern.coverage w.pattern.field) w p q)) (sym o)

-- ---- all places

-- each point of rows and columns lies among them
cross_inside : (a b c d : ℤ) → a ≤ℤ b → c ≤ℤ d → All (IsInside (record { name = []; lo = a; hi = b } ∷ record { name = []; lo = c; hi = d } ∷ [])) (cross (between a b) (between c d))
cross_inside a b c d ab cd =
    let rows : Axis = record { name = []; lo = a; hi = b } in
    let columns : Axis = record { name = []; lo = c; hi = d } in
    subst (All (IsInside (rows ∷ columns ∷ []))) (points_cross rows columns) (points_inside (rows ∷ columns ∷ []) (ab, (cd, tt)))

pub all_windows : {K : Type 0} (s : SourceState K) (g : Ground) (f : Fold) (envs : List (List ℤ)) (w : Window) → IsWindow g f envs w → windows_of (field_cells s w) w ≡ map (meaning s g (fold_view f)) envs
all_windows s g f envs w h =
    let i = w.pattern.rows.level in
    let j = w.pattern.columns.level in
    let r = w.rows.places in
    let c = w.columns.places in
    let numbers : List ℤ → List ℤ = λ e. numbers_at e (Var i ∷ Var j ∷ []) in
    let mine : ℕ → ℕ → List ℤ → ℤ = cells_of s.cells g.coverages.now in
    let come : List ℤ → Outcome = λ x. combined w.op (cells_within (field_cells s w) w (get_or x 0 (pos 0)) (get_or x 1 (pos 0))) in
    let box = record { name = []; lo = r.lo; hi = r.hi } ∷ record { name = []; lo = c.lo; hi = c.hi } ∷ [] in
    let within : All (IsInside box) (map numbers envs) = subst (All (IsInside box)) (sym h.places.over) (cross_inside r.lo r.hi c.lo c.hi h.places.rows h.places.columns) in
    let m = length-map envs numbers in
    let each : All (λ e. (length e ≡ h.depth) × IsInside box (numbers e)) envs = λ k d lt. (h.deep k d lt, subst (IsInside box) (get_or-map numbers envs k d [] lt) (within k [] (omega (arith, m, lt)))) in
    let cell : mine w.pattern.coverage w.pattern.field ≡ field_cells s w = ap (λ n. s.cells n w.pattern.field) (sym h.place) in
    sym (
    map_all (λ e. (length e ≡ h.depth) × IsInside box (numbers e)) (meaning s g (fold_view f)) (λ e. come (numbers e)) envs each
    (λ e p.
    window_at mine g.registers.now f h.depth w e (get_or e i (pos 0)) (get_or e j (pos 0)) h.pattern h.op h.row_bounds h.column_bounds h.offsets h.ready.rows h.ready.columns
    (record { row_low = p.1.0; row_high = p.1.1; column_low = p.1.2.0; column_high = p.1.2.1 }) p.0 refl refl
    ∙ ap (λ f. combined w.op (cells_within f w (get_or e i (pos 0)) (get_or e j (pos 0)))) cell)
    ∙ sym (map_map come numbers envs)
    ∙ ap (map come) h.places.over
    ∙ map_cross come (between r.lo r.hi) (between c.lo c.hi))

pub between_length : (lo hi : ℤ) → length (between lo hi) ≡ gap lo hi + 1
between_length lo hi = length-map-range_with_len (λ i. lo +ℤ pos i) 0 (gap lo hi + 1)

-- as many as there are places
pub windows_many : (g : Ground) (f : Fold) (envs : List (List ℤ)) (w : Window) → IsWindow g f envs w → window_places w ≡ length envs
windows_many g f envs w h =
    let r = w.rows.places in
    let c = w.columns.places in
    let a = length_cross (λ y x. y ∷ x ∷ []) (between r.lo r.hi) (between c.lo c.hi) in
    let e : length (between r.lo r.hi) * length (between c.lo c.hi) ≡ extent r * extent c = ap (λ n. n * length (between c.lo c.hi)) (between_length r.lo r.hi) ∙ ap (λ n. extent r * n) (between_length c.lo c.hi) in
    sym e ∙ sym a ∙ sym (ap length h.places.over) ∙ length-map envs (λ e. numbers_at e (Var w.pattern.rows.level ∷ Var w.pattern.columns.level ∷ []))

-- the body reads one tile at each pair of a place and a point
pub window_bound : (g : Ground) (f : Fold) (envs : List (List ℤ)) (w : Window) → IsWindow g f envs w → halo_cells w ≤ bound_times (length envs * count f.domain) (condition_view f.condition) + bound_times (length envs * count f.domain) (body_view f.body)
window_bound g f envs w h =
    let m = length envs * count f.domain in
    let b : bound_times m (body_view f.body) ≡ m = ap (bound_times m) h.pattern.body ∙ zeros m in
    let p = h.pairs in
    omega (arith, b, p)
  where
    zeros : (m : ℕ) → bound_times m (window_tree w.pattern h.depth) ≡ m
    zeros m = let z : (0 + 0) + ((0 + 0) + m) ≡ m = omega arith in z
