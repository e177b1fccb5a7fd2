-- The item that cells make, once the cells of all tiles are there.
use Rattle.std.proofs.Common.{◌≡◌, ℕ, zero, suc, ◌+◌, ◌*◌, ◌<◌, ◌≤◌, ℤ, List, [], ◌∷◌, ◌++◌, length, map, refl, sym, ap, ◌∙◌, subst, arith, Option, Some, None, Bool, true, false, cond, length-append}
use Rattle.std.specs.Prelude.{Result, Ok, Err, slice_get, int_le, ◌&&◌}
use Rattle.std.specs.List.{All, flat_map, range_with_len, enumerate_from}
use Rattle.std.proofs.lemmas.List.Sorted.{All-permutation}
use Rattle.std.proofs.lemmas.List.Elements.{All-cons, All-nil}
use Rattle.std.proofs.lemmas.List.FromFn.{get_or-range_with_len, length-range_with_len}
use Rattle.std.proofs.lemmas.List.{length-map}
use Rattle.arr_core.specs.declared.cell.Cell.{Cell}
use Rattle.arr_core.specs.Domains.{points, count, IsDomain, rank_of, point_at}
use Rattle.arr_core.specs.Tiles.{tile_boxes}
use Rattle.arr_core.proofs.Points.{length-points, rank-point}
use Rattle.wcps_mean.specs.declared.cell.PointFault.{PointFault}
use Rattle.wcps_mean.specs.declared.cell.PointFault.TheVariants.{OutOfDomain}
use Rattle.wcps_mean.specs.declared.cell.Outcome.{Outcome}
use Rattle.wcps_mean.specs.declared.cell.Outcome.TheVariants.{Value, Fault}
use Rattle.wcps_mean.specs.declared.item.Item.{Item}
use Rattle.wcps_mean.specs.Answer.{then_of, given, joined, cell_of, line_of, field_count}
use Rattle.wcps_mean.specs.Cells.{at_position}
use Rattle.wcps_mean.specs.Condensers.{first_fault}
use Rattle.wcps_mean.proofs.Feeds.{else_fault, first_fault-append}
use Rattle.plan_ir.specs.Bodies.{Tree}
use Rattle.plan_ir.specs.Plans.{BindTree, FieldBody, ItemTree}
use Rattle.plan_ir.specs.Run.{run}
use Rattle.wcps_mean.specs.Cells.{coordinate_in}
use Rattle.plan_ir.specs.Planned.{bound, field_cell, cells_at, item_planned}
use Rattle.tile_kernel.specs.Told.{Told, outcomes, AreRising}
use Rattle.tile_kernel.proofs.Faults.{fault_in_order}
use Rattle.tile_columns.specs.TileOrder.{points_to}
use Rattle.tile_columns.specs.Fields.{behind}
use Rattle.tile_kernel.specs.declared.first_fault.FirstFault.{FirstFault}
use Rattle.tile_exec.specs.Items.{row, value_of, row_cells, all_cells, told_to_item, places_of, cell_count, Fills}
use Rattle.tile_columns.proofs.TileOrders.{told_all, points_by_place}
use Rattle.tile_exec.proofs.Passes.{outcomes-append}
use Rattle.tile_exec.proofs.Written.{all_written}

-- cells, unless there is a fault
abbrev pub unless : Option PointFault → List Cell → Result (List Cell) PointFault
unless None cells = Ok cells
unless (Some f) cells = Err f

-- a body with the variables that binds give
abbrev pub run_bound : (ℕ → ℕ → List ℤ → ℤ) → List Outcome → Tree → Result (List ℤ) PointFault → Outcome
run_bound s regs e (Err f) = Fault f
run_bound s regs e (Ok vars) = run s regs e vars

position_within : (s : ℕ → ℕ → List ℤ → ℤ) (regs : List Outcome) (binds : List BindTree) (e : Tree) (vars : List ℤ) (z : ℤ) (c : Bool)
    → ((more : List ℤ) → run s regs (behind binds e) more ≡ run_bound s regs e (bound s regs binds more))
    → cond c (run s regs (behind binds e) (vars ++ z ∷ [])) (Fault OutOfDomain) ≡ run_bound s regs e (then_of (cond c (Ok z) (Err OutOfDomain)) (λ z. bound s regs binds (vars ++ z ∷ [])))
position_within s regs binds e vars z true h = h (vars ++ z ∷ [])
position_within s regs binds e vars z false h = refl

run_position : (s : ℕ → ℕ → List ℤ → ℤ) (regs : List Outcome) (b : BindTree) (binds : List BindTree) (e : Tree) (vars : List ℤ) (o : Outcome)
    → ((more : List ℤ) → run s regs (behind binds e) more ≡ run_bound s regs e (bound s regs binds more))
    → at_position o b.lo b.hi (λ z. run s regs (behind binds e) (vars ++ z ∷ [])) ≡ run_bound s regs e (then_of (coordinate_in o b.lo b.hi) (λ z. bound s regs binds (vars ++ z ∷ [])))
run_position s regs b binds e vars (Fault f) h = refl
run_position s regs b binds e vars (Value z) h = position_within s regs binds e vars z (int_le b.lo z && int_le z b.hi) h

run_behind : (s : ℕ → ℕ → List ℤ → ℤ) (regs : List Outcome) (binds : List BindTree) (e : Tree) (vars : List ℤ) → run s regs (behind binds e) vars ≡ run_bound s regs e (bound s regs binds vars)
run_behind s regs [] e vars = refl
run_behind s regs (b ∷ binds) e vars = run_position s regs b binds e vars (run s regs b.position vars) (λ more. run_behind s regs binds e more)

-- ---- a point

cell_before : (c : Cell) (o : Option PointFault) (cells : List Cell) → then_of (unless o cells) (λ ys. Ok (c ∷ ys)) ≡ unless o (c ∷ cells)
cell_before c None cells = refl
cell_before c (Some f) cells = refl

one_cell : (b : Bool) (o : Outcome) (rest : Result (List Cell) PointFault) (outs : List Outcome) (cells : List Cell) → rest ≡ unless (first_fault outs) cells
    → then_of (given (λ z. cell_of b z ∷ []) o) (λ xs. then_of rest (λ ys. Ok (xs ++ ys))) ≡ unless (first_fault (o ∷ outs)) (cell_of b (value_of o) ∷ cells)
one_cell b (Fault f) rest outs cells h = refl
one_cell b (Value z) rest outs cells h = ap (λ r. then_of r (λ ys. Ok (cell_of b z ∷ ys))) h ∙ cell_before (cell_of b z) (first_fault outs) cells

-- the cells of fields where the binds gave these variables
cells_of_vars : (s : ℕ → ℕ → List ℤ → ℤ) (regs : List Outcome) (vars : List ℤ) (fields : List FieldBody)
    → joined (map (field_cell s regs vars) fields) ≡ unless (first_fault (map (λ (f : FieldBody). run s regs f.body vars) fields)) (map (λ (f : FieldBody). cell_of f.boolean (value_of (run s regs f.body vars))) fields)
cells_of_vars s regs vars [] = refl
cells_of_vars s regs vars (f ∷ fields) =
    one_cell f.boolean (run s regs f.body vars) (joined (map (field_cell s regs vars) fields)) (map (λ (f : FieldBody). run s regs f.body vars) fields) (map (λ (f : FieldBody). cell_of f.boolean (value_of (run s regs f.body vars))) fields) (cells_of_vars s regs vars fields)

map_alike : {X Y : Type 0} (f g : X → Y) (xs : List X) → ((x : X) → f x ≡ g x) → map f xs ≡ map g xs
map_alike f g [] h = refl
map_alike f g (x ∷ xs) h = ap (λ l. l ∷ map f xs) (h x) ∙ ap (λ l. g x ∷ l) (map_alike f g xs h)

cells_of_bound : (s : ℕ → ℕ → List ℤ → ℤ) (regs : List Outcome) (fields : List FieldBody) (r : Result (List ℤ) PointFault) → 0 < length fields
    → then_of r (λ vars. joined (map (field_cell s regs vars) fields)) ≡ unless (first_fault (map (λ (f : FieldBody). run_bound s regs f.body r) fields)) (map (λ (f : FieldBody). cell_of f.boolean (value_of (run_bound s regs f.body r))) fields)
cells_of_bound s regs [] r some = absurd (omega arith)
cells_of_bound s regs (f ∷ fields) (Err e) some = refl
cells_of_bound s regs (f ∷ fields) (Ok vars) some = cells_of_vars s regs vars (f ∷ fields)

point_cells : (s : ℕ → ℕ → List ℤ → ℤ) (regs : List Outcome) (i : ItemTree) (q : List ℤ) → 0 < length i.fields → cells_at s regs i q ≡ unless (first_fault (row s regs i q)) (row_cells s regs i q)
point_cells s regs i q some =
    let r = bound s regs i.binds q in
    let e = λ (f : FieldBody). sym (run_behind s regs i.binds f.body q) in
    cells_of_bound s regs i.fields r some
    ∙ ap (λ l. unless (first_fault l) (map (λ (f : FieldBody). cell_of f.boolean (value_of (run_bound s regs f.body r))) i.fields)) (map_alike (λ (f : FieldBody). run_bound s regs f.body r) (λ (f : FieldBody). run s regs (behind i.binds f.body) q) i.fields e)
    ∙ ap (unless (first_fault (row s regs i q))) (map_alike (λ (f : FieldBody). cell_of f.boolean (value_of (run_bound s regs f.body r))) (λ (f : FieldBody). cell_of f.boolean (value_of (run s regs (behind i.binds f.body) q))) i.fields (λ f. ap (λ o. cell_of f.boolean (value_of o)) (e f)))

-- ---- all points

both : (a b : Option PointFault) (xs ys : List Cell) → then_of (unless a xs) (λ l. then_of (unless b ys) (λ m. Ok (l ++ m))) ≡ unless (else_fault a b) (xs ++ ys)
both None None xs ys = refl
both None (Some f) xs ys = refl
both (Some f) b xs ys = refl

joined_points : (s : ℕ → ℕ → List ℤ → ℤ) (regs : List Outcome) (i : ItemTree) (qs : List (List ℤ)) → 0 < length i.fields
    → joined (map (cells_at s regs i) qs) ≡ unless (first_fault (flat_map (row s regs i) qs)) (flat_map (row_cells s regs i) qs)
joined_points s regs i [] some = refl
joined_points s regs i (q ∷ qs) some =
    ap (λ r. then_of r (λ l. then_of (joined (map (cells_at s regs i) qs)) (λ m. Ok (l ++ m)))) (point_cells s regs i q some)
    ∙ ap (λ r. then_of (unless (first_fault (row s regs i q)) (row_cells s regs i q)) (λ l. then_of r (λ m. Ok (l ++ m)))) (joined_points s regs i qs some)
    ∙ both (first_fault (row s regs i q)) (first_fault (flat_map (row s regs i) qs)) (row_cells s regs i q) (flat_map (row_cells s regs i) qs)
    ∙ ap (λ f. unless f (row_cells s regs i q ++ flat_map (row_cells s regs i) qs)) (sym (first_fault-append (row s regs i q) (flat_map (row s regs i) qs)))

-- ---- the first fault in the order of the places

outcomes_from : (n : ℕ) (outs : List Outcome) → outcomes (enumerate_from n outs) ≡ outs
outcomes_from n [] = refl
outcomes_from n (o ∷ outs) = ap (λ l. o ∷ l) (outcomes_from (n + 1) outs)

item_outcomes : (s : ℕ → ℕ → List ℤ → ℤ) (regs : List Outcome) (i : ItemTree) (qs : List (List ℤ)) → outcomes (flat_map (told_to_item s regs i) qs) ≡ flat_map (row s regs i) qs
item_outcomes s regs i [] = refl
item_outcomes s regs i (q ∷ qs) =
    outcomes-append (told_to_item s regs i q) (flat_map (told_to_item s regs i) qs)
    ∙ ap (λ l. l ++ outcomes (flat_map (told_to_item s regs i) qs)) (outcomes_from (rank_of i.domain q * length i.fields) (row s regs i q))
    ∙ ap (λ l. row s regs i q ++ l) (item_outcomes s regs i qs)

-- outcomes from one place on, and those behind them
rising_row : (n m : ℕ) (outs : List Outcome) (told : List Told) → n + length outs ≤ m → All (λ (t : Told). m ≤ t.0) told → AreRising told
    → AreRising (enumerate_from n outs ++ told) × All (λ (t : Told). n ≤ t.0) (enumerate_from n outs ++ told)
rising_row n m [] told le h r = (r, λ k d lt. let w = h k d lt in omega (arith, w, le))
rising_row n m (o ∷ outs) told le h r =
    let rest = rising_row (n + 1) m outs told (omega (arith, le)) h r in
    ((λ k d lt. let w = rest.1 k d lt in omega (arith, w), rest.0), All-cons (λ (t : Told). n ≤ t.0) (n, o) (enumerate_from (n + 1) outs ++ told) (omega arith) (λ k d lt. let w = rest.1 k d lt in omega (arith, w)))

item_rising : (s : ℕ → ℕ → List ℤ → ℤ) (regs : List Outcome) (i : ItemTree) (a n : ℕ) → a + n ≤ count i.domain
    → AreRising (flat_map (told_to_item s regs i) (map (point_at i.domain) (range_with_len a n))) × All (λ (t : Told). a * length i.fields ≤ t.0) (flat_map (told_to_item s regs i) (map (point_at i.domain) (range_with_len a n)))
item_rising s regs i a zero h = (tt, All-nil (λ (t : Told). a * length i.fields ≤ t.0))
item_rising s regs i a (suc n) h =
    let rest = item_rising s regs i (a + 1) n (omega (arith, h)) in
    let q = point_at i.domain a in
    let told = flat_map (told_to_item s regs i) (map (point_at i.domain) (range_with_len (a + 1) n)) in
    let m = length i.fields in
    let long : length (row s regs i q) ≡ m = length-map i.fields _ in
    let next : (a + 1) * m ≡ a * m + m = omega arith in
    subst (λ k. AreRising (enumerate_from (k * m) (row s regs i q) ++ told) × All (λ (t : Told). a * m ≤ t.0) (enumerate_from (k * m) (row s regs i q) ++ told))
    (sym (rank-point i.domain a (omega (arith, h)))) (rising_row (a * m) ((a + 1) * m) (row s regs i q) told (omega (arith, long, next)) rest.1 rest.0)

-- ---- the cells

range_join : (a b m n : ℕ) → b ≡ a + m → range_with_len a m ++ range_with_len b n ≡ range_with_len a (m + n)
range_join a b zero n e = let same : b ≡ a = omega (arith, e) in let none : n ≡ 0 + n = omega arith in ap (λ k. range_with_len k n) same ∙ ap (range_with_len a) none
range_join a b (suc m) n e = let more : suc (m + n) ≡ suc m + n = omega arith in ap (λ l. a ∷ l) (range_join (a + 1) b m n (omega (arith, e))) ∙ ap (range_with_len a) more

item_places : (i : ItemTree) (a n : ℕ) → a + n ≤ count i.domain → flat_map (places_of i) (map (point_at i.domain) (range_with_len a n)) ≡ range_with_len (a * length i.fields) (n * length i.fields)
item_places i a zero h = let none : 0 ≡ 0 * length i.fields = omega arith in ap (range_with_len (a * length i.fields)) none
item_places i a (suc n) h =
    let m = length i.fields in
    let rest = item_places i (a + 1) n (omega (arith, h)) in
    let next : (a + 1) * m ≡ a * m + m = omega arith in
    let all : m + n * m ≡ suc n * m = omega arith in
    ap (λ k. range_with_len (k * m) m ++ flat_map (places_of i) (map (point_at i.domain) (range_with_len (a + 1) n))) (rank-point i.domain a (omega (arith, h)))
    ∙ ap (λ l. range_with_len (a * m) m ++ l) rest
    ∙ range_join (a * m) ((a + 1) * m) m (n * m) next
    ∙ ap (range_with_len (a * m)) all

length_rows : (s : ℕ → ℕ → List ℤ → ℤ) (regs : List Outcome) (i : ItemTree) (qs : List (List ℤ)) → length (flat_map (row_cells s regs i) qs) ≡ length qs * length i.fields
length_rows s regs i [] = omega arith
length_rows s regs i (q ∷ qs) =
    let a = length-append (row_cells s regs i q) (flat_map (row_cells s regs i) qs) in
    let b : length (row_cells s regs i q) ≡ length i.fields = length-map i.fields _ in
    let c = length_rows s regs i qs in
    let d : suc (length qs) * length i.fields ≡ length i.fields + length qs * length i.fields = omega arith in
    omega (arith, a, b, c, d)

-- cells that are filled at all tiles are those of the item
pub filled : (s : ℕ → ℕ → List ℤ → ℤ) (regs : List Outcome) (i : ItemTree) (cells : List Cell) (first : FirstFault) → IsDomain i.domain → length cells ≡ cell_count i
    → Fills s regs i (length (tile_boxes i.domain)) cells first → cells ≡ all_cells s regs i
filled s regs i cells first d long h =
    let n = count i.domain in
    let m = length i.fields in
    let all = all_cells s regs i in
    let same : length all ≡ n * m = length_rows s regs i (points i.domain) ∙ ap (λ k. k * m) (length-points i.domain) in
    let start : 0 * m ≡ 0 = omega arith in
    let places : flat_map (places_of i) (points i.domain) ≡ range_with_len 0 (n * m) = ap (flat_map (places_of i)) (points_by_place i.domain) ∙ item_places i 0 n (omega arith) ∙ ap (λ k. range_with_len k (n * m)) start in
    let P = λ (k : ℕ). slice_get cells k ≡ slice_get all k in
    let w = subst (All P) places (All-permutation P (flat_map (places_of i) (points_to i.domain (length (tile_boxes i.domain)))) (flat_map (places_of i) (points i.domain)) (told_all (places_of i) i.domain d.ordered) h.written) in
    let count = length-range_with_len 0 (n * m) in
    all_written all cells (long ∙ sym same) (λ k lt. let z : 0 + k ≡ k = omega arith in subst P (get_or-range_with_len 0 (n * m) k 0 (omega (arith, lt, same)) ∙ z) (w k 0 (omega (arith, lt, same, count))))

-- the first fault of all tiles is the item's
pub faulted : (s : ℕ → ℕ → List ℤ → ℤ) (regs : List Outcome) (i : ItemTree) (cells : List Cell) (first : FirstFault) → IsDomain i.domain
    → Fills s regs i (length (tile_boxes i.domain)) cells first → first.fault ≡ first_fault (flat_map (row s regs i) (points i.domain))
faulted s regs i cells first d h =
    let g = told_to_item s regs i in
    let ordered = flat_map g (points i.domain) in
    let rising : AreRising ordered = subst (λ l. AreRising (flat_map g l)) (sym (points_by_place i.domain)) (item_rising s regs i 0 (count i.domain) (omega arith)).0 in
    fault_in_order first.fault first.place (flat_map g (points_to i.domain (length (tile_boxes i.domain)))) ordered h.first (told_all g i.domain d.ordered) rising ∙ ap first_fault (item_outcomes s regs i (points i.domain))

-- the item of these cells, or the fault
abbrev pub item_or : Option PointFault → Item → Result Item PointFault
item_or None i = Ok i
item_or (Some f) i = Err f

told : (fault : Option PointFault) (i : ItemTree) (cells : List Cell) → then_of (unless fault cells) (λ cells. Ok (record { line = line_of i.domain; fields = field_count (length i.fields); cells = cells })) ≡ item_or fault (record { line = line_of i.domain; fields = field_count (length i.fields); cells = cells })
told None i cells = refl
told (Some f) i cells = refl

-- an item that was told all tiles is the planned one
pub item_told : (s : ℕ → ℕ → List ℤ → ℤ) (regs : List Outcome) (i : ItemTree) (cells : List Cell) (first : FirstFault) → IsDomain i.domain → 0 < length i.fields → length cells ≡ cell_count i
    → Fills s regs i (length (tile_boxes i.domain)) cells first → item_planned s regs i ≡ item_or first.fault (record { line = line_of i.domain; fields = field_count (length i.fields); cells = cells })
item_told s regs i cells first d some long h =
    let go : List Cell → Result Item PointFault = λ l. Ok (record { line = line_of i.domain; fields = field_count (length i.fields); cells = l }) in
    ap (λ r. then_of r go) (joined_points s regs i (points i.domain) some)
    ∙ ap (λ f. then_of (unless f (all_cells s regs i)) go) (sym (faulted s regs i cells first d h))
    ∙ ap (λ l. then_of (unless first.fault l) go) (sym (filled s regs i cells first d long h))
    ∙ told first.fault i cells
