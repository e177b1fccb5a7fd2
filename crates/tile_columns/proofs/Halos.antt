-- The cells of halos.
use Rattle.std.proofs.Common.{◌≡◌, ℕ, zero, suc, ◌+◌, ◌-◌, ◌*◌, ◌≤◌, ◌<◌, ℤ, pos, ◌+ℤ◌, ◌≤ℤ◌, List, [], ◌∷◌, ◌++◌, map, take, append_assoc, length, get_or, refl, ap, sym, ◌∙◌, subst, arith}
use Rattle.std.specs.Prelude.{slice_get, IsSomeAnd, OnOk, Result, Ok, Err, cond}
use Rattle.std.specs.Result.{is_ok}
use Rattle.std.specs.List.{All}
use Rattle.std.proofs.lemmas.Int.{ints}
use Rattle.std.proofs.lemmas.List.{map_more}
use Rattle.tile_kernel.specs.Columns.{outcome_at}
use Rattle.arr_core.specs.declared.domain.Axis.{Axis}
use Rattle.arr_core.specs.declared.signature.Signature.{Signature}
use Rattle.arr_core.specs.Domains.{gap, points, IsInside, AreOrdered}
use Rattle.wcps_mean.specs.declared.cell.Outcome.{Outcome}
use Rattle.wcps_mean.specs.declared.cell.Outcome.TheVariants.{Value}
use Rattle.plan_ir.specs.declared.body.Interval.{Interval}
use Rattle.plan_ir.specs.declared.body.Index.TheVariants.{Var}
use Rattle.plan_ir.specs.Run.{numbers_at}
use Rattle.plan_ir.specs.Units.{distinct}
use Rattle.tile_columns.proofs.Fetching.{distinct_few}
use Rattle.std.proofs.lemmas.List.{length-map}
use Rattle.std.proofs.Common.{◌/◌}
use Rattle.std.proofs.Math.Nat.{mul-le-mul_right, div-mul-le_self}
use Rattle.tile_columns.specs.declared.reach.Extents.{Extents}
use Rattle.tile_columns.specs.declared.windows.Window.{Window}
use Rattle.tile_columns.specs.Reaching.{between, cross, extent, HasExtents, Encloses}
use Rattle.tile_columns.specs.Reaching.{IsReach}
use Rattle.tile_columns.specs.Windows.{Covers, AreRowsOf, value_of}
use Rattle.tile_columns.proofs.Boxes.{points_inside}
use Rattle.tile_columns.proofs.Lying.{run_from, run_then, between_run}
use Rattle.tile_columns.proofs.Grid.{map_map, map_then, map_cross, cross_then, length_cross}
use Rattle.tile_columns.proofs.WindowMeaning.{extents_points, between_length}

-- ---- the coverage that is read

pub covers_item : (w : Window) (l : List Signature) (n : ℕ) (item : Signature) → item ≡ get_or l n item → IsSomeAnd (slice_get l n) (Covers w) → Covers w item
covers_item w [] n item i h = absurd h
covers_item w (s ∷ l) zero item i h = subst (Covers w) (sym i) h
covers_item w (s ∷ l) (suc n) item i h = covers_item w l n item i h

pub place_within : (w : Window) (l : List Signature) (n : ℕ) → IsSomeAnd (slice_get l n) (Covers w) → n < length l
place_within w [] n h = absurd h
place_within w (s ∷ l) zero h = omega arith
place_within w (s ∷ l) (suc n) h = let r = place_within w l n h in omega (arith, r)

-- ---- rows

-- rows of the halo lie in the coverage's domain
pub rows_enclosed : (w : Window) (c : Signature) (rows : Interval) → Covers w c → AreRowsOf w rows → Encloses c.domain (record { rows = rows; columns = w.columns.halo })
rows_enclosed w c rows v r =
    let halo = v.rows in
    let these = r.within in
    record {
      whole = v.extents;
      are = v.axes;
      row_part = (omega (arith, ints, halo.0, these.0), omega (arith, ints, halo.1, these.1));
      column_part = v.columns;
      rows = r.ordered;
      columns = r.columns;
    }

inside_two : (f s a b : Axis) (e : List ℤ) → a.lo ≤ℤ f.lo → f.hi ≤ℤ a.hi → b.lo ≤ℤ s.lo → s.hi ≤ℤ b.hi → IsInside (f ∷ s ∷ []) e → IsInside (a ∷ b ∷ []) (numbers_at e (Var 0 ∷ Var 1 ∷ []))
inside_two f s a b [] p q r t h = absurd h
inside_two f s a b (y ∷ []) p q r t h = absurd h.2
inside_two f s a b (y ∷ x ∷ []) p q r t h =
    let y1 = h.0 in
    let y2 = h.1 in
    let x1 = h.2.0 in
    let x2 = h.2.1 in
    (omega (arith, ints, p, y1), omega (arith, ints, q, y2), (omega (arith, ints, r, x1), omega (arith, ints, t, x2), tt))
inside_two f s a b (y ∷ x ∷ z ∷ e) p q r t h = absurd h.2.2

ordered_two : (e : Extents) (axes : List Axis) → HasExtents e axes → AreOrdered axes
ordered_two e axes h =
    let a = h.row_lo in
    let b = h.row_hi in
    let c = h.column_lo in
    let d = h.column_hi in
    let r = h.rows in
    let s = h.columns in
    subst AreOrdered (sym h.are) (omega (arith, ints, a, b, r), (omega (arith, ints, c, d, s), tt))

pub rows_inside : (w : Window) (c : Signature) (rows : Interval) (area : List Axis) (envs : List (List ℤ)) → Covers w c → AreRowsOf w rows → HasExtents (record { rows = rows; columns = w.columns.halo }) area → envs ≡ points area
    → All (λ e. IsInside c.domain (numbers_at e (Var 0 ∷ Var 1 ∷ []))) envs
rows_inside w c rows area envs v r h e =
    let each : All (IsInside area) envs = subst (All (IsInside area)) (sym e) (points_inside area (ordered_two _ area h)) in
    let x = v.axes in
    let a1 = x.row_lo in
    let a2 = x.row_hi in
    let a3 = x.column_lo in
    let a4 = x.column_hi in
    let b1 = h.row_lo in
    let b2 = h.row_hi in
    let b3 = h.column_lo in
    let b4 = h.column_hi in
    let c1 = v.rows.0 in
    let c2 = v.rows.1 in
    let c3 = v.columns.0 in
    let c4 = v.columns.1 in
    let d1 = r.within.0 in
    let d2 = r.within.1 in
    λ k d lt. subst (λ box. IsInside box (numbers_at (get_or envs k d) (Var 0 ∷ Var 1 ∷ []))) (sym x.are)
    (inside_two h.first h.second x.first x.second (get_or envs k d) (omega (arith, ints, a1, b1, c1, d1)) (omega (arith, ints, a2, b2, c2, d2)) (omega (arith, ints, a3, b3, c3)) (omega (arith, ints, a4, b4, c4))
    (subst (λ box. IsInside box (get_or envs k d)) h.are (each k d lt)))

-- the values of cells that are read
pub values_read : (go : List ℤ → ℤ) (envs : List (List ℤ)) (column : List Outcome) (old new : List ℤ) → new ≡ old ++ map value_of column → column ≡ map (λ e. Value (go e)) envs → new ≡ old ++ map go envs
values_read go envs column old new n c = n ∙ ap (λ l. old ++ l) (ap (map value_of) c ∙ map_map value_of (λ e. Value (go e)) envs)

pub rows_value : (cell : List ℤ → ℤ) (x : Extents) (area : List Axis) (envs : List (List ℤ)) → HasExtents x area → envs ≡ points area
    → map (λ e. cell (numbers_at e (Var 0 ∷ Var 1 ∷ []))) envs ≡ map cell (cross (between x.rows.lo x.rows.hi) (between x.columns.lo x.columns.hi))
rows_value cell x area envs h e =
    let go : List ℤ → ℤ = λ e. cell (numbers_at e (Var 0 ∷ Var 1 ∷ [])) in
    let rows = between x.rows.lo x.rows.hi in
    let columns = between x.columns.lo x.columns.hi in
    ap (map go) (e ∙ extents_points x area h)
    ∙ map_cross go rows columns ∙ sym (map_cross cell rows columns)

pub rows_many : (x : Extents) (area : List Axis) → HasExtents x area → length (points area) ≡ extent x.rows * extent x.columns
rows_many x area h =
    let rows = between x.rows.lo x.rows.hi in
    let columns = between x.columns.lo x.columns.hi in
    ap length (extents_points x area h) ∙ length_cross (λ y x. y ∷ x ∷ []) rows columns
    ∙ ap (λ n. n * length columns) (between_length x.rows.lo x.rows.hi) ∙ ap (λ n. extent x.rows * n) (between_length x.columns.lo x.columns.hi)

-- ---- one row after the other

pub rows_more : (cell : List ℤ → ℤ) (base lo hi : ℤ) (done more : ℕ) (columns cells new : List ℤ) → 0 < more → lo ≡ base +ℤ pos done → hi ≡ base +ℤ pos (done + (more - 1)) → cells ≡ map cell (cross (run_from base done) columns) → new ≡ cells ++ map cell (cross (between lo hi) columns)
    → new ≡ map cell (cross (run_from base (done + more)) columns)
rows_more cell base lo hi done more columns cells new some l h c n =
    let many : gap lo hi + 1 ≡ more = omega (arith, ints, some, l, h) in
    let these : between lo hi ≡ run_from (base +ℤ pos done) more = between_run lo hi ∙ ap (run_from lo) many ∙ ap (λ z. run_from z more) l in
    n ∙ ap (λ l. l ++ map cell (cross (between lo hi) columns)) c
    ∙ ap (λ l. map cell (cross (run_from base done) columns) ++ map cell (cross l columns)) these
    ∙ sym (map_then cell (cross (run_from base done) columns) (cross (run_from (base +ℤ pos done) more) columns))
    ∙ ap (map cell) (sym (cross_then (run_from base done) (run_from (base +ℤ pos done) more) columns))
    ∙ ap (λ l. map cell (cross l columns)) (sym (run_then base done more))

pub rows_whole : (cell : List ℤ → ℤ) (lo hi : ℤ) (done : ℕ) (columns cells : List ℤ) → done ≡ gap lo hi + 1 → cells ≡ map cell (cross (run_from lo done) columns) → cells ≡ map cell (cross (between lo hi) columns)
rows_whole cell lo hi done columns cells e c = c ∙ ap (λ n. map cell (cross (run_from lo n) columns)) e ∙ ap (λ l. map cell (cross l columns)) (sym (between_run lo hi))

pub extent_of : (base lo hi : ℤ) (done more : ℕ) → 0 < more → lo ≡ base +ℤ pos done → hi ≡ base +ℤ pos (done + (more - 1)) → gap lo hi + 1 ≡ more
extent_of base lo hi done more some l h = omega (arith, ints, some, l, h)

-- ---- values

-- one more value
pub values_more : (column : List Outcome) (k : ℕ) (o : Outcome) (z : ℤ) (base cells new : List ℤ) → k < length column → outcome_at column k ≡ o → z ≡ value_of o → new ≡ cells ++ z ∷ [] → cells ≡ base ++ map value_of (take k column)
    → new ≡ base ++ map value_of (take (k + 1) column)
values_more column k o z base cells new lt a v n h =
    n ∙ ap (λ l. l ++ z ∷ []) h ∙ append_assoc base (map value_of (take k column)) (z ∷ [])
    ∙ ap (λ x. base ++ (map value_of (take k column) ++ x ∷ [])) (v ∙ ap value_of (sym a))
    ∙ ap (λ l. base ++ l) (sym (map_more value_of column k (Value (pos 0)) lt))

values_of_values : (zs : List ℤ) → map value_of (map Value zs) ≡ zs
values_of_values [] = refl
values_of_values (z ∷ zs) = ap (λ l. z ∷ l) (values_of_values zs)

-- a column without a fault, where its values went on behind others
pub values_on : {E : Type 0} (result : Result Unit E) (column : List Outcome) (zs base cells : List ℤ) → column ≡ map Value zs → cells ≡ cond (is_ok result) (base ++ zs) base → OnOk result (cells ≡ base ++ map value_of column)
values_on (Ok u) column zs base cells e n = n ∙ ap (λ l. base ++ l) (sym (ap (map value_of) e ∙ values_of_values zs))
values_on (Err e) column zs base cells f n = tt

-- ---- how much is read

-- different tiles are no more than places
pub fetch_few : (old new n : ℕ) (envs : List (List ℤ)) (f : List ℤ → ℕ) → length envs ≡ n → new ≤ old + length (distinct (map f envs)) → new ≤ old + n
fetch_few old new n envs f e le =
    let d = distinct_few (map f envs) in
    let m = length-map envs f in
    omega (arith, d, m, e, le)

pub times_sum : (a b w : ℕ) → (a + b) * w ≡ a * w + b * w
times_sum a b w = grind arith

-- rows that make a column at most
pub rows_are : (w : Window) (rows : Interval) (done more : ℕ) → IsReach w.rows → IsReach w.columns → rows.lo ≡ w.rows.halo.lo +ℤ pos done → rows.hi ≡ w.rows.halo.lo +ℤ pos (done + (more - 1)) → 0 < more → done + more ≤ extent w.rows.halo → more ≤ 4096 / extent w.columns.halo → AreRowsOf w rows
rows_are w rows done more r c l h some fits few =
    let many : extent rows ≡ more = omega (arith, ints, some, l, h) in
    let s = r.some in
    let product : more * extent w.columns.halo ≤ 4096 / extent w.columns.halo * extent w.columns.halo = mul-le-mul_right (extent w.columns.halo) few in
    let whole = div-mul-le_self 4096 (extent w.columns.halo) in
    let same = ap (λ n. n * extent w.columns.halo) many in
    record {
      ordered = omega (arith, ints, l, h);
      within = (omega (arith, ints, l), omega (arith, ints, h, fits, some, s));
      columns = c.some;
      few = omega (arith, same, product, whole);
    }
