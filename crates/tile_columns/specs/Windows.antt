-- Folds of windows: at each place of a box they condense the cells within reach of it, as far as these lie within
-- bounds.
use Rattle.std.specs.Prelude.{◌≡◌, ℕ, ◌+◌, ◌*◌, ◌<◌, ◌≤◌, ◌≤ℤ◌, ℤ, pos, List, [], ◌∷◌, ◌++◌, map, length, slice_get, slice_index_or, IsSomeAnd, Bool, true, false, ◌||◌}
use Rattle.std.specs.List.{All, flat_map}
use Rattle.arr_core.specs.Limits.{max_tile}
use Rattle.arr_core.specs.declared.signature.Signature.{Signature}
use Rattle.arr_core.specs.Domains.{count}
use Rattle.wcps_text.specs.declared.operator.BinaryOperator.TheVariants.{Add, LessEqual, GreaterEqual, And}
use Rattle.wcps_mean.specs.declared.cell.Outcome.{Outcome}
use Rattle.wcps_mean.specs.declared.cell.Outcome.TheVariants.{Value, Fault}
use Rattle.wcps_mean.specs.Cells.{operate2}
use Rattle.wcps_mean.specs.Condensers.{combined}
use Rattle.plan_ir.specs.declared.body.Fold.{Fold}
use Rattle.plan_ir.specs.declared.body.Interval.{Interval}
use Rattle.plan_ir.specs.declared.body.Index.TheVariants.{Var}
use Rattle.plan_ir.specs.Bodies.{Tree, var, op2, read, bind, body_view, condition_view}
use Rattle.plan_ir.specs.Placed.{LiesWithin}
use Rattle.plan_ir.specs.Run.{run, numbers_at}
use Rattle.tile_columns.specs.declared.ground.Ground.{Ground}
use Rattle.tile_columns.specs.declared.reach.Extents.{Extents}
use Rattle.tile_columns.specs.declared.pattern.Sight.{Sight}
use Rattle.tile_columns.specs.declared.pattern.Pattern.{Pattern}
use Rattle.tile_columns.specs.declared.windows.Window.{Window}
use Rattle.tile_columns.specs.declared.pattern.Edges.{Edges}
use Rattle.tile_columns.specs.Reaching.{between, cross, extent, reached_by, IsReach, HasExtents}
use Rattle.tile_columns.specs.declared.gather.Reading.{Reading}
use Rattle.tile_columns.specs.Sources.{SourceState}
use Rattle.tile_columns.specs.Readings.{cell_read}

-- how many variables the places around a fold of windows have at most
abbrev pub max_levels : ℕ
max_levels = 1024

-- a body has these outcomes, whatever the cells and the registers are
abbrev pub Means : Tree → (List ℤ → Outcome) → Type 0
Means t o = (s : ℕ → ℕ → List ℤ → ℤ) (regs : List Outcome) (vars : List ℤ) → run s regs t vars ≡ o vars

-- the sum of two variables
abbrev pub moved : ℕ → ℕ → List ℤ → Outcome
moved k m vars = operate2 Add (Value (slice_index_or vars k (pos 0))) (Value (slice_index_or vars m (pos 0)))

-- that it lies not below the lower bound, and not above the upper one
abbrev pub low_edge : Sight → ℕ → List ℤ → Outcome
low_edge a m vars = operate2 GreaterEqual (moved a.level m vars) (Value a.bounds.lo)

abbrev pub high_edge : Sight → ℕ → List ℤ → Outcome
high_edge a m vars = operate2 LessEqual (moved a.level m vars) (Value a.bounds.hi)

-- that it lies within the bounds, along the rows and along the columns
abbrev pub edges : Pattern → ℕ → List ℤ → Outcome
edges w n vars =
    operate2 And (operate2 And (operate2 And (low_edge w.rows n vars) (high_edge w.rows n vars))
    (low_edge w.columns (n + 1) vars)) (high_edge w.columns (n + 1) vars)

-- an edge that is asked for; another one is met
abbrev pub asked : Bool → Outcome → Outcome
asked true o = o
asked false o = Value (pos 1)

-- those edges alone that are asked for
abbrev pub some_edges : Pattern → ℕ → Edges → List ℤ → Outcome
some_edges w n found vars =
    operate2 And (operate2 And (operate2 And (asked found.row_low (low_edge w.rows n vars))
    (asked found.row_high (high_edge w.rows n vars))) (asked found.column_low (low_edge w.columns (n + 1) vars)))
    (asked found.column_high (high_edge w.columns (n + 1) vars))

-- the edges that are among one or the other
abbrev pub either_edges : Edges → Edges → Edges
either_edges a b = record {
  row_low = a.row_low || b.row_low;
  row_high = a.row_high || b.row_high;
  column_low = a.column_low || b.column_low;
  column_high = a.column_high || b.column_high;
}

-- a body at a place that is moved by a variable
abbrev pub moved_bind : Sight → ℕ → Tree → Tree
moved_bind a m e = bind (op2 Add (var a.level) (var m)) a.bounds.lo a.bounds.hi e

abbrev pub cell_tree : Pattern → ℕ → Tree
cell_tree w n = read w.coverage w.field (Var n ∷ Var (n + 1) ∷ [])

abbrev pub column_tree : Pattern → ℕ → Tree
column_tree w n = moved_bind w.columns (n + 1) (cell_tree w (n + 2))

abbrev pub window_tree : Pattern → ℕ → Tree
window_tree w n = moved_bind w.rows n (column_tree w n)

-- a fold has such a condition and such a body, where the places around it have n variables
pub record IsPattern (f : Fold) (n : ℕ) (w : Pattern) : Type 0 where
  pub condition : Means (condition_view f.condition) (edges w n)
  pub body : body_view f.body ≡ window_tree w n
  pub row_level : w.rows.level < n
  pub column_level : w.columns.level < n

-- two variables go over the coordinates of rows and columns
pub record GoesOver (w : Pattern) (envs : List (List ℤ)) (p : Extents) : Type 0 where
  pub rows : p.rows.lo ≤ℤ p.rows.hi
  pub columns : p.columns.lo ≤ℤ p.columns.hi
  pub over : map (λ e. numbers_at e (Var w.rows.level ∷ Var w.columns.level ∷ [])) envs ≡ cross
      (between p.rows.lo p.rows.hi) (between p.columns.lo p.columns.hi)

-- how many cells the halo of windows has at most that are kept in one list
abbrev pub max_halo : ℕ
max_halo = 16384

-- how many cells the halo has, and how many places there are
abbrev pub halo_cells : Window → ℕ
halo_cells w = extent w.rows.halo * extent w.columns.halo

abbrev pub window_places : Window → ℕ
window_places w = extent w.rows.places * extent w.columns.places

-- the halo has few cells, and there are few places
pub record IsNear (w : Window) : Type 0 where
  pub wide : extent w.columns.halo ≤ max_tile
  pub many : halo_cells w ≤ max_halo
  pub places : window_places w ≤ max_tile

-- a coverage has the field, and two axes, on which the halo lies
pub record Covers (w : Window) (c : Signature) : Type 0 where
  pub field : w.pattern.field < length c.fields
  pub extents : Extents
  pub axes : HasExtents extents c.domain
  pub rows : LiesWithin w.rows.halo extents.rows
  pub columns : LiesWithin w.columns.halo extents.columns

abbrev pub CanRead : Ground → Window → Type 0
CanRead g w = IsSomeAnd (slice_get g.signatures.now w.place) (Covers w)

-- the windows of places can be read and condensed
pub record IsReady (g : Ground) (w : Window) : Type 0 where
  pub rows : IsReach w.rows
  pub columns : IsReach w.columns
  pub near : IsNear w
  pub there : CanRead g w

-- a fold at the places of a frame is one of windows
pub record IsWindow (g : Ground) (f : Fold) (envs : List (List ℤ)) (w : Window) : Type 0 where
  pub depth : ℕ
  pub deep : All (λ (e : List ℤ). length e ≡ depth) envs
  pub pattern : IsPattern f depth w.pattern
  pub op : w.op ≡ f.op
  pub place : w.place ≡ slice_index_or g.coverages.now w.pattern.coverage 0
  pub row_bounds : w.rows.bounds ≡ w.pattern.rows.bounds
  pub column_bounds : w.columns.bounds ≡ w.pattern.columns.bounds
  pub offsets : HasExtents (record { rows = w.rows.offsets; columns = w.columns.offsets }) f.domain
  pub places : GoesOver w.pattern envs (record { rows = w.rows.places; columns = w.columns.places })
  pub ready : IsReady g w
  pub pairs : halo_cells w ≤ length envs * count f.domain

-- the cells that the window of a place has, row by row
abbrev pub cells_within : (List ℤ → ℤ) → Window → ℤ → ℤ → List ℤ
cells_within cell w y x = flat_map (λ r. map (λ c. cell (r ∷ c ∷ [])) (reached_by w.columns x)) (reached_by w.rows y)

-- what becomes of them, place by place
abbrev pub windows_of : (List ℤ → ℤ) → Window → List Outcome
windows_of cell w =
    flat_map (λ y. map (λ x. combined w.op (cells_within cell w y x)) (between w.columns.places.lo w.columns.places.hi))
    (between w.rows.places.lo w.rows.places.hi)

-- the cells of the field that is read
abbrev pub field_cells : {K : Type 0} → SourceState K → Window → List ℤ → ℤ
field_cells s w = s.cells w.place w.pattern.field

-- outcomes are those of the windows
abbrev pub AreWindowsOf : {K : Type 0} → SourceState K → Window → List Outcome → Type 0
AreWindowsOf s w column = s.intact → column ≡ windows_of (field_cells s w) w

-- a list gets the cells that are read under variables at its end
abbrev pub AddsRead : {K : Type 0} → SourceState K → Reading → List (List ℤ) → List ℤ → List ℤ → Type 0
AddsRead s r envs old new = s.intact → new ≡ old ++ map (cell_read s r) envs

-- the cells of so many rows of the halo, all of its columns
abbrev pub halo_rows : {K : Type 0} → SourceState K → Window → Interval → List ℤ
halo_rows s w rows = map (field_cells s w)
    (cross (between rows.lo rows.hi) (between w.columns.halo.lo w.columns.halo.hi))

-- how many cells these are
abbrev pub row_cells : Window → Interval → ℕ
row_cells w rows = extent rows * extent w.columns.halo

-- rows are some of the halo's, and few enough to be read at once
pub record AreRowsOf (w : Window) (rows : Interval) : Type 0 where
  pub ordered : rows.lo ≤ℤ rows.hi
  pub within : LiesWithin rows w.rows.halo
  pub columns : w.columns.halo.lo ≤ℤ w.columns.halo.hi
  pub few : extent rows * extent w.columns.halo ≤ max_tile

-- a list gets the cells of these rows at its end
abbrev pub AddsRows : {K : Type 0} → SourceState K → Window → Interval → List ℤ → List ℤ → Type 0
AddsRows s w rows old new = s.intact → new ≡ old ++ halo_rows s w rows

-- cells are those of the halo
abbrev pub HasHalo : {K : Type 0} → SourceState K → Window → List ℤ → Type 0
HasHalo s w cells = s.intact → cells ≡ halo_rows s w w.rows.halo

-- the value of an outcome, or 0 of a fault
abbrev pub value_of : Outcome → ℤ
value_of (Value z) = z
value_of (Fault f) = pos 0
